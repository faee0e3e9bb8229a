-- A run begins: all objects as they are made, which stand for the run's start.
--   first_progressed == the progress as it is made
--   in_few        == an accepted plan has at most 2,048 actions
--   first_between == the objects as they are made: no round is done
use Prim.Native.Nat.{ℕ, suc, ◌≤◌}
use mathlib.Core.Path.{◌≡◌, refl, sym, ap, ◌∙◌}
use mathlib.Core.List.{List, []}
use native.Mathlib.Nat.{zero-mod}
use native.Mathlib.Omega.{arith}
use lib.Dec.{ltb}
use lib.ListN.{length, set, replicate, length-replicate, get_or-replicate}
use Rattle.plan.specs.Plan.{Plan, total, placed, no_placed, entering as entering_of}
use Rattle.plan.specs.declared.sheet.Sheet.{Sheet}
use Rattle.plan.specs.Sheet.{frame_of}
use Rattle.plan.proofs.Laws.Lists.{array_at, zeros_at}
use Rattle.plan.proofs.Laws.Placed.{placed_length, placed_at, place_below}
use Rattle.plan.proofs.Laws.Valid.{jobs_range, total_range}
use Rattle.plan_measure.specs.Measure.{work}
use Rattle.courses.specs.Row.{place}
use Rattle.runs.specs.declared.worker.Worker.TheVariants.{Idle, Holding}
use Rattle.runs.specs.Setting.{setting}
use Rattle.runs.specs.State.{worker_of, holds, start}
use Rattle.runs.specs.Steal.{waits}
use Rattle.runs.specs.Run.{run}
use Rattle.runs.specs.Trace.{begins}
use Rattle.runs.proofs.Laws.Fit.{Fit}
use Rattle.runs.proofs.Laws.Start.{none_done, start_idle, start_calm}
use Rattle.runs.proofs.Laws.Rounds.{not_ended}
use Rattle.runs.proofs.Laws.Coursed.{start_weight}
use Rattle.crew.proofs.Laws.Crews.{crewed_none, crewed_first, crewed_others}
use Rattle.crew.proofs.Laws.Lines.{line_first_zero}
use Rattle.crew.specs.Line.{no_lines}
use Rattle.deques.specs.Dequed.{empty}
use Rattle.deques.proofs.Laws.Deques.{all_empty}
use Rattle.turns.specs.Progress.{started, Progressed}
use Rattle.turns.proofs.Laws.Missing.{missing_start}
use Rattle.rounds.specs.Account.{is_idle, opened}
use Rattle.rounds.specs.Rounds.{RunIn, RunGiven}
use Rattle.rounds.proofs.Laws.Standing.{Queued, Manned, Asking, Done, Between}

-- of any kind of run
pub first_progressed : {plan : Sheet} {entering : List ℕ} {p : Plan} → RunIn plan entering p
    → Progressed p (replicate (length p) 0) (replicate (length p) 0) (started entering)
first_progressed {entering = entering} {p = p} g = record {
  sized = record { done = length-replicate {A = ℕ} 256 0; spent = length-replicate {A = ℕ} 256 0; missing = g.whole };
  counts = λ j h. get_or-replicate 256 j 0 0 (omega (arith, jobs_range p g.planned.rules)) ∙ sym (zeros_at (length p) j);
  spends = λ j h. get_or-replicate 256 j 0 0 (omega (arith, jobs_range p g.planned.rules)) ∙ sym (zeros_at (length p) j);
  misses = λ j i h k.
      let e = placed_length p in
      let b = place_below p j i h k in
      array_at (λ a. entering_of p a.job a.position) entering (placed p) no_placed (total p) g.entered e (place p j i) b
      ∙ ap (λ a. entering_of p a.job a.position) (placed_at p j i h k) ∙ sym (missing_start p j i);
}

first_queued : (p : Plan) (hi : ℕ) → Queued hi (start p).workers no_lines
first_queued p hi v h = record {
  line = [];
  lined = line_first_zero v h;
  ranked = omega arith;
  whole = λ w l e. absurd (omega (arith, start_calm p w, ap waits e));
}

module _ {n : ℕ} {choices : List ℕ} {plan : Sheet} {entering : List ℕ} {p : Plan} (g : RunGiven n choices plan entering p) where
  others : (u : ℕ) → worker_of (start p) (suc u) ≡ Idle
  others u = start_idle p (suc u) (λ e. omega arith)

  first_manned : {weighs : ℕ} → weighs ≡ frame_of plan 0 → Manned n (opened n weighs) (set (replicate 16 Idle) 0 (Holding 0)) p (start p)
  unfolding start
  first_manned e =
      let ok = g.given.planned.rules in
      let f = e ∙ g.given.planned.laid.frames 0 (jobs_range p ok).0 in
      record {
        seated = refl;
        weighs = f ∙ sym (start_weight p ok);
        counts = rw f refl;
        holders = crewed_first g.some refl (λ u h. ap holds (others u));
        idlers = crewed_others g.some refl (λ u h. ap is_idle (others u));
      }

  first_asking : (hi : ℕ) → Asking n hi 0 choices 0 no_lines (start p)
  unfolding start
  first_asking hi = record {
    pointed = sym (zero-mod (length choices));
    queued = first_queued p hi;
    crewed = crewed_none (λ v h. ap (ltb 0) (get_or-replicate 16 v 0 0 (omega (arith, g.most))));
  }

  first_done : {rows : List ℕ} → length rows ≡ 2048 → Done p (started entering) rows (start p)
  unfolding start
  first_done long = record {
    progressed = first_progressed g.given;
    rowed = record { long = long; each = λ j i h k. absurd (omega (arith, none_done p j)) };
  }

pub in_few : {plan : Sheet} {entering : List ℕ} {q : Plan} → RunIn plan entering q → plan.actions ≤ 2048
in_few {q = q} g = omega (arith, g.all, total_range q g.planned.rules)

-- as a run begins; `weighs` is job 0's frame
pub first_between : {m : ℕ} {choices : List ℕ} {plan : Sheet} {entering rows : List ℕ} {q : Plan} → RunGiven m choices plan entering q
    → length rows ≡ 2048 → {weighs : ℕ} → weighs ≡ frame_of plan 0
    → Between (setting q m choices) 0 (opened m weighs) (set (replicate 16 Idle) 0 (Holding 0)) 0 no_lines (started entering)
    (replicate 16 empty) rows
unfolding run start
first_between {m} {choices = choices} {q = q} g long e =
    let fit : Fit (setting q m choices) = record { plan = g.given.planned.rules; some = g.some; most = g.most } in
    record {
      state = start q;
      begun = record { on = not_ended fit begins; trace = begins; fuel = work q; left = refl; enough = omega arith };
      manned = first_manned g e;
      asking = first_asking g 16;
      done = first_done g long;
      dequed = all_empty;
    }
