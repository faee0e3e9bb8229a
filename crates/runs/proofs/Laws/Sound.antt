-- Every state of a run is sound, and what follows for a sound state.
--   trace_sound == every state of a run is sound
--   space       == the living frames weigh at most the number of workers times the heaviest path
--   busy        == until job 0 has ended some worker holds a job
--   all_done    == when job 0 has ended every action is done
use Prim.Native.Nat.{ℕ, ◌*◌, ◌≤◌, ◌<◌}
use mathlib.Core.Path.{◌≡◌, refl}
use mathlib.Core.Bool.{true, false}
use mathlib.Core.List.{List}
use native.Mathlib.Omega.{arith}
use native.Mathlib.Nat.{le_refl, le_trans, mul-le-mul}
use lib.ListN.{length, get_or, length-replicate}
use lib.Dec.{leb→le, nleb→lt}
use Rattle.runs.specs.declared.worker.Worker.{Worker}
use Rattle.runs.specs.declared.worker.Worker.TheVariants.{Idle, Holding}
use Rattle.plan.specs.Plan.{Plan, size, total}
use Rattle.plan_measure.specs.Measure.{heaviest}
use Rattle.runs.specs.State.{State, next_of, worker_of, deque_of, start}
use Rattle.courses.specs.Row.{no_row}
use Rattle.courses.specs.Ready.{weight}
use Rattle.runs.specs.Setting.{Setting, count_in}
use Rattle.runs.specs.Parts.{pick_of}
use Rattle.runs.specs.Run.{ended}
use Rattle.lines.proofs.Laws.Shape.{Living, Leaves}
use Rattle.lines.proofs.Laws.Start.{start_good}
use Rattle.lines.proofs.Laws.Leaves.{good_leaves}
use Rattle.lines.proofs.Laws.Cover
use Rattle.lines.proofs.Laws.Progress
use Rattle.lines.proofs.Laws.Weight.{filled_most}
use Rattle.courses.proofs.Laws.Space.{leaves_space}
use Rattle.plan.specs.Rules.{Accepted}
use Rattle.plan.proofs.Laws.Valid.{jobs_range}
use Rattle.runs.specs.Trace.{Stage, Trace, begins, turned, goes_on, laid, all_laid, served, next_round}
use Rattle.courses.proofs.Laws.PlanShape.{shape, shape_valid}
use Rattle.runs.proofs.Laws.Fit.{Fit, count_some, count_most, count_next}
use Rattle.runs.proofs.Laws.Start.{none_done, start_idle, start_deque}
use Rattle.runs.proofs.Laws.Picks.{pick_of_picks}
use Rattle.runs.proofs.Laws.Lined.{line_of, Sound, line_of_lem, line_held, held_below}
use Rattle.runs.proofs.Laws.Began.{trace_began, laying_idle}
use Rattle.runs.proofs.Laws.TurnSound.{turn_of_sound}
use Rattle.runs.proofs.Laws.ServeSound.{lay_sound, serve_sound}

module _ {p : Plan} (ok : Accepted p) {n : ℕ} where
  pub start_sound : 1 ≤ n → Sound p n (start p)
  unfolding start
  start_sound some = record {
    nexts = length-replicate (length p) 0;
    spents = length-replicate (length p) 0;
    workers = refl;
    deques = refl;
    rows = length-replicate (total p) no_row;
    good = start_good (shape p) (shape_valid p ok) (next_of (start p)) (line_of (start p)) (none_done p) refl
        (λ w f. line_of_lem (start p) w (start_idle p w f));
    empty = λ w e. start_deque p w;
    absent = λ w h. start_idle p w (λ e. omega arith);
  }

  module _ {s : State} (sound : Sound p n s) where
    leaves : Leaves (shape p) (next_of s) (line_of s)
    leaves = good_leaves (shape p) (shape_valid p ok) (next_of s) (line_of s) sound.good

    pub space : weight p s.next ≤ n * heaviest p
    space =
        le_trans (leaves_space p ok s.next (line_of s) leaves n (λ w h. line_of_lem s w (sound.absent w h)))
        (mul-le-mul (filled_most n (line_of s)) (le_refl (heaviest p)))

    pub busy : ended p s ≡ false → (w : ℕ) × (j : ℕ) × (w < n) × (worker_of s w ≡ Holding j)
    busy e =
        let root : Living (shape p) (next_of s) 0 = record {
          below = (jobs_range p ok).0;
          begun = λ o. absurd (omega arith);
          left = nleb→lt (size p 0) (next_of s 0) (rw e tt);
        } in
        let (w, h, l, i) = Cover.busy (shape p) (shape_valid p ok) (next_of s) (line_of s) leaves root in
        let q = (line_held (worker_of s w) (deque_of s w) i).0 in
        (w, h, held_below sound w q, q)

    pub all_done : ended p s ≡ true → (j : ℕ) → j < length p → next_of s j ≡ size p j
    all_done e =
        Progress.all_done (shape p) (shape_valid p ok) (next_of s) sound.good.closed (leb→le (size p 0) (next_of s 0) (rw e tt))

module _ {S : Setting} (fit : Fit S) where
  pub trace_sound : {r : ℕ} {b : List Worker} {g : Stage} {s : State} → Trace S r b g s → Sound S.plan (count_in S r) s
  trace_sound begins = start_sound fit.plan (count_some fit 1)
  trace_sound (turned {r} {k} {b} {s} t l) =
      turn_of_sound fit.plan (count_most fit r) (trace_sound t) r k (get_or b k Idle) (trace_began t k (le_refl k))
  trace_sound (goes_on t f) = trace_sound t
  trace_sound (laid {r} {k} {b} {s} t l) =
      lay_sound (count_most fit r) (trace_sound t) S r l (get_or b k Idle) (laying_idle t k (le_refl k))
  trace_sound (all_laid t) = trace_sound t
  trace_sound (served {r} {k} {b} {s} t l) =
      serve_sound fit.plan (count_most fit r) (trace_sound t) l (pick_of S r k s.workers)
      (pick_of_picks fit r k s.workers)
  trace_sound (next_round {r} t) = rw (count_next S r) (trace_sound t)

  -- each worker that there is has its place
  pub workers_length : {r : ℕ} {b : List Worker} {g : Stage} {s : State} → Trace S r b g s → count_in S r ≤ length s.workers
  workers_length {r} t = omega (arith, (trace_sound t).workers, count_most fit r)
