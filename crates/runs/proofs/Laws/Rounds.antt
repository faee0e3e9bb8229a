-- The rounds of a run: how they are counted, and that each begins with a worker that holds a job.
--   Numbered g r t          == at stage g of round r the tally has t rounds: a round counts from its first turn on
--   Going p g s             == job 0 has not ended, but in the first half of a round it may have
--   rounds_known, not_ended == both hold of every state of a run
--   began_busy, began_below == as a round begins some worker holds a job, and who does is one of those that there are
use Prim.Native.Nat.{ℕ, zero, suc, ◌≤◌, ◌<◌}
use mathlib.Core.Path.{◌≡◌, refl, ap, ◌∙◌}
use mathlib.Core.Bool.{false}
use mathlib.Core.List.{List}
use native.Mathlib.Nat.{not-suc-le-zero}
use native.Mathlib.Omega.{arith}
use lib.Dec.{leb}
use lib.ListN.{get_or}
use borrow.Author.Tests.{lt-leb}
use Rattle.runs.specs.declared.worker.Worker.{Worker}
use Rattle.runs.specs.declared.worker.Worker.TheVariants.{Idle, Holding}
use Rattle.plan.specs.Plan.{Plan, size}
use Rattle.runs.specs.Setting.{Setting, count_in}
use Rattle.runs.specs.State.{State, next_of, start}
use Rattle.runs.specs.Run.{ended}
use Rattle.plan.proofs.Laws.Valid.{jobs_range, size_range}
use Rattle.runs.specs.Trace.{Stage, turning, laying, serving, Trace, begins, turned, goes_on, laid, all_laid, served, next_round}
use Rattle.runs.proofs.Laws.Fit.{Fit, count_some}
use Rattle.runs.proofs.Laws.Began.{round_began}
use Rattle.runs.proofs.Laws.Lined.{held_below}
use Rattle.runs.proofs.Laws.Sound.{trace_sound, busy}
use Rattle.runs.proofs.Laws.Rests.{Rests, turned_took, laid_rests, served_rests}
use Rattle.runs.proofs.Laws.Start.{none_done}

abbrev pub Numbered : Stage → ℕ → ℕ → Type 0
Numbered (turning zero) r t = suc t ≡ r
Numbered (turning (suc k)) r t = t ≡ r
Numbered (laying k) r t = t ≡ r
Numbered (serving k) r t = t ≡ r

pub numbered_late : {k r t : ℕ} → 1 ≤ k → Numbered (turning k) r t → t ≡ r
numbered_late {k = zero} h i = absurd (not-suc-le-zero h)
numbered_late {k = suc k} h i = i

pub numbered_most : (g : Stage) {r t : ℕ} → Numbered g r t → t ≤ r
numbered_most (turning zero) i = omega arith
numbered_most (turning (suc k)) i = omega arith
numbered_most (laying k) i = omega arith
numbered_most (serving k) i = omega arith

abbrev pub Going : Plan → Stage → State → Type 0
Going p (turning zero) s = ended p s ≡ false
Going p (turning (suc k)) s = Unit {0}
Going p (laying k) s = ended p s ≡ false
Going p (serving k) s = ended p s ≡ false

ended_rests : (p : Plan) {s t : State} → Rests s t → ended p s ≡ false → ended p t ≡ false
ended_rests p q i = ap (λ l. leb (size p 0) (get_or l 0 0)) q.next ∙ i

module _ {S : Setting} (fit : Fit S) where
  open S use {plan}

  pub rounds_known : {r : ℕ} {b : List Worker} {g : Stage} {s : State} → Trace S r b g s → Numbered g r s.tally.rounds
  unfolding start
  rounds_known begins = refl
  rounds_known (turned t h) = (turned_took t).rounds
  rounds_known (goes_on {r} t e) = numbered_late (count_some fit r) (rounds_known t)
  rounds_known (laid t h) = (laid_rests t).rounds ∙ rounds_known t
  rounds_known (all_laid t) = rounds_known t
  rounds_known (served t h) = (served_rests t).rounds ∙ rounds_known t
  rounds_known (next_round t) = ap suc (rounds_known t)

  pub not_ended : {r : ℕ} {b : List Worker} {g : Stage} {s : State} → Trace S r b g s → Going plan g s
  not_ended begins =
      let z = none_done plan 0 in
      lt-leb (size plan 0) (next_of (start plan) 0) (omega (arith, size_range plan fit.plan 0 (jobs_range plan fit.plan).0))
  not_ended (turned t h) = tt
  not_ended (goes_on t e) = e
  not_ended (laid t h) = ended_rests plan (laid_rests t) (not_ended t)
  not_ended (all_laid t) = not_ended t
  not_ended (served t h) = ended_rests plan (served_rests t) (not_ended t)
  not_ended (next_round t) = not_ended t

  pub began_busy : {r : ℕ} {b : List Worker} {g : Stage} {s : State} → Trace S r b g s
      → (w : ℕ) × (j : ℕ) × (w < count_in S r) × (get_or b w Idle ≡ Holding j)
  began_busy {r} t = let (u, v, e) = round_began t in rw e (busy fit.plan (trace_sound fit v) (not_ended v))

  pub began_below : {r : ℕ} {b : List Worker} {g : Stage} {s : State} → Trace S r b g s
      → (w j : ℕ) → get_or b w Idle ≡ Holding j → w < count_in S r
  began_below {r} t = let (u, v, e) = round_began t in rw e (λ w j. held_below (trace_sound fit v) w)

  -- rounds count from 1
  pub round_first : {r : ℕ} {b : List Worker} {g : Stage} {s : State} → Trace S r b g s → 1 ≤ r
  round_first t = let (u, v, e) = round_began t in omega (arith, rounds_known v)
