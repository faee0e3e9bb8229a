-- How a run begins: nothing is done, worker 0 holds job 0, no other worker holds a job or waits, and every deque is empty.
--   none_done, none_spent, start_idle, start_calm, start_deque == these, in this order
--   start_turns, start_peak                        == no turn is counted, and the peak is job 0's frame
use Prim.Native.Nat.{ℕ, zero, suc}
use mathlib.Core.Path.{◌≡◌, refl, ap}
use mathlib.Core.Logic.{◌≢◌}
use mathlib.Core.List.{[]}
use lib.ListN.{length, get_or, replicate}
use Rattle.runs.specs.declared.worker.Worker.TheVariants.{Idle}
use Rattle.plan.specs.Plan.{Plan, job}
use Rattle.runs.specs.State.{next_of, worker_of, deque_of, start, spent_of}
use Rattle.runs.specs.Steal.{waits}

replicate_at : {A : Type 0} (n i : ℕ) (a : A) → get_or (replicate n a) i a ≡ a
replicate_at zero i a = refl
replicate_at (suc n) zero a = refl
replicate_at (suc n) (suc i) a = replicate_at n i a

module _ (p : Plan) where
  pub none_done : (j : ℕ) → next_of (start p) j ≡ 0
  unfolding start
  none_done j = replicate_at (length p) j 0

  pub none_spent : (j : ℕ) → spent_of (start p) j ≡ 0
  unfolding start
  none_spent j = replicate_at (length p) j 0

  pub start_idle : (w : ℕ) → w ≢ 0 → worker_of (start p) w ≡ Idle
  unfolding start
  start_idle zero f = absurd (f refl)
  start_idle (suc w) f = replicate_at 15 w Idle

  pub start_calm : (w : ℕ) → waits (worker_of (start p) w) ≡ 0
  unfolding start
  start_calm zero = refl
  start_calm (suc w) = ap waits (replicate_at 15 w Idle)

  pub start_deque : (w : ℕ) → deque_of (start p) w ≡ []
  unfolding start
  start_deque w = replicate_at 16 w []

  pub start_turns : (start p).tally.actions ≡ 0
  unfolding start
  start_turns = refl

  pub start_peak : (start p).tally.peak ≡ (job p 0).frame
  unfolding start
  start_peak = refl
