-- The states of a run from a pool in the order in which they come: each taking and each turn takes the state that the last one left.
--   Stage             == how far a round has come: the workers below k have taken, or have had their turns
--   Trace p n r b g s == s is the state of a run by n workers at stage g of round r, where b are the workers as the stage's part of the
--                        round began: as the taking began, or as it was over
use Rattle.std.specs.Prelude.{ℕ, suc, ◌<◌, ◌≡◌, false, List, get_or}
use Rattle.plan.specs.Plan.{Plan}
use Rattle.runs.specs.declared.worker.Worker.{Worker}
use Rattle.runs.specs.declared.worker.Worker.TheVariants.{Idle}
use Rattle.pools.specs.State.{State, start}
use Rattle.pools.specs.Take.{take}
use Rattle.pools.specs.Turn.{turn_of}
use Rattle.pools.specs.Run.{ended}

pub data Stage : Type 0 where
  taking : ℕ → Stage
  turning : ℕ → Stage

module _ (p : Plan) (n : ℕ) where
  pub data Trace : ℕ → List Worker → Stage → State → Type 0 where
    begins : Trace 1 (start p).workers (taking 0) (start p)
    took : {r k : ℕ} {b : List Worker} {s : State} → Trace r b (taking k) s → k < n → Trace r b (taking (suc k)) (take p k s)
    all_took : {r : ℕ} {b : List Worker} {s : State} → Trace r b (taking n) s → Trace r s.workers (turning 0) s
    turned : {r k : ℕ} {b : List Worker} {s : State} → Trace r b (turning k) s → k < n
        → Trace r b (turning (suc k)) (turn_of p r k (get_or b k Idle) s)
    goes_on : {r : ℕ} {b : List Worker} {s : State} → Trace r b (turning n) s → ended p s ≡ false
        → Trace (suc r) s.workers (taking 0) s
