-- The taking (document 02, L1): "Before a round, idle workers in rising number take the ready job of lowest number."
--   lowest f l  == the first number of l that f holds of, plus 1, or 0 where it holds of none
--   waits p next ws j == job j is in the pool and ready
--   take p w s  == worker w, if it is idle, takes the lowest of these, as it stands then
--   takes p k s == so do the workers below k, in rising number
use Rattle.std.specs.Prelude.{ℕ, zero, suc, Bool, true, false, List, [], ◌∷◌, length, set}
use Rattle.plan.specs.Test.{both, below}
use Rattle.plan.specs.Plan.{Plan}
use Rattle.courses.specs.Ready.{ready}
use Rattle.runs.specs.declared.worker.Worker.{Worker}
use Rattle.runs.specs.declared.worker.Worker.TheVariants.{Holding}
use Rattle.runs.specs.State.{holds}
use Rattle.pools.specs.State.{State, worker_of, in_pool}

unfoldable pub lowest : (ℕ → Bool) → List ℕ → ℕ
lowest f [] = 0
lowest f (j ∷ l) = elim (f j) [ true ↦ suc j | false ↦ lowest f l ]

unfoldable pub waits : Plan → List ℕ → List Worker → ℕ → Bool
unfolding in_pool ready
waits p next ws j = both (in_pool p next ws j) (ready p next j)

-- worker w holds job j from now on
unfoldable pub given : ℕ → ℕ → State → State
given w j s =
    record { next = s.next; spent = s.spent; workers = set s.workers w (Holding j); rows = s.rows; tally = s.tally }

abbrev pub giving : ℕ → ℕ → State → State
giving w zero s = s
giving w (suc j) s = given w j s

unfoldable pub take : Plan → ℕ → State → State
unfolding lowest waits given
take p w s = elim (holds (worker_of s w)) [ true ↦ s | false ↦ giving w (lowest (waits p s.next s.workers) (below (length p))) s ]

unfoldable pub takes : Plan → ℕ → State → State
unfolding take
takes p zero s = s
takes p (suc k) s = take p k (takes p k s)
