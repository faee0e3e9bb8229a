-- How a pool stands for its jobs. Functions that are no entries cite this file.
--   heirs p next q            == how many children of job q live
--   Waiting p next ws pool    == in the set are the jobs that are in the pool and ready, where the workers are ws
--   Living p next pool        == the counts are those of the living children
--   Pooled p next ws pool     == both
use Rattle.std.specs.Prelude.{ℕ, ◌≤◌, ◌<◌, ◌≡◌, Bool, false, List, eqb, leb, length}
use Rattle.plan.specs.Test.{both, count, below}
use Rattle.plan.specs.Plan.{Plan, parent}
use Rattle.courses.specs.Ready.{living}
use Rattle.runs.specs.declared.worker.Worker.{Worker}
use Rattle.pools.specs.Take.{waits}
use Rattle.pool_set.specs.declared.Pool.{Pool}
use Rattle.pool_set.specs.Pool.{pooled, children_of}

-- job c is a living child of q
abbrev pub heir : Plan → List ℕ → ℕ → ℕ → Bool
heir p next q c = both (both (leb 1 c) (eqb (parent p c) q)) (living p next c)

abbrev pub heirs : Plan → List ℕ → ℕ → ℕ
heirs p next q = count (heir p next q) (below (length p))

abbrev pub Counts : Plan → List ℕ → Pool → Type 0
Counts p next pool = (q : ℕ) → q < length p → children_of pool q ≡ heirs p next q

pub record Pooled (p : Plan) (next : List ℕ) (ws : List Worker) (pool : Pool) : Type 0 where
  pub waiting : (x : ℕ) → x < length p → pooled pool x ≡ waits p next ws x
  pub past : (x : ℕ) → length p ≤ x → x < 256 → pooled pool x ≡ false
  pub counts : Counts p next pool
