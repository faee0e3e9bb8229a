-- The state of a run from a central pool (document 02, L1: "the Busy-Leaves Algorithm of document 000").
--   State           == the next position of each job and how many rounds were spent on the action there (L5), the workers, the rows in plan
--                      order, the tally. A worker holds a job or is idle: in a pool none ever waits with a request
--   unheld ws j     == nobody of the workers ws holds job j
--   in_pool p next ws j == job j is in the pool, where next gives how many actions of each job are done, and the workers are ws: "Ready and
--                      stalled jobs that nobody holds wait in one pool."
--   lone p next q   == job q "has no living child"
--   start p         == how a run begins: job 0 is in the pool and every worker is idle, and every count is 0 but the peak
use Rattle.std.specs.Prelude.{ℕ, Bool, false, not, List, length, get_or, replicate, eqb, leb}
use Rattle.plan.specs.Test.{both, all, below}
use Rattle.plan.specs.Plan.{Plan, job, total, parent}
use Rattle.courses.specs.Row.{Row, no_row}
use Rattle.courses.specs.Ready.{living}
use Rattle.runs.specs.declared.tally.Tally.{Tally}
use Rattle.runs.specs.declared.worker.Worker.{Worker}
use Rattle.runs.specs.declared.worker.Worker.TheVariants.{Idle, Holding, Waiting}
use Rattle.runs.specs.Tally.{no_counts}

pub record State : Type 0 where
  pub next : List ℕ
  pub spent : List ℕ
  pub workers : List Worker
  pub rows : List Row
  pub tally : Tally

abbrev pub next_of : State → ℕ → ℕ
next_of s j = get_or s.next j 0

abbrev pub spent_of : State → ℕ → ℕ
spent_of s j = get_or s.spent j 0

abbrev pub worker_of : State → ℕ → Worker
worker_of s w = get_or s.workers w Idle

-- the worker holds job j
abbrev pub has : Worker → ℕ → Bool
has Idle j = false
has (Holding i) j = eqb i j
has (Waiting v l) j = false

unfoldable pub unheld : List Worker → ℕ → Bool
unheld ws j = all (λ x. not (has x j)) ws

unfoldable pub in_pool : Plan → List ℕ → List Worker → ℕ → Bool
unfolding living unheld
in_pool p next ws j = both (living p next j) (unheld ws j)

unfoldable pub lone : Plan → List ℕ → ℕ → Bool
unfolding living parent
lone p next q = all (λ c. not (both (both (leb 1 c) (eqb (parent p c) q)) (living p next c))) (below (length p))

unfoldable pub start : Plan → State
start p = record {
  next = replicate (length p) 0;
  spent = replicate (length p) 0;
  workers = replicate 16 Idle;
  rows = replicate (total p) no_row;
  tally = no_counts (job p 0).frame;
}
