-- The state of a run (document 01, "Worker and round").
--   Worker       == holds a job, waits with a request on a named victim, or is idle; holds x == the worker x holds a job
--   Tally        == "rounds, actions, idle turns, requests, steals, misses, peak", the misses as "`bare` .. and `idle-victim`" (document
--                   02, L2)
--   State        == the next position of each job and how many rounds were spent on the action there (document 02, L5), the workers, their
--                   deques from the bottom up, the rows in plan order, the tally
--   start p      == how a run begins
use Rattle.std.specs.Prelude.{ℕ, Bool, true, false, List, [], ◌∷◌, length, get_or, replicate}
use Rattle.plan.specs.Plan.{Plan, job, total}
use Rattle.courses.specs.Row.{Row, no_row}
use Rattle.runs.specs.declared.tally.Tally.{Tally}
use Rattle.runs.specs.declared.worker.Worker.{Worker}
use Rattle.runs.specs.declared.worker.Worker.TheVariants.{Idle, Holding, Waiting}
use Rattle.runs.specs.Tally.{no_counts}

-- each deque as its jobs, the bottom one first; a job that is stolen is taken from the other end, the top
pub record State : Type 0 where
  pub next : List ℕ
  pub spent : List ℕ
  pub workers : List Worker
  pub deques : List (List ℕ)
  pub rows : List Row
  pub tally : Tally

abbrev pub next_of : State → ℕ → ℕ
next_of s j = get_or s.next j 0

abbrev pub spent_of : State → ℕ → ℕ
spent_of s j = get_or s.spent j 0

abbrev pub worker_of : State → ℕ → Worker
worker_of s w = get_or s.workers w Idle

abbrev pub holds : Worker → Bool
holds Idle = false
holds (Holding j) = true
holds (Waiting v l) = false

abbrev pub deque_of : State → ℕ → List ℕ
deque_of s w = get_or s.deques w []

-- "Worker 0 starts with job 0, the others start idle; every deque starts empty, no request is laid, and every count is 0
-- but the peak, which is job 0's frame."
unfoldable pub start : Plan → State
start p = record {
  next = replicate (length p) 0;
  spent = replicate (length p) 0;
  workers = Holding 0 ∷ replicate 15 Idle;
  deques = replicate 16 [];
  rows = replicate (total p) no_row;
  tally = no_counts (job p 0).frame;
}
