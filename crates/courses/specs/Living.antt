-- Which jobs live after a turn, read off the plan and the rows alone (document 01, "Worker and round").
--   not_after a r w     == row a is not after the turn of worker w in round r: "Turns stand in order of round, then worker"
--   lives_after p rows r w j == job j lives after that turn
--   weight_after p rows r w  == the weight of the frames of the jobs that live after it; round 0 stands for the start
--   peak_of p rows      == "the largest weight of living frames at the start or after any turn"
--   last_round rows     == "the last round in the rows"
use Rattle.std.specs.Prelude.{ℕ, ◌-◌, max, Bool, not, List, get_or, eqb, leb, ltb}
use Rattle.plan.specs.Test.{both, either, largest}
use Rattle.plan.specs.Plan.{Plan, size, parent, spawn_at}
use Rattle.courses.specs.Row.{Row, no_row, place}
use Rattle.courses.specs.Ready.{frames}

abbrev pub not_after : Row → ℕ → ℕ → Bool
not_after a r w = either (ltb a.round r) (both (eqb a.round r) (leb a.worker w))

-- action i of job j is done by then
abbrev pub done_by : Plan → List Row → ℕ → ℕ → ℕ → ℕ → Bool
done_by p rows r w j i = not_after (get_or rows (place p j i) no_row) r w

-- "A job lives from the turn that finishes the action that spawns it (job 0 from the start), and no longer after the turn
-- that finishes its own last action."
unfoldable pub lives_after : Plan → List Row → ℕ → ℕ → ℕ → Bool
unfolding parent spawn_at
lives_after p rows r w j =
    both (either (eqb j 0) (done_by p rows r w (parent p j) (spawn_at p j))) (not (done_by p rows r w j (size p j - 1)))

unfoldable pub weight_after : Plan → List Row → ℕ → ℕ → ℕ
unfolding lives_after
weight_after p rows r w = frames (lives_after p rows r w) 0 p

unfoldable pub peak_of : Plan → List Row → ℕ
unfolding weight_after
peak_of p rows = max (weight_after p rows 0 0) (largest (λ a. weight_after p rows a.round a.worker) rows)

unfoldable pub last_round : List Row → ℕ
last_round rows = largest (λ a. a.round) rows
