-- A plan (document 01, "Plan"): jobs, the paper's threads, and their actions, its instructions.
--   Action       == what an action spawns and where it sends a join, each a number plus 1, or 0 for none; and its cost, the rounds that it
--                   takes (document 02, L5)
--   Job          == the frame's weight in units of 64 KiB, and the row of actions, positions from 0
--   Plan         == the jobs by number; job 0 is the root
--   job p j      == job j; size p j == how many actions it has; action p j i == its action at position i
--   total p      == the plan's number of actions
--   Placed       == an action with its job and position; placed p == all of them, in job then position order
--   spawner p c  == the first action that spawns job c; parent p c and spawn_at p c == its job and position
--   entering p q t == how many joins enter the action at position t of job q
use Rattle.std.specs.Prelude.{ℕ, suc, ◌+◌, Bool, true, false, List, [], ◌∷◌, ◌++◌, length, get_or, eqb, leb}
use Rattle.plan.specs.Test.{both, count}

pub record Action : Type 0 where
  pub spawn : ℕ
  pub join : ℕ
  pub cost : ℕ

pub record Job : Type 0 where
  pub frame : ℕ
  pub actions : List Action

abbrev pub Plan : Type 0
Plan = List Job

-- what stands past the end of a list
abbrev pub no_action : Action
no_action = record { spawn = 0; join = 0; cost = 0 }

abbrev pub no_job : Job
no_job = record { frame = 0; actions = [] }

abbrev pub job : Plan → ℕ → Job
job p j = get_or p j no_job

abbrev pub size : Plan → ℕ → ℕ
size p j = length (job p j).actions

abbrev pub action : Plan → ℕ → ℕ → Action
action p j i = get_or (job p j).actions i no_action

abbrev pub total : Plan → ℕ
total [] = 0
total (b ∷ bs) = length b.actions + total bs

pub record Placed : Type 0 where
  pub job : ℕ
  pub position : ℕ
  pub spawn : ℕ
  pub join : ℕ
  pub cost : ℕ

abbrev pub no_placed : Placed
no_placed = record { job = 0; position = 0; spawn = 0; join = 0; cost = 0 }

-- the actions of job j from position i on
abbrev pub placed_in : ℕ → ℕ → List Action → List Placed
placed_in j i [] = []
placed_in j i (a ∷ rest) =
    record { job = j; position = i; spawn = a.spawn; join = a.join; cost = a.cost } ∷ placed_in j (suc i) rest

-- the actions of the jobs from job j on
abbrev pub placed_from : ℕ → List Job → List Placed
placed_from j [] = []
placed_from j (b ∷ bs) = placed_in j 0 b.actions ++ placed_from (suc j) bs

abbrev pub placed : Plan → List Placed
placed p = placed_from 0 p

-- the first of the actions that spawns job c
abbrev pub spawner_in : ℕ → List Placed → Placed
spawner_in c [] = no_placed
spawner_in c (a ∷ rest) = elim (eqb a.spawn (suc c)) [ true ↦ a | false ↦ spawner_in c rest ]

abbrev pub spawner : Plan → ℕ → Placed
spawner p c = spawner_in c (placed p)

unfoldable pub parent : Plan → ℕ → ℕ
parent p c = (spawner p c).job

unfoldable pub spawn_at : Plan → ℕ → ℕ
spawn_at p c = (spawner p c).position

-- the action sends its join, to its job's parent, into the action at position t of job q; job 0 has no parent
unfoldable pub enters : Plan → ℕ → ℕ → Placed → Bool
unfolding parent
enters p q t a = both (leb 1 a.job) (both (eqb (parent p a.job) q) (eqb a.join (suc t)))

unfoldable pub entering : Plan → ℕ → ℕ → ℕ
unfolding enters
entering p q t = count (enters p q t) (placed p)
