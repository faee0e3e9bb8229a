-- The rules of a plan (document 01, "Plan"; document 02, L5).
--   in_range p    == 1 to 256 jobs, 1 to 255 actions in a job, 1 to 2,048 in all, frame 1 to 65,535, cost 1 to 15
--   costs_fit form p == the costs may stand in a plan of that form: in form 1, which has no field for them, each is 1
--   spawn_rules p == refusal 4 does not apply
--   join_rules p  == refusal 5 does not apply
--   Accepted p   == the plan is in range and keeps the spawn and the join rules; whether its costs fit a form is told apart
use Rattle.std.specs.Prelude.{ℕ, zero, suc, ◌-◌, Bool, true, false, length, T, eqb, leb, ltb}
use Rattle.plan.specs.Test.{both, either, all, count, below}
use Rattle.plan.specs.Plan.{Action, Job, Plan, Placed, size, action, total, placed, parent, spawn_at, entering}

-- document 02, L5: "a cost of 4 bits, 1 to 15"
abbrev pub cost_in_range : Action → Bool
cost_in_range a = both (leb 1 a.cost) (leb a.cost 15)

-- "1 to 256 jobs, 1 to 255 actions in a job, 1 to 2,048 in all, frame 1 to 65,535"
abbrev pub job_in_range : Job → Bool
job_in_range b =
    both (both (both (leb 1 b.frame) (leb b.frame 65535)) (both (leb 1 (length b.actions)) (leb (length b.actions) 255)))
    (all cost_in_range b.actions)

unfoldable pub in_range : Plan → Bool
in_range p = both (both (leb 1 (length p)) (leb (length p) 256)) (both (all job_in_range p) (leb (total p) 2048))

-- document 02, L5: "a cost .. in a form 1 table not 1, is 3"
unfoldable pub costs_fit : ℕ → Plan → Bool
costs_fit form p = elim (eqb form 1) [ true ↦ all (λ a. eqb a.cost 1) (placed p) | false ↦ true ]

-- "An action spawns at most one child, whose number is at least 1 and below the job count ..
-- by a job of smaller number"
abbrev pub spawn_fits : ℕ → Placed → Bool
spawn_fits jobs a = elim a.spawn [ zero ↦ true | suc c ↦ both (leb 1 c) (both (ltb c jobs) (ltb a.job c)) ]

-- "Every job but 0 is spawned exactly once"
abbrev pub spawned_once : Plan → ℕ → Bool
spawned_once p c = either (eqb c 0) (eqb (count (λ a. eqb a.spawn (suc c)) (placed p)) 1)

unfoldable pub spawn_rules : Plan → Bool
spawn_rules p = both (all (spawn_fits (length p)) (placed p)) (all (spawned_once p) (below (length p)))

-- "An action sends at most one join, always to an existing action of its job's parent at a stated position ..;
-- job 0 sends none. That position is later than the spawn of the sending job.
-- No join enters the action right after a spawn."
abbrev pub join_fits : Plan → Placed → Bool
join_fits p a =
    elim a.join [
      | zero ↦ true
      | suc t ↦ both (leb 1 a.job) (both (ltb t (size p (parent p a.job)))
          (both (ltb (spawn_at p a.job) t) (eqb (action p (parent p a.job) (t - 1)).spawn 0)))
    ]

-- "At most 8 joins enter one action."
abbrev pub few_enter : Plan → Placed → Bool
few_enter p a = leb (entering p a.job a.position) 8

-- "The last action of every job but 0 sends a join."
abbrev pub last_sends : Plan → Placed → Bool
last_sends p a = either (eqb a.job 0) (either (ltb (suc a.position) (size p a.job)) (leb 1 a.join))

unfoldable pub join_rules : Plan → Bool
join_rules p = all (λ a. both (join_fits p a) (both (few_enter p a) (last_sends p a))) (placed p)

pub record Accepted (p : Plan) : Type 0 where
  pub range : T (in_range p)
  pub spawns : T (spawn_rules p)
  pub joins : T (join_rules p)
