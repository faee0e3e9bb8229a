-- How many turns all actions take: T1, the sum of their costs.
--   price_work == the turns that all actions take are T1
--   work_fits  == T1 has no more bits than a round has in a schedule of the plan's form
use Prim.Native.Nat.{ℕ, suc, ◌^◌, ◌<◌}
use mathlib.Core.Path.{◌≡◌, refl}
use mathlib.Core.List.{List, [], ◌∷◌}
use native.Mathlib.Omega.{arith}
use lib.ListN.{length, get_or}
use lib.Dec.{T, eqb, eqb→eq}
use Rattle.plan.specs.Test.{all}
use Rattle.plan.specs.Plan.{Action, Job, Plan, Placed, placed_in, placed_from, placed, no_action, size, action}
use Rattle.plan.specs.Rules.{costs_fit, Accepted}
use Rattle.plan.proofs.Laws.Lists.{both_left, both_right}
use Rattle.plan.proofs.Laws.Steps.{bool_cases}
use Rattle.plan.proofs.Laws.Placed.{placed_length}
use Rattle.plan.proofs.Laws.Valid.{total_range}
use Rattle.plan_measure.specs.Measure.{costs, work}
use Rattle.plan_measure.proofs.Laws.Work.{costs_append, work_range}
use Rattle.lines.proofs.Laws.Sum.{sum, sum_front}
use Rattle.courses.specs.Schedule.{round_bits}
use Rattle.courses.proofs.Laws.Course.{Terms}
use Rattle.courses.proofs.Laws.Worked.{price}

actions_sum : (j i : ℕ) (l : List Action) → sum (length l) (λ a. (get_or l a no_action).cost) ≡ costs (placed_in j i l)
unfolding sum
actions_sum j i [] = refl
actions_sum j i (x ∷ l) = omega (arith, sum_front (length l) (λ a. (get_or (x ∷ l) a no_action).cost), actions_sum j (suc i) l)

jobs_sum : (j : ℕ) (p : List Job) → sum (length p) (λ h. sum (size p h) (λ a. (action p h a).cost)) ≡ costs (placed_from j p)
unfolding sum
jobs_sum j [] = refl
jobs_sum j (b ∷ bs) =
    omega (
      arith,
      sum_front (length bs) (λ h. sum (size (b ∷ bs) h) (λ a. (action (b ∷ bs) h a).cost)),
      actions_sum j 0 b.actions,
      jobs_sum (suc j) bs,
      costs_append (placed_in j 0 b.actions) (placed_from (suc j) bs),
    )

pub price_work : (e : Terms) → price e ≡ work e.plan
unfolding work
price_work e = jobs_sum 0 e.plan

-- where every cost is 1, T1 is the number of actions
ones : (l : List Placed) → T (all (λ a. eqb a.cost 1) l) → costs l ≡ length l
ones [] t = refl
ones (x ∷ l) t =
    omega (
      arith,
      eqb→eq x.cost 1 (both_left (eqb x.cost 1) (all (λ a. eqb a.cost 1) l) t),
      ones l (both_right (eqb x.cost 1) (all (λ a. eqb a.cost 1) l) t),
    )

pub work_fits : (form : ℕ) (p : Plan) → Accepted p → T (costs_fit form p) → work p < 2 ^ round_bits form
unfolding work costs_fit
work_fits form p ok t =
    bool_cases (eqb form 1)
    (λ e. rw (e, round_bits) (omega (arith, ones (placed p) (rw (e, costs_fit) at t), placed_length p, total_range p ok)))
    (λ e. rw (e, round_bits) (omega (arith, work_range p ok)))
