-- T1, the costs of the actions added up: its range, from the range of one cost.
use Prim.Native.Nat.{ℕ, suc, ◌+◌, ◌*◌, ◌≤◌, ◌<◌}
use mathlib.Core.Path.{◌≡◌, refl, ap}
use mathlib.Core.Logic.{inl, inr}
use mathlib.Core.List.{List, [], ◌∷◌, ◌++◌}
use native.Mathlib.Omega.{arith}
use lib.ListN.{length, get_or, take, drop, take-append-drop}
use lib.Seq.{take-suc, take_all}
use Rattle.plan.specs.Plan.{Plan, Placed, no_placed, total, placed}
use Rattle.plan.specs.Rules.{Accepted}
use Rattle.plan.proofs.Laws.Placed.{placed_length}
use Rattle.plan.proofs.Laws.Spawning.{cost_in_range_lem}
use Rattle.plan.proofs.Laws.Valid.{total_range}
use Rattle.plan_measure.specs.Measure.{costs, work, Member}
use Rattle.plan_measure.proofs.Laws.Follows.{member_acts}

pub costs_append : (l m : List Placed) → costs (l ++ m) ≡ costs l + costs m
costs_append [] m = omega arith
costs_append (x ∷ l) m = omega (arith, costs_append l m)

costs_range : (l : List Placed) → ((x : Placed) → Member x l → (1 ≤ x.cost) × (x.cost ≤ 15))
    → (length l ≤ costs l) × (costs l ≤ 15 * length l)
costs_range [] h = omega arith
costs_range (x ∷ l) h = omega (arith, h x (inl refl), costs_range l (λ y m. h y (inr m)))

module _ (p : Plan) (ok : Accepted p) where
  pub member_cost : (x : Placed) → Member x (placed p) → (1 ≤ x.cost) × (x.cost ≤ 15)
  member_cost x m =
      let a = member_acts p x m in
      omega (arith, ap (λ y. y.cost) a.is, cost_in_range_lem p ok.range x.job a.known x.position a.within)

  pub total_work : total p ≤ work p
  unfolding work
  total_work = omega (arith, placed_length p, costs_range (placed p) member_cost)

  pub work_range : work p ≤ 30720
  unfolding work
  work_range = omega (arith, placed_length p, total_range p ok, costs_range (placed p) member_cost)

-- T1 as it is added up, action by action
module _ (p : Plan) where
  pub costs_more : (k : ℕ) → k < total p → costs (take (suc k) (placed p)) ≡ costs (take k (placed p)) + (get_or (placed p) k no_placed).cost
  costs_more k h =
      rw (take-suc (placed p) k no_placed (omega (arith, placed_length p)))
      (omega (arith, costs_append (take k (placed p)) (get_or (placed p) k no_placed ∷ [])))

  pub costs_first : (k : ℕ) → costs (take k (placed p)) ≤ work p
  unfolding work
  costs_first k =
      omega (arith, costs_append (take k (placed p)) (drop k (placed p)), ap costs (take-append-drop k (placed p)))

  pub costs_all : (k : ℕ) → k ≡ total p → costs (take k (placed p)) ≡ work p
  unfolding work
  costs_all k e = ap costs (take_all k (placed p) (omega (arith, placed_length p)))
