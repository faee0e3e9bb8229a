-- T1 of the pair of two plans: the two sums and the new root's five.
--   part_work == the costs of one plan stay
--   pair_sum  == T1
use Prim.Native.Nat.{ℕ, suc, ◌+◌}
use mathlib.Core.Path.{◌≡◌, refl, ap, ◌∙◌}
use mathlib.Core.List.{List, [], ◌∷◌, ◌++◌, map}
use native.Mathlib.Omega.{arith}
use lib.ListN.{length}
use Rattle.plan.specs.Plan.{Action, Job, Plan, placed_in, placed_from}
use Rattle.plan_measure.specs.Measure.{costs, work}
use Rattle.plan_measure.proofs.Laws.Work.{costs_append}
use Rattle.plan_pair.specs.Pair.{raised, raised_job, joining, under, new_root, paired}
use Rattle.plan_pair.proofs.Laws.Pairing.{paired_placed}

row_costs : (d j k i n : ℕ) (l : List Action) → costs (placed_in j i (map (raised d) l)) ≡ costs (placed_in k n l)
row_costs d j k i n [] = refl
row_costs d j k i n (a ∷ l) = ap (λ v. a.cost + v) (row_costs d j k (suc i) (suc n) l)

joining_costs : (j i : ℕ) (l : List Action) → costs (placed_in j i (joining l)) ≡ costs (placed_in j i l)
joining_costs j i [] = refl
joining_costs j i (a ∷ []) = refl
joining_costs j i (a ∷ (b ∷ l)) = ap (λ v. a.cost + v) (joining_costs j (suc i) (b ∷ l))

jobs_costs : (d j k : ℕ) (p : List Job) → costs (placed_from j (map (raised_job d) p)) ≡ costs (placed_from k p)
jobs_costs d j k [] = refl
jobs_costs d j k (b ∷ bs) =
    omega (
      arith,
      costs_append (placed_in j 0 (map (raised d) b.actions)) (placed_from (suc j) (map (raised_job d) bs)),
      costs_append (placed_in k 0 b.actions) (placed_from (suc k) bs),
      row_costs d j k 0 0 b.actions,
      jobs_costs d (suc j) (suc k) bs,
    )

pub part_work : (d : ℕ) (p : Plan) → costs (placed_from d (under d p)) ≡ work p
unfolding work
part_work d [] = refl
part_work d (b ∷ bs) =
    omega (
      arith,
      costs_append (placed_in d 0 (joining (map (raised d) b.actions))) (placed_from (suc d) (map (raised_job d) bs)),
      costs_append (placed_in 0 0 b.actions) (placed_from 1 bs),
      joining_costs d 0 (map (raised d) b.actions),
      row_costs d d 0 0 0 b.actions,
      jobs_costs d (suc d) 1 bs,
    )

pub pair_sum : (frame : ℕ) (p q : Plan) → work (paired frame p q) ≡ work p + work q + 5
unfolding work
pair_sum frame p q =
    let root = placed_in 0 0 (new_root frame (length p)).actions in
    let one = placed_from 1 (under 1 p) in
    let two = placed_from (1 + length p) (under (1 + length p) q) in
    ap costs (paired_placed frame p q)
    ∙ omega (arith, costs_append root (one ++ two), costs_append one two, part_work 1 p, part_work (1 + length p) q)
