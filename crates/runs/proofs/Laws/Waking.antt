-- Rule 1's test of a turn is that of the theory of lines.
--   woken_is, woken_by == the action wakes the parent exactly if the theory says so
use Prim.Native.Nat.{ℕ, zero, suc, ◌≤◌, ◌<◌}
use mathlib.Core.Path.{◌≡◌, refl}
use mathlib.Core.Bool.{Bool, false, not}
use mathlib.Core.List.{List}
use native.Mathlib.Omega.{arith}
use lib.Dec.{T, T_not, not_T}
use lib.ListN.{get_or}
use Rattle.plan.specs.Test.{both}
use Rattle.plan.specs.Plan.{Plan, action, parent}
use Rattle.plan.specs.Rules.{Accepted}
use Rattle.plan.proofs.Laws.Lists.{both_intro, both_left, both_right}
use Rattle.plan.proofs.Laws.Valid.{join_target}
use Rattle.courses.specs.Ready.{ready}
use Rattle.courses.proofs.Laws.PlanShape.{shape, shape_valid, ready_is, ready_by}
use Rattle.lines.proofs.Laws.Act.{Wakes, Act, wakes_iff, sender, grows}
use Rattle.runs.specs.Turn.{wakes}

module _ {p : Plan} (ok : Accepted p) (before after : List ℕ) {j : ℕ}
    (act : Act (shape p) (λ h. get_or before h 0) (λ h. get_or after h 0) j) where
  abbrev i : ℕ
  i = get_or before j 0

  -- the parent has begun, before and after
  parent_begun : 1 ≤ j → (0 < get_or before (parent p j) 0) × (0 < get_or after (parent p j) 0)
  parent_begun o = omega (arith, act.lives.begun o, grows act (parent p j))

  pub woken_is : T (wakes p before after j i) → Wakes (shape p) (λ h. get_or before h 0) (λ h. get_or after h 0) j
  unfolding wakes
  woken_is t = go (action p j i).join refl t
    where
      was : Bool
      was = ready p before (parent p j)

      go : (x : ℕ) → (action p j i).join ≡ x
          → T (elim x as (λ y. Bool) [ zero ↦ false | suc t ↦ both (not was) (ready p after (parent p j)) ])
          → Wakes (shape p) (λ h. get_or before h 0) (λ h. get_or after h 0) j
      go zero e t = absurd t
      go (suc x) e t =
          let o = (join_target p ok j i x act.lives.below act.lives.left e).0 in
          let b = parent_begun o in
          (wakes_iff act (shape_valid p ok) o).1 (
            λ r. T_not was (both_left (not was) _ t) (ready_by p before ok (parent p j) r (λ z. absurd (omega arith))),
            ready_is p after ok (parent p j) (both_right (not was) _ t),
          )

  pub woken_by : Wakes (shape p) (λ h. get_or before h 0) (λ h. get_or after h 0) j → T (wakes p before after j i)
  unfolding wakes
  woken_by k =
      let o = sender act (shape_valid p ok) k in
      let b = parent_begun o in
      let t = (wakes_iff act (shape_valid p ok) o).0 k in
      let was = ready p before (parent p j) in
      rw (wakes, k.sends) (both_intro (not was) _ (not_T was (λ x. t.0 (ready_is p before ok (parent p j) x)))
      (ready_by p after ok (parent p j) t.1 (λ z. absurd (omega arith))))
