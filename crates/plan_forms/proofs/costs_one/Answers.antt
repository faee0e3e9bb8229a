-- `plan_forms::costs_one` meets its contract. The loop's invariant: every action before place k costs 1.
use Prim.Native.Nat.{◌<◌}
use mathlib.Core.Path.{refl, sym, ◌∙◌}
use native.Mathlib.Omega.{arith}
use Rattle.plan.specs.Plan.{total}
use Rattle.plan.specs.Rules.{costs_fit}
use Rattle.plan.proofs.Laws.Found.{counts_few}
use Rattle.plan.proofs.Laws.Lists.{true_of, false_of}
use Rattle.plan_writer.proofs.Laws.Costs.{costs_place, costs_by}
use Rattle.plan_forms.proofs.costs_one.Goals as goal

pub cost_at-requires : goal.cost_at-requires
cost_at-requires c = omega (arith, counts_few _ _ c.requires.1)

pub returns-then-cost_at-ne1 : goal.returns-then-cost_at-ne1
returns-then-cost_at-ne1 c p g =
    let k = c.loop-k.k in
    sym (false_of (costs_fit 1 p) (λ t.
    let h : k < total p = omega (arith, g.all, c.loop-k-test.true) in
    omega (arith, c.if-cost_at-ne1.true, c.cost_at.ensures.0, g.planned.laid.costs k h, costs_place 1 p t k h refl)))

pub returns : goal.returns
returns c p g =
    sym (true_of (costs_fit 1 p) (costs_by 1 p (λ k h _. sym (g.planned.laid.costs k h) ∙ c.loop-k.invariant k (omega (arith, g.all)))))
