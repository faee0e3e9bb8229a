-- `work` meets its contract: the costs are added up in plan order.
use Prim.Native.Nat.{◌<◌}
use mathlib.Core.Path.{◌∙◌}
use native.Mathlib.Numerals.{add-one}
use native.Mathlib.Omega.{arith}
use Rattle.plan.specs.Plan.{total}
use Rattle.plan.proofs.Laws.Valid.{total_range}
use Rattle.plan_measure.proofs.Laws.Work.{work_range, costs_more, costs_first, costs_all}
use Rattle.plan_measure.proofs.work.Goals as goal

pub loop-k-init : goal.loop-k-init
loop-k-init c =
    let (p, g) = c.requires in
    (omega (arith, g.all, total_range p g.planned.rules), λ p g. omega arith)

pub overflow_add-sum : goal.overflow_add-sum
overflow_add-sum c =
    let (p, g) = c.requires in
    omega (
      arith,
      c.cost_at.ensures,
      c.loop-k.invariant.1 p g,
      costs_first p c.loop-k.k,
      work_range p g.planned.rules,
    )

pub loop-k-preserved : goal.loop-k-preserved
loop-k-preserved c = (
  c.loop-k.invariant.0,
  λ p g.
      let b : c.loop-k.k < total p = omega (arith, g.all) in
      rw add-one (omega (
        arith,
        c.cost_at.ensures.0,
        g.planned.laid.costs c.loop-k.k b,
        c.loop-k.invariant.1 p g,
        costs_more p c.loop-k.k b,
      )),
)

pub returns : goal.returns
returns c = λ p g.
    let l = c.loop-k in
    l.invariant.1 p g ∙ costs_all p l.k (omega (arith, g.all))
