-- `measure_read` meets its contract, by what its three parts tell.
use native.Mathlib.Omega.{arith}
use Rattle.plan_measure.proofs.Laws.Measuring.{measured_of, measured_all, measured_by}
use Rattle.plan_measure.proofs.Laws.Parallel.{longest_some}
use Rattle.plan.proofs.Laws.Found.{counts_few}
use Rattle.plan_measure.proofs.measure_read.Goals as goal

pub overflow_cast-result : goal.overflow_cast-result
overflow_cast-result c =
    let (p, g) = c.requires in
    omega (arith, counts_few _ p g)

-- T∞ is not 0
pub nonzero_div-result : goal.nonzero_div-result
nonzero_div-result c =
    let (p, g) = c.requires in
    omega (arith, longest_some p g.planned.rules, c.longest-most.ensures p (measured_of p _ g))

pub nonzero_rem-result : goal.nonzero_rem-result
nonzero_rem-result c = nonzero_div-result c

pub returns : goal.returns
returns c = λ p g.
    let o = measured_of p _ g in
    measured_by p _ g _ _ _ (c.work-sum.ensures p (measured_all p _ g)) (c.longest-most.ensures p o)
    (c.heaviest.ensures p o)
