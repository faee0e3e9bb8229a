-- `own::schedule::own_schedule` meets its contract: a plan that was run is measured, its schedule lies within what was lent, and the
-- checker accepts it.
use mathlib.Core.Path.{◌∙◌}
use native.Mathlib.Omega.{arith}
use Rattle.plan_writer.proofs.Laws.PlanBytes.{read_form}
use Rattle.own.proofs.Laws.OwnSchedule.{Sized, length_told, measured_few, left_read, left_measured, left_room, left_accepted}
use Rattle.own.proofs.schedule.own_schedule.Goals as goal
use Rattle.own.proofs.schedule.own_schedule.Goals.{After-schedule_length-n}

pub returns-in_default-measure-clause-value : goal.returns-in_default-measure-clause-value
returns-in_default-measure-clause-value c =
    absurd
    (left_measured _ _ _ _ _ _ _ c.run.ensures.schedule_after c.in-Ok.is _ _ c.measure.ensures.result_value c.in_default-measure.is)

pub bounds-plan-0 : goal.bounds-plan-0
bounds-plan-0 c =
    let (x, q) = left_read _ _ _ _ _ _ _ c.run.ensures.schedule_after c.in-Ok.is in
    omega (arith, (read_form _ x (λ i. omega (arith, c.type_inv.plan i)) q).0)

pub schedule_length-n-requires : goal.schedule_length-n-requires
schedule_length-n-requires c =
    let (x, q) = left_read _ _ _ _ _ _ _ c.run.ensures.schedule_after c.in-Ok.is in
    measured_few _ _ _ c.measure.ensures.result_value c.in-Ok-measure.is x q

-- the bytes that are taken are as long as the schedule
sized : (c : After-schedule_length-n) → Sized c.args.plan.now c.schedule_length-n.result
sized c =
    length_told _ _ _ c.measure.ensures.result_value c.in-Ok-measure.is (λ i. omega (arith, c.type_inv.plan i)) _ c.from.ensures _
    c.schedule_length-n.ensures.0

pub slice_bounds-check-end : goal.slice_bounds-check-end
slice_bounds-check-end c =
    left_room _ _ _ _ _ _ _ c.run.ensures.schedule_after c.in-Ok.is _ (sized (goal.at.slice_bounds-check-end c).After-schedule_length-n)

pub returns-clause-value : goal.returns-clause-value
returns-clause-value c =
    c.is_ok.ensures.value
    ∙ left_accepted _ _ _ _ _ _ _ c.run.ensures.schedule_after c.in-Ok.is _ (sized (goal.at.returns-clause-value c).After-schedule_length-n)
    _ c.check.ensures
