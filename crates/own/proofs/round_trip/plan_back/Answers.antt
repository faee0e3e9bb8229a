-- `round_trip::plan_back` meets its contract: the plan has a first byte, the rows lie within what was lent, and a slice of bytes holds
-- bytes.
use lib.ListN.{length}
use Rattle.std.proofs.lemmas.Result.{err_from_is_err_and}
use native.Mathlib.Omega.{arith}
use Rattle.own.proofs.Laws.RoundTrip.{refused_back, rows_room, plan_some, plan_back_lem}
use Rattle.own.proofs.round_trip.plan_back.Goals as goal

pub bounds-plan-0 : goal.bounds-plan-0
bounds-plan-0 c =
    omega (arith, plan_some _ _ _ _ _ c.plan_to_table.ensures c.in_ok-n.was (λ i. omega (arith, c.type_inv.plan i)))

pub overflow_mul-n : goal.overflow_mul-n
overflow_mul-n c =
    omega (arith, rows_room _ _ _ _ _ c.plan_to_table.ensures c.in_ok-n.was)

pub slice_bounds-table_to_plan-end : goal.slice_bounds-table_to_plan-end
slice_bounds-table_to_plan-end c = omega (arith, rows_room _ _ _ _ _ c.plan_to_table.ensures c.in_ok-n.was)

pub returns-in_err-n : goal.returns-in_err-n
returns-in_err-n c =
    let p = err_from_is_err_and c.from_residual.result c.from_residual.ensures.1 in
    let r = refused_back _ _ _ c.plan_to_table.ensures _ c.in_err-n.was c.args.plan.now (length c.args.plan.now) c.args.bytes.now in
    record { bytes_after = rw (p.1, p.2) r.0; rows_after = r.1 }

pub returns : goal.returns
returns c =
    let r = plan_back_lem _ _ _ _ _ c.plan_to_table.ensures c.in_ok-n.was (λ i. omega (arith, c.type_inv.plan i))
    _ _ c.from.ensures _ c.table_to_plan.ensures in
    record { bytes_after = r.0; rows_after = r.1 }
