-- `round_trip::table_back` meets its contract: the bytes lie within what was lent, and hold the table's plan.
use native.Mathlib.Omega.{arith}
use Prim.Native.Nat.{◌/◌}
use lib.ListN.{length}
use Rattle.std.proofs.lemmas.Result.{err_from_is_err_and}
use Rattle.own.proofs.Laws.RoundTrip.{refused_back, bytes_room, table_back_lem}
use Rattle.own.proofs.round_trip.table_back.Goals as goal

pub slice_bounds-plan_to_table-end : goal.slice_bounds-plan_to_table-end
slice_bounds-plan_to_table-end c = omega (arith, bytes_room _ _ _ _ _ _ c.table_to_plan.ensures c.in_ok-n.was)

pub returns-in_err-n : goal.returns-in_err-n
returns-in_err-n c =
    let p = err_from_is_err_and c.from_residual.result c.from_residual.ensures.1 in
    let r = refused_back _ _ _ c.table_to_plan.ensures _ c.in_err-n.was c.args.table.now (length c.args.table.now / 5) c.args.rows.now in
    record { rows_after = rw (p.1, p.2) r.0; bytes_after = r.1 }

pub returns : goal.returns
returns c =
    let r = table_back_lem _ _ _ _ _ _ c.table_to_plan.ensures c.in_ok-n.was _ _ c.plan_to_table.ensures in
    record { rows_after = r.0; bytes_after = r.1 }
