-- `plan_table::rows::take_rows` meets its contract. The loop's invariant: the array has what the first k rows put there.
use Prim.Native.Nat.{◌/◌, ◌≤◌}
use mathlib.Core.Path.{◌≡◌, refl}
use native.Mathlib.Numerals.{add-one}
use native.Mathlib.Omega.{arith}
use lib.ListN.{length}
use Rattle.std.proofs.lemmas.Result.{err_from_is_err_and}
use Rattle.plan_table.proofs.Laws.RowsInRange.{table_some}
use Rattle.plan_table.proofs.Laws.TakeRows.{begun_last, rows_none, rows_all, rows_costs}
use Rattle.plan_table.proofs.rows.take_rows.Goals as goal
use Rattle.plan_table.proofs.rows.take_rows.Goals.{After-loop-k}

pub loop-k-init : goal.loop-k-init
loop-k-init c = rows_none _ _ _ c.requires.0 c.requires.1 c.requires.2

pub returns-in_err-take_row : goal.returns-in_err-take_row
returns-in_err-take_row c =
    let p = err_from_is_err_and c.from_residual.result c.from_residual.ensures.1 in rw (p.1, p.2) c.in_err-take_row.ensures

pub loop-k-preserved : goal.loop-k-preserved
loop-k-preserved c = rw add-one c.in_ok-take_row.ensures

-- the table has a last row
room : (c : After-loop-k) → let n = length c.args.table.now / 5 in (1 ≤ n) × (n ≤ 2048)
room c = let g = c.loop-k.invariant in (table_some g.kept, g.few)

pub overflow_sub-rows : goal.overflow_sub-rows
overflow_sub-rows c = omega (arith, room (goal.at.overflow_sub-rows c).After-loop-k)

pub bounds-table-rows : goal.bounds-table-rows
bounds-table-rows c = omega (arith, room (goal.at.bounds-table-rows c).After-loop-k)

pub returns : goal.returns
returns c =
    let l = c.loop-k in
    let t = c.args.table.now in
    let e : l.k ≡ length t / 5 = omega arith in
    let g = rw e at l.invariant in
    let last = begun_last t (length t / 5) (room (goal.at.returns c).After-loop-k).0 in
    rw c.set_counts.ensures (rows_all g _ (omega (arith, c.from.ensures, last)), rows_costs g, refl)
