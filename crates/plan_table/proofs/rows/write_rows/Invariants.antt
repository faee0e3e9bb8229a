-- `plan_table::rows::write_rows` meets its contract. The loop's invariant: the first k rows of the plan's table are written, and what is
-- behind them is as it was.
use Prim.Native.Nat.{◌*◌}
use mathlib.Core.Path.{◌≡◌}
use mathlib.Core.List.{◌++◌}
use lib.ListN.{length, take, drop}
use Rattle.plan.specs.Plan.{Plan}
use Rattle.plan_table.specs.Table.{table_of}
use Rattle.plan_table.specs.GivenRows.{RowsGiven}
use Rattle.plan_table.proofs.rows.write_rows.Given as goal

abbrev pub invariant-loop-k : goal.invariant-loop-k
invariant-loop-k l =
    (length l.rows ≡ length l.initial.rows)
    × ((p : Plan) → RowsGiven l.plan p → l.rows ≡ take (5 * l.k) (table_of p) ++ drop (5 * l.k) l.initial.rows)
