-- `plan_table::rows::take_rows` meets its contract. The loop's invariant: the array has what the first k rows put there.
use Rattle.plan_table.specs.GivenRows.{RowsTaken}
use Rattle.plan_table.proofs.rows.take_rows.Given as goal

abbrev pub invariant-loop-k : goal.invariant-loop-k
invariant-loop-k l = RowsTaken l.form l.table l.k l.plan
