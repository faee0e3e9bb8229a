-- `form::read_rows` meets its contract. The loop's invariant: the array has the rows passed, none with a round of 0.
use Rattle.checker.specs.Rows.{Words}
use Rattle.checker.proofs.form.read_rows.Given as goal

abbrev pub invariant-loop-k : goal.invariant-loop-k
invariant-loop-k l = Words l.width l.schedule l.k l.rows
