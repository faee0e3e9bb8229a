-- `plan_table::rows::table_rules` meets its contract. The loop's invariant: the row rules of the table are what is left to test.
use Prim.Native.Nat.{◌*◌}
use mathlib.Core.Path.{◌≡◌}
use Rattle.plan_table.specs.Table.{row_rules, rows_of}
use Rattle.plan_table.proofs.Laws.RowRules.{rules_from}
use Rattle.plan_table.proofs.rows.table_rules.Given as goal

abbrev pub invariant-loop-k : goal.invariant-loop-k
invariant-loop-k l = row_rules (rows_of l.table) ≡ rules_from l.table (5 * l.k)
