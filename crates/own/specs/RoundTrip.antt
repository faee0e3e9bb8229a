-- What comes back through two entries that undo one another: what went in, or why nothing does. Here of the open table (document 01,
-- "Plan").
--   back o output n buffer     == the first entry answered o: its refusal, with the buffer as it was, or else the output written,
--                                 9 where the buffer is too short for it
--   plan_back plan rows bytes   == of a plan opened into rows and closed again: the plan's own bytes
--   table_back form table bytes rows == of a table closed into bytes of that form and opened again: the table's own rows
use Rattle.std.specs.Prelude.{ℕ, ◌/◌, List, length}
use Rattle.plan.specs.Refusal.{Outcome, refused, accepted}
use Rattle.plan_writer.specs.Written.{Written, written}
use Rattle.plan_table.specs.Table.{to_table, to_plan}

unfoldable pub back : Outcome ℕ → List ℕ → ℕ → List ℕ → Written
unfolding written
back (refused k) output n buffer = record { answer = refused k; buffer = buffer }
back (accepted _) output n buffer = written output n buffer

abbrev pub plan_back : List ℕ → List ℕ → List ℕ → Written
plan_back plan rows bytes = back (to_table plan rows).answer plan (length plan) bytes

abbrev pub table_back : ℕ → List ℕ → List ℕ → List ℕ → Written
table_back form table bytes rows = back (to_plan form table bytes).answer table (length table / 5) rows
