-- `plan_table::table_to_plan` meets its contract: each answer by what the form, the table's rules, its rows and their plan tell.
use Prim.Native.Nat.{◌%◌}
use mathlib.Core.Path.{◌≡◌, sym, ◌∙◌}
use mathlib.Core.Bool.{true}
use native.Mathlib.Omega.{arith}
use lib.ListN.{length}
use lib.Dec.{eqb, eqb→eq}
use Rattle.std.proofs.lemmas.Result.{err_from_is_err_and}
use Rattle.plan.specs.Test.{both}
use Rattle.plan.specs.Reader.{is_form}
use Rattle.plan_table.specs.Table.{rows_of, row_rules, plan_of}
use Rattle.plan_table.specs.GivenRows.{TableKept, LaidAs}
use Rattle.plan.proofs.Laws.Lists.{of_true, both_left, both_right}
use Rattle.plan_table.proofs.Laws.RowsInRange.{table_long}
use Rattle.plan_table.proofs.Laws.Answers.{form_refused, plan_refused, plan_range, plan_ruled}
use Rattle.plan.proofs.Laws.Accepted.{form_small}
use Rattle.plan_table.proofs.table_to_plan.Goals as goal
use Rattle.plan_table.proofs.table_to_plan.Goals.{Else-not-is_form, Else-not-table_rules, In_ok-take_rows}

pub returns-then-not-is_form : goal.returns-then-not-is_form
returns-then-not-is_form c = form_refused _ _ _ (sym c.is_form.ensures ∙ c.if-not-is_form.true)

known : (c : Else-not-is_form) → is_form c.args.form ≡ true
known c = sym c.is_form.ensures ∙ c.if-not-is_form.false

rules : (c : Else-not-table_rules) → let t = c.args.table.now in both (eqb (length t % 5) 0) (row_rules (rows_of t)) ≡ true
rules c = sym c.table_rules.ensures ∙ c.if-not-table_rules.false

kept : (c : Else-not-table_rules) → TableKept c.args.table.now
kept c =
    let t = c.args.table.now in
    let h = of_true (both (eqb (length t % 5) 0) (row_rules (rows_of t))) (rules c) in
    record {
      whole = eqb→eq (length t % 5) 0 (both_left (eqb (length t % 5) 0) (row_rules (rows_of t)) h);
      rules = both_right (eqb (length t % 5) 0) (row_rules (rows_of t)) h;
    }

pub returns-then-not-table_rules : goal.returns-then-not-table_rules
returns-then-not-table_rules c =
    plan_refused _ _ _ (known (goal.at.returns-then-not-table_rules c).Else-not-is_form) (sym c.table_rules.ensures ∙ c.if-not-table_rules.true)

pub returns-then-rows-gt2048 : goal.returns-then-rows-gt2048
returns-then-rows-gt2048 c =
    plan_range _ _ _ (known (goal.at.returns-then-rows-gt2048 c).Else-not-is_form) (rules (goal.at.returns-then-rows-gt2048 c).Else-not-table_rules) (table_long (kept (goal.at.returns-then-rows-gt2048 c).Else-not-table_rules) c.args.form (omega arith))

pub take_rows-requires : goal.take_rows-requires
take_rows-requires c = (kept (goal.at.take_rows-requires c).Else-not-table_rules, omega arith, c.blank-plan.ensures)

-- the arrays have the rows' plan
laid : (c : In_ok-take_rows) → is_form c.args.form ≡ true → LaidAs c.take_rows.new.plan (plan_of (rows_of c.args.table.now))
laid c known =
    let form = c.args.form in
    let l = c.in_ok-take_rows.ensures in
    record { held = l.0; costs = rw l.2 l.1; byte = rw l.2 (form_small form (of_true (is_form form) known)) }

pub close-requires : goal.close-requires
close-requires c =
    let at = goal.at.close-requires c in
    (_, laid at.In_ok-take_rows (known at.Else-not-is_form))

pub returns-in_err-take_rows : goal.returns-in_err-take_rows
returns-in_err-take_rows c =
    let at = goal.at.returns-in_err-take_rows c in
    let p = err_from_is_err_and c.from_residual.result c.from_residual.ensures.1 in
    let e = c.in_err-take_rows.ensures in
    rw (p.1, p.2, e.0) (plan_range _ _ _ (known at.Else-not-is_form) (rules at.Else-not-table_rules) e.1)

pub returns : goal.returns
returns c =
    let at = goal.at.returns c in
    let known = known at.Else-not-is_form in
    rw c.in_ok-take_rows.ensures.2 at (c.close.ensures _ (laid at.In_ok-take_rows known)) ∙ plan_ruled _ _ _ known (rules at.Else-not-table_rules)
