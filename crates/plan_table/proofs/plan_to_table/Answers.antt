-- `plan_table::plan_to_table` meets its contract: each answer by what reading the bytes tells.
use native.Mathlib.Omega.{arith}
use Rattle.std.proofs.lemmas.Result.{err_from_is_err_and}
use Rattle.plan.proofs.Laws.Found.{counts_few}
use Rattle.plan_table.proofs.Laws.Answers.{rows_given, table_refused, table_short, table_whole}
use Rattle.plan_table.proofs.plan_to_table.Goals as goal

-- `in_ok-read_into.ensures` is what was read
pub returns-in_err-read_into : goal.returns-in_err-read_into
returns-in_err-read_into c =
    let p = err_from_is_err_and c.from_residual.result c.from_residual.ensures.1 in
    rw (p.1, p.2) (table_refused _ _ _ c.in_err-read_into.ensures)

pub overflow_mul-plan : goal.overflow_mul-plan
overflow_mul-plan c =
    let r = c.in_ok-read_into.ensures in
    omega (arith, counts_few _ r.is r.held)

pub returns-then-rows-plan : goal.returns-then-rows-plan
returns-then-rows-plan c =
    let r = c.in_ok-read_into.ensures in
    table_short _ _ _ r.is r.read (omega (arith, r.held.all))

pub write_rows-requires : goal.write_rows-requires
write_rows-requires c =
    let r = c.in_ok-read_into.ensures in
    ((r.is, rows_given {p = r.is} r.held), omega arith)

pub returns : goal.returns
returns c =
    let r = c.in_ok-read_into.ensures in
    table_whole _ _ _ r.is r.read _ _ r.held.all c.if-rows-plan.false
    (c.write_rows.ensures r.is (rows_given {p = r.is} r.held))
