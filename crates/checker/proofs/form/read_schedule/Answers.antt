-- `form::read_schedule` meets its contract: each answer by the length, the header, the rounds and the fill.
use Prim.Native.Nat.{◌*◌, ◌≤◌}
use mathlib.Core.Path.{sym, ◌∙◌}
use Rattle.plan.proofs.Laws.Counts.{not_passed, passed}
use Rattle.checker.proofs.Laws.RowWords.{places_few}
use Rattle.checker.proofs.Laws.Form.{wrong_length, wrong_header, wrong_round, wrong_fill, well_formed}
use Rattle.checker.proofs.form.read_schedule.Goals as goal
use Rattle.checker.proofs.form.read_schedule.Goals.{Else-not-read_rows}

pub returns-then-schedule-width : goal.returns-then-schedule-width
returns-then-schedule-width c = wrong_length _ _ _ c.args.rows.now _ c.row_width-width.ensures.0 c.if-schedule-width.true

pub returns-in_err-workers : goal.returns-in_err-workers
returns-in_err-workers c =
    rw c.from_residual.ensures (wrong_header _ _ _ c.args.rows.now _ c.row_width-width.ensures.0 c.if-schedule-width.false c.in_err-workers.ensures)

pub returns-then-not-read_rows : goal.returns-then-not-read_rows
returns-then-not-read_rows c =
    let (k, b, none) = c.read_rows.ensures.broken (not_passed _ c.if-not-read_rows.true) in
    wrong_round _ _ _ c.args.rows.now _ c.row_width-width.ensures.0 c.if-schedule-width.false _ c.in_ok-workers.ensures k b none

few : (c : Else-not-read_rows) → c.row_width-width.result * c.args.actions ≤ 40960
few c =
    places_few _ _ c.row_width-width.ensures.1 c.requires.0

pub returns-then-not-filled : goal.returns-then-not-filled
returns-then-not-filled c =
    wrong_fill _ _ _ _ _ c.row_width-width.ensures.0 c.if-schedule-width.false _ c.in_ok-workers.ensures
    (c.read_rows.ensures.kept (passed _ c.if-not-read_rows.false)) (sym c.filled.ensures ∙ c.if-not-filled.true)

pub returns : goal.returns
returns c =
    well_formed _ _ _ _ _ c.row_width-width.ensures.0 c.if-schedule-width.false _ c.in_ok-workers.ensures
    (c.read_rows.ensures.kept (passed _ c.if-not-read_rows.false)) (sym c.filled.ensures ∙ c.if-not-filled.false)
