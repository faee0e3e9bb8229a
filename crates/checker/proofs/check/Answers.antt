-- `check` meets its contract: each answer by what reading the plan, the schedule's form and its rules tell.
use mathlib.Core.Path.{refl}
use Rattle.std.proofs.lemmas.Result.{err_from_is_err_and}
use Rattle.plan.proofs.Laws.Found.{counts_few}
use Rattle.checker.proofs.Laws.Judging.{judges_plan, judges_form, rules_given, judges_broken, judges_kept}
use Rattle.checker.proofs.check.Goals as goal

pub returns-in_err-read_into : goal.returns-in_err-read_into
returns-in_err-read_into c =
    let p = err_from_is_err_and c.from_residual.result c.from_residual.ensures.1 in
    rw (p.1, p.2) (judges_plan _ _ _ c.in_err-read_into.ensures)

pub read_schedule-requires : goal.read_schedule-requires
read_schedule-requires c =
    let g = c.in_ok-read_into.ensures in
    ((counts_few _ g.is g.held).1, refl)

pub returns-in_default : goal.returns-in_default
returns-in_default c =
    let g = c.in_ok-read_into.ensures in
    judges_form _ _ g.is g.read g.held c.in_default.ensures

pub rules_kept-requires : goal.rules_kept-requires
rules_kept-requires c =
    let g = c.in_ok-read_into.ensures in
    (_, rules_given _ _ g.is g.read g.held c.in-Some.ensures)

pub returns-then-not-rules_kept : goal.returns-then-not-rules_kept
returns-then-not-rules_kept c =
    let g = c.in_ok-read_into.ensures in
    let w = c.in-Some.ensures in
    judges_broken _ _ g.is g.read g.held w _ (c.rules_kept.ensures _ (rules_given _ _ g.is g.read g.held w)) c.if-not-rules_kept.true

pub returns : goal.returns
returns c =
    let g = c.in_ok-read_into.ensures in
    let w = c.in-Some.ensures in
    judges_kept _ _ g.is g.read g.held w _ (c.rules_kept.ensures _ (rules_given _ _ g.is g.read g.held w)) c.if-not-rules_kept.false
