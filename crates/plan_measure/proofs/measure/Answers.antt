-- `measure::measure` meets its contract.
use mathlib.Core.Path.{sym}
use Rattle.std.proofs.lemmas.Result.{err_from_is_err_and}
use Rattle.plan_measure.proofs.Laws.Measuring.{measures_read, measures_refused}
use Rattle.plan_measure.proofs.Laws.Parallel.{measures_divided}
use Rattle.plan_measure.proofs.measure.Goals as goal

pub returns-in_err-read_into-clause-result_value : goal.returns-in_err-read_into-clause-result_value
returns-in_err-read_into-clause-result_value c =
    let p = err_from_is_err_and c.from_residual.result c.from_residual.ensures.1 in
    rw (p.1, p.2) (sym (measures_refused _ _ c.in_err-read_into.ensures))

pub returns : goal.returns
returns c =
    let g = c.in_ok-read_into.ensures in
    let e = measures_read _ _ _ g.read (c.measure_read.ensures g.is g.held) in
    record { result_value = e; divided = measures_divided _ _ e }
