-- `build::build_read` meets its contract: the schedule fits, so each answer is the build's own outcome.
use mathlib.Core.Path.{sym, ap, ◌∙◌}
use native.Mathlib.Omega.{arith}
use Rattle.std.proofs.lemmas.Result.{err_from_is_err_and}
use Rattle.scheduler.specs.Entry.{Result, ran_of}
use Rattle.build.proofs.Laws.Builds.{build_refused, build_counted}
use Rattle.build.proofs.build_read.Goals as goal

pub returns-in_err-t : goal.returns-in_err-t
returns-in_err-t c = λ p g.
    let q = err_from_is_err_and c.from_residual.result c.from_residual.ensures.1 in
    rw (q.1, q.2) (build_refused _ p g.held.planned.rules g.runs.byte g.runs.costs _ _ _ (omega arith) _
    (sym (ap ran_of c.in_err-t.was) ∙ ap (λ (r : Result). r.answer) (c.run_read.ensures p g.runs).0))

pub returns : goal.returns
returns c = λ p g.
    build_counted _ p g.held.planned.rules g.runs.byte g.runs.costs _ _ _ (omega arith) _ _
    (sym (ap ran_of c.in_ok-t.was) ∙ ap (λ (r : Result). r.answer) (c.run_read.ensures p g.runs).0)
    (c.measure_read-m.ensures p g.held)
