-- `run::run` meets its contract: each answer by what reading the bytes and the run tell.
use Rattle.std.proofs.lemmas.Result.{err_from_is_err_and}
use Rattle.scheduler.proofs.Laws.RunAnswers.{read_runs, refuses_plan, answers_read}
use Rattle.scheduler.proofs.run.run.Goals as goal

pub returns-in_err-read_into-clause-schedule_after : goal.returns-in_err-read_into-clause-schedule_after
returns-in_err-read_into-clause-schedule_after c =
    let p = err_from_is_err_and c.from_residual.result c.from_residual.ensures.1 in
    rw (p.1, p.2) (refuses_plan c.args.plan.now c.args.workers c.args.choices.now c.args.schedule.now _ c.in_err-read_into.ensures).0

pub run_read-requires : goal.run_read-requires
run_read-requires c =
    let g = c.in_ok-read_into.ensures in
    (g.is, read_runs _ _ _ g)

pub returns : goal.returns
returns c =
    let g = c.in_ok-read_into.ensures in
    let r = answers_read _ _ _ _ _ g.is _ _ g.read (c.run_read.ensures g.is (read_runs _ _ _ g)) in
    record { schedule_after = r.0; claimed = r.1 }
