-- `entry::pool` meets its contract: each answer by what reading the bytes and the run tell.
use Rattle.std.proofs.lemmas.Result.{err_from_is_err_and}
use Rattle.scheduler.proofs.Laws.RunAnswers.{read_runs}
use Rattle.pool_runner.proofs.Laws.Answers.{refuses_plan, answers_read}
use Rattle.pool_runner.proofs.entry.pool.Goals as goal

pub pool_read-requires : goal.pool_read-requires
pool_read-requires c =
    let g = c.in_ok-read_into.ensures in
    (g.is, read_runs _ _ _ g)

pub returns-in_err-read_into : goal.returns-in_err-read_into
returns-in_err-read_into c =
    let p = err_from_is_err_and c.from_residual.result c.from_residual.ensures.1 in
    let r = refuses_plan c.args.plan.now c.args.workers c.args.schedule.now _ c.in_err-read_into.ensures in
    rw (p.1, p.2) (record { schedule_after = r.0; claimed = r.1 })

pub returns : goal.returns
returns c =
    let g = c.in_ok-read_into.ensures in
    let r = answers_read _ _ _ _ g.is _ _ g.read (c.pool_read.ensures g.is (read_runs _ _ _ g)) in
    record { schedule_after = r.0; claimed = r.1 }
