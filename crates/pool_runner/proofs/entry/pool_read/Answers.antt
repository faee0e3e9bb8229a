-- `entry::pool_read` meets its contract: each answer by the tests before the run, by the run and by what was written.
use native.Mathlib.Omega.{arith}
use Rattle.rounds.proofs.Laws.Beginning.{in_few}
use Rattle.pool_runner.proofs.Laws.Answers.{refuses_workers, refuses_short, rows_asked, pool_answers}
use Rattle.pool_runner.proofs.entry.pool_read.Goals as goal

pub returns-then-workers-eq0 : goal.returns-then-workers-eq0
returns-then-workers-eq0 c = λ p g. refuses_workers g _ _ (λ some most. omega arith)

pub returns-then-workers-gt16 : goal.returns-then-workers-gt16
returns-then-workers-gt16 c = λ p g. refuses_workers g _ _ (λ some most. omega arith)

pub schedule_length-requires : goal.schedule_length-requires
schedule_length-requires c = let (p, g) = c.requires in in_few g.runs

pub returns-then-schedule-schedule_length : goal.returns-then-schedule-schedule_length
returns-then-schedule-schedule_length c = λ p g.
    refuses_short g _ _ (omega arith) (omega arith) (omega (arith, c.schedule_length.ensures.0, c.if-schedule-schedule_length.true))

pub write_schedule-requires : goal.write_schedule-requires
write_schedule-requires c =
    let (p, g) = c.requires in
    rows_asked g c.args.workers c.args.schedule.now (omega arith) (omega arith)
    (omega (arith, c.schedule_length.ensures.0, c.if-schedule-schedule_length.false)) _ _ c.run_pool-t.ensures

pub returns : goal.returns
returns c = λ p g.
    let a = c.args in
    pool_answers g a.workers a.schedule.now (omega arith) (omega arith)
    (omega (arith, c.schedule_length.ensures.0, c.if-schedule-schedule_length.false)) _ _ c.run_pool-t.ensures _ c.write_schedule.ensures
