-- `run::run_read` meets its contract: each answer by the tests before the run, by the run and by what was written.
use Prim.Native.Nat.{◌≤◌}
use mathlib.Core.Path.{◌≡◌, sym, ◌∙◌}
use mathlib.Core.Bool.{true}
use native.Mathlib.Omega.{arith}
use Rattle.runs.specs.Run.{choices_fit}
use Rattle.rounds.proofs.Laws.Beginning.{in_few}
use Rattle.scheduler.proofs.Laws.RunAnswers.{refuses_workers, refuses_choices, refuses_short, rows_asked, run_answers}
use borrow.Author.Rules.{rules}
use Rattle.scheduler.proofs.run.run_read.Goals as goal
use Rattle.scheduler.proofs.run.run_read.Goals.{Else-not-choices_fit}

pub returns-then-workers-eq0 : goal.returns-then-workers-eq0
returns-then-workers-eq0 c = λ p g. refuses_workers g _ _ _ (λ some most. omega arith)

pub returns-then-workers-gt16 : goal.returns-then-workers-gt16
returns-then-workers-gt16 c = λ p g. refuses_workers g _ _ _ (λ some most. omega arith)

pub returns-then-not-choices_fit : goal.returns-then-not-choices_fit
returns-then-not-choices_fit c = λ p g.
    refuses_choices g _ _ _ (omega arith) (omega arith) (sym c.choices_fit.ensures ∙ c.if-not-choices_fit.true)

fit : (c : Else-not-choices_fit) → let a = c.args in choices_fit a.workers a.choices.now ≡ true
fit c = sym c.choices_fit.ensures ∙ c.if-not-choices_fit.false

manned : (c : Else-not-choices_fit) → (1 ≤ c.args.workers) × (c.args.workers ≤ 16)
manned c = omega (arith, c.if-workers-gt16.false, c.if-workers-eq0.false)

pub schedule_length-requires : goal.schedule_length-requires
schedule_length-requires c = let (p, g) = c.requires in in_few g.runs

pub returns-then-schedule-schedule_length : goal.returns-then-schedule-schedule_length
returns-then-schedule-schedule_length c = λ p g.
    let fits : c.choices_fit.result ≡ true = search rules in
    refuses_short g _ _ _ (omega arith) (omega arith) (sym c.choices_fit.ensures ∙ fits)
    (omega (arith, c.schedule_length.ensures.0, c.if-schedule-schedule_length.true))

pub write_schedule-requires : goal.write_schedule-requires
write_schedule-requires c =
    let (p, g) = c.requires in
    rows_asked g c.args.workers c.args.choices.now c.args.schedule.now (manned (goal.at.write_schedule-requires c).Else-not-choices_fit).0 (manned (goal.at.write_schedule-requires c).Else-not-choices_fit).1 (fit (goal.at.write_schedule-requires c).Else-not-choices_fit)
    (omega (arith, c.schedule_length.ensures.0, c.if-schedule-schedule_length.false)) _ _ c.run_rounds-t.ensures

pub returns : goal.returns
returns c = λ p g.
    let a = c.args in
    run_answers g a.workers a.choices.now a.schedule.now (manned (goal.at.returns c).Else-not-choices_fit).0 (manned (goal.at.returns c).Else-not-choices_fit).1 (fit (goal.at.returns c).Else-not-choices_fit)
    (omega (arith, c.schedule_length.ensures.0, c.if-schedule-schedule_length.false)) _ _ c.run_rounds-t.ensures _ c.write_schedule.ensures
