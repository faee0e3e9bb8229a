-- `run::note` meets its contract.
use mathlib.Core.Path.{refl}
use native.Mathlib.Omega.{arith}
use Rattle.pool_runner.proofs.Laws.Noting.{noted_here, marks_here}
use Rattle.pool_runner.proofs.run.note.Goals as goal

pub returns : goal.returns
returns c =
    let a = c.args in
    let some = c.if-cost-eq0.false in (
      noted_here a.round a.cost a.w a.ends.now (omega arith) some refl c.with.ensures,
      marks_here a.round a.cost a.w a.ends.now (omega arith) some refl c.with.ensures c.requires.1 c.with-2.ensures,
    )
