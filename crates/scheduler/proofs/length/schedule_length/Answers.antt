-- `length::schedule_length` meets its contract.
use native.Mathlib.Omega.{arith}
use borrow.Author.Tests.{ne_eqb}
use Rattle.courses.specs.Schedule.{round_bits, schedule_length}
use Rattle.scheduler.proofs.length.schedule_length.Goals as goal

pub returns-then-form-eq1 : goal.returns-then-form-eq1
unfolding schedule_length
returns-then-form-eq1 c = (rw c.if-form-eq1.true (omega arith), omega arith)

pub returns : goal.returns
unfolding schedule_length
returns c = (rw (ne_eqb _ 1 c.if-form-eq1.false, round_bits) (omega arith), omega arith)
