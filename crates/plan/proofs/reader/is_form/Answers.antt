-- `reader::is_form` meets its contract: it tests for the one form and then for the other.
use borrow.Author.Tests.{ne_eqb}
use Rattle.plan.specs.Test.{either}
use Rattle.plan.proofs.reader.is_form.Goals as goal

pub returns-then-form-eq1 : goal.returns-then-form-eq1
returns-then-form-eq1 c = rw c.if-form-eq1.true

pub returns-else-form-eq1 : goal.returns-else-form-eq1
returns-else-form-eq1 c = rw (ne_eqb _ 1 c.if-form-eq1.false, either)
