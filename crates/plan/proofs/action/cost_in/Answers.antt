-- `action::cost_in` meets its contract: by the form, no bits for 1, or four bits.
use borrow.Author.Tests.{ne_eqb}
use Rattle.plan.specs.Action.{cost_field}
use Rattle.plan.proofs.action.cost_in.Goals as goal

pub returns-then-form-eq1 : goal.returns-then-form-eq1
returns-then-form-eq1 c t is = rw c.if-form-eq1.true

pub returns : goal.returns
returns c t is = rw (ne_eqb _ 1 c.if-form-eq1.false, cost_field) (c.cut_in.ensures t is)
