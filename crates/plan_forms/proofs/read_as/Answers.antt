-- `plan_forms::read_as` meets its contract: by its first field, and then by what reading tells.
use mathlib.Core.Path.{sym}
use Rattle.plan_forms.proofs.Laws.Reading.{as_stopped, as_other, as_answers}
use Rattle.plan_forms.proofs.read_as.Goals as goal

pub returns-in_default : goal.returns-in_default
returns-in_default c = as_stopped _ _ _ (sym c.in_default.ensures)

-- `in-Some.ensures` is the first field
pub returns-then-value-form : goal.returns-then-value-form
returns-then-value-form c = as_other _ _ _ _ (sym c.in-Some.ensures) c.if-value-form.true

pub returns : goal.returns
returns c =
    as_answers _ _ _ _ (sym c.in-Some.ensures) c.if-value-form.false c.read_into.result c.read_into.new.plan c.read_into.new.entering c.read_into.ensures
