-- `run::choices_fit` meets its contract: each answer by the count of the choices and the largest of them.
use mathlib.Core.Path.{ap, ◌∙◌}
use native.Mathlib.Omega.{arith}
use lib.Dec.{ltb}
use Rattle.scheduler.proofs.Laws.Choices.{too_many, none_fit, largest_fit}
use Rattle.scheduler.proofs.run.choices_fit.Goals as goal

pub returns-then-choices-gt4096 : goal.returns-then-choices-gt4096
returns-then-choices-gt4096 c = too_many _ _ (omega arith)

pub returns-then-choices-eq0 : goal.returns-then-choices-eq0
returns-then-choices-eq0 c = none_fit _ _ c.if-choices-eq0.true

pub returns : goal.returns
returns c =
    let a = c.args in
    ap (λ m. ltb m a.n) (c.from.ensures ∙ c.largest.ensures)
    ∙ largest_fit a.n a.choices.now (omega arith) (omega arith)
