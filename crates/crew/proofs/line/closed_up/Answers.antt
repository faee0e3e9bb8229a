-- `line::closed_up` meets its contract.
use mathlib.Core.Path.{refl}
use Rattle.crew.proofs.Laws.Shifting.{lined_fits, lined_without}
use Rattle.crew.proofs.line.closed_up.Goals as goal

pub overflow_add-result : goal.overflow_add-result
overflow_add-result c =
    record { fits = lined_fits (lined_without c.requires.0.1 _ c.requires.1 _ refl) }

pub returns : goal.returns
returns c = λ q d. lined_without d _ c.requires.1 _ refl
