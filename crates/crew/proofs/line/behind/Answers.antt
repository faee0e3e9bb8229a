-- `line::behind` meets its contract.
use mathlib.Core.Path.{refl}
use native.Mathlib.Omega.{arith}
use Rattle.crew.proofs.Laws.Shifting.{lined_fits, lined_behind}
use Rattle.crew.proofs.line.behind.Goals as goal

pub overflow_add-result : goal.overflow_add-result
overflow_add-result c =
    omega (arith, lined_fits (lined_behind c.requires.0.1 c.args.w c.requires.1 c.requires.2 _ refl), c.requires.2)

pub returns : goal.returns
returns c = λ q d. lined_behind d _ c.requires.1 c.requires.2 _ refl
