-- `line::at` meets its contract.
use native.Mathlib.Omega.{arith}
use Rattle.crew.proofs.Laws.Shifting.{picked}
use Rattle.crew.proofs.line.at.Goals as goal

pub returns : goal.returns
returns c = (omega arith, λ len q d. picked d _)
