-- `chains::Lines::enter` meets its contract: two places are stored to (`Laws.Chains`).
use native.Mathlib.Omega.{arith}
use lib.ListN.{length-set}
use Rattle.checker.proofs.Laws.Chains.{enter}
use Rattle.checker.proofs.chains.Lines.enter.Goals as goal

pub returns : goal.returns
returns g c =
    let s = c.args.self.now in
    record { heads = simp length-set; links = simp length-set; chains = λ key is old. enter _ _ key s.latest s.prior (omega (arith, s.heads)) (omega (arith, s.links)) is old }
