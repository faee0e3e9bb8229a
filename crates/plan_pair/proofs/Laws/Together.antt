-- What document 02, L9, asks to be proved of every two accepted plans and every W within the limits.
--   together == T1, S1 and T∞ of the pair
use Prim.Native.Nat.{ℕ}
use mathlib.Core.Path.{◌∙◌}
use native.Mathlib.Omega.{arith}
use Rattle.plan.specs.Plan.{Plan}
use Rattle.plan.specs.Rules.{Accepted}
use Rattle.plan_measure.proofs.Laws.Parallel.{longest_some}
use Rattle.plan_pair.specs.Pair.{paired, Together}
use Rattle.plan_pair.proofs.Laws.Pairing.{paired_pairing}
use Rattle.plan_pair.proofs.Laws.Accepting.{Within, pair_accepted}
use Rattle.plan_pair.proofs.Laws.Sums.{pair_sum}
use Rattle.plan_pair.proofs.Laws.Weights.{pair_space}
use Rattle.plan_pair.proofs.Laws.Times.{pair_chain}

pub together : (frame : ℕ) (p q : Plan) → Accepted p → Accepted q → Within frame (paired frame p q) → Together frame p q (paired frame p q)
unfolding paired
together frame p q ok ok' w =
    let all = pair_accepted frame p q ok ok' w in
    record {
      sum = pair_sum frame p q;
      space = pair_space (paired_pairing frame p q) ok ok' all;
      chain = pair_chain (paired_pairing frame p q) ok ok' all (omega (arith, longest_some q ok')) ∙ omega arith;
    }
