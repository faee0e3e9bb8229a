-- `plan_pair::target_under` meets its contract.
use mathlib.Core.Path.{sym, ◌∙◌}
use native.Mathlib.Omega.{arith}
use Rattle.plan_pair.proofs.Laws.Laying.{target_last, target_other}
use Rattle.plan_pair.proofs.target_under.Goals as goal

pub returns-then-k-first_of : goal.returns-then-k-first_of
returns-then-k-first_of c = (target_last _ _ (c.if-k-first_of.true ∙ c.first_of.ensures.0), omega arith)

pub returns : goal.returns
returns c =
    (c.target_at.ensures.0 ∙ target_other _ _ (λ x. c.if-k-first_of.false (x ∙ sym c.first_of.ensures.0)), c.target_at.ensures.1)
