-- `measure::pass_child` meets its contract.
use mathlib.Core.Path.{refl}
use native.Mathlib.Omega.{arith}
use Rattle.plan_measure.proofs.Laws.Sends.{pass_send}
use Rattle.plan_measure.proofs.pass_child.Goals as goal

pub first_of-requires : goal.first_of-requires
first_of-requires c =
    omega (arith, (pass_send _ _ _ _ _ _ _ _ c.child_at-child.ensures.0 c.if-child-eq0.false refl refl c.requires.1).0)
