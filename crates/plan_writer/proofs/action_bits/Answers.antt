-- `plan_writer::action_bits` meets its contract: by the form, no bits for the cost, or four.
use mathlib.Core.Path.{ap}
use native.Mathlib.Omega.{arith}
use lib.ListN.{length}
use Rattle.plan_writer.proofs.Laws.Numbers.{cost_none, cost_some, fields_length}
use Rattle.plan_writer.proofs.action_bits.Goals as goal

pub returns-then-form-eq1 : goal.returns-then-form-eq1
returns-then-form-eq1 c =
    let a = c.args in (
      λ cost.
          omega (arith, fields_length a.form a.child a.target cost, c.number_bits.ensures.0, c.number_bits-2.ensures.0, ap length (cost_none a.form cost c.if-form-eq1.true)),
      omega (arith, c.number_bits.ensures.1, c.number_bits-2.ensures.1),
    )

pub returns-else-form-eq1 : goal.returns-else-form-eq1
returns-else-form-eq1 c =
    let a = c.args in (
      λ cost.
          omega (arith, fields_length a.form a.child a.target cost, c.number_bits.ensures.0, c.number_bits-2.ensures.0, ap length (cost_some a.form cost c.if-form-eq1.false)),
      omega (arith, c.number_bits.ensures.1, c.number_bits-2.ensures.1),
    )
