-- `plan_writer::action_field` meets its contract: by the form, the two numbers, or these and the cost behind them.
use mathlib.Core.Path.{◌≡◌, refl}
use Prim.Native.Nat.{◌+◌, ◌*◌, ◌<◌}
use mathlib.Core.List.{◌++◌}
use native.Mathlib.Omega.{arith}
use Rattle.fields.specs.Field.{number}
use Rattle.plan_writer.specs.Writer.{number_bits}
use Rattle.plan_writer.proofs.Laws.Numbers.{numbers_value, numbers_fit, fields_plain, fields_cost}
use Rattle.plan_writer.proofs.action_field.Goals as goal
use Rattle.plan_writer.proofs.action_field.Goals.{After-number_field-2}

pub overflow_mul-numbers : goal.overflow_mul-numbers
overflow_mul-numbers c =
    let a = c.args in
    omega (arith, numbers_fit a.child a.target _ _ _ c.number_field.ensures c.number_scale.ensures refl)

-- the two numbers in one field
numbers : (c : After-number_field-2) → let a = c.args in
    let n = c.number_field.result * c.number_scale.result + c.number_field-2.result in
    (n ≡ number (number_bits a.child ++ number_bits a.target)) × (n < 262144)
numbers c =
    let a = c.args in
    let v = c.number_field.ensures in
    let s = c.number_scale.ensures in
    (numbers_value a.child a.target _ _ _ v s c.number_field-2.ensures, numbers_fit a.child a.target _ _ _ v s c.number_field-2.ensures)

pub returns-then-form-eq1 : goal.returns-then-form-eq1
returns-then-form-eq1 c =
    let a = c.args in
    fields_plain a.form a.child a.target a.cost _ c.if-form-eq1.true (numbers (goal.at.returns-then-form-eq1 c).After-number_field-2).0

pub returns-else-form-eq1 : goal.returns-else-form-eq1
returns-else-form-eq1 c =
    let a = c.args in
    fields_cost a.form a.child a.target a.cost _ c.if-form-eq1.false c.requires.2 (numbers (goal.at.returns-else-form-eq1 c).After-number_field-2).0
