-- `plan_writer::put_fields` meets its contract.
use native.Mathlib.Omega.{arith}
use Rattle.plan_writer.proofs.Laws.Numbers.{fields_small, fields_field}
use Rattle.plan_writer.proofs.put_fields.Goals as goal

pub put-requires : goal.put-requires
put-requires c =
    let v = c.action_field-value.ensures in
    let a = c.args in
    let w = c.action_bits.ensures in
    record {
      sound = c.requires.0;
      width_bound = (omega (arith, w.1), fields_small a.form a.child a.target a.cost _ _ (w.0 a.cost) v, rw (w.0 a.cost) c.requires.4);
    }

pub returns : goal.returns
returns c =
    let a = c.args in
    rw (← fields_field a.form a.child a.target a.cost _ _ (c.action_bits.ensures.0 a.cost) c.action_field-value.ensures) c.put.ensures
