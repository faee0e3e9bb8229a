-- `plan_writer::encode` meets its contract: 9, or the plan's bytes.
use Prim.Native.Nat.{◌+◌, ◌/◌}
use mathlib.Core.Path.{◌≡◌, ap, sym, ◌∙◌}
use native.Mathlib.Omega.{arith}
use lib.ListN.{length}
use Rattle.plan.specs.Plan.{Plan}
use Rattle.plan.specs.Sheet.{RuledIn}
use Rattle.plan_writer.specs.Writer.{plan_bytes}
use Rattle.plan_writer.proofs.Laws.PlanBytes.{plan_bytes_length}
use Rattle.plan_writer.proofs.Laws.Answers.{encoded_short, encoded_whole}
use Rattle.plan_writer.proofs.encode.Goals as goal
use Rattle.plan_writer.proofs.encode.Goals.{After-plan_bits}

-- what the bytes take
bits : (c : After-plan_bits) (p : Plan) → let a = c.args in
    RuledIn a.plan.now p → (c.plan_bits.result + 7) / 8 ≡ length (plan_bytes a.form p)
bits c p g = ap (λ n. (n + 7) / 8) (c.plan_bits.ensures.1 p g) ∙ sym (plan_bytes_length _ p)

pub returns-then-bytes-plan_bits : goal.returns-then-bytes-plan_bits
returns-then-bytes-plan_bits c p g = encoded_short _ p _ (omega (arith, bits (goal.at.returns-then-bytes-plan_bits c).After-plan_bits p g))

pub write_plan-requires : goal.write_plan-requires
write_plan-requires c =
    let (q, byte) = c.requires in (
      q.0,
      record {
        given = q.1;
        byte = byte;
        room = omega (arith, bits (goal.at.write_plan-requires c).After-plan_bits q.0 q.1, plan_bytes_length c.args.form q.0);
      },
    )

pub returns : goal.returns
returns c p g =
    let w = c.write_plan.ensures p g in
    encoded_whole _ p _ (omega (arith, bits (goal.at.returns c).After-plan_bits p g)) _ _ w.0 w.1
