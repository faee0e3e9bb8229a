-- What the function that writes a plan's bytes is given. No public entry cites this.
--   WritesInto n form plan p == the arrays have the plan p; the form fits its field, and n bytes have room for the plan's bytes in that form
use Rattle.std.specs.Prelude.{ℕ, ◌+◌, ◌/◌, ◌≤◌, ◌<◌, length}
use Rattle.plan.specs.declared.sheet.Sheet.{Sheet}
use Rattle.plan.specs.Plan.{Plan}
use Rattle.plan.specs.Sheet.{RuledIn}
use Rattle.plan_writer.specs.Writer.{plan_bits}

pub record WritesInto (n form : ℕ) (plan : Sheet) (p : Plan) : Type 0 where
  pub given : RuledIn plan p
  pub byte : form < 256
  pub room : (length (plan_bits form p) + 7) / 8 ≤ n
