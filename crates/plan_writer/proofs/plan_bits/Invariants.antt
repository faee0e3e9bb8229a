-- `plan_writer::plan_bits` meets its contract. The loop's invariant: the count is that of the headers and of the actions before place k.
use Prim.Native.Nat.{◌+◌, ◌*◌, ◌≤◌}
use mathlib.Core.Path.{◌≡◌}
use lib.ListN.{length}
use Rattle.plan_writer.specs.ActionBits.{fields_at}
use Rattle.plan_writer.proofs.Laws.PlanBits.{up_to}
use Rattle.plan_writer.proofs.plan_bits.Given as goal

abbrev pub invariant-loop-k : goal.invariant-loop-k
invariant-loop-k l =
    (l.plan.actions ≤ 2048) × (l.plan.jobs ≤ 256) × (l.bits ≡ 17 + 24 * l.plan.jobs + length (up_to (fields_at l.form l.plan) l.k))
