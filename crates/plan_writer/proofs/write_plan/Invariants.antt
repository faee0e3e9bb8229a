-- `plan_writer::write_plan` meets its contract. The loop's invariant: the bits of the actions before place k are written.
use Rattle.fields.specs.Sink.{Put}
use Rattle.plan_writer.specs.ActionBits.{action_bits}
use Rattle.plan_writer.proofs.Laws.PlanBits.{up_to}
use Rattle.plan_writer.proofs.write_plan.Given as goal

abbrev pub invariant-loop-k : goal.invariant-loop-k
invariant-loop-k l = Put l.initial.out l.initial.sink (up_to (action_bits l.form l.plan) l.k) l.out l.sink
