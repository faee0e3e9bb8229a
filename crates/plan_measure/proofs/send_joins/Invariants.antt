-- `measure::send_joins` meets its contract: the joins are sent one after the other.
use mathlib.Core.Path.{◌≡◌}
use lib.ListN.{length}
use Rattle.plan.specs.Sheet.{target_at}
use Rattle.plan_measure.specs.Times.{at, Sent}
use Rattle.plan_measure.proofs.send_joins.Given as goal

abbrev pub invariant-loop-k : goal.invariant-loop-k
invariant-loop-k l =
    (length l.late ≡ 2048) × Sent l.from l.k l.base l.spawned (target_at l.plan) (at l.time) (at l.initial.late) (at l.late)
