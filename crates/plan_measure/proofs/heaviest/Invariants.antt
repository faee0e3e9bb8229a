-- `measure::heaviest` meets its contract: path weights are filled in from the root on, since parents are below children.
use Prim.Native.Nat.{◌≤◌}
use mathlib.Core.Path.{◌≡◌}
use lib.ListN.{length}
use Rattle.plan.specs.Plan.{Plan}
use Rattle.plan_measure.specs.Times.{at, PlanOf}
use Rattle.plan_measure.proofs.Laws.Paths.{Weighed}
use Rattle.plan_measure.proofs.heaviest.Given as goal

abbrev pub invariant-loop-j : goal.invariant-loop-j
invariant-loop-j l =
    (l.plan.jobs ≤ 256) × (length l.path ≡ 256)
    × ((p : Plan) → PlanOf l.plan p → Weighed p l.j l.most (at l.path))
