-- `work` meets its contract: the costs are added up in plan order.
use Prim.Native.Nat.{◌≤◌}
use mathlib.Core.Path.{◌≡◌}
use lib.ListN.{take}
use Rattle.plan.specs.Plan.{Plan, placed}
use Rattle.plan_measure.specs.Measure.{costs}
use Rattle.plan_measure.specs.Times.{ActionsOf}
use Rattle.plan_measure.proofs.work.Given as goal

abbrev pub invariant-loop-k : goal.invariant-loop-k
invariant-loop-k l =
    (l.plan.actions ≤ 2048) × ((p : Plan) → ActionsOf l.plan p → l.sum ≡ costs (take l.k (placed p)))
