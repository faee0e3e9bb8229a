-- `measure::longest` meets its contract: jobs are timed from the highest down, and the root's time is T∞.
use Prim.Native.Nat.{◌+◌, ◌-◌, ◌≤◌}
use mathlib.Core.Path.{◌≡◌}
use lib.ListN.{length}
use Rattle.plan.specs.Plan.{Plan, size}
use Rattle.plan_measure.specs.Times.{at, ends, begins, PlanOf, TimedFrom}
use Rattle.plan_measure.proofs.longest.Given as goal

abbrev pub invariant-loop-j : goal.invariant-loop-j
invariant-loop-j l =
    (l.plan.jobs ≤ 256) × (length l.time ≡ 2048) × (length l.late ≡ 2048)
    × ((p : Plan) → PlanOf l.plan p
    → TimedFrom p l.j (at l.time) (at l.late) × (l.j ≡ 0 → l.most + begins p 0 ≡ ends p 0 (size p 0 - 1)))
