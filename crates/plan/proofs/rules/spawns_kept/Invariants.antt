-- `plan::rules::spawns_kept` meets its contract. The loop's invariant: the array holds what the actions up to the last
-- listed one passed spawn.
use mathlib.Core.Path.{◌≡◌}
use Rattle.plan.specs.Plan.{Plan}
use Rattle.plan.specs.Sheet.{LaidIn}
use Rattle.plan.specs.Listed.{upto}
use Rattle.plan.specs.Kept.{Recorded}
use Rattle.plan.proofs.rules.spawns_kept.Given as goal

abbrev pub invariant-loop-k : goal.invariant-loop-k
invariant-loop-k l =
    (l.plan.form ≡ l.initial.plan.form) × ((p : Plan) → LaidIn l.initial.plan p → Recorded (upto l.k-items l.k-index) l.plan p)
    × ((l.plan.jobs ≡ l.initial.plan.jobs) × (l.plan.actions ≡ l.initial.plan.actions))
