-- `measure::time_job` meets its contract: before each action the times of those before it and when joins came are known.
use Prim.Native.Nat.{◌-◌, ◌≤◌}
use mathlib.Core.Path.{◌≡◌}
use lib.ListN.{length}
use Rattle.plan_measure.specs.Times.{at, JobOf, JobGiven}
use Rattle.plan_measure.proofs.Laws.Clock.{Midway}
use Rattle.plan_measure.proofs.time_job.Given as goal

abbrev pub invariant-loop-k : goal.invariant-loop-k
invariant-loop-k l =
    (length l.time ≡ 2048) × (length l.late ≡ 2048) × (l.end ≤ 2048)
    × ((of : JobOf) → JobGiven l.base l.end l.plan l.initial.time l.initial.late of → Midway of.plan of.job (l.k - l.base) l.done (at l.time) (at l.late))
