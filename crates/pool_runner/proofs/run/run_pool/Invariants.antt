-- `run_pool` meets its contract. Each loop's invariant says, of every plan that the run may have been given, how the objects stand for a
-- state of its run (L/Standing), and what the marks tell of the calendar; the laws of L/Marks, L/Rounds and L/Taking lead from one to the
-- next. The measure of the rounds is what is left of 30,720, that of the other loops the set that is left.
use Prim.Native.Nat.{◌-◌}
use Rattle.pool_runner.specs.Rounds.{Marks}
use Rattle.pool_runner.proofs.Laws.Standing.{Throughout, Between, InTurns, InTakes}
use Rattle.pool_runner.proofs.run.run_pool.Given as goal

abbrev pub invariant-loop-left : goal.invariant-loop-left
invariant-loop-left l =
    Throughout l.n l.plan l.entering (λ p. InTurns p l.n l.r l.left l.weight l.peak l.idlers l.workers l.ends l.progress l.pool l.rows) × Marks l.r l.marks l.ends

abbrev pub decreases-loop-left : goal.decreases-loop-left
decreases-loop-left l =
    l.left

abbrev pub invariant-loop-left-2 : goal.invariant-loop-left-2
invariant-loop-left-2 l =
    Throughout l.n l.plan l.entering (λ p. InTakes p l.n l.r l.left l.weight l.peak l.idlers l.workers l.ends l.progress l.pool l.rows) × Marks l.r l.marks l.ends

abbrev pub decreases-loop-left-2 : goal.decreases-loop-left-2
decreases-loop-left-2 l =
    l.left

abbrev pub invariant-loop-w : goal.invariant-loop-w
invariant-loop-w l =
    Throughout l.n l.plan l.entering (λ p. Between p l.n l.r l.weight l.peak l.idlers l.workers l.ends l.progress l.pool l.rows) × Marks l.r l.marks l.ends

abbrev pub decreases-loop-w : goal.decreases-loop-w
decreases-loop-w l =
    30720 - l.r
