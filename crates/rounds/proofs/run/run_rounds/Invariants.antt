-- `run_rounds` meets its contract. Each loop's invariant says, of every plan that the run may have been given, how the objects stand
-- for a state of its run (L/Standing); the laws of L/FirstHalf and L/SecondHalf lead from one to the next. The measure of the rounds
-- is what is left of 2,048, that of the other loops the set that is left.
use Prim.Native.Nat.{◌-◌}
use Rattle.rounds.proofs.Laws.Standing.{Throughout, Between, InTurns, InLays, InServes}
use Rattle.rounds.proofs.run.run_rounds.Given as goal

abbrev pub invariant-loop-left : goal.invariant-loop-left
invariant-loop-left l =
    Throughout l.n l.choices l.plan l.entering (λ S. InTurns S l.r l.were_idle l.left l.past l.a l.workers l.cursor l.lines l.progress l.deques l.rows)

abbrev pub decreases-loop-left : goal.decreases-loop-left
decreases-loop-left l =
    l.left

abbrev pub invariant-loop-left-2 : goal.invariant-loop-left-2
invariant-loop-left-2 l =
    Throughout l.n l.choices l.plan l.entering (λ S. InLays S l.r l.left l.a l.workers l.cursor l.lines l.progress l.deques l.rows)

abbrev pub decreases-loop-left-2 : goal.decreases-loop-left-2
decreases-loop-left-2 l = l.left

abbrev pub invariant-loop-left-3 : goal.invariant-loop-left-3
invariant-loop-left-3 l =
    Throughout l.n l.choices l.plan l.entering (λ S. InServes S l.r l.left l.a l.workers l.cursor l.lines l.progress l.deques l.rows)

abbrev pub decreases-loop-left-3 : goal.decreases-loop-left-3
decreases-loop-left-3 l = l.left

abbrev pub invariant-loop-w : goal.invariant-loop-w
invariant-loop-w l =
    Throughout l.n l.choices l.plan l.entering (λ S. Between S l.r l.a l.workers l.cursor l.lines l.progress l.deques l.rows)

abbrev pub decreases-loop-w : goal.decreases-loop-w
decreases-loop-w l = 30720 - l.r
