-- `plan::rules::joins_kept` meets its contract. The loop's invariant: the array counts the joins of the actions up to the
-- last listed one passed.
use Rattle.plan.specs.Plan.{Plan}
use Rattle.plan.specs.Listed.{upto}
use Rattle.plan.specs.Kept.{Counted, JoinsFrom}
use Rattle.plan.proofs.rules.joins_kept.Given as goal

abbrev pub invariant-loop-k : goal.invariant-loop-k
invariant-loop-k l =
    (p : Plan) → JoinsFrom l.plan l.initial.entering p → Counted (upto l.k-items l.k-index) l.entering p
