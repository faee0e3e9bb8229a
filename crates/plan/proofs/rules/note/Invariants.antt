-- `plan::rules::note` meets its contract. The loop's invariant: those of the places passed whose numbers are not 0 are listed.
use Rattle.plan.specs.Listed.{entry, Listed}
use Rattle.plan.proofs.rules.note.Given as goal

abbrev pub invariant-loop-k : goal.invariant-loop-k
invariant-loop-k l = Listed (entry l.row) l.k l.count l.list
