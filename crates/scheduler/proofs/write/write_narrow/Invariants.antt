-- `write::write_narrow` meets its contract. The loop's invariant: the words passed are written.
use Rattle.scheduler.specs.Written.{Doubled}
use Rattle.scheduler.proofs.write.write_narrow.Given as goal

abbrev pub invariant-loop-k : goal.invariant-loop-k
invariant-loop-k l = Doubled l.k l.rows l.initial.out l.out
