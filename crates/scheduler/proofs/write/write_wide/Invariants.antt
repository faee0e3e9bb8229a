-- `write::write_wide` meets its contract. The loop's invariant: the bits of the words passed are put.
use Rattle.fields.specs.Sink.{Put}
use Rattle.scheduler.specs.Written.{words_bits}
use Rattle.scheduler.proofs.write.write_wide.Given as goal

abbrev pub invariant-loop-k : goal.invariant-loop-k
invariant-loop-k l = Put l.initial.out l.initial.sink (words_bits 20 l.rows 0 l.k) l.out l.sink
