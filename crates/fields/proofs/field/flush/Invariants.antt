-- `fields::field::flush` meets its contract. The loop's invariant: only whole bytes went from the sink to the buffer. The measure is the bits that are held.
use Rattle.fields.proofs.Laws.Sink.{Moved}
use Rattle.fields.proofs.field.flush.Given as goal

abbrev pub invariant-loop-bits : goal.invariant-loop-bits
invariant-loop-bits l =
    Moved l.initial.out (record { bytes = l.initial.bytes; held = l.initial.held; bits = l.initial.bits }) l.out (record { bytes = l.bytes; held = l.held; bits = l.bits })

abbrev pub decreases-loop-bits : goal.decreases-loop-bits
decreases-loop-bits l = l.bits
