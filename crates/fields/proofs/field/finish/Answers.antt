-- `fields::field::finish` meets its contract.
use native.Mathlib.Omega.{arith}
use Rattle.fields.proofs.Laws.Sink.{done_whole, done_filled}
use Rattle.fields.proofs.field.finish.Goals as goal

pub returns-then-sink-eq0 : goal.returns-then-sink-eq0
returns-then-sink-eq0 c =
    done_whole c.args.out.now c.args.sink c.requires.sound (λ i. omega (arith, c.slice_known-1.given i)) (omega arith)

pub returns : goal.returns
returns c =
    done_filled c.args.out.now c.args.sink c.requires.sound (λ i. omega (arith, c.slice_known-1.given i)) c.top_byte.result (omega arith) c.requires.bits_bound c.top_byte.ensures
