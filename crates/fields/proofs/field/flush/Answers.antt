-- `fields::field::flush` meets its contract. The loop's invariant: only whole bytes went from the sink to the buffer. The measure is the bits that are held.
use native.Mathlib.Omega.{arith}
use Rattle.fields.proofs.Laws.Sink.{moved_none, moved_byte, moved_all}
use Rattle.fields.proofs.field.flush.Goals as goal

pub loop-bits-init : goal.loop-bits-init
loop-bits-init c = moved_none c.args.out.now c.args.sink c.requires

pub top_byte-requires : goal.top_byte-requires
top_byte-requires c = c.loop-bits.invariant.loose.small

pub bounds-out-bytes : goal.bounds-out-bytes
bounds-out-bytes c = omega (arith, c.loop-bits.invariant.loose.room)

pub overflow_mul-held : goal.overflow_mul-held
overflow_mul-held c = omega arith

pub overflow_add-bytes : goal.overflow_add-bytes
overflow_add-bytes c = omega (arith, c.loop-bits.invariant.loose.room)

pub loop-bits-smaller : goal.loop-bits-smaller
loop-bits-smaller c = omega arith

pub loop-bits-preserved : goal.loop-bits-preserved
loop-bits-preserved c =
    let l = c.loop-bits in
    let a = c.args in
    moved_byte a.out.now a.sink l.out l.bytes l.held l.bits c.top_byte.result l.invariant (omega arith) c.top_byte.ensures

pub shape_of-out : goal.shape_of-out
shape_of-out c = c.loop-bits.invariant.same

pub returns : goal.returns
returns c = let a = c.args in moved_all a.out.now a.sink c.loop-bits.out _ c.loop-bits.invariant (omega arith)
