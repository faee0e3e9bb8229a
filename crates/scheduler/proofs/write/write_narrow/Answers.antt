-- `write::write_narrow` meets its contract. The loop's invariant: the words passed are written.
use mathlib.Core.Path.{◌≡◌}
use native.Mathlib.Omega.{arith}
use Rattle.scheduler.proofs.Laws.RowBytes.{rows_step, doubled_written}
use Rattle.scheduler.proofs.write.write_narrow.Goals as goal

pub loop-k-preserved : goal.loop-k-preserved
loop-k-preserved c =
    let small = c.requires.2 c.loop-k.k c.loop-k-test.true in
    rows_step c.loop-k.invariant (omega arith) (rw c.to_be_bytes.ensures (omega (arith, small))) (rw c.to_be_bytes.ensures (omega arith))

pub returns : goal.returns
returns c =
    let e : c.loop-k.k ≡ c.args.actions = omega arith in
    doubled_written _ _ _ _ c.requires.1 c.requires.2 (rw e at c.loop-k.invariant)
