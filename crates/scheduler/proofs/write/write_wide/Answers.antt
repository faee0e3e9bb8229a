-- `write::write_wide` meets its contract. The loop's invariant: the bits of the words passed are put.
use Prim.Native.Nat.{suc, ◌+◌, ◌*◌, ◌<◌, ◌^◌}
use mathlib.Core.Path.{◌≡◌}
use native.Mathlib.Omega.{arith}
use native.Mathlib.Nat.{zero-add}
use native.Mathlib.Numerals.{add-one}
use Rattle.fields.proofs.Laws.Puts.{put_length, empty_sound, put_none, put_both}
use Rattle.scheduler.specs.Written.{words_bits}
use Rattle.scheduler.proofs.Laws.ScheduleBytes.{words_more, words_length, wide_written}
use Rattle.scheduler.proofs.write.write_wide.Goals as goal
use Rattle.scheduler.proofs.write.write_wide.Goals.{At-loop-k}

pub loop-k-init : goal.loop-k-init
unfolding words_bits
loop-k-init c = put_none _ _ (empty_sound _)

-- how far the sink has come
reach : (l : At-loop-k) → 8 * l.loop-k.sink.bytes + l.loop-k.sink.bits ≡ 20 * l.loop-k.k
reach l = omega (arith, put_length (empty_sound _) l.loop-k.invariant, words_length 20 l.args.rows.now 0 l.loop-k.k)

pub put-sink-requires-clause-width_bound : goal.put-sink-requires-clause-width_bound
put-sink-requires-clause-width_bound c =
    let word : c.from.result < 2 ^ 20 = rw c.from.ensures (c.requires.2 c.loop-k.k c.loop-k-test.true) in
    (omega arith, word, omega (arith, reach (goal.at.put-sink-requires-clause-width_bound c).At-loop-k))

pub loop-k-preserved : goal.loop-k-preserved
loop-k-preserved c =
    let rows = c.args.rows.now in
    let e : words_bits 20 rows 0 (suc c.loop-k.k) ≡ _ = words_more 20 rows 0 c.loop-k.k in
    rw (add-one, e, zero-add, ← c.from.ensures) (put_both c.loop-k.invariant c.put-sink.ensures)

pub finish-requires-clause-bits_bound : goal.finish-requires-clause-bits_bound
finish-requires-clause-bits_bound c = omega (arith, reach (goal.at.finish-requires-clause-bits_bound c).At-loop-k)

pub returns : goal.returns
returns c =
    let e : c.loop-k.k ≡ c.args.actions = omega arith in
    wide_written 20 c.args.actions c.args.rows.now _ _ _ _ _ (rw e at c.loop-k.invariant) c.finish.ensures
