-- `plan_writer::write_plan` meets its contract. The loop's invariant: the bits of the actions before place k are written.
use Prim.Native.Nat.{ℕ, suc, ◌+◌, ◌*◌, ◌≤◌}
use mathlib.Core.Path.{◌≡◌}
use mathlib.Core.List.{List, ◌++◌}
use native.Mathlib.Numerals.{add-one}
use native.Mathlib.Omega.{arith}
use lib.ListN.{length, length-append}
use Rattle.fields.specs.Field.{bits_of}
use Rattle.fields.specs.Sink.{Put}
use Rattle.plan.specs.declared.sheet.Sheet.{Sheet}
use Rattle.plan_writer.specs.ActionBits.{action_bits}
use Rattle.fields.proofs.Laws.Puts.{empty, empty_sound, put_length, put_both}
use Rattle.plan.proofs.Laws.Found.{ruled_few}
use Rattle.plan_writer.proofs.Laws.Numbers.{plan_written}
use Rattle.plan_writer.proofs.Laws.PlanBits.{up_to, up_to_rises, plan_up_to, plan_room, place_writable}
use Rattle.plan_writer.proofs.write_plan.Goals as goal
use Rattle.plan_writer.proofs.write_plan.Goals.{At-loop-k, Start}

-- the bits of the actions before place k
abbrev before : ℕ → Sheet → ℕ → List ℕ
before form plan k = up_to (action_bits form plan) k

-- the room for all bits
room : (s : Start) → 17 + length (before s.args.form s.args.plan.now s.args.plan.now.actions) ≤ 8 * length s.args.out.now
room s = plan_room s.requires.1.given s.args.form (length s.args.out.now) s.requires.1.room

-- all that is written at the loop's head
written : (l : At-loop-k) → Put l.args.out.now empty ((bits_of 8 l.args.form ++ bits_of 9 l.args.plan.now.jobs) ++ before l.args.form l.args.plan.now l.loop-k.k) l.loop-k.out l.loop-k.sink
written l = put_both (put_both (rw l.from.ensures at l.put-sink.ensures) l.put-sink-2.ensures) l.loop-k.invariant

reach : (l : At-loop-k) → (8 * l.loop-k.sink.bytes + l.loop-k.sink.bits ≡ 17 + length (before l.args.form l.args.plan.now l.loop-k.k)) × (length l.loop-k.out ≡ length l.args.out.now)
reach l = let w = written l in (omega (arith, put_length (empty_sound _) w), w.same)

pub put-sink-requires : goal.put-sink-requires
put-sink-requires c = record {
  sound = empty_sound _;
  width_bound = (omega arith, rw c.from.ensures c.requires.1.byte, omega (arith, room (goal.at.put-sink-requires c).Start));
}

pub put-sink-requires-2 : goal.put-sink-requires-2
put-sink-requires-2 c =
    let w = c.put-sink.ensures in
    record {
      sound = w.sound;
      width_bound = (omega arith, omega (arith, ruled_few _ _ c.requires.1.given), omega (arith, room (goal.at.put-sink-requires-2 c).Start, put_length (empty_sound _) w, w.same));
    }

pub put_action-sink-requires : goal.put_action-sink-requires
put_action-sink-requires c =
    let f = action_bits c.args.form c.args.plan.now in (
      c.loop-k.invariant.sound,
      place_writable c.requires.1.given c.loop-k.k c.loop-k-test.true,
      omega (arith, room (goal.at.put_action-sink-requires c).Start, reach (goal.at.put_action-sink-requires c).At-loop-k, up_to_rises f (suc c.loop-k.k) c.args.plan.now.actions c.loop-k-test.true, length-append (up_to f c.loop-k.k) (f c.loop-k.k)),
    )

pub loop-k-preserved : goal.loop-k-preserved
loop-k-preserved c = rw add-one (put_both c.loop-k.invariant c.put_action-sink.ensures)

pub finish-requires : goal.finish-requires
finish-requires c =
    let e : c.loop-k.k ≡ c.args.plan.now.actions = omega arith in
    record {
      sound = c.loop-k.invariant.sound;
      bits_bound = omega (arith, room (goal.at.finish-requires c).Start, rw e at (reach (goal.at.finish-requires c).At-loop-k));
    }

pub returns : goal.returns
returns c p g =
    let a = c.args in
    let e : c.loop-k.k ≡ a.plan.now.actions = omega arith in
    plan_written a.out.now c.loop-k.out _ c.loop-k.sink _ a.form p
    (rw (plan_up_to g a.form) (rw e at (written (goal.at.returns c).At-loop-k))) c.finish.ensures
