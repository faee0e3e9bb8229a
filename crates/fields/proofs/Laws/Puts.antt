-- Fields that the field writer wrote: how many bits, and one row of fields behind another.
--   sink_length == a sink's bits are those of its whole bytes and those that it holds
--   put_length  == how far the sink goes
--   empty       == the sink in which nothing is written; put_none == where no bits are written, nothing changes
--   drop_later  == what is unchanged behind a place is unchanged behind a later one
--   put_both    == one row of fields behind another
use Prim.Native.Nat.{ℕ, ◌+◌, ◌*◌, ◌-◌, ◌≤◌}
use mathlib.Core.Path.{◌≡◌, refl, sym, ◌∙◌}
use mathlib.Core.List.{List, [], ◌++◌, append_assoc, append-nil}
use native.Mathlib.Omega.{arith}
use lib.ListN.{length, take, drop, length-append}
use lib.Seq.{length-take-le, drop-drop}
use Rattle.fields.specs.declared.field.Sink.{Sink}
use Rattle.fields.specs.Field.{bits_of}
use Rattle.fields.specs.Sink.{sink_bits, Sound, Put}
use Rattle.fields.proofs.Laws.Bits.{bits_of_length, bits_length}

pub sink_length : (out : List ℕ) (s : Sink) → Sound out s → length (sink_bits out s) ≡ 8 * s.bytes + s.bits
unfolding sink_bits
sink_length out s h =
    let l = h.few in
    let f : length (take s.bits (bits_of 32 s.held)) ≡ s.bits = length-take-le s.bits (bits_of 32 s.held) (rw bits_of_length (omega arith)) in
    rw (length-append, bits_length, length-take-le s.bytes out h.room, f)

pub put_length : {out out' new : List ℕ} {s s' : Sink} → Sound out s → Put out s new out' s' → 8 * s'.bytes + s'.bits ≡ 8 * s.bytes + s.bits + length new
put_length {out} {out'} {new} {s} {s'} h w = rw (← sink_length out s h, ← sink_length out' s' w.sound, w.written, length-append)

abbrev pub empty : Sink
empty = record { bytes = 0; held = 0; bits = 0 }

pub empty_sound : (out : List ℕ) → Sound out empty
empty_sound out = record { few = omega arith; room = omega arith; small = omega arith; behind = refl }

pub put_none : (out : List ℕ) (s : Sink) → Sound out s → Put out s [] out s
put_none out s h = record { sound = h; same = refl; written = sym (append-nil (sink_bits out s)); beyond = refl }

pub drop_later : (m n : ℕ) (a b : List ℕ) → m ≤ n → drop m a ≡ drop m b → drop n a ≡ drop n b
drop_later m n a b h e =
    let d : n ≡ m + (n - m) = omega arith in
    rw (d, ← drop-drop (n - m) m a, ← drop-drop (n - m) m b, e)

pub put_both : {o₀ o₁ o₂ a b : List ℕ} {s₀ s₁ s₂ : Sink} → Put o₀ s₀ a o₁ s₁ → Put o₁ s₁ b o₂ s₂ → Put o₀ s₀ (a ++ b) o₂ s₂
put_both {o₀} {o₁} {o₂} {a} {b} {s₀} {s₁} {s₂} u v =
    let l = put_length u.sound v in
    let f = v.sound.few in
    let g = u.sound.few in
    record {
      sound = v.sound;
      same = v.same ∙ u.same;
      written = rw (v.written, u.written, append_assoc);
      beyond = v.beyond ∙ drop_later s₁.bytes s₂.bytes o₁ o₀ (omega arith) u.beyond;
    }
