-- What the field writer has written of a row of fields. Functions that write cite these; no public entry does.
--   sink_bits out k     == the bits that the sink k has written: whole bytes of the buffer, then those held, at the top of 32
--   Sound out k        == k is a sink over the buffer out
--   Room out k n       == the buffer has room for n more bits
--   Put out k bs o k'  == from out and k to o and k' the bits bs were written behind the others, and nothing else changed
--   Done out k o n     == from out and k to o the last byte was filled with zero bits; n bytes are written in all
use Rattle.std.specs.Prelude.{ℕ, ◌+◌, ◌*◌, ◌-◌, ◌/◌, ◌^◌, ◌≤◌, ◌<◌, ◌≡◌, List, ◌++◌, length, take, drop, replicate}
use Rattle.fields.specs.declared.field.Sink.{Sink}
use Rattle.fields.specs.Field.{bits_of, bits, pack}

unfoldable pub sink_bits : List ℕ → Sink → List ℕ
sink_bits out k = bits (take k.bytes out) ++ take k.bits (bits_of 32 k.held)

pub record Sound (out : List ℕ) (k : Sink) : Type 0 where
  pub few : k.bits < 8
  pub room : k.bytes ≤ length out
  pub small : k.held < 2 ^ 32
  pub behind : drop k.bits (bits_of 32 k.held) ≡ replicate (32 - k.bits) 0

abbrev pub Room : List ℕ → Sink → ℕ → Type 0
Room out k n = 8 * k.bytes + k.bits + n ≤ 8 * length out

pub record Put (out : List ℕ) (k : Sink) (new : List ℕ) (out' : List ℕ) (k' : Sink) : Type 0 where
  pub sound : Sound out' k'
  pub same : length out' ≡ length out
  pub written : sink_bits out' k' ≡ sink_bits out k ++ new
  pub beyond : drop k'.bytes out' ≡ drop k'.bytes out

pub record Done (out : List ℕ) (k : Sink) (out' : List ℕ) (n : ℕ) : Type 0 where
  pub count : n ≡ (length (sink_bits out k) + 7) / 8
  pub same : length out' ≡ length out
  pub written : take n out' ≡ pack n (sink_bits out k)
  pub beyond : drop n out' ≡ drop n out
