-- Bit fields (document 01: "bits taken most significant first").
--   Bytes s          == the numbers of s are bytes
--   bits_of w v       == the w low bits of v, most significant first
--   bits bytes       == the bits of the bytes, most significant first
--   number bs        == the number that the bits bs stand for, most significant first
--   pack n bs        == the first n bytes that the bits bs fill, with zero bits behind them
--   Step A           == what was read and the next place, or the number of the refusal
--   field_at s w at   == the field of w bits at place at of the bytes s, or that the bits ran out
--   step_of f         == the step that the field reader's answer stands for
use Rattle.std.specs.Prelude.{ℕ, zero, suc, ◌+◌, ◌*◌, ◌/◌, ◌%◌, ◌^◌, ◌<◌, true, false, List, [], ◌∷◌, ◌++◌, length, get_or, take, drop, replicate, leb, Option, Some, None}
use Rattle.fields.specs.declared.field.Field.{Field}

abbrev pub Bytes : List ℕ → Type 0
Bytes s = (i : ℕ) → get_or s i 0 < 256

abbrev pub bits_of : ℕ → ℕ → List ℕ
bits_of zero v = []
bits_of (suc w) v = v / 2 ^ w % 2 ∷ bits_of w v

unfoldable pub bits : List ℕ → List ℕ
bits [] = []
bits (b ∷ bs) = bits_of 8 b ++ bits bs

abbrev pub number : List ℕ → ℕ
number [] = 0
number (b ∷ bs) = b * 2 ^ length bs + number bs

unfoldable pub pack : ℕ → List ℕ → List ℕ
pack zero bs = []
pack (suc n) bs = number (take 8 (bs ++ replicate 8 0)) ∷ pack n (drop 8 bs)

pub data Step (A : Type 0) : Type 0 where
  stop : ℕ → Step A
  step : A → ℕ → Step A

abbrev pub then : {A B : Type 0} → Step A → (A → ℕ → Step B) → Step B
then (stop n) f = stop n
then (step a at) f = f a at

-- "It gives a field and the next place, or that the bits ran out"
unfoldable pub field_at : List ℕ → ℕ → ℕ → Step ℕ
unfolding bits
field_at s w at =
    elim (leb (at + w) (8 * length s)) [ true ↦ step (number (take w (drop at (bits s)))) (at + w) | false ↦ stop 1 ]

abbrev pub step_of : Option Field → Step ℕ
step_of None = stop 1
step_of (Some f) = step f.value f.next
