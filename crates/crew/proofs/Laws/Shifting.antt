-- What the shifts of the code give is what packing gives.
--   picked        == the number that the shift reads at place i is the worker there
--   one_shifted   == a one that is shifted loses no digit
--   lined_behind  == the number that `behind` makes holds the line with one worker more
--   lined_without == the one that `closed_up` makes holds the line with one less
--   lined_fits    == the number of a line fits 64 digits
use Prim.Native.Nat.{ℕ, ◌+◌, ◌-◌, ◌*◌, ◌/◌, ◌%◌, ◌^◌, ◌<◌}
use mathlib.Core.Path.{◌≡◌, sym, ap, ap₂, ◌∙◌}
use mathlib.Core.List.{List, [], ◌∷◌, ◌++◌}
use native.Mathlib.Nat.{one-mul, mod-eq_of_lt, lt_of_le_of_lt, le_trans, mul-le-mul_right, div-le_self, div-mul-le_self, le_of_eq}
use native.Mathlib.Omega.{arith}
use lib.Dec.{lit<}
use lib.Bits.{bit_and, and_mask}
use lib.Pow.{shl_exact}
use lib.ListN.{get_or, length-append}
use Rattle.crew.specs.Line.{pack, without, Lined}
use Rattle.crew.proofs.Laws.Packing.{sixteens, pack_behind, pack_at, pack_without, pack_fits}
use Rattle.crew.proofs.Laws.Packing.{small_behind, small_without, length_without}

module _ {line len : ℕ} {q : List ℕ} (d : Lined line len q) where
  pub lined_fits : line < 2 ^ 64
  lined_fits = lt_of_le_of_lt (le_of_eq d.packed) (pack_fits q d.small (omega (arith, d.long, d.count)))

  pushed : (w : ℕ) → len < 16 → w < 16 → (w * 2 ^ (4 * len)) % 2 ^ 64 + line ≡ pack (q ++ (w ∷ []))
  pushed w h g =
      ap₂ (λ (x y : ℕ). x + y)
      (shl_exact 4 (4 * len) 64 g (omega arith) ∙ ap (λ (x : ℕ). w * x) (sixteens len) ∙ ap (λ (x : ℕ). w * 16 ^ x) (sym d.count))
      d.packed
      ∙ sym (pack_behind q w)

  pub lined_behind : (w : ℕ) → len < 16 → w < 16 → (r : ℕ)
      → r ≡ (w * 2 ^ (4 * len)) % 2 ^ 64 + line → Lined r (len + 1) (q ++ (w ∷ []))
  lined_behind w h g r e = record {
    long = omega arith;
    count = length-append q (w ∷ []) ∙ ap (λ (x : ℕ). x + 1) d.count;
    packed = e ∙ pushed w h g;
    small = small_behind q w d.small g;
  }

  pub picked : (i : ℕ) → line / 2 ^ (4 * i) % 16 ≡ get_or q i 0
  picked i = ap₂ (λ (x y : ℕ). x / y % 16) d.packed (sixteens i) ∙ pack_at q d.small i

  pub one_shifted : (i : ℕ) → i < 16 → (1 * 2 ^ (4 * i)) % 2 ^ 64 ≡ 2 ^ (4 * i)
  one_shifted i h = shl_exact 1 (4 * i) 64 (lit< tt) (omega arith) ∙ one-mul (2 ^ (4 * i))

  high_kept : (k : ℕ) → (line / 2 ^ k / 16 * 2 ^ k) % 2 ^ 64 ≡ line / 2 ^ k / 16 * 2 ^ k
  high_kept k =
      let less = le_trans (mul-le-mul_right (2 ^ k) (div-le_self (line / 2 ^ k) 16)) (div-mul-le_self line (2 ^ k)) in
      mod-eq_of_lt (lt_of_le_of_lt less lined_fits)

  taken : (i : ℕ) → i < len
      → (line / 2 ^ (4 * i) / 16 * 2 ^ (4 * i)) % 2 ^ 64 + bit_and line ((1 * 2 ^ (4 * i)) % 2 ^ 64 - 1) ≡ pack (without q i)
  taken i h =
      ap₂ (λ (x y : ℕ). x + y) (high_kept (4 * i))
      (ap (λ (x : ℕ). bit_and line (x - 1)) (one_shifted i (omega (arith, d.long))) ∙ and_mask line (4 * i))
      ∙ ap₂ (λ (x y : ℕ). x / y / 16 * y + x % y) d.packed (sixteens i)
      ∙ sym (pack_without q d.small i (omega (arith, d.count)))

  pub lined_without : (i : ℕ) → i < len → (r : ℕ)
      → r ≡ (line / 2 ^ (4 * i) / 16 * 2 ^ (4 * i)) % 2 ^ 64 + bit_and line ((1 * 2 ^ (4 * i)) % 2 ^ 64 - 1)
      → Lined r (len - 1) (without q i)
  lined_without i h r e =
      let l = length_without q i (omega (arith, d.count)) in record {
        long = omega (arith, d.long);
        count = omega (arith, d.count);
        packed = e ∙ taken i h;
        small = small_without q d.small i;
      }
