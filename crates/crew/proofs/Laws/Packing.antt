-- A packed line is made longer, read and made shorter by arithmetic.
--   sixteens       == 2 ^ (4 * k) is 16 ^ k: a worker is four binary digits
--   pack_behind    == one worker behind the line
--   pack_at        == the worker at place i
--   pack_without   == the line without its worker at place i; `length_without` its length
--   pack_fits      == a line of sixteen fits 64 digits
--   small_behind, small_without == such lines hold workers below 16 alone
use Prim.Native.Nat.{ℕ, zero, suc, ◌+◌, ◌*◌, ◌/◌, ◌%◌, ◌^◌, ◌≤◌, ◌<◌}
use mathlib.Core.Path.{◌≡◌, refl, sym, ap, ap₂, ◌∙◌}
use mathlib.Core.List.{List, [], ◌∷◌, ◌++◌}
use native.Mathlib.Nat.{pow-suc, pow-succ', pow-le-pow_right, div-one, mod-one, div-div-eq-div-mul, mul_assoc, add-mul, add_assoc}
use native.Mathlib.Nat.{min-eq_left, zero-div, zero-mod, zero-add, lt_of_lt_of_le, le_of_lt}
use native.Mathlib.Omega.{arith}
use lib.Arith.{mod-mul, digits_lt}
use lib.Pow.{pow-add}
use lib.ListN.{length, take, drop, get_or, length-take}
use Rattle.crew.specs.Line.{pack, Small, without}

pub sixteens : (k : ℕ) → 2 ^ (4 * k) ≡ 16 ^ k
sixteens zero = refl
sixteens (suc k) = ap (λ (x : ℕ). 2 ^ x) (four k) ∙ pow-add 2 (4 * k) 4 ∙ ap (λ (x : ℕ). x * 16) (sixteens k) ∙ sym (pow-suc 16 k)
  where
    four : (k : ℕ) → 4 * suc k ≡ 4 * k + 4
    four k = omega arith

sixteen_pos : (k : ℕ) → 0 < 16 ^ k
sixteen_pos zero = omega arith
sixteen_pos (suc k) = omega (arith, pow-suc 16 k, sixteen_pos k)

pack_lt : (q : List ℕ) → Small q → pack q < 16 ^ length q
unfolding pack
pack_lt [] s = omega arith
pack_lt (w ∷ q) (h, s) = rw (pow-suc 16 (length q)) (digits_lt (pack_lt q s) h)

pack_append : (a b : List ℕ) → pack (a ++ b) ≡ pack b * 16 ^ length a + pack a
unfolding pack
pack_append [] b = nothing (pack b)
  where
    nothing : (x : ℕ) → x ≡ x * 1 + 0
    nothing x = omega arith
pack_append (w ∷ a) b =
    ap (λ (x : ℕ). x * 16 + w) (pack_append a b)
    ∙ ap (λ (x : ℕ). x + w) (add-mul (pack b * 16 ^ length a) (pack a) 16)
    ∙ add_assoc (pack b * 16 ^ length a * 16) (pack a * 16) w
    ∙ ap (λ (x : ℕ). x + (pack a * 16 + w))
    (mul_assoc (pack b) (16 ^ length a) 16 ∙ ap (λ (x : ℕ). pack b * x) (sym (pow-suc 16 (length a))))

pub pack_behind : (q : List ℕ) (w : ℕ) → pack (q ++ (w ∷ [])) ≡ w * 16 ^ length q + pack q
unfolding pack
pack_behind q w = pack_append q (w ∷ []) ∙ ap (λ (x : ℕ). x * 16 ^ length q + pack q) (zero-add w)

half : (x w : ℕ) → w < 16 → (x * 16 + w) / 16 ≡ x
half x w h = omega arith

digit : (x w : ℕ) → w < 16 → (x * 16 + w) % 16 ≡ w
digit x w h = omega arith

pack_drop : (q : List ℕ) → Small q → (i : ℕ) → pack q / 16 ^ i ≡ pack (drop i q)
unfolding pack
pack_drop [] s zero = div-one (pack [])
pack_drop (w ∷ q) s zero = div-one (pack (w ∷ q))
pack_drop [] s (suc i) = zero-div (16 ^ suc i)
pack_drop (w ∷ q) (h, s) (suc i) =
    ap (λ (x : ℕ). (pack q * 16 + w) / x) (pow-succ' 16 i) ∙ sym (div-div-eq-div-mul (pack q * 16 + w) 16 (16 ^ i))
    ∙ ap (λ (x : ℕ). x / 16 ^ i) (half (pack q) w h) ∙ pack_drop q s i

pack_take : (q : List ℕ) → Small q → (i : ℕ) → pack q % 16 ^ i ≡ pack (take i q)
unfolding pack
pack_take [] s zero = mod-one (pack [])
pack_take (w ∷ q) s zero = mod-one (pack (w ∷ q))
pack_take [] s (suc i) = zero-mod (16 ^ suc i)
pack_take (w ∷ q) (h, s) (suc i) =
    ap (λ (x : ℕ). (pack q * 16 + w) % x) (pow-suc 16 i) ∙ mod-mul (pack q * 16 + w) (sixteen_pos i) (omega arith)
    ∙ ap₂ (λ (x y : ℕ). x % 16 ^ i * 16 + y) (half (pack q) w h) (digit (pack q) w h)
    ∙ ap (λ (x : ℕ). x * 16 + w) (pack_take q s i)

pub pack_at : (q : List ℕ) → Small q → (i : ℕ) → pack q / 16 ^ i % 16 ≡ get_or q i 0
unfolding pack
pack_at [] s i = ap (λ (x : ℕ). x % 16) (zero-div (16 ^ i))
pack_at (w ∷ q) (h, s) zero = ap (λ (x : ℕ). x % 16) (div-one (pack q * 16 + w)) ∙ digit (pack q) w h
pack_at (w ∷ q) (h, s) (suc i) =
    ap (λ (x : ℕ). (pack q * 16 + w) / x % 16) (pow-succ' 16 i)
    ∙ ap (λ (x : ℕ). x % 16) (sym (div-div-eq-div-mul (pack q * 16 + w) 16 (16 ^ i)))
    ∙ ap (λ (x : ℕ). x / 16 ^ i % 16) (half (pack q) w h) ∙ pack_at q s i

pub pack_without : (q : List ℕ) → Small q → (i : ℕ) → i < length q
    → pack (without q i) ≡ pack q / 16 ^ i / 16 * 16 ^ i + pack q % 16 ^ i
pack_without q s i h =
    pack_append (take i q) (drop (suc i) q)
    ∙ ap₂ (λ (x y : ℕ). x * 16 ^ y + pack (take i q)) (sym (pack_drop q s (suc i))) (length-take i q ∙ min-eq_left (le_of_lt h))
    ∙ ap₂ (λ (x y : ℕ). x * 16 ^ i + y)
    (ap (λ (x : ℕ). pack q / x) (pow-suc 16 i) ∙ sym (div-div-eq-div-mul (pack q) (16 ^ i) 16)) (sym (pack_take q s i))

pub pack_fits : (q : List ℕ) → Small q → length q ≤ 16 → pack q < 18446744073709551616
pack_fits q s h = lt_of_lt_of_le (pack_lt q s) (sixteens_le 16 (length q) h)
  where
    sixteens_le : (n k : ℕ) → k ≤ n → 16 ^ k ≤ 16 ^ n
    sixteens_le n k h = pow-le-pow_right (omega arith) h

pub small_behind : (q : List ℕ) (w : ℕ) → Small q → w < 16 → Small (q ++ (w ∷ []))
small_behind [] w s h = (h, omega arith)
small_behind (x ∷ q) w (g, s) h = (g, small_behind q w s h)

pub small_without : (q : List ℕ) → Small q → (i : ℕ) → Small (without q i)
small_without [] s zero = s
small_without [] s (suc i) = s
small_without (x ∷ q) (g, s) zero = s
small_without (x ∷ q) (g, s) (suc i) = (g, small_without q s i)

pub length_without : (q : List ℕ) (i : ℕ) → i < length q → suc (length (without q i)) ≡ length q
length_without [] i h = absurd (omega arith)
length_without (x ∷ q) zero h = refl
length_without (x ∷ q) (suc i) h = ap suc (length_without q i (omega arith))
