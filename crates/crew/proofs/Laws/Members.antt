-- Which workers are in a set that is made of other sets.
--   member_none, member_small   == nobody is in the set 0, and none from n on in a number below 2 ^ n
--   member_digit, member_bit    == who is in a set, by its digit
--   and_half, and_odd           == of what two sets share: its upper digits, and its lowest one
--   member_with, member_without == a worker comes in, or goes out
--   one_kept                    == a one that is shifted to a worker's digit, of k digits, is not lost
use Prim.Native.Nat.{ℕ, zero, suc, ◌*◌, ◌+◌, ◌/◌, ◌%◌, ◌^◌, ◌≤◌, ◌<◌, min}
use mathlib.Core.Path.{◌≡◌, refl, sym, ap, ◌∙◌}
use mathlib.Core.Logic.{by_cases}
use mathlib.Core.Bool.{Bool, true, false}
use mir.Syntax.{w64}
use native.Mathlib.Nat.{one-mul, pow-succ', min-le_left, lt_of_le_of_lt, div-one, div-div-eq-div-mul}
use native.Mathlib.Omega.{arith}
use native.Mathlib.Decide.{ℕ_discrete, dec_lt}
use borrow.Author.Tests.{eq-eqb, ne_eqb}
use lib.Dec.{lit<, eqb}
use lib.Pow.{shl_exact}
use lib.Bits.{bit_and, bit_or, and_step, and_shr, and_le_l}
use Rattle.std.specs.Int.{bit_at, bit_not}
use Rattle.std.proofs.lemmas.Nat.Bits.{bit_at_above, bit_at_set_same, bit_at_set_other, bit_at_clear_same, bit_at_clear_other}
use Rattle.crew.specs.Crew.{whether, odd, member}

pub member_none : (w : ℕ) → member 0 w ≡ false
unfolding member
member_none zero = refl
member_none (suc w) = member_none w

-- `s >> w`
pub member_digit : (s w : ℕ) → member s w ≡ odd (s / 2 ^ w)
unfolding member
member_digit s zero = ap odd (sym (div-one s))
member_digit s (suc w) =
    member_digit (s / 2) w ∙ ap odd (div-div-eq-div-mul s 2 (2 ^ w) ∙ ap (λ (x : ℕ). s / x) (sym (pow-succ' 2 w)))

pub member_bit : (s w : ℕ) {d : ℕ} → bit_at s w ≡ d → member s w ≡ eqb d 1
member_bit s w e = member_digit s w ∙ ap (λ (d : ℕ). eqb d 1) e

same_bit : (s r w : ℕ) → bit_at r w ≡ bit_at s w → member r w ≡ member s w
same_bit s r w e = member_bit r w e ∙ sym (member_digit s w)

pub member_small : (n s w : ℕ) → s < 2 ^ n → n ≤ w → member s w ≡ false
member_small n s w h l = member_bit _ _ (bit_at_above s n w h l)

-- one digit of each
digit_and : (x y : ℕ) → x < 2 → y < 2 → eqb (min x y) 1 ≡ whether (eqb x 1) (eqb y 1) false
digit_and zero zero hx hy = refl
digit_and zero (suc zero) hx hy = refl
digit_and zero (suc (suc y)) hx hy = absurd (omega arith)
digit_and (suc zero) zero hx hy = refl
digit_and (suc zero) (suc zero) hx hy = refl
digit_and (suc zero) (suc (suc y)) hx hy = absurd (omega arith)
digit_and (suc (suc x)) y hx hy = absurd (omega arith)

digit_lt : (n : ℕ) → n % 2 < 2
digit_lt n = omega arith

odd_join : (q c : ℕ) → c < 2 → (q * 2 + c) % 2 ≡ c
odd_join q c h = omega arith

-- what is shared: its upper half and its lowest digit
pub and_half : (a b : ℕ) → bit_and a b / 2 ≡ bit_and (a / 2) (b / 2)
and_half a b = and_shr a b 1

pub and_odd : (a b : ℕ) → odd (bit_and a b) ≡ whether (odd a) (odd b) false
and_odd a b =
    ap (λ (x : ℕ). eqb (x % 2) 1) (and_step a b)
    ∙ ap (λ (x : ℕ). eqb x 1)
    (odd_join (bit_and (a / 2) (b / 2)) (min (a % 2) (b % 2)) (lt_of_le_of_lt (min-le_left (a % 2) (b % 2)) (digit_lt a)))
    ∙ digit_and (a % 2) (b % 2) (digit_lt a) (digit_lt b)

-- `s | 1 << w`
pub member_with : (s w u : ℕ) → w < 64 → member (bit_or s ((1 * 2 ^ w) % 2 ^ 64)) u ≡ whether (eqb u w) true (member s u)
member_with s w u h = by_cases (ℕ_discrete u w)
    (λ e. rw e (member_bit _ _ (bit_at_set_same w64 s w h) ∙ sym (ap (λ (t : Bool). whether t true (member s w)) (eq-eqb w w refl))))
    (λ f. same_bit _ _ _ (bit_at_set_other w64 s w h u f) ∙ sym (ap (λ (t : Bool). whether t true (member s u)) (ne_eqb u w f)))

-- `s & !(1 << w)`
pub member_without : (s w u : ℕ) → s < 2 ^ 64 → w < 64 → member (bit_and s (bit_not w64 ((1 * 2 ^ w) % 2 ^ 64))) u ≡ whether (eqb u w) false (member s u)
member_without s w u hs h = by_cases (ℕ_discrete u w)
    (λ e. rw e (member_bit _ _ (bit_at_clear_same w64 s w h) ∙ sym (ap (λ (t : Bool). whether t false (member s w)) (eq-eqb w w refl))))
    (λ f. by_cases (dec_lt u 64)
    (λ l. same_bit _ _ _ (bit_at_clear_other w64 s w h u l f))
    (λ l. member_small 64 _ u (lt_of_le_of_lt (and_le_l s _) hs) (omega arith) ∙ sym (member_small 64 s u hs (omega arith)))
    ∙ sym (ap (λ (t : Bool). whether t false (member s u)) (ne_eqb u w f)))

-- `1 << w`, in a number of k digits
pub one_kept : {k w : ℕ} → w < k → (1 * 2 ^ w) % 2 ^ k ≡ 2 ^ w
one_kept {k} {w} h = shl_exact 1 w k (lit< tt) (omega arith) ∙ one-mul (2 ^ w)
