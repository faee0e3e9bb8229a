-- The worker of lowest number in a set, which `trailing_zeros` finds, and the set without it.
--   tz_lowest  == `trailing_zeros` of a set of 64 digits that is not empty is its lowest worker
--   tz_rest    == s & (s - 1) is the set without that worker
--   lowest_one == a set has one lowest worker
--   lowest_lt  == it is below k where the set has k digits
use Prim.Native.Nat.{ℕ, zero, suc, ◌-◌, ◌/◌, ◌%◌, ◌^◌, ◌≤◌, ◌<◌}
use mathlib.Core.Path.{◌≡◌, refl, sym, ap, ap₂, ◌∙◌}
use mathlib.Core.Bool.{Bool, true, false, true≢false}
use native.Mathlib.Nat.{pow-suc, le_antisymm, le_of_suc-le-suc, lt_of_not-le}
use native.Mathlib.Omega.{arith}
use lib.Dec.{eqb, eqb-zero-suc, eqb-suc-zero, eqb-suc-suc}
use lib.Bits.{bit_and, and_self}
use lib.Count.{under, count_trailing_zeros}
use mir.Syntax.{w64}
use Rattle.std.proofs.lemmas.Nat.Bits.{bit_at-trailing_zeros}
use Rattle.crew.specs.Crew.{whether, odd, member, Lowest}
use Rattle.crew.proofs.Laws.Members.{member_bit, member_small, and_half, and_odd}

-- the lowest digit is 0 or 1
data Parity (n : ℕ) : Type 0 where
  even : n % 2 ≡ 0 → Parity n
  uneven : n % 2 ≡ 1 → Parity n

parity : (n : ℕ) → Parity n
parity n = go (n % 2) refl
  where
    go : (d : ℕ) → n % 2 ≡ d → Parity n
    go zero e = even e
    go (suc zero) e = uneven e
    go (suc (suc d)) e = absurd (omega arith)

tz_even : (k n : ℕ) → n % 2 ≡ 0 → count_trailing_zeros (suc k) n ≡ suc (count_trailing_zeros k (n / 2))
unfolding count_trailing_zeros
tz_even k n e = ap (λ (d : ℕ). under d (count_trailing_zeros k (n / 2))) e

tz_odd : (k n : ℕ) → n % 2 ≡ 1 → count_trailing_zeros (suc k) n ≡ 0
unfolding count_trailing_zeros
tz_odd k n e = ap (λ (d : ℕ). under d (count_trailing_zeros k (n / 2))) e

pub tz_lowest : (n : ℕ) → 0 < n → n < 2 ^ 64 → Lowest n (count_trailing_zeros 64 n)
tz_lowest n p h =
    let (small, there, none) = bit_at-trailing_zeros w64 n p h in
    record { there = member_bit _ _ there; none = λ u l. member_bit _ _ (none u l) }

pub tz_rest : (k n u : ℕ) → 0 < n → n < 2 ^ k → member (bit_and n (n - 1)) u ≡ whether (eqb u (count_trailing_zeros k n)) false (member n u)
unfolding member
tz_rest zero n u p h = absurd (omega arith)
tz_rest (suc k) n zero p h = and_odd n (n - 1) ∙ elim (parity n) [
  | even e ↦ ap (λ (d : ℕ). whether (eqb d 1) (odd (n - 1)) false) e
      ∙ sym (ap₂ (λ (t d : ℕ). whether (eqb 0 t) false (eqb d 1)) (tz_even k n e) e
      ∙ ap (λ (b : Bool). whether b false false) (eqb-zero-suc (count_trailing_zeros k (n / 2))))
  | uneven e ↦ ap (λ (d : ℕ). whether (odd n) (eqb d 1) false) (before e) ∙ none (odd n)
      ∙ sym (ap (λ (t : ℕ). whether (eqb 0 t) false (odd n)) (tz_odd k n e))
]
  where
    before : n % 2 ≡ 1 → (n - 1) % 2 ≡ 0
    before e = omega arith

    none : (b : Bool) → whether b false false ≡ false
    none true = refl
    none false = refl
tz_rest (suc k) n (suc u) p h = ap (λ (x : ℕ). member x u) (and_half n (n - 1)) ∙ elim (parity n) [
  | even e ↦ ap (λ (x : ℕ). member (bit_and (n / 2) x) u) (less e)
      ∙ tz_rest k (n / 2) u (omega arith) (let q = pow-suc 2 k in omega arith)
      ∙ sym (ap (λ (t : ℕ). whether (eqb (suc u) t) false (member (n / 2) u)) (tz_even k n e)
      ∙ ap (λ (b : Bool). whether b false (member (n / 2) u)) (eqb-suc-suc u (count_trailing_zeros k (n / 2))))
  | uneven e ↦ ap (λ (x : ℕ). member (bit_and (n / 2) x) u) (same e) ∙ ap (λ (x : ℕ). member x u) (and_self (n / 2))
      ∙ sym (ap (λ (t : ℕ). whether (eqb (suc u) t) false (member (n / 2) u)) (tz_odd k n e)
      ∙ ap (λ (b : Bool). whether b false (member (n / 2) u)) (eqb-suc-zero u))
]
  where
    less : n % 2 ≡ 0 → (n - 1) / 2 ≡ n / 2 - 1
    less e = omega arith

    same : n % 2 ≡ 1 → (n - 1) / 2 ≡ n / 2
    same e = omega arith

pub lowest_one : (s a b : ℕ) → Lowest s a → Lowest s b → a ≡ b
lowest_one s a b p q = le_antisymm (not_above p q) (not_above q p)
  where
    not_above : {x y : ℕ} → Lowest s x → Lowest s y → x ≤ y
    not_above {x} {y} p q = le_of_suc-le-suc (lt_of_not-le (λ h. true≢false (sym q.there ∙ p.none y h)))

pub lowest_lt : {k s w : ℕ} → Lowest s w → s < 2 ^ k → w < k
lowest_lt {k} {s} {w} low h = lt_of_not-le (λ l. true≢false (sym low.there ∙ member_small k s w h l))
