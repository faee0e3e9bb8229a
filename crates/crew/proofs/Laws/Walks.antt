-- Sets that stand for a test, and walks over one in rising number: what is left of a walk.
--   Crewed test n s == s has the numbers below n that the test holds of, and nothing else
--   Left test n p m == m has those from p on: what is left of a walk that is past the numbers below p
--   left_start      == at the beginning all of the set is left
--   left_known, left_ahead, left_test, left_none == the lowest worker of what is left is below n and not passed, its test holds, and no
--                      test between holds
--   left_next       == what is left behind it
--   left_over       == where nothing is left, no test that is not passed holds
use Prim.Native.Nat.{ℕ, suc, ◌^◌, ◌≤◌, ◌<◌}
use mathlib.Core.Path.{◌≡◌, sym, ap, ◌∙◌}
use mathlib.Core.Logic.{by_cases}
use mathlib.Core.Bool.{Bool, true, false, true≢false}
use native.Mathlib.Nat.{lt_of_not-le, lt_trans, le_of_suc-le-suc}
use native.Mathlib.Omega.{arith}
use native.Mathlib.Decide.{ℕ_discrete}
use borrow.Author.Tests.{eq-eqb, ne_eqb}
use Rattle.crew.specs.Crew.{whether, member, Lowest, Rest}
use Rattle.crew.proofs.Laws.Members.{member_none, member_small}

pub record Crewed (test : ℕ → Bool) (n s : ℕ) : Type 0 where
  pub small : s < 2 ^ n
  pub each : (u : ℕ) → u < n → member s u ≡ test u

pub record Left (test : ℕ → Bool) (n p m : ℕ) : Type 0 where
  pub small : m < 2 ^ n
  pub past : (u : ℕ) → u < p → member m u ≡ false
  pub each : (u : ℕ) → p ≤ u → u < n → member m u ≡ test u

module _ {test : ℕ → Bool} {n : ℕ} where
  pub left_start : {m : ℕ} → Crewed test n m → Left test n 0 m
  left_start q = record { small = q.small; past = λ u h. absurd (omega arith); each = λ u l h. q.each u h }

  module _ {p m w : ℕ} (q : Left test n p m) (low : Lowest m w) where
    pub left_known : w < n
    left_known = lt_of_not-le (λ h. true≢false (sym low.there ∙ member_small n m w q.small h))

    pub left_ahead : p ≤ w
    left_ahead = le_of_suc-le-suc (lt_of_not-le (λ h. true≢false (sym low.there ∙ q.past w h)))

    pub left_test : test w ≡ true
    left_test = sym (q.each w left_ahead left_known) ∙ low.there

    pub left_none : (u : ℕ) → p ≤ u → u < w → test u ≡ false
    left_none u l h = let k = left_known in sym (q.each u l (omega arith)) ∙ low.none u h

    pub left_next : {r : ℕ} → Rest m r → Left test n (suc w) r
    left_next {r} o = record {
      small = lt_trans o.less q.small;
      past = λ u h. o.each w u low ∙ by_cases (ℕ_discrete u w)
          (λ x. ap (λ (b : Bool). whether b false (member m u)) (eq-eqb u w x))
          (λ f. ap (λ (b : Bool). whether b false (member m u)) (ne_eqb u w f) ∙ low.none u (omega (arith, f)));
      each = λ u l h. let a = left_ahead in
          o.each w u low ∙ ap (λ (b : Bool). whether b false (member m u)) (ne_eqb u w (λ x. omega arith)) ∙ q.each u (omega arith) h;
    }

  pub left_over : {p : ℕ} → Left test n p 0 → (u : ℕ) → p ≤ u → u < n → test u ≡ false
  left_over q u l h = sym (q.each u l h) ∙ member_none u
