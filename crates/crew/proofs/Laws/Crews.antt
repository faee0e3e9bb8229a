-- Sets that stand for a test, as they begin and as the test changes at one number: how a set is kept beside what it tells of.
--   crewed_none, crewed_first, crewed_others == the sets of nobody, of worker 0 alone, and of all below n but worker 0
--   marked_as_was == a set in which worker w stands as it is to stand, marked there, is that set itself
--   crewed_at     == a set that is marked at one number stands for every test that changes there alone, to the same
--   test_of f ws d == the test of each entry of the list ws
--   crewed_mark   == of such a test, where one entry is set and its number is marked
--   crewed_same   == and where the entry passes as it did: the set stays
use Prim.Native.Nat.{ℕ, zero, suc, ◌-◌, ◌^◌, ◌≤◌, ◌<◌}
use mathlib.Core.Path.{◌≡◌, sym, ap, ◌∙◌}
use mathlib.Core.Logic.{◌≢◌, by_cases}
use mathlib.Core.Bool.{Bool, true, false}
use mathlib.Core.List.{List}
use native.Mathlib.Nat.{pow-suc}
use native.Mathlib.Omega.{arith}
use native.Mathlib.Decide.{ℕ_discrete}
use lib.Pow.{pow_pos}
use lib.ListN.{length, get_or, set}
use lib.Seq.{get_or-set_same, get_or-set_other}
use borrow.Author.Tests.{eq-eqb, ne_eqb}
use Rattle.crew.specs.Crew.{whether, member, Marked}
use Rattle.std.proofs.lemmas.Nat.Bits.{bit_at-pow_same, bit_at-pow_other, bit_at_mask_below, bit_at_mask_inside}
use Rattle.crew.proofs.Laws.Members.{member_none, member_bit}
use Rattle.crew.proofs.Laws.Walks.{Crewed}

module _ {test : ℕ → Bool} {n : ℕ} where
  pub crewed_none : ((u : ℕ) → u < n → test u ≡ false) → Crewed test n 0
  crewed_none none = record { small = pow_pos n; each = λ u h. member_none u ∙ sym (none u h) }

  pub crewed_first : 1 ≤ n → test 0 ≡ true → ((u : ℕ) → suc u < n → test (suc u) ≡ false) → Crewed test n 1
  crewed_first h first none = record { small = more n h; each = all }
    where
      more : (n : ℕ) → 1 ≤ n → 1 < 2 ^ n
      more zero h = absurd (omega arith)
      more (suc n) h = omega (arith, pow-suc 2 n, pow_pos n)

      all : (u : ℕ) → u < n → member 1 u ≡ test u
      all zero l = member_bit _ _ (bit_at-pow_same 0) ∙ sym first
      all (suc u) l = member_bit _ _ (bit_at-pow_other 0 (suc u) (λ e. omega arith)) ∙ sym (none u l)

  pub crewed_others : 1 ≤ n → test 0 ≡ false → ((u : ℕ) → suc u < n → test (suc u) ≡ true) → Crewed test n (2 ^ n - 2)
  crewed_others h first more = record { small = omega (arith, pow_pos n); each = all }
    where
      all : (u : ℕ) → u < n → member (2 ^ n - 2) u ≡ test u
      all zero l = member_bit _ _ (bit_at_mask_below 1 n 0 (omega arith)) ∙ sym first
      all (suc u) l = member_bit _ _ (bit_at_mask_inside 1 n (suc u) (omega arith) l) ∙ sym (more u l)

pub marked_as_was : {w : ℕ} {b : Bool} {s : ℕ} → member s w ≡ b → Marked w b s s
marked_as_was {w} {b} {s} m = record {
  small = λ n h l. l;
  each = λ u. by_cases (ℕ_discrete u w)
      (λ e. ap (member s) e ∙ m ∙ sym (ap (λ (t : Bool). whether t b (member s u)) (eq-eqb u w e)))
      (λ f. sym (ap (λ (t : Bool). whether t b (member s u)) (ne_eqb u w f)));
}

pub crewed_at : {test test' : ℕ → Bool} {n s r w : ℕ} {b : Bool} → Crewed test n s → Marked w b s r → w < n
    → test' w ≡ b → ((u : ℕ) → u ≢ w → test' u ≡ test u) → Crewed test' n r
crewed_at {test} {test'} {n} {s} {r} {w} {b} q m h is others = record {
  small = m.small n h q.small;
  each = λ u l. m.each u ∙ by_cases (ℕ_discrete u w)
      (λ i. ap (λ (t : Bool). whether t b (member s u)) (eq-eqb u w i) ∙ sym (ap test' i ∙ is))
      (λ g. ap (λ (t : Bool). whether t b (member s u)) (ne_eqb u w g) ∙ q.each u l ∙ sym (others u g));
}

abbrev pub test_of : {A : Type 0} → (A → Bool) → List A → A → ℕ → Bool
test_of f ws d u = f (get_or ws u d)

module _ {A : Type 0} (f : A → Bool) (ws : List A) (d x : A) {n s w : ℕ} (q : Crewed (test_of f ws d) n s) (h : w < length ws) where
  pub crewed_mark : {r : ℕ} → Marked w (f x) s r → w < n → Crewed (test_of f (set ws w x) d) n r
  crewed_mark m l = crewed_at q m l (ap f (get_or-set_same ws w x d h)) (λ u g. ap f (get_or-set_other ws w u x d g))

  pub crewed_same : w < n → f x ≡ f (get_or ws w d) → Crewed (test_of f (set ws w x) d) n s
  crewed_same l e = crewed_mark (marked_as_was (q.each w l ∙ sym e)) l
