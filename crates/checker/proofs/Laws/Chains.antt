-- Chains of places by their keys: a place that is entered stands first in the chain of its key, and on the way back along a chain each place
-- of its key is met.
--   head_below  == the latest place of a key is one of those that were entered
--   enter       == a place is entered, in the arrays that hold the chains
--   walk_first, walk_falls, walk_next == the way back starts at the latest place, goes on to an earlier one, and each is passed
use Prim.Native.Nat.{ℕ, zero, suc, ◌+◌, ◌≤◌, ◌<◌}
use mathlib.Core.Path.{◌≡◌, refl, ap, sym, ◌∙◌}
use mathlib.Core.Logic.{◌≢◌, by_cases}
use mathlib.Core.List.{List}
use native.Mathlib.Numerals.{add-one}
use native.Mathlib.Omega.{arith}
use native.Mathlib.Decide.{ℕ_discrete, dec_lt}
use lib.ListN.{length, set}
use lib.Seq.{get_or-set_same, get_or-set_other}
use Rattle.checker.specs.Chains.{entry, Chains, Walk}

pub head_below : {n : ℕ} {key last earlier : ℕ → ℕ} → Chains n key last earlier → (b at : ℕ) → at ≡ last b → at ≤ n
head_below c b zero e = omega arith
head_below c b (suc i) e = (c.head b i (sym e)).0

-- place k, of key b, is entered
module _ (k b : ℕ) (key last last' earlier earlier' : ℕ → ℕ) (is : b ≡ key k)
    (first : last' b ≡ k + 1) (others : (c : ℕ) → c ≢ b → last' c ≡ last c)
    (second : earlier' k ≡ last b) (rest : (i : ℕ) → i ≢ k → earlier' i ≡ earlier i) (old : Chains k key last earlier) where
  of_key : (i : ℕ) → i ≡ k → key i ≡ b
  of_key i e = ap key e ∙ sym is

  head' : (c i : ℕ) → last' c ≡ suc i → (i < suc k) × (key i ≡ c)
  head' c i e =
      by_cases (ℕ_discrete c b)
      (λ q. let s : i ≡ k = omega (arith, ap last' q, first) in (omega arith, of_key i s ∙ sym q))
      (λ q. let o = old.head c i (sym (others c q) ∙ e) in (omega (arith, o.0), o.1))

  all' : (i : ℕ) → i < suc k → i < last' (key i)
  all' i h =
      by_cases (ℕ_discrete (key i) b)
      (λ q. omega (arith, ap last' q, first))
      (λ q. let d : i ≢ k = λ e. q (of_key i e) in omega (arith, others (key i) q, old.all i (omega arith)))

  link' : (h i : ℕ) → h < suc k → earlier' h ≡ suc i → (i < h) × (key i ≡ key h)
  link' h i l e =
      by_cases (ℕ_discrete h k)
      (λ q. let o = old.head b i (sym second ∙ ap earlier' (sym q) ∙ e) in (omega (arith, o.0), o.1 ∙ sym (of_key h q)))
      (λ q. old.link h i (omega arith) (sym (rest h q) ∙ e))

  chain' : (i h : ℕ) → i < h → h < suc k → key i ≡ key h → i < earlier' h
  chain' i h l m e =
      by_cases (ℕ_discrete h k)
      (λ q. omega (arith, ap earlier' q, second, ap last (e ∙ of_key h q), old.all i (omega arith)))
      (λ q. omega (arith, rest h q, old.chain i h l (omega arith) e))

  entered : Chains (k + 1) key last' earlier'
  entered = rw add-one record { head = head'; all = all'; link = link'; chain = chain' }

pub enter : (k b : ℕ) (key : ℕ → ℕ) (last earlier : List ℕ) → b < length last → k < length earlier → b ≡ key k
    → Chains k key (entry last) (entry earlier) → Chains (k + 1) key (entry (set last b (k + 1))) (entry (set earlier k (entry last b)))
enter k b key last earlier h l is =
    entered k b key _ _ _ _ is (get_or-set_same last b (k + 1) 0 h) (λ c n. get_or-set_other last b c (k + 1) 0 n)
    (get_or-set_same earlier k (entry last b) 0 l) (λ i n. get_or-set_other earlier k i (entry last b) 0 n)

-- the way back along the chain of key b, among the first n of the places that were entered
module _ (n : ℕ) (key : ℕ → ℕ) (b : ℕ) (Ok : ℕ → Type 0) where
  pub walk_first : (last earlier : ℕ → ℕ) (at : ℕ) → Chains n key last earlier → at ≡ last b → Walk n key b Ok at
  walk_first last earlier at c e = record {
    passed = λ i h l q. let z : ⊥ = omega (arith, c.all i l, ap last q) in absurd z;
    stands = λ i q. c.head b i (sym e ∙ q);
  }

  module _ (m : ℕ) (last earlier : ℕ → ℕ) (x : ℕ) (c : Chains m key last earlier) (w : Walk n key b Ok (suc x)) (few : n ≤ m) where
    here : (x < n) × (key x ≡ b)
    here = w.stands x refl

    pub walk_falls : earlier x ≤ x
    walk_falls = go (earlier x) refl
      where
        go : (y : ℕ) → earlier x ≡ y → earlier x ≤ x
        go zero e = omega arith
        go (suc i) e = omega (arith, c.link x i (omega (arith, here.0)) e)

    pub walk_next : Ok x → Walk n key b Ok (earlier x)
    walk_next ok = record {
      passed = past;
      stands = λ i e. let o = c.link x i (omega (arith, here.0)) e in (omega (arith, o.0, here.0), o.1 ∙ here.1);
    }
      where
        past : (i : ℕ) → earlier x ≤ i → i < n → key i ≡ b → Ok i
        past i h l e =
            by_cases (dec_lt i x)
            (λ q. let z : ⊥ = omega (arith, c.chain i x q (omega (arith, here.0)) (e ∙ sym here.1)) in absurd z)
            (λ q. by_cases (ℕ_discrete i x) (λ s. rw s ok) (λ s. w.passed i (omega arith) l e))
