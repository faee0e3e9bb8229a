-- The fewest workers for a deadline (document 02, L11): the search, and what it tells of every number.
--   first_is, first_none == what the search gives, by what the tests of the numbers give
--   first_told, first_missed == what the tests gave, by what the search gives
--   few_turns      == n workers have n turns a round, and T1 are needed: where so many rounds have too few, they are too few rounds
--   fewest_is, fewest_late == the smallest P is what `fewest` gives, and 18 where every P takes too long
--   fewest_claim   == and the other way round, of all that is accepted
use Prim.Native.Nat.{ℕ, zero, suc, ◌+◌, ◌*◌, ◌≤◌, ◌<◌}
use mathlib.Core.Path.{◌≡◌, refl, sym, ap, ◌∙◌}
use mathlib.Core.Bool.{Bool, true, false}
use mathlib.Core.Logic.{by_cases}
use native.Mathlib.Omega.{arith}
use native.Mathlib.Decide.{ℕ_discrete, dec_lt}
use native.Mathlib.Nat.{le_refl, mul-le-mul}
use lib.Dec.{leb→le}
use borrow.Author.Tests.{le-leb, lt-leb}
use Rattle.plan.specs.Refusal.{refused, accepted}
use Rattle.plan.specs.Plan.{Plan}
use Rattle.plan.proofs.Laws.Lists.{of_true}
use Rattle.plan.proofs.Laws.Outcomes.{refused_accepted, accepted_same}
use Rattle.plan_measure.specs.Measure.{work}
use Rattle.pools.specs.Run.{pool}
use Rattle.pools.specs.Fewest.{within, first_of, fewest, fewest_in, fewest_of, Smallest, Late, FewestClaim}
use Rattle.pools.proofs.Laws.Coursed.{Fit}
use Rattle.pools.proofs.Laws.Claimed.{pool_bounds}

module _ (test : ℕ → Bool) where
  -- none of the numbers from n on, below m, passes
  abbrev Fails : ℕ → ℕ → Type 0
  Fails n m = (i : ℕ) → n ≤ i → i < m → test i ≡ false

  step : (k n : ℕ) (b : Bool) → test n ≡ b → first_of test (suc k) n ≡ elim b [ true ↦ accepted n | false ↦ first_of test k (suc n) ]
  unfolding first_of
  step k n b e = rw (first_of, e)

  behind : (n m : ℕ) → test n ≡ false → Fails (suc n) m → Fails n m
  behind n m e f i b h = by_cases (ℕ_discrete n i) (λ q. rw (← q) e) (λ d. f i (omega arith) h)

  pub first_is : (k n m : ℕ) → n ≤ m → m < n + k → test m ≡ true → Fails n m → first_of test k n ≡ accepted m
  first_is zero n m l h t f = absurd (omega arith)
  first_is (suc k) n m l h t f = by_cases (ℕ_discrete n m)
      (λ e. step k n true (rw e t) ∙ ap (λ n. accepted n) e)
      (λ d. step k n false (f n (le_refl n) (omega arith)) ∙ first_is k (suc n) m (omega arith) (omega arith) t (λ i b. f i (omega arith)))

  pub first_none : (k n : ℕ) → Fails n (n + k) → first_of test k n ≡ refused 18
  unfolding first_of
  first_none zero n f = refl
  first_none (suc k) n f =
      step k n false (f n (le_refl n) (omega arith)) ∙ first_none k (suc n) (λ i b h. f i (omega arith) (omega arith))

  pub first_told : (k n m : ℕ) → first_of test k n ≡ accepted m → (n ≤ m) × (m < n + k) × (test m ≡ true) × Fails n m
  unfolding first_of
  first_told zero n m e = refused_accepted e
  first_told (suc k) n m e = go (test n) refl (first_told k (suc n) m)
    where
      go : (b : Bool) → test n ≡ b
          → (first_of test k (suc n) ≡ accepted m → (suc n ≤ m) × (m < suc n + k) × (test m ≡ true) × Fails (suc n) m)
          → (n ≤ m) × (m < n + suc k) × (test m ≡ true) × Fails n m
      go true t later =
          let q : n ≡ m = accepted_same n m (sym (step k n true t) ∙ e) in
          (omega arith, omega arith, rw (← q) t, λ i b h. absurd (omega arith))
      go false t later =
          let (l, h, s, f) = later (sym (step k n false t) ∙ e) in
          (omega arith, omega arith, s, behind n m t f)

  pub first_missed : (k n j : ℕ) → first_of test k n ≡ refused j → Fails n (n + k)
  first_missed zero n j e = λ i b h. absurd (omega arith)
  first_missed (suc k) n j e = go (test n) refl (first_missed k (suc n) j)
    where
      go : (b : Bool) → test n ≡ b → (first_of test k (suc n) ≡ refused j → Fails (suc n) (suc n + k)) → Fails n (n + suc k)
      go true t later = refused_accepted (sym e ∙ step k n true t)
      go false t later = behind n (n + suc k) t (λ i b h. later (sym (step k n false t) ∙ e) i b (omega arith))

module _ (p : Plan) (d : ℕ) where
  in_time : (n : ℕ) → (pool p n).tally.rounds ≤ d → within p d n ≡ true
  unfolding within
  in_time n h = le-leb _ _ h

  too_late : (n : ℕ) → d < (pool p n).tally.rounds → within p d n ≡ false
  unfolding within
  too_late n h = lt-leb _ _ h

  was_in_time : (n : ℕ) → within p d n ≡ true → (pool p n).tally.rounds ≤ d
  unfolding within
  was_in_time n e = leb→le (pool p n).tally.rounds d (of_true _ e)

  was_late : (n : ℕ) → within p d n ≡ false → d < (pool p n).tally.rounds
  was_late n e = by_cases (dec_lt d (pool p n).tally.rounds) (λ h. h)
      (λ f. absurd (let q : true ≡ false = sym (in_time n (omega arith)) ∙ e in let z : ◌≡◌ {A = ℕ} 0 1 = cc in omega arith))

  pub few_turns : (n : ℕ) → Fit p n → n * d < work p → d < (pool p n).tally.rounds
  few_turns n fit h =
      let b = pool_bounds fit in
      by_cases (dec_lt d (pool p n).tally.rounds) (λ h. h)
      (λ f. absurd (omega (arith, b.turns, b.actions, mul-le-mul (le_refl n) (let q : (pool p n).tally.rounds ≤ d = omega arith in q))))

  pub fewest_is : (n : ℕ) → Smallest p d n → fewest p d ≡ accepted n
  unfolding fewest
  fewest_is n s =
      first_is (within p d) 16 1 n s.some (omega (arith, s.most)) (in_time n s.ends) (λ i b h. too_late i (s.smaller i b h))

  pub fewest_late : Late p d → fewest p d ≡ refused 18
  unfolding fewest
  fewest_late late = first_none (within p d) 16 1 (λ i b h. too_late i (late i b (omega arith)))

  fewest_smallest : (n : ℕ) → fewest p d ≡ accepted n → Smallest p d n
  unfolding fewest
  fewest_smallest n e =
      let (some, most, ends, smaller) = first_told (within p d) 16 1 n e in
      record { some = some; most = omega arith; ends = was_in_time n ends; smaller = λ m b h. was_late m (smaller m b h) }

  fewest_missed : fewest p d ≡ refused 18 → Late p d
  unfolding fewest
  fewest_missed e m b h = was_late m (first_missed (within p d) 16 1 18 e m b (omega arith))

pub fewest_claim : FewestClaim
unfolding fewest_of fewest_in
fewest_claim s x d a =
    let is : fewest_of s d ≡ fewest x.plan d = rw (fewest_of, a) in
    (λ n e. fewest_smallest x.plan d n (sym is ∙ e), λ e. fewest_missed x.plan d (sym is ∙ e))
