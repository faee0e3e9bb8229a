-- A walk over a set against any fold over the numbers 0, 1, .. that goes by steps: F (suc k) is step k of F k. Where the test fails a
-- step is a wait, or nothing; that is asked only of the numbers that are left, once all between are known to be so.
--   times wait k == a wait, k times
--   fold_to, fold_end == the steps up to the lowest worker of what is left are waits, and so are all where nothing is left
--   fold_skip_to, fold_skip_next, fold_skip_end == where they do nothing: up to the lowest worker, over it, and to the end
use Prim.Native.Nat.{ℕ, zero, suc, ◌-◌, ◌≤◌, ◌<◌}
use mathlib.Core.Path.{◌≡◌, refl, ap, ◌∙◌}
use mathlib.Core.Logic.{by_cases}
use mathlib.Core.Bool.{Bool, false}
use native.Mathlib.Nat.{le_of_lt, le_refl}
use native.Mathlib.Omega.{arith}
use native.Mathlib.Decide.{ℕ_discrete}
use Rattle.crew.specs.Crew.{Lowest}
use Rattle.crew.proofs.Laws.Walks.{Left, left_known, left_ahead, left_none, left_over}

unfoldable pub times : {S : Type 0} → (S → S) → ℕ → S → S
times wait zero s = s
times wait (suc k) s = wait (times wait k s)

times_none : {S : Type 0} (k : ℕ) (s : S) → times (λ x. x) k s ≡ s
unfolding times
times_none zero s = refl
times_none (suc k) s = times_none k s

module _ {S : Type 0} (F : ℕ → S) (at : ℕ → S → S) (more : (k : ℕ) → F (suc k) ≡ at k (F k)) {test : ℕ → Bool} {n p m : ℕ}
    (q : Left test n p m) where
  module _ (wait : S → S)
      (rests : (k : ℕ) → p ≤ k → k < n → test k ≡ false → F k ≡ times wait (k - p) (F p) → at k (F k) ≡ wait (F k)) where
    -- where no test holds from p on and below j
    fold_gap : (j : ℕ) → p ≤ j → j ≤ n → ((u : ℕ) → p ≤ u → u < j → test u ≡ false) → F j ≡ times wait (j - p) (F p)
    unfolding times
    fold_gap zero h l none = let e : p ≡ 0 = omega arith in rw e refl
    fold_gap (suc j) h l none =
        by_cases (ℕ_discrete p (suc j)) (λ e. rw e (ap (λ (k : ℕ). times wait k (F (suc j))) (none_left (suc j))))
        (λ f. let g : p ≤ j = omega (arith, f) in
        let so = fold_gap j g (omega arith) (λ u a b. none u a (omega arith)) in
        more j ∙ rests j g l (none j g (omega arith)) so ∙ ap wait so ∙ ap (λ (k : ℕ). times wait k (F p)) (one_more g))
      where
        none_left : (k : ℕ) → 0 ≡ k - k
        none_left k = omega arith

        one_more : p ≤ j → suc (j - p) ≡ suc j - p
        one_more h = omega arith

    pub fold_to : {w : ℕ} → Lowest m w → F w ≡ times wait (w - p) (F p)
    fold_to {w} low = fold_gap w (left_ahead q low) (le_of_lt (left_known q low)) (left_none q low)

    pub fold_end : p ≤ n → m ≡ 0 → F n ≡ times wait (n - p) (F p)
    fold_end h e = fold_gap n h (le_refl n) (left_over (rw e at q))

  module _ (rests : (k : ℕ) → p ≤ k → k < n → test k ≡ false → F k ≡ F p → at k (F k) ≡ F k) where
    skips : (k : ℕ) → p ≤ k → k < n → test k ≡ false → F k ≡ times (λ x. x) (k - p) (F p) → at k (F k) ≡ F k
    skips k h l t e = rests k h l t (e ∙ times_none (k - p) (F p))

    pub fold_skip_to : {w : ℕ} → Lowest m w → F w ≡ F p
    fold_skip_to {w} low = fold_to (λ x. x) skips low ∙ times_none (w - p) (F p)

    pub fold_skip_next : {w : ℕ} → Lowest m w → F (suc w) ≡ at w (F p)
    fold_skip_next {w} low = more w ∙ ap (at w) (fold_skip_to low)

    pub fold_skip_end : p ≤ n → m ≡ 0 → F n ≡ F p
    fold_skip_end h e = fold_end (λ x. x) skips h e ∙ times_none (n - p) (F p)
