-- Lines that are handed on whole: the state stays good, and no more lines are filled.
--   Moved line line' from == line' v, if it is not empty, is line (from v); no two come from one, and none that is not empty is lost
use mathlib.Core.Path.{◌≡◌, refl, sym, ap, ◌∙◌}
use mathlib.Core.Logic.Dec
use mathlib.Core.Logic.{◌⊎◌, inl, inr, ◌≢◌, by_cases}
use mathlib.Core.List.{List, [], ◌∷◌, cons-ne-nil}
use Prim.Native.Nat.{ℕ, ◌≤◌, ◌<◌, zero-le}
use native.Mathlib.Nat.{not-suc-le-zero, lt_of_not-le, le_trans, le_of_eq}
use native.Mathlib.Omega.{arith}
use native.Mathlib.Decide.{ℕ_discrete, dec_le}
use Rattle.lines.proofs.Laws.Bounded.{find}
use Rattle.lines.proofs.Laws.Shape.{Shape, Chain, Good}
use Rattle.lines.proofs.Laws.Member.{◌∈◌}
use Rattle.lines.proofs.Laws.Sum.{sum, only, only_yes, sum_le, sum_zero, sum_swap, sum_term, sum_only}
use Rattle.lines.proofs.Laws.Weight.{full, filled}

pub record Moved (line line' : ℕ → List ℕ) (from : ℕ → ℕ) : Type 0 where
  pub same : (v : ℕ) → line' v ≢ [] → line' v ≡ line (from v)
  pub apart : (u v : ℕ) → line' u ≢ [] → line' v ≢ [] → from u ≡ from v → u ≡ v
  pub all : (u : ℕ) → line u ≢ [] → (v : ℕ) × (line' v ≡ line u)

filled_by : (l : List ℕ) (x : ℕ) → x ∈ l → l ≢ []
filled_by l x m e = absurd (rw e at m)

module _ {P : Shape} {next : ℕ → ℕ} {line line' : ℕ → List ℕ} {from : ℕ → ℕ} (good : Good P next line) (moved : Moved line line' from) where
  old : (v x : ℕ) → x ∈ line' v → x ∈ line (from v)
  old v x m = rw (moved.same v (filled_by (line' v) x m)) at m

  chain' : (v : ℕ) (l : List ℕ) → line' v ≡ l → Chain P l
  chain' v [] e = tt
  chain' v (x ∷ l) e = rw (sym (moved.same v (filled_by (line' v) x (rw e (inl refl)))) ∙ e) at (good.chain (from v))

  pub relabel_good : Good P next line'
  relabel_good = record {
    closed = good.closed;
    chain = λ v. chain' v (line' v) refl;
    here = λ v x m. good.here (from v) x (old v x m);
    apart = λ u v x m i.
        moved.apart u v (filled_by (line' u) x m) (filled_by (line' v) x i) (good.apart (from u) (from v) x (old u x m) (old v x i));
    found = λ x a r.
        let (u, m) = good.found x a r in
        let (v, e) = moved.all u (filled_by (line u) x m) in
        (v, rw e m);
  }

full_none : (l : List ℕ) → 1 ≤ full l → l ≢ []
unfolding full
full_none [] h = absurd (not-suc-le-zero h)
full_none (x ∷ l) h = cons-ne-nil x l

-- and no more lines are filled than before
module _ {line line' : ℕ → List ℕ} {from : ℕ → ℕ} (moved : Moved line line' from) (size size' : ℕ)
    (past : (u : ℕ) → size ≤ u → line u ≡ []) where
  -- line v of the new ones is not empty and came from line u
  abbrev From : ℕ → ℕ → Type 0
  From u v = (u ≡ from v) × (1 ≤ full (line' v))

  -- line v, counted at the line that it came from
  came : ℕ → ℕ → ℕ
  came v u = only (ℕ_discrete u (from v)) (full (line' v))

  each_new : (v : ℕ) → full (line' v) ≤ sum size (came v)
  unfolding came
  each_new v = by_cases (dec_le 1 (full (line' v))) there (λ f. omega arith)
    where
      there : 1 ≤ full (line' v) → full (line' v) ≤ sum size (came v)
      there h =
          let e = moved.same v (full_none (line' v) h) in
          let b : from v < size = lt_of_not-le (λ g. full_none (line' v) h (e ∙ past (from v) g)) in
          omega (arith, sum_term size (came v) (from v) b, only_yes (ℕ_discrete (from v) (from v)) (full (line' v)) refl)

  each_old : (u : ℕ) → sum size' (λ v. came v u) ≤ full (line u)
  unfolding came only
  each_old u = go (find (From u) (λ v. Dec.and (ℕ_discrete u (from v)) (dec_le 1 (full (line' v)))) size')
    where
      zero_case : ((v : ℕ) → v < size' → ¬ From u v) → (v : ℕ) → v < size' → (d : Dec (u ≡ from v)) → only d (full (line' v)) ≤ 0
      zero_case f v b (yes e) = by_cases (dec_le 1 (full (line' v))) (λ h. absurd (f v b (e, h))) (λ h. omega arith)
      zero_case f v b (no g) = zero-le

      one_case : (x : ℕ) → u ≡ from x → 1 ≤ full (line' x) → (v : ℕ) (d : Dec (u ≡ from v)) (i : Dec (v ≡ x))
          → only d (full (line' v)) ≤ only i (full (line u))
      one_case x e h v (no g) i = zero-le
      one_case x e h v (yes q) (yes z) = le_of_eq (ap full (ap line' z ∙ (moved.same x (full_none (line' x) h) ∙ ap line (sym e))))
      one_case x e h v (yes q) (no z) =
          by_cases (dec_le 1 (full (line' v)))
          (λ g. absurd (z (moved.apart v x (full_none (line' v) g) (full_none (line' x) h) (sym q ∙ e)))) (λ g. omega arith)

      go : ((v : ℕ) × (v < size') × From u v) ⊎ ((v : ℕ) → v < size' → ¬ From u v) → sum size' (λ v. came v u) ≤ full (line u)
      go (inl (x, b, (e, h))) =
          le_trans (sum_le size' (λ v. came v u) (λ v. only (ℕ_discrete v x) (full (line u)))
          (λ v c. one_case x e h v (ℕ_discrete u (from v)) (ℕ_discrete v x)))
          (sum_only size' (λ v. full (line u)) x)
      go (inr f) =
          let z = sum_le size' (λ v. came v u) (λ v. 0) (λ v b. zero_case f v b (ℕ_discrete u (from v))) in
          omega (arith, sum_zero size')

  pub relabel_filled : filled size' line' ≤ filled size line
  unfolding filled
  relabel_filled =
      le_trans (sum_le size' (λ v. full (line' v)) (λ v. sum size (came v)) (λ v b. each_new v))
      (le_trans (le_of_eq (sum_swap size' size came))
      (sum_le size (λ u. sum size' (λ v. came v u)) (λ u. full (line u)) (λ u b. each_old u)))
