-- Every living job is the first job of some line or an ancestor of one.
--   Above P x h == h is x or descends from x
--   Covered x   == the first job of some line is x or descends from x
--   cover       == every living job is covered
--   busy        == some line is not empty as long as the root lives
use mathlib.Core.Path.{◌≡◌, refl, sym, ap, ◌∙◌}
use mathlib.Core.Logic.Dec
use mathlib.Core.Logic.{◌⊎◌, inl, inr}
use mathlib.Core.List.{List, ◌∷◌}
use Prim.Native.Nat.{ℕ, zero, suc, ◌+◌, ◌≤◌, ◌<◌}
use native.Mathlib.Omega.{arith}
use native.Mathlib.Decide.{ℕ_discrete, dec_le}
use Rattle.lines.proofs.Laws.Bounded.{find}
use Rattle.lines.proofs.Laws.Shape.{Shape, Valid, Living, living?, Heir, Lone, Leaves}

module _ (P : Shape) where
  open P use {jobs, parent}

  pub data Above (x : ℕ) : ℕ → Type 0 where
    self : {h : ℕ} → x ≡ h → Above x h
    up : {h : ℕ} → 1 ≤ h → Above x (parent h) → Above x h

  above_parent : {x y h : ℕ} → 1 ≤ y → parent y ≡ x → Above y h → Above x h
  above_parent {x} {y} {h} l p (self e) = up {h = h} (omega arith) (self (sym p ∙ ap parent e))
  above_parent l p (up m a) = up m (above_parent l p a)

  module _ (ok : Valid P) (next : ℕ → ℕ) (line : ℕ → List ℕ) (leaves : Leaves P next line) where
    abbrev pub Covered : ℕ → Type 0
    Covered x = (w : ℕ) × (h : ℕ) × (l : List ℕ) × (line w ≡ h ∷ l) × Above x h

    heir? : (x k : ℕ) → Dec (Heir P next x k)
    heir? x k = Dec.and (dec_le 1 k) (Dec.and (ℕ_discrete (parent k) x) (living? P next k))

    cover_below : (d x : ℕ) → jobs ≤ x + d → Living P next x → Covered x
    cover_below zero x e l = absurd (omega (arith, l.below))
    cover_below (suc d) x e l = go (cover_below d) (find (Heir P next x) (heir? x) jobs)
      where
        go : ((k : ℕ) → jobs ≤ k + d → Living P next k → Covered k) → ((k : ℕ) × (k < jobs) × Heir P next x k) ⊎ Lone P next x → Covered x
        go rec (inl (k, b, (o, (p, v)))) =
            let (w, h, r, e, a) = rec k (omega (arith, ok.older k o b)) v in
            (w, h, r, e, above_parent o p a)
        go rec (inr f) = let (w, r, q) = leaves.leaf x l f in (w, x, r, q, self refl)

    pub cover : (x : ℕ) → Living P next x → Covered x
    cover x l = cover_below jobs x (omega arith) l

    -- some line is not empty as long as the root lives
    pub busy : Living P next 0 → (w : ℕ) × (h : ℕ) × (l : List ℕ) × (line w ≡ h ∷ l)
    busy l = let (w, h, r, e, a) = cover 0 l in (w, h, r, e)
