-- In a good state every living job that has no living child is the first of a line.
--   ready_of    == a job that has no living child is ready
--   good_leaves == the lines of a good state are as Leaves says
use mathlib.Core.Path.{◌≡◌, refl}
use mathlib.Core.Logic.{◌⊎◌, inl, inr}
use mathlib.Core.List.{List, [], ◌∷◌}
use Prim.Native.Nat.{ℕ, ◌≤◌}
use native.Mathlib.Nat.{lt_of_not-le}
use native.Mathlib.Omega.{arith}
use Rattle.lines.proofs.Laws.Shape.{Shape, Valid, Living, Ready, Chain, Lone, Leads, Leaves, Good}
use Rattle.lines.proofs.Laws.Member.{◌∈◌}

module _ (P : Shape) where
  open P use {parent}

  -- no child lives, so those that were spawned have ended and sent their joins
  pub ready_of : Valid P → (next : ℕ → ℕ) (x : ℕ) → Lone P next x → Ready P next x
  ready_of ok next x none k b a l e j =
      let v = ok.joins k a (next x) b l j in
      lt_of_not-le (λ (h : next k ≤ a). none k b (v.0, (e, record { below = b; begun = λ i. rw e v.2; left = omega arith })))

  -- a job of a chain is its first, or the parent of another
  chain_child : (x h : ℕ) (l : List ℕ) → Chain P (h ∷ l) → x ∈ h ∷ l → (x ≡ h) ⊎ ((y : ℕ) × (y ∈ h ∷ l) × (1 ≤ y) × (parent y ≡ x))
  chain_child x h [] c (inl e) = inl e
  chain_child x h [] c (inr m) = absurd m
  chain_child x h (y ∷ l) c (inl e) = inl e
  chain_child x h (y ∷ l) c (inr m) = go (chain_child x y l c.2 m)
    where
      go : (x ≡ y) ⊎ ((z : ℕ) × (z ∈ y ∷ l) × (1 ≤ z) × (parent z ≡ x)) → (x ≡ h) ⊎ ((z : ℕ) × (z ∈ h ∷ (y ∷ l)) × (1 ≤ z) × (parent z ≡ x))
      go (inl e) = inr (h, inl refl, c.0, cc c.1)
      go (inr (z, i, o, e)) = inr (z, inr i, o, e)

  module _ (ok : Valid P) (next : ℕ → ℕ) (line : ℕ → List ℕ) (good : Good P next line) where
    leaf_first : (x : ℕ) → Living P next x → Lone P next x → Leads line x
    leaf_first x a none = let (w, m) = good.found x a (ready_of ok next x none) in at w m (line w) refl
      where
        at : (w : ℕ) → x ∈ line w → (l : List ℕ) → line w ≡ l → Leads line x
        at w m [] e = absurd (rw e at m)
        at w m (h ∷ l) e = go (chain_child x h l (rw e at (good.chain w)) (rw e at m))
          where
            go : (x ≡ h) ⊎ ((y : ℕ) × (y ∈ h ∷ l) × (1 ≤ y) × (parent y ≡ x)) → Leads line x
            go (inl q) = (w, l, rw q e)
            go (inr (y, i, o, q)) = let v = (good.here w y (rw e i)).0 in absurd (none y v.below (o, (q, v)))

    pub good_leaves : Leaves P next line
    good_leaves = record { known = λ w x l e. (good.here w x (rw e (inl refl))).0.below; leaf = leaf_first }
