-- Chains of jobs: their parts are chains, and their numbers fall, since a parent is older than its child.
--   falls    == every job of a chain is below the first
--   last_low == the last job of a chain is below the others
use mathlib.Core.Path.{refl}
use mathlib.Core.Logic.{inl, inr}
use mathlib.Core.List.{List, [], ◌∷◌, ◌++◌}
use Prim.Native.Nat.{ℕ, ◌<◌}
use native.Mathlib.Omega.{arith}
use Rattle.lines.proofs.Laws.Member.{◌∈◌, in_back, put}
use Rattle.lines.proofs.Laws.Shape.{Shape, Valid, Chain}

module _ (P : Shape) where
  open P use {jobs}

  chain_tail : (h : ℕ) (l : List ℕ) → Chain P (h ∷ l) → Chain P l
  chain_tail h [] c = tt
  chain_tail h (y ∷ l) c = c.2

  pub chain_put : {A : Type 0} (d : Dec A) (h : ℕ) (l : List ℕ) → Chain P (h ∷ l) → Chain P (put d h l)
  unfolding put
  chain_put (yes a) h l c = c
  chain_put (no f) h l c = chain_tail h l c

  -- the numbers fall along a chain
  pub falls : Valid P → (h : ℕ) (l : List ℕ) → ((x : ℕ) → x ∈ h ∷ l → x < jobs) → Chain P (h ∷ l) → (x : ℕ) → x ∈ l → x < h
  falls ok h [] b c x m = absurd m
  falls ok h (y ∷ l) b c x m = go (falls ok y l (λ z i. b z (inr i)) c.2 x) m
    where
      below : y < h
      below = omega (arith, c.1, ok.older h c.0 (b h (inl refl)))

      go : (x ∈ l → x < y) → x ∈ y ∷ l → x < h
      go rec (inl e) = omega (arith, below)
      go rec (inr i) = omega (arith, below, rec i)

  pub chain_front : (l r : List ℕ) → Chain P (l ++ r) → Chain P l
  chain_front [] r c = tt
  chain_front (x ∷ []) r c = tt
  chain_front (x ∷ (y ∷ l)) r c = (c.0, c.1, chain_front (y ∷ l) r c.2)

  -- so the last number is below those before it
  pub last_low : Valid P → (l : List ℕ) (x : ℕ) → ((y : ℕ) → y ∈ l ++ (x ∷ []) → y < jobs) → Chain P (l ++ (x ∷ []))
      → (y : ℕ) → y ∈ l → x < y
  last_low ok [] x b c y m = absurd m
  last_low ok (z ∷ l) x b c y (inl e) = rw e (falls ok z (l ++ (x ∷ [])) b c x (in_back l (x ∷ []) x (inl refl)))
  last_low ok (z ∷ l) x b c y (inr m) = last_low ok l x (λ u i. b u (inr i)) (chain_tail z (l ++ (x ∷ [])) c) y m
