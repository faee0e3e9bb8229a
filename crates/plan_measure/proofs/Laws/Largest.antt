-- Members of a list, the largest value of a function over them, and how many pass a test.
use Prim.Native.Nat.{ℕ, zero, suc, ◌+◌, ◌≤◌, ◌<◌, max}
use Rattle.std.specs.Ordering.{ord_max, nat_cmp}
use Rattle.std.proofs.lemmas.Bool.Decides.{nat_tests}
use mathlib.Core.Path.{◌≡◌, refl, ap, sym}
use mathlib.Core.Logic.{inl, inr}
use mathlib.Core.Bool.{Bool, true, false}
use mathlib.Core.List.{List, [], ◌∷◌, ◌++◌}
use native.Mathlib.Omega.{arith}
use native.Mathlib.Nat.{le_of_suc-le-suc, not-suc-le-zero}
use native.Mathlib.Decide.{dec_le, dec_lt}
use lib.Dec.{T}
use lib.ListN.{length, get_or}
use Rattle.plan.specs.Test.{largest, count, below}
use Rattle.plan.proofs.Laws.Counts.{count_hit, count_miss}
use Rattle.plan_measure.specs.Measure.{Member}

module _ {A : Type 0} where
  pub member_at : (l : List A) (d : A) (i : ℕ) → i < length l → Member (get_or l i d) l
  member_at [] d i h = absurd (not-suc-le-zero h)
  member_at (x ∷ l) d zero h = inl refl
  member_at (x ∷ l) d (suc i) h = inr (member_at l d i (le_of_suc-le-suc h))

  pub member_place : (l : List A) (d x : A) → Member x l → (i : ℕ) × (i < length l) × (get_or l i d ≡ x)
  member_place [] d x m = absurd m
  member_place (y ∷ l) d x (inl e) = (0, omega arith, sym e)
  member_place (y ∷ l) d x (inr m) = let (i, h, e) = member_place l d x m in (suc i, omega arith, e)

  -- no value is above the largest, which is at most any bound of the values
  pub largest_above : (f : A → ℕ) (l : List A) (x : A) → Member x l → f x ≤ largest f l
  largest_above f [] x m = absurd m
  largest_above f (y ∷ l) x (inl e) = omega (arith, ap f e)
  largest_above f (y ∷ l) x (inr m) = omega (arith, largest_above f l x m)

  pub largest_within : (f : A → ℕ) (l : List A) (n : ℕ) → ((x : A) → Member x l → f x ≤ n) → largest f l ≤ n
  largest_within f [] n h = omega arith
  largest_within f (y ∷ l) n h = omega (arith, h y (inl refl), largest_within f l n (λ x m. h x (inr m)))

  -- a member has the largest value, unless that is 0
  pub largest_attained : (f : A → ℕ) (l : List A) → 1 ≤ largest f l → (x : A) × Member x l × (f x ≡ largest f l)
  largest_attained f [] h = absurd (not-suc-le-zero h)
  largest_attained f (y ∷ l) h = go (dec_le (largest f l) (f y)) (λ b. largest_attained f l b)
    where
      go : Dec (largest f l ≤ f y) → (1 ≤ largest f l → (x : A) × Member x l × (f x ≡ largest f l))
          → (x : A) × Member x (y ∷ l) × (f x ≡ largest f (y ∷ l))
      go (yes a) r = (y, inl refl, omega arith)
      go (no n) r = let (x, m, e) = r (omega arith) in (x, inr m, omega arith)

  pub largest_same : (f g : A → ℕ) (l : List A) → ((x : A) → Member x l → f x ≡ g x) → largest f l ≡ largest g l
  largest_same f g [] h = refl
  largest_same f g (y ∷ l) h = omega (arith, h y (inl refl), largest_same f g l (λ x m. h x (inr m)))

  pub largest_append : (f : A → ℕ) (l m : List A) → largest f (l ++ m) ≡ max (largest f l) (largest f m)
  largest_append f [] m = omega arith
  largest_append f (x ∷ l) m = omega (arith, largest_append f l m)

-- of two tests, the second passes wherever the first does
module _ {A : Type 0} (f g : A → Bool) (wider : (x : A) → T (f x) → T (g x)) where
  -- d more pass the second
  count_also : (d : ℕ) (x : A) (l : List A) → d + count f l ≤ count g l → d + count f (x ∷ l) ≤ count g (x ∷ l)
  count_also d x l h = go (f x) (g x) (wider x)
    where
      go : (a b : Bool) → (T a → T b)
          → d + elim a [ true ↦ suc (count f l) | false ↦ count f l ] ≤ elim b [ true ↦ suc (count g l) | false ↦ count g l ]
      go true true i = omega arith
      go true false i = absurd (i tt)
      go false true i = omega arith
      go false false i = h

  count_wider : (l : List A) → 0 + count f l ≤ count g l
  count_wider [] = omega arith
  count_wider (x ∷ l) = count_also 0 x l (count_wider l)

  -- and for a member it does where the first does not: then more pass the second
  pub count_more : (x : A) → (T (f x) → ⊥) → T (g x) → (l : List A) → Member x l → 1 + count f l ≤ count g l
  count_more x n t [] m = absurd m
  count_more x n t (y ∷ l) (inl e) =
      omega (arith, count_miss f y l (rw e at n), count_hit g y l (rw e at t), count_wider l)
  count_more x n t (y ∷ l) (inr m) = count_also 1 y l (count_more x n t l m)

-- the numbers below one more
pub largest_more : (f : ℕ → ℕ) (n : ℕ) → largest f (below (suc n)) ≡ max (largest f (below n)) (f n)
largest_more f n = omega (arith, largest_append f (below n) (n ∷ []))

below_last : (l : List ℕ) (n : ℕ) → ((k : ℕ) → Member k l → k < n) → (k : ℕ) → Member k (l ++ (n ∷ [])) → k < suc n
below_last [] n h k (inl e) = omega arith
below_last [] n h k (inr m) = absurd m
below_last (x ∷ l) n h k (inl e) = omega (arith, h x (inl refl))
below_last (x ∷ l) n h k (inr m) = below_last l n (λ y i. h y (inr i)) k m

pub below_member : (n k : ℕ) → Member k (below n) → k < n
below_member zero k m = absurd m
below_member (suc n) k m = below_last (below n) n (below_member n) k m

member_front : {A : Type 0} (x : A) (l m : List A) → Member x l → Member x (l ++ m)
member_front x [] m i = absurd i
member_front x (y ∷ l) m (inl e) = inl e
member_front x (y ∷ l) m (inr i) = inr (member_front x l m i)

member_last : {A : Type 0} (x : A) (l : List A) (y : A) → x ≡ y → Member x (l ++ (y ∷ []))
member_last x [] y e = inl e
member_last x (z ∷ l) y e = inr (member_last x l y e)

pub member_below : (n k : ℕ) → k < n → Member k (below n)
member_below zero k h = absurd (not-suc-le-zero h)
member_below (suc n) k h = go (dec_lt k n) (member_below n k)
  where
    go : Dec (k < n) → (k < n → Member k (below n)) → Member k (below (suc n))
    go (yes b) r = member_front k (below n) (n ∷ []) (r b)
    go (no b) r = member_last k (below n) n (omega arith)

-- the method `max` at numbers
pub max_told : (a b : ℕ) → ord_max nat_cmp a b ≡ max a b
max_told a b = grind (arith, nat_tests)
