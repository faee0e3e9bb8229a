-- Tests, and tests of every member of a list.
--   both a b      == a and b
--   either a b    == a or b
--   all f l       == f holds of each member of l
--   count f l     == how many members of l f holds of
--   largest f l   == the largest f x over the members x of l, 0 where l is empty
--   below n       == the numbers 0 to n - 1
use Rattle.std.specs.Prelude.{ℕ, zero, suc, max, Bool, true, false, List, [], ◌∷◌, ◌++◌}

abbrev pub both : Bool → Bool → Bool
both true b = b
both false b = false

abbrev pub either : Bool → Bool → Bool
either true b = true
either false b = b

module _ {A : Type 0} where
  abbrev pub all : (A → Bool) → List A → Bool
  all f [] = true
  all f (x ∷ l) = both (f x) (all f l)

  abbrev pub count : (A → Bool) → List A → ℕ
  count f [] = 0
  count f (x ∷ l) = elim (f x) [ true ↦ suc (count f l) | false ↦ count f l ]

  abbrev pub largest : (A → ℕ) → List A → ℕ
  largest f [] = 0
  largest f (x ∷ l) = max (f x) (largest f l)

abbrev pub below : ℕ → List ℕ
below zero = []
below (suc n) = below n ++ (n ∷ [])
