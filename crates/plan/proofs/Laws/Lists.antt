-- Tests of lists, and lists by their members.
use Prim.Native.Nat.{ℕ, zero, suc, ◌<◌}
use mathlib.Core.Path.{◌≡◌, refl}
use mathlib.Core.Bool.{Bool, true, false}
use mathlib.Core.List.{List, [], ◌∷◌, map}
use native.Mathlib.Omega.{arith}
use native.Mathlib.Nat.{le_of_suc-le-suc, not-suc-le-zero}
use lib.Dec.{T}
use lib.ListN.{length, get_or, take, replicate}
use lib.Seq.{get_or-take}
use Rattle.plan.specs.Test.{both, all}
use Rattle.plan.specs.Told.{Told}

pub both_intro : (a b : Bool) → T a → T b → T (both a b)
both_intro true b s t = t
both_intro false b s t = s

pub both_left : (a b : Bool) → T (both a b) → T a
both_left true b t = tt
both_left false b t = t

pub both_right : (a b : Bool) → T (both a b) → T b
both_right true b t = t
both_right false b t = absurd t

pub true_of : (b : Bool) → T b → b ≡ true
true_of true t = refl
true_of false t = absurd t

pub of_true : (b : Bool) → b ≡ true → T b
of_true b e = rw e tt

pub false_of : (b : Bool) → (T b → ⊥) → b ≡ false
false_of true f = absurd (f tt)
false_of false f = refl

module _ {A : Type 0} where
  -- a test of all members holds at each place
  pub all_at : (f : A → Bool) (l : List A) → T (all f l) → (d : A) (i : ℕ) → i < length l → T (f (get_or l i d))
  all_at f [] t d i h = absurd (not-suc-le-zero h)
  all_at f (x ∷ l) t d zero h = both_left (f x) (all f l) t
  all_at f (x ∷ l) t d (suc i) h = all_at f l (both_right (f x) (all f l) t) d i (le_of_suc-le-suc h)

  -- a test that holds at each place holds of all members
  pub all_by : (f : A → Bool) (l : List A) (d : A) → ((i : ℕ) → i < length l → T (f (get_or l i d))) → T (all f l)
  all_by f [] d h = tt
  all_by f (x ∷ l) d h = both_intro (f x) (all f l) (h 0 (omega arith)) (all_by f l d (λ i b. h (suc i) (omega arith)))

  -- an array whose first places hold f of a list's members
  pub array_at : (f : A → ℕ) (l : List ℕ) (m : List A) (d : A) (n : ℕ) → take n l ≡ map f m → length m ≡ n → (k : ℕ) → k < n
      → get_or l k 0 ≡ f (get_or m k d)
  array_at f l m d n e h k b =
      let step : get_or (take n l) k 0 ≡ get_or l k 0 = get_or-take n l k 0 b in
      rw (← step, e) (map_at m k (omega arith))
    where
      map_at : (m : List A) (k : ℕ) → k < length m → get_or (map f m) k 0 ≡ f (get_or m k d)
      map_at [] k b = absurd (not-suc-le-zero b)
      map_at (x ∷ m) zero b = refl
      map_at (x ∷ m) (suc k) b = map_at m k (le_of_suc-le-suc b)

-- an array that is all zeros
pub zeros_at : (n k : ℕ) → ◌≡◌ {A = ℕ} (get_or (replicate n 0) k 0) 0
zeros_at zero k = refl
zeros_at (suc n) zero = refl
zeros_at (suc n) (suc k) = zeros_at n k

-- an answer that is known
pub told_yes : {A B : Type 0} → A → Told true A B
told_yes a = record { kept = λ _. a; broken = λ f. absurd (f tt) }

pub told_no : {A B : Type 0} → B → Told false A B
told_no b = record { kept = λ x. absurd x; broken = λ _. b }
