-- How many members of a list pass a test, also of its first members, and the numbers below a bound.
use Prim.Native.Nat.{ℕ, zero, suc, ◌+◌, ◌≤◌, ◌<◌}
use mathlib.Core.Path.{◌≡◌, refl, ap, sym, ◌∙◌}
use mathlib.Core.Bool.{Bool, true, false}
use mathlib.Core.List.{List, [], ◌∷◌, ◌++◌, map}
use native.Mathlib.Omega.{arith}
use native.Mathlib.Nat.{le_of_suc-le-suc, not-suc-le-zero, zero-add}
use native.Mathlib.Decide.{dec_lt}
use lib.Dec.{T}
use lib.ListN.{length, get_or, take, drop, length-append, take-append-drop, get_or-append}
use lib.Seq.{take-suc, get_or_at}
use Rattle.plan.specs.Test.{either, all, count, below}
use Rattle.plan.proofs.Laws.Lists.{of_true, all_at, all_by, true_of, false_of}

-- a test passes or not
pub dec_t : (b : Bool) → Dec (T b)
dec_t true = yes tt
dec_t false = no (λ x. x)

-- what a branch on a negated test tells
pub not_passed : (b : Bool) → b ≡ false → T b → ⊥
not_passed b e t = rw e at t

pub passed : (b : Bool) → b ≡ true → T b
passed b e = of_true b e

pub either_left : (a b : Bool) → T a → T (either a b)
either_left true b t = tt
either_left false b t = absurd t

pub either_right : (a b : Bool) → T b → T (either a b)
either_right true b t = tt
either_right false b t = t

-- two tests that pass and fail together
pub equal_tests : (a b : Bool) → (T a → T b) → ((T a → ⊥) → T b → ⊥) → a ≡ b
equal_tests true b f g = sym (true_of b (f tt))
equal_tests false b f g = sym (false_of b (g (λ x. x)))

module _ {A : Type 0} (f : A → Bool) where
  pub count_hit : (x : A) (l : List A) → T (f x) → count f (x ∷ l) ≡ suc (count f l)
  count_hit x l t = rw (count, true_of (f x) t)

  pub count_miss : (x : A) (l : List A) → (T (f x) → ⊥) → count f (x ∷ l) ≡ count f l
  count_miss x l n = rw (count, false_of (f x) n)

  pub count_append : (l m : List A) → count f (l ++ m) ≡ count f l + count f m
  count_append [] m = sym (zero-add (count f m))
  count_append (x ∷ l) m = go (dec_t (f x)) (count_append l m)
    where
      go : Dec (T (f x)) → count f (l ++ m) ≡ count f l + count f m → count f (x ∷ (l ++ m)) ≡ count f (x ∷ l) + count f m
      go (yes t) e = omega (arith, count_hit x l t, count_hit x (l ++ m) t)
      go (no n) e = omega (arith, count_miss x l n, count_miss x (l ++ m) n)

  -- the first members are no more than all
  pub count_take : (k : ℕ) (l : List A) → count f (take k l) ≤ count f l
  count_take k l = omega (arith, count_append (take k l) (drop k l), ap (count f) (take-append-drop k l))

  module _ (l : List A) (k : ℕ) (d : A) (h : k < length l) where
    -- one member more
    pub count_one_more : T (f (get_or l k d)) → count f (take (suc k) l) ≡ suc (count f (take k l))
    count_one_more t =
        rw (take-suc l k d h) (omega (arith, count_append (take k l) (get_or l k d ∷ []), count_hit (get_or l k d) [] t))

    pub count_no_more : (T (f (get_or l k d)) → ⊥) → count f (take (suc k) l) ≡ count f (take k l)
    count_no_more n =
        rw (take-suc l k d h) (omega (arith, count_append (take k l) (get_or l k d ∷ []), count_miss (get_or l k d) [] n))

  -- where none passes, the member at a place does not
  pub count_none : (l : List A) → count f l ≡ 0 → (d : A) (i : ℕ) → i < length l → T (f (get_or l i d)) → ⊥
  count_none [] e d i h t = not-suc-le-zero h
  count_none (x ∷ l) e d zero h t = omega (arith, count_hit x l t)
  count_none (x ∷ l) e d (suc i) h t = go (dec_t (f x)) (λ z. count_none l z d i (le_of_suc-le-suc h) t)
    where
      go : Dec (T (f x)) → (count f l ≡ 0 → ⊥) → ⊥
      go (yes s) r = omega (arith, count_hit x l s)
      go (no n) r = r (sym (count_miss x l n) ∙ e)

  -- where one passes, it stands at one place
  pub count_same : (l : List A) → count f l ≡ 1 → (d : A) (i j : ℕ) → i < length l → j < length l → T (f (get_or l i d)) → T (f (get_or l j d))
      → i ≡ j
  count_same [] e d i j h g s t = absurd (not-suc-le-zero h)
  count_same (x ∷ l) e d zero zero h g s t = refl
  count_same (x ∷ l) e d zero (suc j) h g s t =
      absurd (count_none l (omega (arith, count_hit x l s)) d j (le_of_suc-le-suc g) t)
  count_same (x ∷ l) e d (suc i) zero h g s t =
      absurd (count_none l (omega (arith, count_hit x l t)) d i (le_of_suc-le-suc h) s)
  count_same (x ∷ l) e d (suc i) (suc j) h g s t =
      go (dec_t (f x)) (λ z. count_same l z d i j (le_of_suc-le-suc h) (le_of_suc-le-suc g) s t)
    where
      go : Dec (T (f x)) → (count f l ≡ 1 → i ≡ j) → suc i ≡ suc j
      go (yes u) r = absurd (count_none l (omega (arith, count_hit x l u)) d i (le_of_suc-le-suc h) s)
      go (no n) r = ap suc (r (sym (count_miss x l n) ∙ e))

  -- where no place passes, none is counted; where at most one does, at most one is
  pub count_zero : (l : List A) (d : A) → ((i : ℕ) → i < length l → T (f (get_or l i d)) → ⊥) → count f l ≡ 0
  count_zero [] d h = refl
  count_zero (x ∷ l) d h = count_miss x l (h 0 (omega arith)) ∙ count_zero l d (λ i b. h (suc i) (omega arith))

  pub count_once : (l : List A) (d : A)
      → ((i k : ℕ) → i < length l → k < length l → T (f (get_or l i d)) → T (f (get_or l k d)) → i ≡ k) → count f l ≤ 1
  count_once [] d h = omega arith
  count_once (x ∷ l) d h = go (dec_t (f x)) (count_once l d (λ i k a b s t. omega (arith, h (suc i) (suc k) (omega arith) (omega arith) s t)))
    where
      go : Dec (T (f x)) → count f l ≤ 1 → count f (x ∷ l) ≤ 1
      go (yes t) r =
          omega (arith, count_hit x l t, count_zero l d (λ i b s. omega (arith, h 0 (suc i) (omega arith) (omega arith) t s)))
      go (no n) r = omega (arith, count_miss x l n)

  -- where one place passes and no other
  pub count_only : (l : List A) (d : A) (i : ℕ) → i < length l → T (f (get_or l i d))
      → ((k : ℕ) → k < length l → T (f (get_or l k d)) → k ≡ i) → count f l ≡ 1
  count_only l d i b t h = go (dec_lt 0 (count f l))
    where
      go : Dec (0 < count f l) → count f l ≡ 1
      go (yes some) = omega (arith, count_once l d (λ j k a c s u. h j a s ∙ sym (h k c u)))
      go (no none) = absurd (count_none l (omega arith) d i b t)

-- where each place of one list that passes its test stands for one of another that passes its own
module _ {A B : Type 0} (f : A → Bool) (g : B → Bool) (d : A) (e : B) where
  pub count_within : (l : List A) (m : List B) → length l ≡ length m → ((i : ℕ) → i < length l → T (f (get_or l i d)) → T (g (get_or m i e)))
      → count f l ≤ count g m
  count_within [] m h s = omega arith
  count_within (x ∷ l) [] h s = absurd (omega arith)
  count_within (x ∷ l) (y ∷ m) h s = go (dec_t (f x)) (dec_t (g y)) (count_within l m (omega arith) (λ i b. s (suc i) (omega arith)))
    where
      go : Dec (T (f x)) → Dec (T (g y)) → count f l ≤ count g m → count f (x ∷ l) ≤ count g (y ∷ m)
      go (yes t) (yes u) r = omega (arith, count_hit f x l t, count_hit g y m u)
      go (yes t) (no n) r = absurd (n (s 0 (omega arith) t))
      go (no n) (yes u) r = omega (arith, count_miss f x l n, count_hit g y m u)
      go (no n) (no k) r = omega (arith, count_miss f x l n, count_miss g y m k)

-- an array that holds f of a list's members, place by place
module _ {A : Type 0} (f : A → ℕ) (d : A) where
  holds_members : (l : List ℕ) (m : List A) → length m ≤ length l → ((k : ℕ) → k < length m → get_or l k 0 ≡ f (get_or m k d))
      → take (length m) l ≡ map f m
  holds_members l [] h g = refl
  holds_members [] (x ∷ m) h g = absurd (not-suc-le-zero h)
  holds_members (y ∷ l) (x ∷ m) h g =
      let e : y ≡ f x = g 0 (omega arith) in
      rw (e, holds_members l m (le_of_suc-le-suc h) (λ k b. g (suc k) (omega arith)))

  pub array_by : (l : List ℕ) (m : List A) (n : ℕ) → length m ≡ n → n ≤ length l → ((k : ℕ) → k < n → get_or l k 0 ≡ f (get_or m k d))
      → take n l ≡ map f m
  array_by l m n e h g = rw (← e) (holds_members l m (omega arith) (λ k b. g k (omega arith)))

pub below_length : (n : ℕ) → length (below n) ≡ n
below_length zero = refl
below_length (suc n) = rw length-append (omega (arith, below_length n))

pub below_at : (n i : ℕ) → i < n → get_or (below n) i 0 ≡ i
below_at zero i h = absurd (not-suc-le-zero h)
below_at (suc n) i h = go (dec_lt i n) (below_at n i)
  where
    go : Dec (i < n) → (i < n → get_or (below n) i 0 ≡ i) → get_or (below n ++ (n ∷ [])) i 0 ≡ i
    go (yes l) r =
        let b : i < length (below n) = omega (arith, below_length n) in
        get_or-append (below n) (n ∷ []) 0 i b ∙ r l
    go (no m) r =
        let e : i ≡ n = omega arith in
        rw e (get_or_at (below n) n [] 0 n (below_length n))

-- a test of all numbers below n
pub below_all : (f : ℕ → Bool) (n : ℕ) → T (all f (below n)) → (c : ℕ) → c < n → T (f c)
below_all f n t c h =
    rw (below_at n c h) at (all_at f (below n) t 0 c (omega (arith, below_length n)))

pub below_by : (f : ℕ → Bool) (n : ℕ) → ((c : ℕ) → c < n → T (f c)) → T (all f (below n))
below_by f n g = all_by f (below n) 0 (λ i b. at i (omega (arith, below_length n)))
  where
    at : (i : ℕ) → i < n → T (f (get_or (below n) i 0))
    at i b = rw (below_at n i b) (g i b)
