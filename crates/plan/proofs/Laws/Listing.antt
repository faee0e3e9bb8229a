-- How a list of places grows, and how to go from one listed place to the next.
use Prim.Native.Nat.{ℕ, zero, suc, ◌+◌, ◌-◌, ◌≤◌, ◌<◌}
use mathlib.Core.Path.{◌≡◌, refl, ap, sym, ◌∙◌}
use mathlib.Core.Logic.{◌≢◌}
use mathlib.Core.List.{List}
use native.Mathlib.Omega.{arith}
use native.Mathlib.Decide.{dec_lt}
use native.Mathlib.Nat.{add-zero, not-suc-le-zero}
use native.Mathlib.Numerals.{add-one}
use lib.Dec.{ltb, lt→ltb, ltb→lt}
use lib.ListN.{length, get_or, take, set, length-set}
use lib.Seq.{get_or-set_same, get_or-set_other}
use Rattle.std.specs.Int.{from_bool}
use Rattle.std.proofs.lemmas.List.{get_or-take, length-take}
use Rattle.plan.specs.Listed.{entry, upto, Listed}
use Rattle.plan.proofs.Laws.Lists.{true_of, false_of}

-- nothing is listed
pub listed_start : (f : ℕ → ℕ) (l : List ℕ) → length l ≡ 2048 → Listed f 0 0 l
listed_start f l h =
    record {
      long = h;
      few = omega arith;
      below = λ m b. absurd (not-suc-le-zero b);
      some = λ m b. absurd (not-suc-le-zero b);
      rises = λ m b. absurd (not-suc-le-zero b);
      none = λ m i b. absurd (not-suc-le-zero b);
      rest = λ i g b. absurd (not-suc-le-zero b);
    }

-- place k is put down behind the listed ones, and counts where f is not 0 there
module _ (f : ℕ → ℕ) (k count : ℕ) (l : List ℕ) (g : Listed f k count l) (h : k < 2048) where
  new : List ℕ
  new = set l count k

  old_at : (m : ℕ) → m < count → get_or new m 0 ≡ get_or l m 0
  unfolding new
  old_at m b = get_or-set_other l count m k 0 (λ e. omega arith)

  new_at : get_or new count 0 ≡ k
  unfolding new
  new_at = get_or-set_same l count k 0 (omega (arith, g.long, g.few))

  old_upto : (m : ℕ) → m ≤ count → upto new m ≡ upto l m
  old_upto zero b = refl
  old_upto (suc m) b = ap suc (old_at m b)

  upto_below : (m : ℕ) → m ≤ count → upto l m ≤ k
  upto_below zero b = omega arith
  upto_below (suc m) b = g.below m b

  old_none : (m i : ℕ) → m < count → upto new m ≤ i → i < get_or new m 0 → f i ≡ 0
  old_none m i b c d = g.none m i b (omega (arith, old_upto m (omega arith))) (omega (arith, old_at m b))

  listed_none : f k ≡ 0 → Listed f (suc k) count (set l count k)
  unfolding new
  listed_none e =
      record {
        long = length-set l count k ∙ g.long;
        few = omega (arith, g.few);
        below = λ m b. omega (arith, old_at m b, g.below m b);
        some = λ m b z. g.some m b (ap f (sym (old_at m b)) ∙ z);
        rises = λ m b. omega (arith, old_upto m (omega arith), old_at m b, g.rises m b);
        none = old_none;
        rest = λ i c b. rest_of i (omega (arith, old_upto count (omega arith))) b (dec_lt i k);
      }
    where
      rest_of : (i : ℕ) → upto l count ≤ i → i < suc k → Dec (i < k) → f i ≡ 0
      rest_of i c b (yes d) = g.rest i c d
      rest_of i c b (no d) = let q : i ≡ k = omega arith in rw q e

  listed_one : f k ≢ 0 → Listed f (suc k) (suc count) (set l count k)
  unfolding new
  listed_one e =
      record {
        long = length-set l count k ∙ g.long;
        few = omega (arith, g.few);
        below = λ m b. below_of m b (dec_lt m count);
        some = λ m b. some_of m b (dec_lt m count);
        rises = λ m b. rises_of m b (dec_lt m count);
        none = λ m i b c d. none_of m i b c d (dec_lt m count);
        rest = λ i c b. absurd (omega (arith, new_at));
      }
    where
      below_of : (m : ℕ) → m < suc count → Dec (m < count) → get_or new m 0 < suc k
      below_of m b (yes d) = omega (arith, old_at m d, g.below m d)
      below_of m b (no d) = let q : m ≡ count = omega arith in rw q (omega (arith, new_at))

      some_of : (m : ℕ) → m < suc count → Dec (m < count) → f (get_or new m 0) ≡ 0 → ⊥
      some_of m b (yes d) z = g.some m d (ap f (sym (old_at m d)) ∙ z)
      some_of m b (no d) z =
          let q : m ≡ count = omega arith in
          e (sym (ap (λ n. f (get_or new n 0)) q ∙ ap f new_at) ∙ z)

      rises_of : (m : ℕ) → m < suc count → Dec (m < count) → upto new m ≤ get_or new m 0
      rises_of m b (yes d) = omega (arith, old_upto m (omega arith), old_at m d, g.rises m d)
      rises_of m b (no d) =
          let q : m ≡ count = omega arith in
          rw q (omega (arith, old_upto count (omega arith), upto_below count (omega arith), new_at))

      none_of : (m i : ℕ) → m < suc count → upto new m ≤ i → i < get_or new m 0 → Dec (m < count) → f i ≡ 0
      none_of m i b c d (yes x) = old_none m i x c d
      none_of m i b c d (no x) =
          let q : m ≡ count = omega arith in
          g.rest i (omega (arith, ap (upto new) q, old_upto count (omega arith))) (omega (arith, ap (λ n. get_or new n 0) q, new_at))

  pub listed_more : (s more : ℕ) → s ≡ f k → more ≡ from_bool (ltb 0 s) → Listed f (k + 1) (count + more) (set l count k)
  listed_more s more e is = rw (is, add-one k) (go (dec_lt 0 s))
    where
      go : Dec (0 < s) → Listed f (suc k) (count + from_bool (ltb 0 s)) (set l count k)
      go (yes b) = rw (true_of (ltb 0 s) (lt→ltb 0 s b), add-one count) (listed_one (omega arith))
      go (no b) = rw (false_of (ltb 0 s) (λ t. b (ltb→lt 0 s t)), add-zero count) (listed_none (omega arith))

-- what each place of a row hands on to the next comes from the row's first place to its end
row : (P : ℕ → Type 0) (d a b : ℕ) → a + d ≡ b → ((i : ℕ) → a ≤ i → i < b → P i → P (suc i)) → P a → P b
row P zero a b e s x = let q : b ≡ a = omega arith in rw q x
row P (suc d) a b e s x =
    row P d (suc a) b (omega arith) (λ i h c. s i (omega arith) c) (s a (omega arith) (omega arith) x)

-- what goes over the places where f is 0 goes to the next listed place, and past the last one to the end
module _ (f : ℕ → ℕ) (n count : ℕ) (l : List ℕ) (g : Listed f n count l) (P : ℕ → Type 0) (over : (i : ℕ) → i < n → f i ≡ 0 → P i → P (suc i)) where
  pub to_next : (m : ℕ) → m < count → P (upto l m) → P (get_or l m 0)
  to_next m h x =
      let r = g.rises m h in
      row P (get_or l m 0 - upto l m) (upto l m) (get_or l m 0) (omega arith)
      (λ i b c y. over i (omega (arith, g.below m h)) (g.none m i h b c) y) x

  pub to_end : P (upto l count) → P n
  to_end x = row P (n - upto l count) (upto l count) n (omega (arith, reach count (omega arith))) (λ i b c y. over i c (g.rest i b c) y) x
    where
      reach : (m : ℕ) → m ≤ count → upto l m ≤ n
      reach zero b = omega arith
      reach (suc m) b = g.below m b

-- the place after a listed one
pub upto_more : (l : List ℕ) (m k : ℕ) → k ≡ get_or l m 0 → suc k ≡ upto l (m + 1)
upto_more l m k e = ap suc e ∙ ap (upto l) (sym (add-one m))

-- what is listed of the front of a row
pub listed_front : (row : List ℕ) (n many : ℕ) (l : List ℕ) → n ≤ length row
    → Listed (entry (take n row)) (length (take n row)) many l → Listed (entry row) n many l
listed_front row n many l h g =
    let e : length (take n row) ≡ n = omega (arith, length-take n row) in
    record {
      long = g.long;
      few = omega (arith, g.few);
      below = λ m b. omega (arith, g.below m b);
      some = λ m b z. g.some m b (get_or-take n row (get_or l m 0) 0 (omega (arith, g.below m b)) ∙ z);
      rises = g.rises;
      none = λ m i b c d. sym (get_or-take n row i 0 (omega (arith, g.below m b))) ∙ g.none m i b c d;
      rest = λ i c d. sym (get_or-take n row i 0 d) ∙ g.rest i c (omega (arith, e));
    }

-- the first places of a list alone
pub upto_take : (l : List ℕ) (n m : ℕ) → m ≤ n → upto (take n l) m ≡ upto l m
upto_take l n zero h = refl
upto_take l n (suc m) h = ap suc (get_or-take n l m 0 h)
