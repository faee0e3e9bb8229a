-- The lowest number that a test holds of.
--   Finds f n x == x is 0 and f holds of no number below n, or x is 1 plus the lowest that it holds of
--   finds       == so is what `lowest` gives
--   finds_one   == there is no other such x
use Prim.Native.Nat.{ℕ, zero, suc, ◌<◌}
use mathlib.Core.Path.{◌≡◌, refl}
use mathlib.Core.Bool.{Bool, true, false}
use mathlib.Core.Logic.{by_cases}
use mathlib.Core.List.{List, [], ◌∷◌, ◌++◌}
use native.Mathlib.Omega.{arith}
use native.Mathlib.Nat.{not-suc-le-zero}
use native.Mathlib.Decide.{dec_lt}
use lib.Dec.{T}
use Rattle.plan.specs.Test.{below}
use Rattle.plan.proofs.Laws.Lists.{true_of, false_of}
use Rattle.plan.proofs.Laws.Counts.{dec_t}
use Rattle.pools.specs.Take.{lowest}

module _ (f : ℕ → Bool) where
  pub record Finds (n x : ℕ) : Type 0 where
    pub none : x ≡ 0 → (i : ℕ) → i < n → ¬ T (f i)
    pub some : (j : ℕ) → x ≡ suc j → (j < n) × T (f j) × ((i : ℕ) → i < j → ¬ T (f i))

  -- what the first list has, or else the second
  abbrev or_else : ℕ → ℕ → ℕ
  or_else zero y = y
  or_else (suc j) y = suc j

  lowest_append : (l m : List ℕ) → lowest f (l ++ m) ≡ or_else (lowest f l) (lowest f m)
  unfolding lowest
  lowest_append [] m = refl
  lowest_append (j ∷ l) m = go (f j) (lowest_append l m)
    where
      go : (b : Bool) → lowest f (l ++ m) ≡ or_else (lowest f l) (lowest f m)
          → elim b [ true ↦ suc j | false ↦ lowest f (l ++ m) ] ≡ or_else (elim b [ true ↦ suc j | false ↦ lowest f l ]) (lowest f m)
      go true r = refl
      go false r = r

  last : (n x : ℕ) → Finds n x → Finds (suc n) (or_else x (lowest f (n ∷ [])))
  unfolding lowest
  last n (suc j) g = record {
    none = λ e. absurd (omega arith);
    some = λ i e. let (l, t, low) = g.some i e in (omega arith, t, low);
  }
  last n zero g = by (dec_t (f n))
    where
      by : Dec (T (f n)) → Finds (suc n) (lowest f (n ∷ []))
      by (yes t) =
          let e : lowest f (n ∷ []) ≡ suc n = rw (lowest, true_of (f n) t) in
          rw e (record {
            none = λ q. absurd (omega arith);
            some = λ j q. let z : j ≡ n = omega arith in rw z (omega arith, t, g.none refl);
          })
      by (no m) =
          let e : lowest f (n ∷ []) ≡ 0 = rw (lowest, false_of (f n) m) in
          rw e (record {
            none = λ q i h. by_cases (dec_lt i n) (λ l. g.none refl i l) (λ l. let z : i ≡ n = omega arith in rw z m);
            some = λ j q. absurd (omega arith);
          })

  pub finds : (n : ℕ) → Finds n (lowest f (below n))
  unfolding lowest
  finds zero = record { none = λ e i h. absurd (not-suc-le-zero h); some = λ j e. absurd (omega arith) }
  finds (suc n) = rw (lowest_append (below n) (n ∷ [])) (last n (lowest f (below n)) (finds n))

  -- where two are such, they are one
  pub finds_one : (n x y : ℕ) → Finds n x → Finds n y → x ≡ y
  finds_one n zero zero g h = refl
  finds_one n zero (suc j) g h = let (l, t, low) = h.some j refl in absurd (g.none refl j l t)
  finds_one n (suc i) zero g h = let (l, t, low) = g.some i refl in absurd (h.none refl i l t)
  finds_one n (suc i) (suc j) g h =
      let (l, t, low) = g.some i refl in
      let (l', t', low') = h.some j refl in
      let a : ¬ (i < j) = λ q. low' i q t in
      let b : ¬ (j < i) = λ q. low j q t' in
      omega arith
