-- The tests of the choices.
--   largest_step                    == the largest of the choices passed, of one more
--   too_many, largest_fit, none_fit == what the tests tell: of more than 4,096 choices, of some, of none
use Prim.Native.Nat.{ℕ, ◌+◌, ◌≤◌, ◌<◌, ◌-◌, max}
use mathlib.Core.Path.{◌≡◌, refl, sym}
use mathlib.Core.Bool.{Bool, true, false}
use mathlib.Core.List.{List, [], ◌∷◌, ◌++◌}
use native.Mathlib.Omega.{arith}
use native.Mathlib.Numerals.{add-one}
use lib.ListN.{length, get_or, take}
use lib.Seq.{take-suc}
use lib.Dec.{T, leb, ltb, leb→le, le→leb, ltb→lt, lt→ltb}
use Rattle.plan.specs.Test.{both, either, all}
use Rattle.plan.proofs.Laws.Lists.{both_left, both_right, both_intro, false_of, all_at, all_by}
use Rattle.plan.proofs.Laws.Counts.{either_right, equal_tests}
use Rattle.plan_measure.proofs.Laws.Largest.{member_at, member_place, largest_above, largest_within, largest_append}
use Rattle.runs.specs.Run.{choices_fit}
use Rattle.scheduler.specs.Choices.{largest_of}

pub largest_step : (l : List ℕ) (i : ℕ) → i < length l → max (largest_of (take i l)) (get_or l i 0) ≡ largest_of (take (i + 1) l)
largest_step l i h =
    let whole : take (i + 1) l ≡ take i l ++ (get_or l i 0 ∷ []) = rw add-one (take-suc l i 0 h) in
    rw whole (omega (arith, largest_append (λ x. x) (take i l) (get_or l i 0 ∷ [])))

module _ (n : ℕ) (l : List ℕ) where
  few : Bool
  few = both (leb (length l) 4096) (either (leb n 1) (leb 1 (length l)))

  pub too_many : 4096 < length l → false ≡ choices_fit n l
  unfolding choices_fit few
  too_many h =
      sym (false_of (choices_fit n l) (λ t.
      let counted = both_right (all (λ c. ltb c n) l) few t in
      omega (arith, leb→le (length l) 4096 (both_left (leb (length l) 4096) (either (leb n 1) (leb 1 (length l))) counted))))

  pub largest_fit : length l ≤ 4096 → 1 ≤ length l → ltb (largest_of l) n ≡ choices_fit n l
  unfolding choices_fit few
  largest_fit most some = equal_tests (ltb (largest_of l) n) (choices_fit n l) there (λ f t. f (back t))
    where
      there : T (ltb (largest_of l) n) → T (choices_fit n l)
      there t =
          both_intro (all (λ c. ltb c n) l) few
          (all_by (λ c. ltb c n) l 0 (λ i h.
          lt→ltb (get_or l i 0) n (omega (arith, ltb→lt (largest_of l) n t, largest_above (λ x. x) l (get_or l i 0) (member_at l 0 i h)))))
          (both_intro (leb (length l) 4096) (either (leb n 1) (leb 1 (length l))) (le→leb (length l) 4096 most)
          (either_right (leb n 1) (leb 1 (length l)) (le→leb 1 (length l) some)))

      back : T (choices_fit n l) → T (ltb (largest_of l) n)
      back t =
          let each : (i : ℕ) → i < length l → get_or l i 0 < n =
          λ i h. ltb→lt (get_or l i 0) n (all_at (λ c. ltb c n) l (both_left (all (λ c. ltb c n) l) few t) 0 i h) in
          let within : largest_of l ≤ n - 1 =
          largest_within (λ x. x) l (n - 1) (λ x m. let (i, h, e) = member_place l 0 x m in omega (arith, e, each i h)) in
          lt→ltb (largest_of l) n (omega (arith, each 0 (omega arith)))

pub none_fit : (n : ℕ) (l : List ℕ) → length l ≡ 0 → leb n 1 ≡ choices_fit n l
unfolding choices_fit
none_fit n [] e = go (leb n 1)
  where
    go : (b : Bool) → b ≡ either b false
    go true = refl
    go false = refl
none_fit n (x ∷ l) e = absurd (omega arith)
