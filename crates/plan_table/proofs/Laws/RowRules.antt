-- The row rules of a table, tested row by row from the front.
use Prim.Native.Nat.{ℕ, ◌+◌, ◌-◌, ◌≤◌, ◌<◌}
use mathlib.Core.Path.{◌≡◌, refl}
use mathlib.Core.Bool.{Bool, true, false}
use mathlib.Core.List.{List, [], ◌∷◌}
use native.Mathlib.Omega.{arith}
use native.Mathlib.Decide.{ℕ_discrete}
use lib.ListN.{length, drop, drop_of_length-le}
use lib.Dec.{eqb}
use borrow.Author.Tests.{ne_eqb}
use Rattle.plan.specs.Test.{both, all}
use Rattle.plan_table.specs.Table.{rows_of, rising, small, goes_on, row_rules}
use Rattle.plan_table.specs.GivenRows.{row_at, fits_at}
use Rattle.plan_table.proofs.Laws.Rows.{rows_of_drop}

-- what is left to test below the row before `at`
abbrev left : List ℕ → ℕ → Bool
left t at = both (rising (row_at t (at - 5)) (rows_of (drop at t))) (all small (rows_of (drop at t)))

abbrev chosen : Bool → Bool → Bool → Bool
chosen true x y = x
chosen false x y = y

-- what is left to test from `at` on
abbrev pub rules_from : List ℕ → ℕ → Bool
rules_from t at = chosen (eqb at 0) (row_rules (rows_of t)) (left t at)

first_regroup : (x r s l : Bool) → both x (both r (both s l)) ≡ both (both s x) (both r l)
first_regroup true true true l = refl
first_regroup true true false l = refl
first_regroup true false true l = refl
first_regroup true false false l = refl
first_regroup false r true l = refl
first_regroup false r false l = refl

next_regroup : (x r s l : Bool) → both (both x r) (both s l) ≡ both (both s x) (both r l)
next_regroup true true true l = refl
next_regroup true true false l = refl
next_regroup true false true l = refl
next_regroup true false false l = refl
next_regroup false r true l = refl
next_regroup false r false l = refl

rules_first : (t : List ℕ) → 5 ≤ length t → rules_from t 0 ≡ both (fits_at t 0) (rules_from t 5)
unfolding row_rules fits_at
rules_first t h =
    rw (rows_of_drop t 0 h)
    (first_regroup (eqb (row_at t 0).job 0) (rising (row_at t 0) (rows_of (drop 5 t))) (small (row_at t 0)) (all small (rows_of (drop 5 t))))

rules_next : (t : List ℕ) (at : ℕ) → (at ≡ 0 → ⊥) → at + 5 ≤ length t → rules_from t at ≡ both (fits_at t at) (rules_from t (at + 5))
unfolding fits_at
rules_next t at n h =
    let m : at + 5 ≡ 0 → ⊥ = λ e. omega arith in
    let b : at + 5 - 5 ≡ at = omega arith in
    rw (ne_eqb at 0 n, ne_eqb (at + 5) 0 m, b, rows_of_drop t at h)
    (next_regroup (goes_on (row_at t (at - 5)) (row_at t at)) (rising (row_at t at) (rows_of (drop (at + 5) t))) (small (row_at t at)) (all small (rows_of (drop (at + 5) t))))

-- a row's test comes off the front
pub rules_step : (t : List ℕ) (at : ℕ) → at + 5 ≤ length t → rules_from t at ≡ both (fits_at t at) (rules_from t (at + 5))
rules_step t at h = go (ℕ_discrete at 0)
  where
    go : Dec (at ≡ 0) → rules_from t at ≡ both (fits_at t at) (rules_from t (at + 5))
    go (yes e) = rw e (rules_first t (omega arith))
    go (no n) = rules_next t at n h

pub rules_end : (t : List ℕ) (at : ℕ) → 0 < at → length t ≤ at → rules_from t at ≡ true
rules_end t at n h =
    let m : at ≡ 0 → ⊥ = λ e. omega arith in
    rw (ne_eqb at 0 m, drop_of_length-le t h)

pub rules_empty : (b : Bool) (t : List ℕ) → length t ≡ 0 → both b (row_rules (rows_of t)) ≡ false
unfolding row_rules
rules_empty true [] e = refl
rules_empty false [] e = refl
rules_empty true (x ∷ t) e = absurd (omega arith)
rules_empty false (x ∷ t) e = refl
