-- One action, read in the window from the byte of its place on.
--   number_held, number_short == a number in a window, and that its bits ran out
--   marked_below              == such a number is at most 256
--   left s at                 == the bytes from that of place at on
--   no_child, no_target, no_cost, cost_none, all_read == the action at a place is two numbers and a cost there
use Prim.Native.Nat.{ℕ, zero, suc, ◌+◌, ◌*◌, ◌/◌, ◌%◌, ◌^◌, ◌≤◌, ◌<◌}
use native.Mathlib.Nat.{add-zero, mul-zero, mul-one}
use native.Mathlib.Numerals.{add-one}
use native.Mathlib.Omega.{arith}
use native.Mathlib.Decide.{dec_le}
use mathlib.Core.Path.{◌≡◌, refl, ap, ◌∙◌}
use mathlib.Core.Bool.{Bool, true, false}
use mathlib.Core.List.{List}
use borrow.Author.Tests.{ne_eqb}
use lib.Dec.{eqb}
use lib.ListN.{drop}
use Rattle.fields.specs.declared.field.Window.{Window}
use Rattle.fields.specs.Field.{stop, step, then, field_at}
use Rattle.fields.specs.FieldParts.{Windowed}
use Rattle.fields.proofs.Laws.Window.{window_field, window_short, window_behind, moved, field_moved}
use Rattle.plan.specs.Reader.{number_at, cost_in, action_at}
use Rattle.plan.specs.Action.{cost_field}
use Rattle.plan.proofs.Laws.Steps.{step_cases, bool_cases, cost_is}

-- ---- a number in a window

module _ (w : Window) (t : List ℕ) (is : Windowed w t) (at : ℕ) (h : at ≤ 23) where
  -- the bits from bit `at` on, at the top of 32, and the first of them
  abbrev from : ℕ
  from = w.bits * 2 ^ at % 2 ^ 64 % 4294967296

  abbrev there : ℕ
  there = from / 2147483648

  first : at + 1 ≤ w.held → field_at t 1 at ≡ step there (at + 1)
  first b = window_field w t is at 1 (omega arith) b

  pub number_short : w.held < at + 1 + 8 * there → number_at t at ≡ stop 1
  unfolding number_at
  number_short b = go (dec_le (at + 1) w.held)
    where
      go : Dec (at + 1 ≤ w.held) → number_at t at ≡ stop 1
      go (no f) = rw (window_short w t is at 1 (omega arith) (omega arith))
      go (yes f) =
          let one : there ≡ 1 = omega arith in
          rw (first f, one, window_short w t is (at + 1) 8 (omega arith) (omega arith))

  pub number_held : at + 1 + 8 * there ≤ w.held → number_at t at ≡ step ((from / 8388608 % 256 + 1) * there) (at + 1 + 8 * there)
  unfolding number_at
  number_held b = go (dec_le there 0)
    where
      go : Dec (there ≤ 0) → number_at t at ≡ step ((from / 8388608 % 256 + 1) * there) (at + 1 + 8 * there)
      go (yes f) =
          let none : there ≡ 0 = omega arith in
          rw (first (omega arith), none, mul-zero (from / 8388608 % 256 + 1), add-zero (at + 1))
      go (no f) =
          let one : there ≡ 1 = omega arith in
          rw (first (omega arith), one, window_behind w t is at (omega arith) (omega arith), mul-one (from / 8388608 % 256 + 1), mul-one 8, add-one (from / 8388608 % 256))

pub marked_below : (a b : ℕ) → a ≤ 256 → b ≤ 1 → a * b ≤ 256
marked_below a zero h k = rw mul-zero (omega arith)
marked_below a (suc b) h k =
    let one : suc b ≡ 1 = omega arith in
    rw (one, mul-one) h

-- ---- behind whole bytes

module _ (s : List ℕ) (i : ℕ) where
  number_moved : (at : ℕ) → number_at s (8 * i + at) ≡ moved (8 * i) (number_at (drop i s) at)
  unfolding number_at
  number_moved at =
      rw (field_moved s i 1 at (λ _. omega arith)) (step_cases (field_at (drop i s) 1 at) (λ k e. rw e) (λ there m e. rw e (go there m)))
    where
      go :
          (there m : ℕ) → elim there [ zero ↦ step 0 (8 * i + m) | suc one ↦ then (field_at s 8 (8 * i + m)) (λ v at. step (suc v) at) ] ≡ moved {A = ℕ} (8 * i) (elim there [ zero ↦ step 0 m | suc one ↦ then (field_at (drop i s) 8 m) (λ v at. step (suc v) at) ])
      go zero m = refl
      go (suc one) m = rw (field_moved s i 8 m (λ _. omega arith)) (step_cases (field_at (drop i s) 8 m) (λ k e. rw e) (λ v n e. rw e))

  cost_moved : (form at : ℕ) → cost_in form s (8 * i + at) ≡ moved (8 * i) (cost_in form (drop i s) at)
  unfolding cost_in
  cost_moved form at = bool_cases (eqb form 1) (λ g. rw (g, cost_in)) (λ g.
      rw (g, cost_in, field_moved s i 4 at (λ _. omega arith)) (step_cases (field_at (drop i s) 4 at) (λ k e. rw e) (λ cost m e. rw e (go (eqb cost 0) cost m))))
    where
      go : (b : Bool) (cost m : ℕ) → elim b [ true ↦ stop 3 | false ↦ step cost (8 * i + m) ] ≡ moved {A = ℕ} (8 * i) (elim b [ true ↦ stop 3 | false ↦ step cost m ])
      go true cost m = refl
      go false cost m = refl

  action_moved : (form at : ℕ) → action_at form s (8 * i + at) ≡ moved (8 * i) (action_at form (drop i s) at)
  unfolding action_at
  action_moved form at =
      rw (number_moved at) (step_cases (number_at (drop i s) at) (λ k e. rw e) (λ spawn m e.
      rw (e, number_moved m) (step_cases (number_at (drop i s) m) (λ k f. rw f) (λ join n f.
      rw (f, cost_moved form n) (step_cases (cost_in form (drop i s) n) (λ k g. rw g) (λ cost q g. rw g))))))

-- ---- an action in the bytes from that of its place on

module _ (s : List ℕ) (at : ℕ) where
  abbrev pub left : List ℕ
  left = drop (at / 8) s

  module _ (form : ℕ) where
    action_at_lem : action_at form s at ≡ moved (8 * (at / 8)) (action_at form left (at % 8))
    action_at_lem =
        let e : at ≡ 8 * (at / 8) + at % 8 = omega arith in
        ap (action_at form s) e ∙ action_moved s (at / 8) form (at % 8)

    pub no_child : number_at left (at % 8) ≡ stop 1 → action_at form s at ≡ stop 1
    unfolding action_at
    no_child e = action_at_lem ∙ rw e

    module _ (v m : ℕ) (e : number_at left (at % 8) ≡ step v m) where
      pub no_target : number_at left m ≡ stop 1 → action_at form s at ≡ stop 1
      unfolding action_at
      no_target f = action_at_lem ∙ rw (e, f)

      module _ (u n : ℕ) (f : number_at left m ≡ step u n) where
        pub no_cost : cost_field form left n ≡ stop 1 → action_at form s at ≡ stop 1
        unfolding action_at
        no_cost g = action_at_lem ∙ rw (e, f, cost_is form left n, g)

        module _ (cost q : ℕ) (g : cost_field form left n ≡ step cost q) where
          pub cost_none : cost ≡ 0 → action_at form s at ≡ stop 3
          unfolding action_at
          cost_none h = action_at_lem ∙ rw (e, f, cost_is form left n, g, h)

          pub all_read : (cost ≡ 0 → ⊥) → action_at form s at ≡ step (record { spawn = v; join = u; cost = cost }) (8 * (at / 8) + q)
          unfolding action_at
          all_read h = action_at_lem ∙ rw (e, f, cost_is form left n, g, ne_eqb cost 0 h, then)
