-- The turns of a course: those of the actions that are done and those of the ones that were begun, no more than all actions take; and
-- each round in which some worker has a job has one.
--   up_to e j i    == how many turns the actions of job j before position i take
--   price e       == how many turns all actions take
--   had e c j     == how many turns were had with job j
--   course_worked == the turns of a course are those that were had with its jobs
--   turns_all     == in the end they are the price
--   course_most   == there are at most as many rounds as the price, but for those in which no worker has a job
use Prim.Native.Nat.{ℕ, zero, suc, ◌+◌, ◌-◌, ◌≤◌, ◌<◌}
use mathlib.Core.Path.{◌≡◌, refl, ap, sym, ◌∙◌}
use mathlib.Core.Logic.Dec
use mathlib.Core.Logic.{◌⊎◌, inl, inr, ◌≢◌, ⊎_elim}
use native.Mathlib.Omega.{arith}
use native.Mathlib.Nat.{eq-zero-or-pos, not-suc-le-zero, lt_of_not-le}
use native.Mathlib.Decide.{dec_le}
use lib.ListN.{length}
use Rattle.plan.specs.Plan.{size}
use Rattle.plan.specs.Rules.{Accepted}
use Rattle.plan_measure.proofs.Laws.Follows.{act}
use Rattle.lines.proofs.Laws.Bounded.{find}
use Rattle.lines.proofs.Laws.Sum.{sum, sum_le, sum_less, sum_same, sum_suc, sum_mono}
use Rattle.courses.proofs.Laws.Course.{Core, cost, next_in, spent_in, Terms, Course, begins, next_round, rests, works, ends}
use Rattle.courses.proofs.Laws.Kept.{course_kept, course_done}

module _ (e : Terms) where
  open e use {plan, workers}

  abbrev pub up_to : ℕ → ℕ → ℕ
  up_to j i = sum i (λ a. cost (act plan j a))

  abbrev pub price : ℕ
  price = sum (length plan) (λ j. up_to j (size plan j))

  abbrev pub had : Core → ℕ → ℕ
  had c j = up_to j (next_in c j) + spent_in c j

  step : (j i : ℕ) → up_to j (suc i) ≡ up_to j i + cost (act plan j i)
  unfolding sum
  step j i = refl

  -- a job whose next action has a turn left has had fewer turns than its actions take
  had_less : (c : Core) (j : ℕ) → next_in c j < size plan j → spent_in c j < cost (act plan j (next_in c j)) → had c j < up_to j (size plan j)
  had_less c j left more =
      omega (arith, step j (next_in c j), sum_mono (suc (next_in c j)) (size plan j) (λ a. cost (act plan j a)) left)

  module _ (ok : Accepted plan) where
    -- the turns are those of all jobs
    pub course_worked : {r m k : ℕ} {b : ℕ → ℕ} {c : Core} → Course e r m k b c → c.turns ≡ sum (length plan) (had c)
    unfolding sum
    course_worked (begins {b} {c} idle s h) = s.turns ∙ sym (none (length plan))
      where
        none : (n : ℕ) → sum n (had c) ≡ 0
        none zero = refl
        none (suc n) = omega (arith, none n, ap (up_to n) (s.none n), s.fresh n)
    course_worked (next_round t s h) = course_worked t
    course_worked (rests t q) = course_worked t
    course_worked (works {r} {m} {k} {j} {b} {c} {c'} t mine h s) =
        s.turns ∙ (ap suc (course_worked t) ∙ sym (sum_suc (length plan) (had c) (had c') j known here there))
      where
        known : j < length plan
        known = ((course_kept e ok t).lives k j (omega arith) mine).below

        here : had c' j ≡ suc (had c j)
        here = rw s.next (omega (arith, s.spends))

        there : (x : ℕ) → x ≢ j → had c' x ≡ had c x
        there x f = rw (s.next, s.others x f) refl
    course_worked (ends {r} {m} {k} {j} {b} {c} {c'} t mine h s l) =
        s.turns ∙ (ap suc (course_worked t) ∙ sym (sum_suc (length plan) (had c) (had c') j s.acts.known here there))
      where
        here : had c' j ≡ suc (had c j)
        here = omega (arith, s.fresh, ap (up_to j) s.acts.acts)

        there : (x : ℕ) → x ≢ j → had c' x ≡ had c x
        there x f = rw (s.acts.rests x f, s.others x f) refl

    had_most : {r m k : ℕ} {b : ℕ → ℕ} {c : Core} → Course e r m k b c → (j : ℕ) → j < length plan → had c j ≤ up_to j (size plan j)
    had_most {c = c} t j l =
        let bound = (course_kept e ok t).closed.bound j l in
        ⊎_elim (λ z. omega (arith, sum_mono (next_in c j) (size plan j) (λ a. cost (act plan j a)) bound))
        (λ z. let u = (course_kept e ok t).unpaid j z in omega (arith, had_less c j u.0 u.1))
        (eq-zero-or-pos (spent_in c j))

    pub turns_most : {r m k : ℕ} {b : ℕ → ℕ} {c : Core} → Course e r m k b c → c.turns ≤ price
    turns_most {c = c} t = omega (arith, course_worked t, sum_le (length plan) (had c) (λ j. up_to j (size plan j)) (had_most t))

    -- in the end all actions have had all their turns
    pub turns_all : {r m k : ℕ} {b : ℕ → ℕ} {c : Core} → Course e r m k b c → size plan 0 ≤ next_in c 0 → c.turns ≡ price
    turns_all {c = c} t ended = course_worked t ∙ sum_same (length plan) (had c) (λ j. up_to j (size plan j)) each
      where
        each : (j : ℕ) → j < length plan → had c j ≡ up_to j (size plan j)
        each j l =
            let d = course_done e ok t ended j l in
            ⊎_elim (λ z. omega (arith, ap (up_to j) d)) (λ z. absurd (omega (arith, (course_kept e ok t).unpaid j z)))
            (eq-zero-or-pos (spent_in c j))

    -- a round in which a worker has a job has a turn, once all that have one have had theirs
    course_turned : {r m k : ℕ} {b : ℕ → ℕ} {c : Core} → Course e r m k b c
        → (r ≤ suc (c.turns + m)) × (((w j : ℕ) → b w ≡ suc j → w < k) → r ≤ c.turns + m)
    course_turned (begins idle s h) = (omega arith, λ f. omega arith)
    course_turned (next_round t s (inr (h, none))) = let i = (course_turned t).1 s.over in (omega arith, λ f. omega arith)
    course_turned (next_round t s (inl (h, (w, j, q)))) =
        let i = (course_turned t).1 s.over in
        (omega arith, λ f. absurd (not-suc-le-zero (f w j q)))
    course_turned (rests {r} {m} {k} {b} {c} t q) = (
      (course_turned t).0,
      λ f. (course_turned t).1 (λ w j i. let g : w ≢ k = λ z. omega (arith, ap b z) in omega (arith, f w j i)),
    )
    course_turned (works t mine h s) = let i = (course_turned t).0 in (omega (arith, s.turns), λ f. omega (arith, s.turns))
    course_turned (ends t mine h s l) = let i = (course_turned t).0 in (omega (arith, s.turns), λ f. omega (arith, s.turns))

    -- so there are at most as many rounds as all actions take turns, but for those in which no worker has a job
    pub course_most : ((j i : ℕ) → j < length plan → i < size plan j → 1 ≤ cost (act plan j i))
        → {r m k : ℕ} {b : ℕ → ℕ} {c : Core} → Course e r m k b c → r ≤ price + m
    course_most positive {r} {m} {k} {b} {c} t =
        go (find (λ w. (k ≤ w) × (1 ≤ b w)) (λ w. Dec.and (dec_le k w) (dec_le 1 (b w))) workers)
      where
        -- a job that is in hand has a turn still to come
        more : (w j : ℕ) → k ≤ w → b w ≡ suc j → c.turns < price
        more w j l q =
            let a = (course_kept e ok t).lives w j l q in
            let h : had c j < up_to j (size plan j) = ⊎_elim
            (λ z. had_less c j a.left (omega (arith, positive j (next_in c j) a.below a.left)))
            (λ z. let u = (course_kept e ok t).unpaid j z in had_less c j u.0 u.1) (eq-zero-or-pos (spent_in c j)) in
            omega (arith, course_worked t, sum_less (length plan) (had c) (λ j. up_to j (size plan j)) (had_most t) j a.below h)

        go : ((w : ℕ) × (w < workers) × ((k ≤ w) × (1 ≤ b w))) ⊎ ((w : ℕ) → w < workers → ¬ ((k ≤ w) × (1 ≤ b w))) → r ≤ price + m
        go (inl (w, l, (h, i))) = omega (arith, (course_turned t).0, more w (b w - 1) h (omega arith))
        go (inr f) =
            let all : (w j : ℕ) → b w ≡ suc j → w < k =
            λ w j q. lt_of_not-le (λ h. f w ((course_kept e ok t).known w j q) (h, omega arith)) in
            omega (arith, (course_turned t).1 all, turns_most t)
