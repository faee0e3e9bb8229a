-- From one round in which actions end to the next, by the marks.
--   marks_some  == between two rounds there is a mark, for somebody works
--   marks_range == the lowest mark is one of the next 15 rounds
--   marks_on    == the marks as of that round, in which the calendar is cleared
--   marks_waits == no action ends before it
use Prim.Native.Nat.{ℕ, zero, suc, ◌+◌, ◌-◌, ◌/◌, ◌%◌, ◌^◌, ◌≤◌, ◌<◌}
use mathlib.Core.Path.{◌≡◌, refl, sym, ap, subst, ◌∙◌}
use mathlib.Core.Logic.{◌≢◌, by_cases}
use mathlib.Core.Bool.{true, false, true≢false, not}
use mathlib.Core.List.{List}
use native.Mathlib.Nat.{div-one, div-le_self, div-div-eq-div-mul, pow-succ'}
use native.Mathlib.Omega.{arith}
use native.Mathlib.Decide.{ℕ_discrete, dec_lt}
use borrow.Author.Tests.{eq-eqb, ne_eqb, lt-ltb}
use lib.Dec.{eqb}
use lib.ListN.{length, get_or, set}
use lib.Seq.{get_or-set_same, get_or-set_other}
use Rattle.plan.specs.Plan.{Plan}
use Rattle.plan.specs.Test.{both}
use Rattle.courses.proofs.Laws.Pool.{pool_busy}
use Rattle.runs.specs.declared.worker.Worker.{Worker}
use Rattle.runs.proofs.Laws.Coursed.{hands_is}
use Rattle.plan.specs.declared.sheet.Sheet.{Sheet}
use Rattle.pool_set.specs.declared.Pool.{Pool}
use Rattle.turns.specs.declared.progress.Progress.{Progress}
use Rattle.pools.specs.State.{worker_of}
use Rattle.pools.proofs.Laws.Coursed.{Fit, trace_manned}
use Rattle.crew.specs.Crew.{member, whether, Lowest, Rest}
use Rattle.crew.proofs.Laws.Members.{member_none, member_small}
use Rattle.pool_runner.specs.Rounds.{Marks}
use Rattle.pool_runner.proofs.Laws.Standing.{Fitted, rest_of, Between, Waits}
use Rattle.pool_runner.proofs.Laws.Timing.{rest_most, rest_some}
use Rattle.pool_runner.proofs.Laws.Rounds.{begun_fit, waits_begin, waits_on}

-- `s >> k`
member_shift : (k s d : ℕ) → member (s / 2 ^ k) d ≡ member s (k + d)
unfolding member
member_shift zero s d = ap (λ x. member x d) (div-one s) ∙ ap (member s) (let e : d ≡ 0 + d = omega arith in e)
member_shift (suc k) s d =
    ap (λ x. member x d) (ap (λ x. s / x) (pow-succ' 2 k) ∙ sym (div-div-eq-div-mul s 2 (2 ^ k))) ∙ member_shift k (s / 2) d
    ∙ ap (member s) (let e : suc (k + d) ≡ suc k + d = omega arith in e)

empty : (x : ℕ) → not (eqb x 0) ≡ false → x ≡ 0
empty zero e = refl
empty (suc x) e = absurd (true≢false (sym (ap not (ne_eqb (suc x) 0 (λ z. omega arith))) ∙ e))

module _ (round : ℕ) {marks : ℕ} (ends : List ℕ) (s : Marks round marks ends) {by : ℕ} (low : Lowest marks by) where
  pub marks_range : (1 ≤ by) × (by < 16)
  marks_range = (
    by_cases (ℕ_discrete by 0) (λ e. absurd (true≢false (sym low.there ∙ ap (member marks) e ∙ s.here))) (λ f. omega arith),
    by_cases (dec_lt by 16) (λ l. l) (λ l. absurd (true≢false (sym low.there ∙ member_small 16 marks by s.small (omega arith)))),
  )

  -- nothing ends before the lowest mark
  none_before : (d : ℕ) → d < by → get_or ends ((round + d) % 16) 0 ≡ 0
  none_before d l = empty _ (sym (s.each d (omega (arith, marks_range))) ∙ low.none d l)

  pub marks_on : length ends ≡ 16 → {m : ℕ} → Rest marks m → Marks (round + by) (m / 2 ^ by) (set ends ((round + by) % 16) 0)
  marks_on long {m} rest = record {
    small = omega (arith, s.small, rest.less, div-le_self m (2 ^ by));
    here = is 0 ∙ ap (λ t. whether t false (member marks (by + 0))) (eq-eqb (by + 0) by (omega arith));
    each = λ d b. is d ∙ by_cases (ℕ_discrete d 0)
        (λ e. ap (λ t. whether t false (member marks (by + d))) (eq-eqb (by + d) by (omega arith))
        ∙ sym (ap (λ y. not (eqb y 0)) (ap (λ c. get_or (set ends ((round + by) % 16) 0) c 0) (let z : (round + by + d) % 16 ≡ (round + by) % 16 = omega arith in z)
        ∙ get_or-set_same ends ((round + by) % 16) 0 0 (omega arith))))
        (λ f. ap (λ t. whether t false (member marks (by + d))) (ne_eqb (by + d) by (λ e. f (let z : d ≡ 0 = omega arith in z)))
        ∙ later d b f
        ∙ sym (ap (λ y. not (eqb y 0)) (get_or-set_other ends ((round + by) % 16) ((round + by + d) % 16) 0 0
        (λ e. f (let z : d ≡ 0 = omega arith in z)))));
  }
    where
      is : (d : ℕ) → member (m / 2 ^ by) d ≡ whether (eqb (by + d) by) false (member marks (by + d))
      is d = member_shift by m d ∙ rest.each by (by + d) low

      later : (d : ℕ) → d < 16 → d ≢ 0 → member marks (by + d) ≡ not (eqb (get_or ends ((round + by + d) % 16) 0) 0)
      later d b f = by_cases (dec_lt (by + d) 16)
          (λ l. s.each (by + d) l
          ∙ ap (λ c. not (eqb (get_or ends c 0) 0)) (let z : (round + (by + d)) % 16 ≡ (round + by + d) % 16 = omega arith in z))
          (λ l. member_small 16 marks (by + d) s.small (omega arith)
          ∙ sym (ap (λ c. not (eqb (get_or ends c 0) 0))
          (let z : (round + by + d) % 16 ≡ (round + ((by + d) - 16)) % 16 = omega (arith, marks_range) in z)
          ∙ ap (λ y. not (eqb y 0)) (none_before ((by + d) - 16) (omega arith))))

module _ {p : Plan} {n : ℕ} {plan : Sheet} (g : Fitted p n plan) {r weighs peak idlers : ℕ}
    {workers : List Worker} {ends : List ℕ} {progress : Progress} {pool : Pool} {rows : List ℕ}
    (z : Between p n r weighs peak idlers workers ends progress pool rows) {marks : ℕ} (s : Marks r marks ends) where
  -- somebody works
  pub marks_some : 0 < marks
  marks_some =
      let fit : Fit p n = begun_fit g in
      let o = trace_manned fit z.begun.trace in
      let (w, j, e) = pool_busy p n fit.plan fit.some o z.begun.on in
      let m = rest_of p z.state w in
      let some : 1 ≤ m = rest_some fit z.begun.trace w j (hands_is (worker_of z.state w) j e) in
      let few : m ≤ 15 = rest_most fit z.begun.trace w in
      let there : member (get_or ends ((r + m) % 16) 0) w ≡ true =
      z.timed.each w ((r + m) % 16) (omega (arith, o.known w j e, g.most)) (omega arith)
      ∙ ap (λ b. both b (eqb ((r + m) % 16) ((r + m) % 16))) (lt-ltb 0 m some) ∙ eq-eqb ((r + m) % 16) ((r + m) % 16) refl in
      let ne : get_or ends ((r + m) % 16) 0 ≢ 0 = λ e. true≢false (sym there ∙ ap (λ x. member x w) e ∙ member_none w) in
      by_cases (ℕ_discrete marks 0)
      (λ e. absurd (true≢false (sym (s.each m (omega arith) ∙ ap not (ne_eqb _ 0 ne)) ∙ ap (λ x. member x m) e ∙ member_none m)))
      (λ f. omega arith)

  abbrev In : ℕ → Type 0
  In c = Waits p n c weighs peak idlers workers ends progress pool rows

  one_more : (c d : ℕ) → (c + suc d) + 1 ≡ c + suc (suc d)
  one_more c d = omega arith

  module _ {by : ℕ} (low : Lowest marks by) where
    walk : (d : ℕ) → d < by → In (r + suc d)
    walk zero h = waits_begin g z
    walk (suc d) h = subst In (one_more r d) (waits_on g (walk d (omega arith)) (none_before r ends s low (suc d) h))

    pub marks_waits : In (r + by)
    marks_waits =
        let h : 1 ≤ by = (marks_range r ends s low).0 in
        let e : suc (by - 1) ≡ by = omega arith in
        subst (λ d. In (r + d)) e (walk (by - 1) (omega arith))
