-- How many rounds the action of each worker still takes, turn by turn, and the calendar of when they end.
--   rest_most      == at most 15, and at least 1 where the worker holds a job
--   rest_others    == a turn changes what is left of its own worker's action alone
--   Calm s t       == t is s but for the rounds spent and the counts, and has its peak
--   turn_calm      == a turn in which no action ends is such, and takes one round off what is left
--   slot_at        == the place at which an action stands tells when it ends
--   passing_none, passing_calm, passing_all == the calendar before the first turn, over a turn in which no action ends, and after the last
use Prim.Native.Nat.{ℕ, zero, suc, ◌+◌, ◌-◌, ◌%◌, ◌≤◌, ◌<◌}
use mathlib.Core.Path.{◌≡◌, refl, ap, ap₂, sym, ◌∙◌}
use mathlib.Core.Logic.{◌≢◌, by_cases}
use mathlib.Core.Bool.{false}
use mathlib.Core.List.{List}
use native.Mathlib.Omega.{arith}
use native.Mathlib.Nat.{le_refl}
use native.Mathlib.Decide.{ℕ_discrete, dec_lt}
use borrow.Author.Tests.{eq-eqb, ne_eqb, lt-ltb, le-ltb}
use lib.Dec.{eqb, ltb}
use lib.Pow.{pow_pos}
use lib.ListN.{get_or, set, length-set}
use lib.Seq.{get_or-set_same, get_or-set_other}
use Rattle.plan.specs.Plan.{Plan, action}
use Rattle.plan.specs.Test.{both}
use Rattle.plan.proofs.Laws.Spawning.{cost_in_range_lem}
use Rattle.courses.specs.Ready.{weight}
use Rattle.courses.proofs.Laws.Pool.{terms}
use Rattle.courses.proofs.Laws.Weighs.{course_weighs}
use Rattle.runs.specs.declared.worker.Worker.{Worker}
use Rattle.runs.specs.declared.worker.Worker.TheVariants.{Idle, Holding, Waiting}
use Rattle.runs.proofs.Laws.Coursed.{hands_in}
use Rattle.pools.specs.State.{State, next_of, spent_of, worker_of}
use Rattle.pools.specs.Turn.{worked, finished, idled, turn_of}
use Rattle.pools.specs.Trace.{turning, Trace}
use Rattle.pools.proofs.Laws.Coursed.{Fit, trace_sized, trace_manned, trace_course, trace_unpaid}
use Rattle.pools.proofs.Laws.Passing.{turn_cases, turn_worked}
use Rattle.crew.specs.Crew.{member}
use Rattle.crew.proofs.Laws.Members.{member_none}
use Rattle.pool_runner.proofs.Laws.Standing.{rest_in, rest_of, slot, Timed, Passing}

-- what is left is of the job's counts alone
rest_same : (p : Plan) (x : Worker) (next next' spent spent' : List ℕ)
    → ((j : ℕ) → x ≡ Holding j → (get_or next' j 0 ≡ get_or next j 0) × (get_or spent' j 0 ≡ get_or spent j 0)) → rest_in p next' spent' x ≡ rest_in p next spent x
rest_same p Idle next next' spent spent' f = refl
rest_same p (Holding j) next next' spent spent' f = let (a, b) = f j refl in rw (a, b) refl
rest_same p (Waiting v l) next next' spent spent' f = refl

pub record Calm (s t : State) : Type 0 where
  pub next : t.next ≡ s.next
  pub workers : t.workers ≡ s.workers
  pub rows : t.rows ≡ s.rows
  pub peak : t.tally.peak ≡ s.tally.peak

pub calm_none : (s : State) → Calm s s
calm_none s = record { next = refl; workers = refl; rows = refl; peak = refl }

pub calm_on : {s t u : State} → Calm s t → Calm t u → Calm s u
calm_on a b = record {
  next = b.next ∙ a.next;
  workers = b.workers ∙ a.workers;
  rows = b.rows ∙ a.rows;
  peak = b.peak ∙ a.peak;
}

-- the place of an action that ends m rounds after round r
pub slot_at : (r m : ℕ) → 1 ≤ m → m ≤ 15 → slot r m (suc r % 16) ≡ eqb m 1
slot_at r m some few = ap (λ b. both b (eqb (suc r % 16) ((r + m) % 16))) (lt-ltb 0 m some) ∙ by_cases (ℕ_discrete m 1)
    (λ e. rw e (eq-eqb _ _ (let z : suc r % 16 ≡ (r + 1) % 16 = omega arith in z)))
    (λ f. ne_eqb (suc r % 16) ((r + m) % 16) (λ e. f (let z : m ≡ 1 = omega arith in z)) ∙ sym (ne_eqb m 1 f))

module _ {p : Plan} {n : ℕ} (fit : Fit p n) {r k : ℕ} {b : List Worker} {s : State} (t : Trace p n r b (turning k) s) where
  pub rest_most : (w : ℕ) → rest_of p s w ≤ 15
  rest_most w = go (worker_of s w) refl
    where
      go : (x : Worker) → worker_of s w ≡ x → rest_in p s.next s.spent x ≤ 15
      go Idle e = omega arith
      go (Holding j) e =
          let a = (trace_manned fit t).lives w j (ap hands_in e) in
          let c = cost_in_range_lem p fit.plan.range j a.below (next_of s j) a.left in
          omega arith
      go (Waiting v l) e = omega arith

  -- a worker that holds a job has a round left of its action
  pub rest_some : (w j : ℕ) → worker_of s w ≡ Holding j → 1 ≤ rest_of p s w
  rest_some w j e = rw e (omega (arith, trace_unpaid fit t w j (ap hands_in e)))

  pub rest_others : (x : Worker) → worker_of s k ≡ x → (w : ℕ) → w ≢ k → rest_of p (turn_of p r k x s) w ≡ rest_of p s w
  unfolding turn_of idled worked finished
  rest_others Idle e w f = refl
  rest_others (Waiting v l) e w f = refl
  rest_others (Holding j) e w f = turn_cases p r k j s (λ u. rest_of p u w ≡ rest_of p s w)
      (λ l. rest_same p (worker_of s w) s.next s.next s.spent _ (λ i q. (refl, get_or-set_other s.spent j i _ 0 (apart i q))))
      (λ l. rw (get_or-set_other s.workers k w _ Idle f)
      (rest_same p (worker_of s w) s.next _ s.spent _
      (λ i q. (get_or-set_other s.next j i _ 0 (apart i q), get_or-set_other s.spent j i _ 0 (apart i q)))))
    where
      apart : (i : ℕ) → worker_of s w ≡ Holding i → i ≢ j
      apart i q z = f ((trace_manned fit t).once w k j (ap hands_in q ∙ ap suc z) (ap hands_in e))

  -- a turn in which no action ends
  pub turn_calm : (x : Worker) → worker_of s k ≡ x → rest_of p s k ≢ 1
      → Calm s (turn_of p r k x s) × (rest_of p (turn_of p r k x s) k ≡ rest_of p s k - 1)
  unfolding turn_of idled worked
  turn_calm Idle e d = (record { next = refl; workers = refl; rows = refl; peak = refl }, rw e refl)
  turn_calm (Waiting v l) e d = (record { next = refl; workers = refl; rows = refl; peak = refl }, rw e refl)
  turn_calm (Holding j) e d = rw (turn_worked p r k j s more) (works, less)
    where
      left : rest_of p s k ≡ (action p j (next_of s j)).cost - spent_of s j
      left = ap (rest_in p s.next s.spent) e

      more : suc (spent_of s j) < (action p j (next_of s j)).cost
      more = omega (arith, left, d, trace_unpaid fit t k j (ap hands_in e))

      low : weight p s.next ≤ s.tally.peak
      low = course_weighs (terms p n) fit.plan (trace_course fit t)

      works : Calm s (worked p r j s)
      works = record { next = refl; workers = refl; rows = refl; peak = omega (arith, low) }

      less : rest_of p (worked p r j s) k ≡ rest_of p s k - 1
      less =
          let known = ((trace_manned fit t).lives k j (ap hands_in e)).below in
          let spent = get_or-set_same s.spent j (suc (spent_of s j)) 0 (omega (arith, (trace_sized fit t).spents)) in
          ap (rest_in p s.next (set s.spent j (suc (spent_of s j)))) e ∙ omega (arith, left, spent)

module _ (p : Plan) (n r : ℕ) where
  -- before the first turn of round suc r, where the set of those whose actions end in it is taken out
  pub passing_none : {ends : List ℕ} {s : State} → Timed p n r ends s → ((w : ℕ) → w < 16 → rest_of p s w ≤ 15)
      → Passing p n r 0 (set ends (suc r % 16) 0) s
  passing_none {ends} {s} t few = record {
    long = length-set ends (suc r % 16) 0 ∙ t.long;
    small = λ c. by_cases (ℕ_discrete c (suc r % 16))
        (λ e. rw (e, get_or-set_same ends (suc r % 16) 0 0 (omega (arith, t.long))) (pow_pos n))
        (λ f. rw (get_or-set_other ends (suc r % 16) c 0 0 f) (t.small c));
    had = λ w c h. absurd (omega arith);
    not_yet = λ w c l h b. by_cases (ℕ_discrete c (suc r % 16))
        (λ e. rw e (ap (λ x. member x w) (get_or-set_same ends (suc r % 16) 0 0 (omega (arith, t.long))) ∙ member_none w ∙ sym (out w h)))
        (λ f. ap (λ x. member x w) (get_or-set_other ends (suc r % 16) c 0 0 f) ∙ t.each w c h b ∙ same w c h b f);
  }
    where
      -- who ends elsewhere does not end in this round
      out : (w : ℕ) → w < 16 → both (ltb 1 (rest_of p s w)) (eqb (suc r % 16) ((r + rest_of p s w) % 16)) ≡ false
      out w h = by_cases (dec_lt 1 (rest_of p s w))
          (λ l. ap₂ both (lt-ltb 1 (rest_of p s w) l) (ne_eqb (suc r % 16) ((r + rest_of p s w) % 16) (λ e. omega (arith, few w h))))
          (λ l. ap (λ b. both b (eqb (suc r % 16) ((r + rest_of p s w) % 16))) (le-ltb 1 (rest_of p s w) (omega arith)))

      same : (w c : ℕ) → w < 16 → c < 16 → c ≢ suc r % 16
          → slot r (rest_of p s w) c ≡ both (ltb 1 (rest_of p s w)) (eqb c ((r + rest_of p s w) % 16))
      same w c h b f = go (rest_of p s w)
        where
          go : (m : ℕ) → slot r m c ≡ both (ltb 1 m) (eqb c ((r + m) % 16))
          go zero = refl
          go (suc zero) = ne_eqb c ((r + 1) % 16) (λ e. f (e ∙ let z : (r + 1) % 16 ≡ suc r % 16 = omega arith in z))
          go (suc (suc m)) = ap (λ b. both b (eqb c ((r + suc (suc m)) % 16)))
              (lt-ltb 0 (suc (suc m)) (omega arith) ∙ sym (lt-ltb 1 (suc (suc m)) (omega arith)))

  -- over a turn of worker k in which no action ends
  pub passing_calm : {k : ℕ} {ends : List ℕ} {s t : State} → k < 16 → Passing p n r k ends s → rest_of p s k ≢ 1
      → rest_of p t k ≡ rest_of p s k - 1 → ((w : ℕ) → w ≢ k → rest_of p t w ≡ rest_of p s w) → Passing p n r (suc k) ends t
  passing_calm {k} {ends} {s} {t} h g d less others = record {
    long = g.long;
    small = g.small;
    had = λ w c l b. by_cases (ℕ_discrete w k)
        (λ e. rw e (g.not_yet k c (le_refl k) h b ∙ now c (rest_of p s k) d ∙ ap (λ m. slot (suc r) m c) (sym less)))
        (λ f. g.had w c (omega arith) b ∙ ap (λ m. slot (suc r) m c) (sym (others w f)));
    not_yet = λ w c l q b.
        let f : w ≢ k = λ e. omega arith in
        g.not_yet w c (omega arith) q b ∙ ap (λ m. both (ltb 1 m) (eqb c ((r + m) % 16))) (sym (others w f));
  }
    where
      now : (c m : ℕ) → m ≢ 1 → both (ltb 1 m) (eqb c ((r + m) % 16)) ≡ slot (suc r) (m - 1) c
      now c zero f = refl
      now c (suc zero) f = absurd (f refl)
      now c (suc (suc m)) f = ap₂ both (lt-ltb 1 (suc (suc m)) (omega arith) ∙ sym (lt-ltb 0 (suc (suc m) - 1) (omega arith)))
          (ap (eqb c) (let z : (r + suc (suc m)) % 16 ≡ (suc r + (suc (suc m) - 1)) % 16 = omega arith in z))

  -- after the last turn, where those past the last worker have nothing
  pub passing_all : {ends : List ℕ} {s : State} → Passing p n r n ends s → ((w : ℕ) → n ≤ w → rest_of p s w ≡ 0) → Timed p n (suc r) ends s
  passing_all g none = record {
    long = g.long;
    small = g.small;
    each = λ w c h b. by_cases (dec_lt w n) (λ l. g.had w c l b) (λ l.
        let z = none w (omega arith) in
        g.not_yet w c (omega arith) h b ∙ rw z refl);
  }
