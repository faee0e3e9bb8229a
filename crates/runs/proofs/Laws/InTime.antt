-- A request is served at the latest n - 1 rounds after the one it was laid in, unless the run ends first; for choices of any length
-- that name workers.
--   Still r b g    == a state at stage g of round r in which the worker waits
--   request_served == `InTime` of every worker that waits in a state of a run
use Prim.Native.Nat.{ℕ, zero, suc, ◌+◌, ◌-◌, ◌≤◌, zero-le}
use mathlib.Core.Path.{◌≡◌, refl, sym, ap, ◌∙◌}
use mathlib.Core.Logic.{◌⊎◌, inl, inr, ⊎_elim, ◌≢◌, by_cases}
use mathlib.Core.Bool.{Bool, true, false}
use mathlib.Core.List.{List}
use native.Mathlib.Nat.{le_refl}
use native.Mathlib.Omega.{arith}
use native.Mathlib.Decide.{ℕ_discrete}
use lib.Dec.{T, ltb}
use lib.ListN.{get_or}
use lib.Seq.{get_or-set_other}
use Rattle.plan.specs.Test.{all}
use Rattle.runs.specs.declared.worker.Worker.{Worker}
use Rattle.runs.specs.declared.worker.Worker.TheVariants.{Idle, Waiting}
use Rattle.runs.specs.Setting.{Setting, count_in}
use Rattle.runs.specs.State.{State, worker_of}
use Rattle.runs.specs.Steal.{waits}
use Rattle.runs.specs.Parts.{pick_of}
use Rattle.runs.specs.Run.{ended}
use Rattle.runs.specs.Trace.{Stage, turning, laying, serving, Trace, begins, turned, goes_on, laid, all_laid, served, next_round}
use Rattle.runs.specs.Trace.{ServedIn, LeftIn, InTime}
use Rattle.runs.proofs.Laws.Fit.{Fit, count_next}
use Rattle.runs.proofs.Laws.Began.{trace_began, laying_idle}
use Rattle.runs.proofs.Laws.Picks.{pick_of_picks}
use Rattle.runs.proofs.Laws.Stores.{turned_workers, laid_workers, served_workers}
use Rattle.runs.proofs.Laws.Served.{waits_due}

-- how many workers have come at a stage
abbrev stage_of : Stage → ℕ
stage_of (turning k) = k
stage_of (laying k) = k
stage_of (serving k) = k

stage_within : {S : Setting} {r : ℕ} {b : List Worker} {g : Stage} {s : State} → Trace S r b g s → stage_of g ≤ count_in S r
stage_within begins = zero-le
stage_within (turned t h) = h
stage_within (goes_on t e) = zero-le
stage_within (laid t h) = h
stage_within (all_laid t) = zero-le
stage_within (served t h) = h
stage_within (next_round t) = zero-le

module _ {S : Setting} (fit : Fit S) (named : T (all (λ c. ltb c S.workers) S.choices)) (w v l : ℕ) where
  open S use {plan}

  -- of two workers one waits and the other does not
  apart : (ws : List Worker) (k : ℕ) → get_or ws w Idle ≡ Waiting v l → waits (get_or ws k Idle) ≡ 0 → w ≢ k
  apart ws k asked calm e = omega (arith, ap waits (sym asked ∙ ap (λ z. get_or ws z Idle) e))

  -- the state at a later stage of the round, in which worker w still waits
  abbrev Still : ℕ → List Worker → Stage → Type 0
  Still r b g = (s : State) × Trace S r b g s × (worker_of s w ≡ Waiting v l)

  turns_still : {r : ℕ} {b : List Worker} (d k : ℕ) → k + d ≡ count_in S r → Still r b (turning k) → Still r b (turning (count_in S r))
  turns_still {r} {b} zero k e i = let q : k ≡ count_in S r = omega arith in rw q at i
  turns_still {r} {b} (suc d) k e (s, t, asked) =
      turns_still d (suc k) (omega arith) (
        _,
        turned t (omega arith),
        turned_workers (λ ws. get_or ws w Idle ≡ Waiting v l) t asked (λ j y q c.
            get_or-set_other s.workers k w y Idle (apart s.workers k asked (ap waits (trace_began t k (le_refl k) ∙ q))) ∙ asked),
      )

  lays_still : {r : ℕ} {b : List Worker} (d k : ℕ) → k + d ≡ count_in S r → Still r b (laying k) → Still r b (laying (count_in S r))
  lays_still {r} {b} zero k e i = let q : k ≡ count_in S r = omega arith in rw q at i
  lays_still {r} {b} (suc d) k e (s, t, asked) =
      lays_still d (suc k) (omega arith) (
        _,
        laid t (omega arith),
        laid_workers (λ ws. get_or ws w Idle ≡ Waiting v l) t asked (λ q.
            get_or-set_other s.workers k w _ Idle (apart s.workers k asked (ap waits (laying_idle t k (le_refl k) q))) ∙ asked),
      )

  serves_still : {r : ℕ} {b : List Worker} (d k : ℕ) → k + d ≡ count_in S r → Still r b (serving k)
      → ServedIn S w v l r ⊎ Still r b (serving (count_in S r))
  serves_still {r} {b} zero k e i = let q : k ≡ count_in S r = omega arith in inr (rw q at i)
  serves_still {r} {b} (suc d) k e (s, t, asked) =
      by_cases (ℕ_discrete (pick_of S r k s.workers) (suc w)) mine
      (λ f. serves_still d (suc k) (omega arith) (
        _,
        served t (omega arith),
        served_workers (λ ws. get_or ws w Idle ≡ Waiting v l) t (λ q. asked)
            (λ x y q c. get_or-set_other s.workers x w y Idle (λ z. f (q ∙ ap suc (sym z))) ∙ asked),
      ))
    where
      mine : pick_of S r k s.workers ≡ suc w → ServedIn S w v l r ⊎ Still r b (serving (count_in S r))
      mine q =
          let (h, m, waited) = pick_of_picks fit r k s.workers w q in
          let here : k ≡ v = cc in
          inl (record { began = b; state = s; now = rw here at t; there = omega arith; asked = asked; first = rw here at q })

  -- once all turns of a round are taken, the run ends, or goes on to the services of the round
  turns_over : {r : ℕ} {b : List Worker} → Still r b (turning (count_in S r)) → LeftIn S w v l r ⊎ Still r b (serving 0)
  turns_over {r} {b} (s, t, asked) = go (ended plan s) refl
    where
      go : (x : Bool) → ended plan s ≡ x → LeftIn S w v l r ⊎ Still r b (serving 0)
      go true e = inl (record { began = b; state = s; now = t; over = e; asked = asked })
      go false e =
          let (u, y, still) = lays_still {r = r} (count_in S r) 0 (omega arith) (s, goes_on t e, asked) in
          inr (u, all_laid y, still)

  -- it is served, or left, in this round
  served_now : {r : ℕ} → ServedIn S w v l r → InTime S w v l r
  served_now {r} x = (r, le_refl r, waits_due fit named x.now w v l x.asked, inl x)

  left_now : {r : ℕ} → LeftIn S w v l r → InTime S w v l r
  left_now {r} x = (r, le_refl r, waits_due fit named x.now w v l x.asked, inr x)

  later : {r : ℕ} → InTime S w v l (suc r) → InTime S w v l r
  later (r', late, due, end) = (r', omega arith, due, end)

  -- with d rounds left for it
  serves_on : (d r : ℕ) (b : List Worker) (k : ℕ) → k ≤ count_in S r → l + count_in S r ≤ r + d → Still r b (serving k) → InTime S w v l r
  serves_on zero r b k h q (s, t, asked) = absurd (omega (arith, waits_due fit named t w v l asked))
  serves_on (suc d) r b k h q i = go (serves_still {r = r} (count_in S r - k) k (omega arith) i) (serves_on d (suc r))
    where
      Rest : Type 0
      Rest = (b : List Worker) (k : ℕ) → k ≤ count_in S (suc r) → l + count_in S (suc r) ≤ suc r + d → Still (suc r) b (serving k)
          → InTime S w v l (suc r)

      next : {b : List Worker} → LeftIn S w v l (suc r) ⊎ Still (suc r) b (serving 0) → Rest → InTime S w v l r
      next (inl x) rest = later (left_now x)
      next (inr i) rest = later (rest _ 0 zero-le (omega (arith, count_next S r)) i)

      go : ServedIn S w v l r ⊎ Still r b (serving (count_in S r)) → Rest → InTime S w v l r
      go (inl x) rest = served_now x
      go (inr (s, t, asked)) rest =
          next (turns_over (turns_still {r = suc r} (count_in S (suc r)) 0 (omega arith) (s, next_round t, asked))) rest

  pub request_served : {r : ℕ} {b : List Worker} {g : Stage} {s : State} → Trace S r b g s → worker_of s w ≡ Waiting v l → InTime S w v l r
  request_served {r} {b} {g} {s} t asked = go g t (stage_within t)
    where
      n : ℕ
      n = count_in S r

      serving_on : (k : ℕ) → k ≤ n → Still r b (serving k) → InTime S w v l r
      serving_on k h = serves_on (l + n) r b k h (omega arith)

      go : (g : Stage) → Trace S r b g s → stage_of g ≤ n → InTime S w v l r
      go (turning k) t h = ⊎_elim left_now (serving_on 0 zero-le) (turns_over (turns_still {r = r} (n - k) k (omega arith) (s, t, asked)))
      go (laying k) t h =
          let (u, y, still) = lays_still {r = r} (n - k) k (omega arith) (s, t, asked) in
          serving_on 0 zero-le (u, all_laid y, still)
      go (serving k) t h = serving_on k h (s, t, asked)
