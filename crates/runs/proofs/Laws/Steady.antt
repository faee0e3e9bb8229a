-- A job whose next action was begun is with the worker that had it as the round began: it is never handed on.
--   Begun b s   == every job whose next action was begun is held, by a worker that held it as the round began, with the workers b
--   trace_begun == so it is in every state of a run
--   begun_stays == so the holder of such a job is the one that held it as the round began
use Prim.Native.Nat.{ℕ, suc, ◌≤◌}
use mathlib.Core.Path.{◌≡◌, refl, ap, sym, ◌∙◌}
use mathlib.Core.Logic.{by_cases, ◌≢◌}
use mathlib.Core.List.{List}
use native.Mathlib.Omega.{arith}
use native.Mathlib.Nat.{le_refl}
use native.Mathlib.Decide.{ℕ_discrete}
use lib.ListN.{get_or}
use lib.Seq.{get_or-set_other}
use Rattle.plan.specs.Plan.{Plan}
use Rattle.runs.specs.declared.worker.Worker.{Worker}
use Rattle.runs.specs.declared.worker.Worker.TheVariants.{Idle, Holding, Waiting}
use Rattle.runs.specs.Setting.{Setting}
use Rattle.runs.specs.State.{State, spent_of, worker_of}
use Rattle.runs.specs.Turn.{worked, finished, turn_of, idled}
use Rattle.runs.specs.Trace.{Stage, turning, Trace, begins, turned, goes_on, laid, all_laid, served, next_round}
use Rattle.courses.proofs.Laws.Steps.{zero_set}
use Rattle.runs.proofs.Laws.Fit.{Fit}
use Rattle.runs.proofs.Laws.Start.{none_spent}
use Rattle.runs.proofs.Laws.Turns.{turn_cases}
use Rattle.runs.proofs.Laws.Stores.{laid_workers, served_workers}
use Rattle.runs.proofs.Laws.Rests.{laid_rests, served_rests}
use Rattle.runs.proofs.Laws.Began.{trace_began}
use Rattle.runs.proofs.Laws.Picks.{pick_of_picks}
use Rattle.runs.proofs.Laws.Lined.{held_once}
use Rattle.runs.proofs.Laws.Sound.{trace_sound}

abbrev pub Begun : List Worker → State → Type 0
Begun b s = (j : ℕ) → 1 ≤ spent_of s j → (w : ℕ) × (get_or b w Idle ≡ Holding j) × (worker_of s w ≡ Holding j)

-- two jobs that are held are held by two workers
apart : (ws : List Worker) (v w i j : ℕ) → get_or ws v Idle ≡ Holding i → get_or ws w Idle ≡ Holding j → j ≢ i → w ≢ v
apart ws v w i j e f g q = g (cc (sym f ∙ ap (λ x. get_or ws x Idle) q ∙ e))

module _ (b : List Worker) (s : State) (k i : ℕ) (was : get_or b k Idle ≡ Holding i) (held : worker_of s k ≡ Holding i) (h : Begun b s) where
  worked_begun : (p : Plan) (r : ℕ) → Begun b (worked p r i s)
  unfolding worked
  worked_begun p r j l = by_cases (ℕ_discrete j i)
      (λ q. (k, was ∙ ap Holding (sym q), held ∙ ap Holding (sym q)))
      (λ f. h j (rw (get_or-set_other s.spent i j (suc (spent_of s i)) 0 f) at l))

  finished_begun : (p : Plan) (r : ℕ) → Begun b (finished p r k i s)
  unfolding finished
  finished_begun p r j l = by_cases (ℕ_discrete j i)
      (λ q. absurd (omega (arith, ap (λ x. get_or (finished p r k i s).spent x 0) q, zero_set s.spent i)))
      (λ f.
      let (w, a, c) = h j (rw (get_or-set_other s.spent i j 0 0 f) at l) in
      (w, a, get_or-set_other s.workers k w _ Idle (apart s.workers k w i j held c f) ∙ c))

module _ {S : Setting} (fit : Fit S) where
  turned_begun : {r k : ℕ} {b : List Worker} {s : State} → Trace S r b (turning k) s → (x : Worker) → get_or b k Idle ≡ x → Begun b s
      → Begun b (turn_of S.plan r k x s)
  unfolding turn_of idled
  turned_begun t Idle e h = h
  turned_begun t (Waiting v l) e h = h
  turned_begun {r} {k} {b} {s} t (Holding i) e h =
      let held = trace_began t k (le_refl k) ∙ e in
      turn_cases S.plan r k i s (Begun b) (λ l. worked_begun b s k i e held h S.plan r) (λ l. finished_begun b s k i e held h S.plan r)

  pub trace_begun : {r : ℕ} {b : List Worker} {g : Stage} {s : State} → Trace S r b g s → Begun b s
  trace_begun begins = λ j l. absurd (omega (arith, none_spent S.plan j))
  trace_begun (turned {k = k} {b} t h) = turned_begun t (get_or b k Idle) refl (trace_begun t)
  trace_begun (goes_on t e) = trace_begun t
  trace_begun (laid {k = k} {b} {s} t h) = λ j l.
      let (w, a, c) = trace_begun t j (rw (laid_rests t).spent at l) in (
        w,
        a,
        laid_workers (λ ws. get_or ws w Idle ≡ Holding j) t c
            (λ e. get_or-set_other s.workers k w _ Idle (λ q. idle_not (sym e ∙ ap (λ x. get_or b x Idle) (sym q) ∙ a)) ∙ c),
      )
    where
      idle_not : {j : ℕ} → Idle ≡ Holding j → ⊥
      idle_not e = let z : ◌≡◌ {A = ℕ} 0 1 = cc in omega arith
  trace_begun (all_laid t) = trace_begun t
  trace_begun (served {r} {k} {b} {s} t h) = λ j l.
      let (w, a, c) = trace_begun t j (rw (served_rests t).spent at l) in (
        w,
        a,
        served_workers (λ ws. get_or ws w Idle ≡ Holding j) t (λ e. c)
            (λ v y e d. get_or-set_other s.workers v w y Idle
            (λ q. wait_not (sym (pick_of_picks fit r k s.workers v e).2 ∙ ap (λ x. worker_of s x) (sym q) ∙ c)) ∙ c),
      )
    where
      wait_not : {u m j : ℕ} → Waiting u m ≡ Holding j → ⊥
      wait_not e = let z : ◌≡◌ {A = ℕ} 0 1 = cc in omega arith
  trace_begun (next_round t) = λ j l. let (w, a, c) = trace_begun t j l in (w, c, c)

  pub begun_stays : {r : ℕ} {b : List Worker} {g : Stage} {s : State} → Trace S r b g s → (w : ℕ) {j : ℕ} → worker_of s w ≡ Holding j
      → 1 ≤ spent_of s j → get_or b w Idle ≡ Holding j
  begun_stays {b = b} t w {j} e l =
      let (v, a, c) = trace_begun t j l in
      ap (λ x. get_or b x Idle) (held_once (trace_sound fit t) w v e c) ∙ a
