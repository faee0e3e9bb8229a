-- A state of a run against the workers as its round began.
--   round_began == each state of a round comes from one as the round began, which has these workers
--   Unheld x    == the worker x holds no job
--   Kept g b s  == at stage g a worker that has not had its turn is as the round began; one that held nothing then is so until it
--                  may lay a request
--   began_kept  == that holds of every state of a run; of it `trace_began` and `laying_idle` are the halves
use Prim.Native.Nat.{ℕ, ◌≤◌, ◌<◌}
use mathlib.Core.Path.{◌≡◌, refl, ap, ◌∙◌}
use mathlib.Core.List.{List}
use native.Mathlib.Omega.{arith}
use lib.ListN.{get_or}
use lib.Seq.{get_or-set_other}
use Rattle.runs.specs.declared.worker.Worker.{Worker}
use Rattle.runs.specs.declared.worker.Worker.TheVariants.{Idle, Holding}
use Rattle.runs.specs.Setting.{Setting}
use Rattle.runs.specs.State.{State, worker_of, start}
use Rattle.runs.specs.Trace.{Stage, turning, laying, serving, Trace, begins, turned, goes_on, laid, all_laid, served, next_round}
use Rattle.runs.proofs.Laws.Stores.{turned_workers, laid_workers}

abbrev pub Unheld : Worker → Type 0
Unheld x = (j : ℕ) → x ≡ Holding j → ⊥

pub idle_unheld : Unheld Idle
idle_unheld j e = let z : ◌≡◌ {A = ℕ} 0 1 = cc in omega arith

abbrev Kept : Stage → List Worker → State → Type 0
Kept (turning k) b s = (w : ℕ) → (w < k → Unheld (get_or b w Idle)) → worker_of s w ≡ get_or b w Idle
Kept (laying k) b s = (w : ℕ) → k ≤ w → Unheld (get_or b w Idle) → worker_of s w ≡ get_or b w Idle
Kept (serving k) b s = Unit {0}

module _ {S : Setting} where
  pub round_began : {r : ℕ} {b : List Worker} {g : Stage} {s : State} → Trace S r b g s
      → (u : State) × Trace S r b (turning 0) u × (b ≡ u.workers)
  round_began begins = (start S.plan, begins, refl)
  round_began (turned t h) = round_began t
  round_began (goes_on t e) = round_began t
  round_began (laid t h) = round_began t
  round_began (all_laid t) = round_began t
  round_began (served t h) = round_began t
  round_began (next_round {s = s} t) = (s, next_round t, refl)

  began_kept : {r : ℕ} {b : List Worker} {g : Stage} {s : State} → Trace S r b g s → Kept g b s
  began_kept begins = λ w u. refl
  began_kept (turned {k = k} {b} {s} t h) = λ w u.
      let was = began_kept t w (λ l. u (omega arith)) in
      turned_workers (λ ws. get_or ws w Idle ≡ get_or b w Idle) t was
      (λ j y e c. get_or-set_other s.workers k w y Idle (λ q. u (omega arith) j (ap (λ z. get_or b z Idle) q ∙ e)) ∙ was)
  began_kept (goes_on t e) = λ w l u. began_kept t w (λ h. u)
  began_kept (laid {k = k} {b} {s} t h) = λ w l u.
      let was = began_kept t w (omega arith) u in
      laid_workers (λ ws. get_or ws w Idle ≡ get_or b w Idle) t was
      (λ e. get_or-set_other s.workers k w _ Idle (λ q. omega arith) ∙ was)
  began_kept (all_laid t) = tt
  began_kept (served t h) = tt
  began_kept (next_round t) = λ w u. refl

  -- a worker that has not had its turn
  pub trace_began : {r k : ℕ} {b : List Worker} {s : State} → Trace S r b (turning k) s → (w : ℕ) → k ≤ w → worker_of s w ≡ get_or b w Idle
  trace_began t w h = began_kept t w (λ l. absurd (omega arith))

  -- one that was idle as the round began, until it lays a request
  pub laying_idle : {r k : ℕ} {b : List Worker} {s : State} → Trace S r b (laying k) s
      → (w : ℕ) → k ≤ w → get_or b w Idle ≡ Idle → worker_of s w ≡ Idle
  laying_idle t w h e = began_kept t w h (rw e idle_unheld) ∙ e
