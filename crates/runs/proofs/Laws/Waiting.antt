-- The requests of a state of a run: each was a steal or a miss, or the worker that laid it waits.
--   waiting_set   == how the number of those that wait changes where a worker gives way to another
--   Settled n s   == each request of s was a steal or a miss, or one of its n workers waits with it
--   serve_settled == that holds after a service if it did before, whoever is served
--   requests_sum  == it holds of every state of a run
use Prim.Native.Nat.{ℕ, zero, suc, ◌+◌, ◌≤◌, ◌<◌}
use mathlib.Core.Path.{◌≡◌, refl, ap, ◌∙◌}
use mathlib.Core.List.{List}
use mathlib.Core.Logic.{by_cases}
use native.Mathlib.Nat.{le_refl}
use native.Mathlib.Decide.{ℕ_discrete}
use lib.Seq.{get_or-set_same, get_or-set_other}
use native.Mathlib.Omega.{arith}
use lib.ListN.{length, get_or, set}
use Rattle.std.specs.Prelude.{Result, Ok, Err}
use Rattle.runs.specs.declared.miss.Miss.{Miss}
use Rattle.runs.specs.declared.miss.Miss.TheVariants.{Bare, IdleVictim}
use Rattle.runs.specs.declared.worker.Worker.{Worker}
use Rattle.runs.specs.declared.worker.Worker.TheVariants.{Idle, Holding, Waiting}
use Rattle.runs.specs.Setting.{Setting, count_in}
use Rattle.runs.specs.State.{State, worker_of, start}
use Rattle.runs.specs.Steal.{laid as laid_by, lay, taken_from, given, serve, waits, waiting}
use Rattle.runs.specs.Parts.{Picks, pick_of}
use Rattle.runs.specs.Trace.{Stage, Trace, begins, turned, goes_on, laid, all_laid, served, next_round}
use Rattle.runs.proofs.Laws.Fit.{Fit, count_next}
use Rattle.runs.proofs.Laws.Began.{trace_began, laying_idle}
use Rattle.runs.proofs.Laws.Sound.{workers_length}
use Rattle.runs.proofs.Laws.Start.{start_calm}
use Rattle.runs.proofs.Laws.Picks.{pick_of_picks}
use Rattle.runs.proofs.Laws.Rests.{turned_took}
use Rattle.runs.proofs.Laws.Stores.{victim_of, turned_workers}

waiting_none : (n : ℕ) (ws : List Worker) → ((w : ℕ) → waits (get_or ws w Idle) ≡ 0) → waiting n ws ≡ 0
waiting_none zero ws h = refl
waiting_none (suc n) ws h = omega (arith, waiting_none n ws h, h n)

module _ (ws : List Worker) (k : ℕ) (x : Worker) where
  waiting_other : (n : ℕ) → n ≤ k → waiting n (set ws k x) ≡ waiting n ws
  waiting_other zero b = refl
  waiting_other (suc n) b =
      omega (arith, waiting_other n (omega arith), ap waits (get_or-set_other ws k n x Idle (λ e. omega arith)))

  waiting_set : k < length ws → (n : ℕ) → k < n → waiting n (set ws k x) + waits (get_or ws k Idle) ≡ waiting n ws + waits x
  waiting_set h zero b = absurd (omega arith)
  waiting_set h (suc n) b = by_cases (ℕ_discrete n k)
      (λ e. omega (
        arith,
        waiting_other n (omega arith),
        ap (λ w. waits (get_or (set ws k x) w Idle)) e,
        ap waits (get_or-set_same ws k x Idle h),
        ap (λ w. waits (get_or ws w Idle)) e,
      ))
      (λ f. omega (arith, waiting_set h n (omega arith), ap waits (get_or-set_other ws k n x Idle f)))

abbrev pub Settled : ℕ → State → Type 0
Settled n s = s.tally.requests ≡ s.tally.steals + s.tally.bare + s.tally.idle_victim + waiting n s.workers

module _ {n : ℕ} (s : State) (placed : n ≤ length s.workers) where
  -- a worker that there is gives way to another
  exchanged : {k : ℕ} → k < n → (x : Worker)
      → waiting n (set s.workers k x) + waits (worker_of s k) ≡ waiting n s.workers + waits x
  exchanged {k} h x = waiting_set s.workers k x (omega arith) n h

  given_settled : (v w : ℕ) → w < n → waits (worker_of s w) ≡ 1 → Settled n s → (x : Result ℕ Miss) → Settled n (given v w x s)
  unfolding given
  given_settled v w h q i (Ok j) = omega (arith, exchanged h (Holding j))
  given_settled v w h q i (Err Bare) = omega (arith, exchanged h Idle)
  given_settled v w h q i (Err IdleVictim) = omega (arith, exchanged h Idle)

  -- whoever is served
  serve_settled : (v who : ℕ) → Picks v n s.workers who → Settled n s → Settled n (serve v who s)
  unfolding serve
  serve_settled v zero picks i = i
  serve_settled v (suc w) picks i =
      let (h, l, e) = picks w refl in
      given_settled v w h (ap waits e) i (taken_from s v)

module _ {S : Setting} (fit : Fit S) where
  open S use {plan}

  pub requests_sum : {r : ℕ} {b : List Worker} {g : Stage} {s : State} → Trace S r b g s → Settled (count_in S r) s
  unfolding lay laid_by start
  requests_sum begins = omega (arith, waiting_none (count_in S 1) (start plan).workers (start_calm plan))
  requests_sum (turned {r} {k} {s = s} t h) =
      let same = turned_workers (λ ws. waiting (count_in S r) ws ≡ waiting (count_in S r) s.workers) t refl
      (λ j y e c. omega (arith, exchanged s (workers_length fit t) h y, ap waits (trace_began t k (le_refl k) ∙ e))) in
      omega (arith, turned_took t, requests_sum t)
  requests_sum (goes_on t e) = requests_sum t
  requests_sum (laid {r} {k} {b} {s} t h) = go (get_or b k Idle) refl (requests_sum t)
    where
      go : (x : Worker) → get_or b k Idle ≡ x → Settled (count_in S r) s → Settled (count_in S r) (lay S r k x s)
      go Idle e i =
          omega (arith, exchanged s (workers_length fit t) h (Waiting (victim_of S s) r), ap waits (laying_idle t k (le_refl k) e))
      go (Holding j) e i = i
      go (Waiting v l) e i = i
  requests_sum (all_laid t) = requests_sum t
  requests_sum (served {r} {k} {s = s} t h) =
      serve_settled s (workers_length fit t) k (pick_of S r k s.workers) (pick_of_picks fit r k s.workers) (requests_sum t)
  requests_sum (next_round {r} t) = rw (count_next S r) (requests_sum t)
