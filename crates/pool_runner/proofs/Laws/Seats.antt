-- The workers beside the one whose turn it is, and that none of them ever waits.
--   turns_later == a worker whose turn has not come is as it was
--   trace_quiet == no worker waits
use Prim.Native.Nat.{ℕ, zero, suc, ◌≤◌}
use mathlib.Core.Path.{◌≡◌, refl, ◌∙◌}
use mathlib.Core.Logic.{◌≢◌, by_cases}
use mathlib.Core.Bool.{Bool, true, false, not}
use mathlib.Core.List.{List, [], ◌∷◌}
use native.Mathlib.Omega.{arith}
use native.Mathlib.Decide.{ℕ_discrete}
use lib.ListN.{length, get_or, set, replicate}
use lib.Seq.{get_or-set_other}
use Rattle.plan.specs.Plan.{Plan}
use Rattle.plan.specs.Test.{below}
use Rattle.runs.specs.declared.worker.Worker.{Worker}
use Rattle.runs.specs.declared.worker.Worker.TheVariants.{Idle, Holding, Waiting}
use Rattle.runs.specs.State.{holds}
use Rattle.pools.specs.State.{State, next_of, worker_of, start}
use Rattle.pools.specs.Take.{lowest, waits, given, giving, take}
use Rattle.pools.specs.Turn.{hand_after, idled, worked, finished, turn_of, turns}
use Rattle.pools.specs.Trace.{Stage, Trace}
use Rattle.pools.proofs.Laws.Passing.{turn_cases, hand_cases}
use Rattle.rounds.specs.Account.{is_idle}
use Rattle.pool_runner.proofs.Laws.Standing.{Quiet}

turn_others : (p : Plan) (r k : ℕ) (x : Worker) (s : State) (w : ℕ) → w ≢ k → worker_of (turn_of p r k x s) w ≡ worker_of s w
unfolding turn_of idled worked finished
turn_others p r k Idle s w f = refl
turn_others p r k (Waiting v l) s w f = refl
turn_others p r k (Holding j) s w f =
    turn_cases p r k j s (λ t. worker_of t w ≡ worker_of s w) (λ l. refl) (λ l. get_or-set_other s.workers k w _ Idle f)

pub turns_later : (p : Plan) (r : ℕ) (b : List Worker) (s : State) (k w : ℕ) → k ≤ w → worker_of (turns p r k b s) w ≡ worker_of s w
unfolding turns
turns_later p r b s zero w h = refl
turns_later p r b s (suc k) w h =
    turn_others p r k (get_or b k Idle) (turns p r k b s) w (λ e. omega arith) ∙ turns_later p r b s k w (omega arith)

-- a list in which one worker that does not wait is set
set_quiet : (ws : List Worker) (w : ℕ) (x : Worker) → is_idle x ≡ not (holds x) → Quiet ws → Quiet (set ws w x)
set_quiet ws w x e q u = by_cases (ℕ_discrete u w) (λ z. rw z (here ws w)) (λ f. rw (get_or-set_other ws w u x Idle f) (q u))
  where
    here : (ws : List Worker) (w : ℕ) → is_idle (get_or (set ws w x) w Idle) ≡ not (holds (get_or (set ws w x) w Idle))
    here [] w = refl
    here (y ∷ ws) zero = e
    here (y ∷ ws) (suc w) = here ws w

start_quiet : (p : Plan) → Quiet (start p).workers
unfolding start
start_quiet p = none 16
  where
    none : (k w : ℕ) → is_idle (get_or (replicate k Idle) w Idle) ≡ not (holds (get_or (replicate k Idle) w Idle))
    none zero w = refl
    none (suc k) zero = refl
    none (suc k) (suc w) = none k w

take_quiet : (p : Plan) (w : ℕ) (s : State) → Quiet s.workers → Quiet (take p w s).workers
unfolding take given
take_quiet p w s q = go (holds (worker_of s w)) (lowest (waits p s.next s.workers) (below (length p)))
  where
    go : (b : Bool) (x : ℕ) → Quiet (elim b as (λ c. State) [ true ↦ s | false ↦ giving w x s ]).workers
    go true x = q
    go false zero = q
    go false (suc j) = set_quiet s.workers w (Holding j) refl q

turn_quiet : (p : Plan) (r w : ℕ) (x : Worker) (s : State) → Quiet s.workers → Quiet (turn_of p r w x s).workers
unfolding turn_of idled worked finished
turn_quiet p r w Idle s q = q
turn_quiet p r w (Waiting v l) s q = q
turn_quiet p r w (Holding j) s q = turn_cases p r w j s (λ t. Quiet t.workers) (λ l. q)
    (λ l. set_quiet s.workers w (hand_after p (set s.next j (suc (next_of s j))) s.workers j (next_of s j))
    (hand_cases p (set s.next j (suc (next_of s j))) s.workers j (next_of s j) (λ x. is_idle x ≡ not (holds x)) (λ c e. refl) (λ e h t. refl) (λ e h f. refl) (λ e h t. refl) (λ e h f. refl)) q)

module _ {p : Plan} {n : ℕ} where
  pub trace_quiet : {r : ℕ} {b : List Worker} {g : Stage} {s : State} → Trace p n r b g s → Quiet s.workers
  trace_quiet Trace.begins = start_quiet p
  trace_quiet (Trace.took {k = k} {s = s} t h) = take_quiet p k s (trace_quiet t)
  trace_quiet (Trace.all_took t) = trace_quiet t
  trace_quiet (Trace.turned {r} {k} {b} {s} t h) = turn_quiet p r k (get_or b k Idle) s (trace_quiet t)
  trace_quiet (Trace.goes_on t e) = trace_quiet t
