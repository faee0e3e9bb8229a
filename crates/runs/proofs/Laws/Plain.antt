-- The run of document 01 in its own terms, a plan, a number of workers that is the same in every round, and choices: it is the run of
-- the setting that has these three and nothing else. A service is told by its cases, a miss of either kind and a steal.
--   plain_lay, .., plain_run == as `lay`, .., `run` of specs/, of the three apart
--   serve_plain            == a service is the one that is told by its cases
--   run_plain              == the two are the same function
use Prim.Native.Nat.{ℕ, zero, suc, ◌%◌}
use mathlib.Core.Path.{◌≡◌, refl, ap, ◌∙◌}
use mathlib.Core.Bool.{Bool, true, false}
use mathlib.Core.List.{List, [], ◌∷◌}
use lib.ListN.{length, get_or, set}
use Rattle.std.specs.Prelude.{Result, Err}
use Rattle.runs.specs.declared.miss.Miss.{Miss}
use Rattle.runs.specs.declared.miss.Miss.TheVariants.{Bare, IdleVictim}
use Rattle.runs.specs.declared.worker.Worker.{Worker}
use Rattle.runs.specs.declared.worker.Worker.TheVariants.{Idle, Holding, Waiting}
use Rattle.plan.specs.Plan.{Plan}
use Rattle.plan_measure.specs.Measure.{work}
use Rattle.runs.specs.Setting.{setting, count_in}
use Rattle.runs.specs.Tally.{with_request, with_steal, with_bare, with_idle_victim, with_service}
use Rattle.runs.specs.State.{State, worker_of, holds, deque_of, start}
use Rattle.runs.specs.Turn.{turns}
use Rattle.runs.specs.Steal.{laid, lay, lays, oldest, drop_top, top_of, take_top, thief, given, serve, serves}
use Rattle.runs.specs.Run.{ended, round, rounds, run}
use Rattle.runs.proofs.Laws.Stores.{empty_kept}

unfoldable plain_lay : List ℕ → ℕ → ℕ → Worker → State → State
plain_lay choices r w Idle s =
    let t = s.tally in
    record {
      next = s.next;
      spent = s.spent;
      workers = set s.workers w (Waiting (get_or choices (t.requests % length choices) 0) r);
      deques = s.deques;
      rows = s.rows;
      tally = with_request t;
    }
plain_lay choices r w (Holding j) s = s
plain_lay choices r w (Waiting v l) s = s

unfoldable plain_lays : List ℕ → ℕ → ℕ → List Worker → State → State
unfolding plain_lay
plain_lays choices r zero began s = s
plain_lays choices r (suc k) began s = plain_lay choices r k (get_or began k Idle) (plain_lays choices r k began s)

-- a miss, which leaves the deques as they were, and a steal
unfoldable plain_given : ℕ → ℕ → Worker → List ℕ → State → State
plain_given v w victim [] s =
    let t = s.tally in
    record {
      next = s.next;
      spent = s.spent;
      workers = set s.workers w Idle;
      deques = s.deques;
      rows = s.rows;
      tally = elim victim [ Holding j ↦ with_bare t | Idle ↦ with_idle_victim t | Waiting u l ↦ with_idle_victim t ];
    }
plain_given v w victim (x ∷ d) s =
    record {
      next = s.next;
      spent = s.spent;
      workers = set s.workers w (Holding (top_of x d));
      deques = set s.deques v (drop_top (x ∷ d));
      rows = s.rows;
      tally = with_steal s.tally;
    }

unfoldable plain_serve : ℕ → ℕ → State → State
unfolding plain_given
plain_serve v zero s = s
plain_serve v (suc w) s = plain_given v w (worker_of s v) (deque_of s v) s

unfoldable plain_serves : ℕ → ℕ → State → State
unfolding plain_serve
plain_serves n zero s = s
plain_serves n (suc k) s = let t = plain_serves n k s in plain_serve k (oldest k n t.workers).who t

unfoldable plain_round : Plan → ℕ → List ℕ → State → State
unfolding plain_lays plain_serves
plain_round p n choices s =
    let r = suc s.tally.rounds in
    let half = turns p r n s.workers s in
    elim (ended p half) [ true ↦ half | false ↦ plain_serves n n (plain_lays choices r n s.workers half) ]

unfoldable plain_rounds : ℕ → Plan → ℕ → List ℕ → State → State
unfolding plain_round
plain_rounds zero p n choices s = s
plain_rounds (suc k) p n choices s = elim (ended p s) [ true ↦ s | false ↦ plain_rounds k p n choices (plain_round p n choices s) ]

unfoldable pub plain_run : Plan → ℕ → List ℕ → State
unfolding plain_rounds
plain_run p n choices = plain_rounds (work p) p n choices (start p)

chosen : (b : Bool) (s : State) {t u : State} → t ≡ u
    → ◌≡◌ {A = State} (elim b [ true ↦ s | false ↦ t ]) (elim b [ true ↦ s | false ↦ u ])
chosen true s e = refl
chosen false s e = e

abbrev served : ℕ → Result ℕ Miss → State → List (List ℕ) → State
served w x s ds =
    record { next = s.next; spent = s.spent; workers = set s.workers w (thief x); deques = ds; rows = s.rows; tally = with_service s.tally x }

serve_plain : (v who : ℕ) (s : State) → serve v who s ≡ plain_serve v who s
unfolding serve given plain_serve plain_given
serve_plain v zero s = refl
serve_plain v (suc w) s = go (deque_of s v) refl (worker_of s v)
  where
    go : (d : List ℕ) → deque_of s v ≡ d → (x : Worker)
        → served w (take_top d (holds x)) s (set s.deques v (drop_top d)) ≡ plain_given v w x d s
    go (y ∷ d) e x = refl
    go [] e Idle = ap (served w (Err IdleVictim) s) (empty_kept s.deques v e)
    go [] e (Holding j) = ap (served w (Err Bare) s) (empty_kept s.deques v e)
    go [] e (Waiting u l) = ap (served w (Err IdleVictim) s) (empty_kept s.deques v e)

module _ (p : Plan) (n : ℕ) (choices : List ℕ) where
  lay_plain : (r w : ℕ) (x : Worker) (s : State) → lay (setting p n choices) r w x s ≡ plain_lay choices r w x s
  unfolding lay laid plain_lay
  lay_plain r w Idle s = refl
  lay_plain r w (Holding j) s = refl
  lay_plain r w (Waiting v l) s = refl

  lays_plain : (r k : ℕ) (b : List Worker) (s : State) → lays (setting p n choices) r k b s ≡ plain_lays choices r k b s
  unfolding lays plain_lays
  lays_plain r zero b s = refl
  lays_plain r (suc k) b s =
      lay_plain r k (get_or b k Idle) (lays (setting p n choices) r k b s) ∙ ap (plain_lay choices r k (get_or b k Idle)) (lays_plain r k b s)

  serves_plain : (r k : ℕ) (s : State) → serves (setting p n choices) r k s ≡ plain_serves n k s
  unfolding serves plain_serves count_in
  serves_plain r zero s = refl
  serves_plain r (suc k) s =
      let t = serves (setting p n choices) r k s in
      serve_plain k (oldest k n t.workers).who t ∙ ap (λ t. plain_serve k (oldest k n t.workers).who t) (serves_plain r k s)

  round_plain : (s : State) → round (setting p n choices) s ≡ plain_round p n choices s
  unfolding round plain_round count_in
  round_plain s =
      let r = suc s.tally.rounds in
      let half = turns p r n s.workers s in
      chosen (ended p half) half
      (serves_plain r n (lays (setting p n choices) r n s.workers half) ∙ ap (plain_serves n n) (lays_plain r n s.workers half))

  rounds_plain : (k : ℕ) (s : State) → rounds k (setting p n choices) s ≡ plain_rounds k p n choices s
  unfolding rounds plain_rounds
  rounds_plain zero s = refl
  rounds_plain (suc k) s =
      chosen (ended p s) s (rounds_plain k (round (setting p n choices) s) ∙ ap (plain_rounds k p n choices) (round_plain s))

  pub run_plain : run (setting p n choices) ≡ plain_run p n choices
  unfolding run plain_run
  run_plain = rounds_plain (work p) (start p)
