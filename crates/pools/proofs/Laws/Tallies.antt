-- The counts of a run from a pool: each worker has one turn in a round, and nothing is asked or stolen.
--   vacant x     == 1 for a worker that has nothing, and 0 for one that has a job; idles b k == how many of those below k have nothing
--   Took         == what a turn makes of the counts; turn_took == so does every turn
--   Counted      == the counts at a stage of a round; trace_counted == in every state of a run
--   idles_least, idles_most == where one is idle there is such a worker; where one has a job not all are
use Prim.Native.Nat.{ℕ, zero, suc, ◌+◌, ◌*◌, ◌≤◌, ◌<◌}
use mathlib.Core.Path.{◌≡◌, refl, ap, sym, ◌∙◌}
use mathlib.Core.Logic.{by_cases}
use mathlib.Core.List.{List}
use native.Mathlib.Omega.{arith}
use native.Mathlib.Nat.{mul-one, mul-suc, not-suc-le-zero}
use native.Mathlib.Decide.{ℕ_discrete}
use lib.ListN.{get_or}
use Rattle.plan.specs.Plan.{Plan}
use Rattle.runs.specs.declared.tally.Tally.{Tally}
use Rattle.runs.specs.declared.worker.Worker.{Worker}
use Rattle.runs.specs.declared.worker.Worker.TheVariants.{Idle, Holding, Waiting}
use Rattle.runs.proofs.Laws.Coursed.{hands_in, hands_of}
use Rattle.pools.specs.State.{State, start}
use Rattle.pools.specs.Turn.{worked, finished, idled, turn_of}
use Rattle.pools.specs.Trace.{Stage, taking, turning, Trace}
use Rattle.pools.proofs.Laws.Taking.{take_keeps}
use Rattle.pools.proofs.Laws.Passing.{turn_cases}

abbrev pub vacant : ℕ → ℕ
vacant zero = 1
vacant (suc j) = 0

unfoldable pub idles : List Worker → ℕ → ℕ
idles b zero = 0
idles b (suc k) = idles b k + vacant (hands_of b k)

pub record Took (r : ℕ) (hand : ℕ) (t u : Tally) : Type 0 where
  pub rounds : u.rounds ≡ r
  pub turns : u.actions + u.idle ≡ suc (t.actions + t.idle)
  pub idle : u.idle ≡ t.idle + vacant hand
  pub requests : u.requests ≡ t.requests
  pub steals : u.steals ≡ t.steals
  pub bare : u.bare ≡ t.bare
  pub idle_victim : u.idle_victim ≡ t.idle_victim

pub turn_took : (p : Plan) (r w : ℕ) (x : Worker) (s : State) → Took r (hands_in x) s.tally (turn_of p r w x s).tally
unfolding turn_of idled worked finished
turn_took p r w Idle s =
    record { rounds = refl; turns = omega arith; idle = omega arith; requests = refl; steals = refl; bare = refl; idle_victim = refl }
turn_took p r w (Waiting v l) s =
    record { rounds = refl; turns = omega arith; idle = omega arith; requests = refl; steals = refl; bare = refl; idle_victim = refl }
turn_took p r w (Holding j) s = turn_cases p r w j s (λ u. Took r (suc j) s.tally u.tally)
    (λ l. record { rounds = refl; turns = omega arith; idle = omega arith; requests = refl; steals = refl; bare = refl; idle_victim = refl })
    (λ l. record { rounds = refl; turns = omega arith; idle = omega arith; requests = refl; steals = refl; bare = refl; idle_victim = refl })

-- a round counts from its first turn on
abbrev pub Numbered : Stage → ℕ → ℕ → Type 0
Numbered (taking k) r t = suc t ≡ r
Numbered (turning zero) r t = suc t ≡ r
Numbered (turning (suc k)) r t = t ≡ r

abbrev pub Turns : ℕ → Stage → ℕ → ℕ → Type 0
Turns n (taking k) r t = n * r ≡ n + t
Turns n (turning k) r t = n * r + k ≡ n + t

pub record Counted (n : ℕ) (g : Stage) (r : ℕ) (t : Tally) : Type 0 where
  pub rounds : Numbered g r t.rounds
  pub turns : Turns n g r (t.actions + t.idle)
  pub none : (t.requests ≡ 0) × (t.steals ≡ 0) × (t.bare ≡ 0) × (t.idle_victim ≡ 0)

pub numbered_late : {k r t : ℕ} → 1 ≤ k → Numbered (turning k) r t → t ≡ r
numbered_late {k = zero} h i = absurd (not-suc-le-zero h)
numbered_late {k = suc k} h i = i

module _ {p : Plan} {n : ℕ} (some : 1 ≤ n) where
  pub trace_counted : {r : ℕ} {b : List Worker} {g : Stage} {s : State} → Trace p n r b g s → Counted n g r s.tally
  unfolding start
  trace_counted Trace.begins = record { rounds = refl; turns = omega (arith, mul-one n); none = (refl, refl, refl, refl) }
  trace_counted (Trace.took {r} {k} {b} {s} t h) =
      let q = trace_counted t in
      let e = (take_keeps p k s).tally in
      rw e (record { rounds = q.rounds; turns = q.turns; none = q.none })
  trace_counted (Trace.all_took t) =
      let q = trace_counted t in
      record { rounds = q.rounds; turns = omega (arith, q.turns); none = q.none }
  trace_counted (Trace.turned {r} {k} {b} {s} t h) =
      let q = trace_counted t in
      let u = turn_took p r k (get_or b k Idle) s in
      let (x, y, v, w) = q.none in
      record {
        rounds = u.rounds;
        turns = omega (arith, q.turns, u.turns);
        none = (u.requests ∙ x, u.steals ∙ y, u.bare ∙ v, u.idle_victim ∙ w);
      }
  trace_counted (Trace.goes_on {r} t e) =
      let q = trace_counted t in
      record { rounds = ap suc (numbered_late some q.rounds); turns = omega (arith, q.turns, mul-suc n r); none = q.none }

pub idles_least : (b : List Worker) (k : ℕ) → 1 ≤ idles b k → (w : ℕ) × (w < k) × (hands_of b w ≡ 0)
unfolding idles
idles_least b zero h = absurd (omega arith)
idles_least b (suc k) h = go (hands_of b k) refl (idles_least b k)
  where
    go : (x : ℕ) → hands_of b k ≡ x → (1 ≤ idles b k → (w : ℕ) × (w < k) × (hands_of b w ≡ 0)) → (w : ℕ) × (w < suc k) × (hands_of b w ≡ 0)
    go zero e r = (k, omega arith, e)
    go (suc j) e r = let (w, l, f) = r (omega (arith, ap vacant e)) in (w, omega arith, f)

pub idles_bound : (b : List Worker) (k : ℕ) → idles b k ≤ k
unfolding idles
idles_bound b zero = omega arith
idles_bound b (suc k) = go (hands_of b k) (idles_bound b k)
  where
    go : (x : ℕ) → idles b k ≤ k → idles b k + vacant x ≤ suc k
    go zero h = omega arith
    go (suc j) h = omega arith

pub idles_most : (b : List Worker) (k w j : ℕ) → w < k → hands_of b w ≡ suc j → suc (idles b k) ≤ k
unfolding idles
idles_most b zero w j h e = absurd (omega arith)
idles_most b (suc k) w j h e = by_cases (ℕ_discrete w k)
    (λ q. omega (arith, idles_bound b k, ap vacant (ap (hands_of b) (sym q) ∙ e)))
    (λ q. go (hands_of b k) (idles_most b k w j (omega arith) e))
  where
    go : (x : ℕ) → suc (idles b k) ≤ k → suc (idles b k + vacant x) ≤ suc k
    go zero l = omega arith
    go (suc i) l = omega arith
