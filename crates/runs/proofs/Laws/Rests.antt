-- What a turn does to the counts, and what a request and a service leave as it was: all that a schedule and the counts of turns rest on.
--   Took r s t               == t has one turn more than s, of round r, and the requests, steals and misses of both kinds of s
--   Rests s t                == t has the actions, the rows and the counts of turns of s
--   service_keeps            == a service leaves all counts but those of what it met
--   turned_took              == `Took` of a turn of a run
--   turn_busy                == no idle turn is counted where a worker holds a job
--   laid_rests, served_rests == `Rests` of a request and of a service
use Prim.Native.Nat.{ℕ, zero, suc, ◌+◌}
use mathlib.Core.Path.{◌≡◌, refl}
use mathlib.Core.List.{List}
use native.Mathlib.Omega.{arith}
use lib.ListN.{get_or}
use Rattle.std.specs.Prelude.{Result, Ok, Err}
use Rattle.runs.specs.declared.miss.Miss.{Miss}
use Rattle.runs.specs.declared.miss.Miss.TheVariants.{Bare, IdleVictim}
use Rattle.runs.specs.declared.tally.Tally.{Tally}
use Rattle.runs.specs.declared.worker.Worker.{Worker}
use Rattle.runs.specs.declared.worker.Worker.TheVariants.{Idle, Holding, Waiting}
use Rattle.plan.specs.Plan.{Plan}
use Rattle.runs.specs.Setting.{Setting}
use Rattle.runs.specs.State.{State}
use Rattle.runs.specs.Tally.{with_service}
use Rattle.runs.specs.Turn.{turn, idled, turn_of, worked, finished}
use Rattle.runs.specs.Steal.{laid, lay, taken_from, given, serve}
use Rattle.runs.specs.Parts.{pick_of}
use Rattle.runs.specs.Trace.{turning, laying, serving, Trace}
use Rattle.runs.proofs.Laws.Turns.{turn_cases}

pub record Rests (s t : State) : Type 0 where
  pub next : t.next ≡ s.next
  pub spent : t.spent ≡ s.spent
  pub rows : t.rows ≡ s.rows
  pub rounds : t.tally.rounds ≡ s.tally.rounds
  pub actions : t.tally.actions ≡ s.tally.actions
  pub idle : t.tally.idle ≡ s.tally.idle
  pub peak : t.tally.peak ≡ s.tally.peak

pub record Took (r : ℕ) (s t : State) : Type 0 where
  pub rounds : t.tally.rounds ≡ r
  pub turns : t.tally.actions + t.tally.idle ≡ suc (s.tally.actions + s.tally.idle)
  pub requests : t.tally.requests ≡ s.tally.requests
  pub steals : t.tally.steals ≡ s.tally.steals
  pub bare : t.tally.bare ≡ s.tally.bare
  pub idle_victim : t.tally.idle_victim ≡ s.tally.idle_victim

same_rests : (s : State) → Rests s s
same_rests s = record { next = refl; spent = refl; rows = refl; rounds = refl; actions = refl; idle = refl; peak = refl }

pub lay_rests : (S : Setting) (r w : ℕ) (x : Worker) (s : State) → Rests s (lay S r w x s)
unfolding lay laid
lay_rests S r w Idle s = record { next = refl; spent = refl; rows = refl; rounds = refl; actions = refl; idle = refl; peak = refl }
lay_rests S r w (Holding j) s = same_rests s
lay_rests S r w (Waiting v l) s = same_rests s

pub service_keeps : (x : Result ℕ Miss) (t : Tally) → let u = with_service t x in
    (u.rounds ≡ t.rounds) × (u.actions ≡ t.actions) × (u.idle ≡ t.idle) × (u.requests ≡ t.requests) × (u.peak ≡ t.peak)
service_keeps (Ok j) t = (refl, refl, refl, refl, refl)
service_keeps (Err Bare) t = (refl, refl, refl, refl, refl)
service_keeps (Err IdleVictim) t = (refl, refl, refl, refl, refl)

given_rests : (v w : ℕ) (x : Result ℕ Miss) (s : State) → Rests s (given v w x s)
unfolding given
given_rests v w x s =
    let (rounds, actions, idle, requests, peak) = service_keeps x s.tally in
    record { next = refl; spent = refl; rows = refl; rounds = rounds; actions = actions; idle = idle; peak = peak }

pub serve_rests : (v who : ℕ) (s : State) → Rests s (serve v who s)
unfolding serve
serve_rests v zero s = same_rests s
serve_rests v (suc w) s = given_rests v w (taken_from s v) s

pub turn_took : (p : Plan) (r w : ℕ) (x : Worker) (s : State) → Took r s (turn_of p r w x s)
unfolding turn_of worked finished idled
turn_took p r w Idle s =
    record { rounds = refl; turns = omega arith; requests = refl; steals = refl; bare = refl; idle_victim = refl }
turn_took p r w (Holding j) s =
    turn_cases p r w j s (Took r s)
    (λ h. record { rounds = refl; turns = omega arith; requests = refl; steals = refl; bare = refl; idle_victim = refl })
    (λ h. record { rounds = refl; turns = omega arith; requests = refl; steals = refl; bare = refl; idle_victim = refl })
turn_took p r w (Waiting v l) s =
    record { rounds = refl; turns = omega arith; requests = refl; steals = refl; bare = refl; idle_victim = refl }

-- a turn of a worker that holds a job is no idle turn
pub turn_busy : (p : Plan) (r w j : ℕ) (s : State) → (turn p r w j s).tally.idle ≡ s.tally.idle
unfolding worked finished
turn_busy p r w j s = turn_cases p r w j s (λ t. t.tally.idle ≡ s.tally.idle) (λ h. refl) (λ h. refl)

-- the steps of a run
module _ {S : Setting} {r k : ℕ} {b : List Worker} {s : State} where
  pub turned_took : Trace S r b (turning k) s → Took r s (turn_of S.plan r k (get_or b k Idle) s)
  turned_took t = turn_took S.plan r k (get_or b k Idle) s

  pub laid_rests : Trace S r b (laying k) s → Rests s (lay S r k (get_or b k Idle) s)
  laid_rests t = lay_rests S r k (get_or b k Idle) s

  pub served_rests : Trace S r b (serving k) s → Rests s (serve k (pick_of S r k s.workers) s)
  served_rests t = serve_rests k (pick_of S r k s.workers) s
