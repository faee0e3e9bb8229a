-- What a turn, a request and a service store of the workers: at most one of them changes. After its turn, or once it is served, a
-- worker does not wait; with its request it waits on the victim that the choices name.
--   victim_of S s   == the victim of the next request
--   turned_workers == what holds of the workers, and of those with one that does not wait in place of a worker k that held a job as
--                     the round began, holds after k's turn
--   laid_workers   == what holds of the workers, and of those with one that waits in place of a worker k that was idle as the round
--                     began, holds after k's request
--   empty_kept     == an empty deque that is stored again changes none
--   served_calm    == who was served does not wait
--   served_workers == what holds of the workers if none is served, and of those with one that does not wait in place of the one that
--                     is, holds after the service
use Prim.Native.Nat.{ℕ, zero, suc, ◌%◌}
use mathlib.Core.Path.{◌≡◌, refl}
use mathlib.Core.Bool.{Bool, true, false}
use mathlib.Core.List.{List, [], ◌∷◌}
use lib.Dec.{ltb}
use lib.ListN.{length, get_or, set}
use lib.Seq.{set-get_or}
use Rattle.plan.specs.Test.{both}
use Rattle.plan.specs.Plan.{Plan, size, action}
use Rattle.courses.specs.Ready.{ready}
use Rattle.std.specs.Prelude.{Result, Ok, Err}
use Rattle.runs.specs.declared.miss.Miss.{Miss}
use Rattle.runs.specs.declared.worker.Worker.{Worker}
use Rattle.runs.specs.declared.worker.Worker.TheVariants.{Idle, Holding, Waiting}
use Rattle.runs.specs.Setting.{Setting}
use Rattle.runs.specs.State.{State, next_of}
use Rattle.runs.specs.Turn.{seat_after, idled, turn_of, worked, finished}
use Rattle.runs.specs.Parts.{after_of, above_of, pick_of}
use Rattle.runs.specs.Trace.{turning, laying, serving, Trace}
use Rattle.runs.proofs.Laws.TurnSound.{stay, seat_spawn, seat_none}
use Rattle.runs.specs.Steal.{laid, lay, taken_from, thief, given, serve, waits}
use Rattle.runs.proofs.Laws.Turns.{turn_cases}

abbrev pub victim_of : Setting → State → ℕ
victim_of S s = get_or S.choices (s.tally.requests % length S.choices) 0

stay_waits : (b : Bool) (j : ℕ) (d : List ℕ) → waits (stay b j d).worker ≡ 0
stay_waits true j d = refl
stay_waits false j [] = refl
stay_waits false j (x ∷ d) = refl

seat_waits : (p : Plan) (after : List ℕ) (j i : ℕ) (d : List ℕ) → waits (seat_after p after j i d).worker ≡ 0
seat_waits p after j i d = go (action p j i).spawn refl
  where
    go : (c : ℕ) → (action p j i).spawn ≡ c → waits (seat_after p after j i d).worker ≡ 0
    go (suc c) e = rw (seat_spawn p after j i d e)
    go zero e = rw (seat_none p after j i d e) (stay_waits (both (ltb (suc i) (size p j)) (ready p after j)) j d)

pub empty_kept : (ds : List (List ℕ)) (v : ℕ) → get_or ds v [] ≡ [] → set ds v [] ≡ ds
empty_kept ds v e = rw e at (set-get_or ds v [])

pub served_calm : (x : Result ℕ Miss) → waits (thief x) ≡ 0
served_calm (Ok j) = refl
served_calm (Err m) = refl

module _ (P : List Worker → Type 0) where
  turn_workers : (p : Plan) (r k : ℕ) (x : Worker) (s : State) → P s.workers
      → ((j : ℕ) (y : Worker) → x ≡ Holding j → waits y ≡ 0 → P (set s.workers k y)) → P (turn_of p r k x s).workers
  unfolding turn_of worked finished idled
  turn_workers p r k Idle s i f = i
  turn_workers p r k (Holding j) s i f =
      turn_cases p r k j s (λ t. P t.workers) (λ h. i)
      (λ h. f j _ refl (seat_waits p (after_of s j) j (next_of s j) (above_of p s k j)))
  turn_workers p r k (Waiting v l) s i f = i

  lay_workers : (S : Setting) (r k : ℕ) (x : Worker) (s : State) → P s.workers
      → (x ≡ Idle → P (set s.workers k (Waiting (victim_of S s) r))) → P (lay S r k x s).workers
  unfolding lay laid
  lay_workers S r k Idle s i f = f refl
  lay_workers S r k (Holding j) s i f = i
  lay_workers S r k (Waiting v l) s i f = i

  serve_workers : (v who : ℕ) (s : State) → (who ≡ 0 → P s.workers)
      → ((w : ℕ) (y : Worker) → who ≡ suc w → waits y ≡ 0 → P (set s.workers w y)) → P (serve v who s).workers
  unfolding serve given
  serve_workers v zero s i f = i refl
  serve_workers v (suc w) s i f = let x = taken_from s v in f w (thief x) refl (served_calm x)

  -- the same at the steps of a run
  module _ {S : Setting} {r k : ℕ} {b : List Worker} {s : State} where
    pub turned_workers : Trace S r b (turning k) s → P s.workers
        → ((j : ℕ) (y : Worker) → get_or b k Idle ≡ Holding j → waits y ≡ 0 → P (set s.workers k y))
        → P (turn_of S.plan r k (get_or b k Idle) s).workers
    turned_workers t = turn_workers S.plan r k (get_or b k Idle) s

    pub laid_workers : Trace S r b (laying k) s → P s.workers
        → (get_or b k Idle ≡ Idle → P (set s.workers k (Waiting (victim_of S s) r))) → P (lay S r k (get_or b k Idle) s).workers
    laid_workers t = lay_workers S r k (get_or b k Idle) s

    pub served_workers : Trace S r b (serving k) s → let who = pick_of S r k s.workers in
        (who ≡ 0 → P s.workers) → ((w : ℕ) (y : Worker) → who ≡ suc w → waits y ≡ 0 → P (set s.workers w y))
        → P (serve k who s).workers
    served_workers t = serve_workers k (pick_of S r k s.workers) s
