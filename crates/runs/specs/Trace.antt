-- The states of a run in the order in which they come: each turn, request and service takes the state that the last one left.
--   Stage              == how far a round has come: turns taken, requests laid, victims served, of the workers below k
--   Trace S r b g s    == s is the state of a run at stage g of round r, where b are the workers as the round began
--   ServedIn S w v l r == in round r victim v serves worker w, whose request was laid in round l
--   LeftIn S w v l r   == the run ends in round r, and worker w still waits on v with it
--   InTime S w v l r   == one of the two, in round r or a later one, and at the latest P - 1 rounds after round l
use Rattle.std.specs.Prelude.{ℕ, suc, ◌+◌, ◌≤◌, ◌<◌, ◌≡◌, ◌⊎◌, true, false, List, get_or}
use Rattle.runs.specs.declared.worker.Worker.{Worker}
use Rattle.runs.specs.declared.worker.Worker.TheVariants.{Idle, Waiting}
use Rattle.runs.specs.Setting.{Setting, count_in}
use Rattle.runs.specs.State.{State, worker_of, start}
use Rattle.runs.specs.Turn.{turn_of}
use Rattle.runs.specs.Steal.{lay, oldest, serve}
use Rattle.runs.specs.Run.{ended}

pub data Stage : Type 0 where
  turning : ℕ → Stage
  laying : ℕ → Stage
  serving : ℕ → Stage

module _ (S : Setting) where
  pub data Trace : ℕ → List Worker → Stage → State → Type 0 where
    begins : Trace 1 (start S.plan).workers (turning 0) (start S.plan)
    turned : {r k : ℕ} {b : List Worker} {s : State} → Trace r b (turning k) s → k < count_in S r
        → Trace r b (turning (suc k)) (turn_of S.plan r k (get_or b k Idle) s)
    goes_on : {r : ℕ} {b : List Worker} {s : State} → Trace r b (turning (count_in S r)) s → ended S.plan s ≡ false
        → Trace r b (laying 0) s
    laid : {r k : ℕ} {b : List Worker} {s : State} → Trace r b (laying k) s → k < count_in S r
        → Trace r b (laying (suc k)) (lay S r k (get_or b k Idle) s)
    all_laid : {r : ℕ} {b : List Worker} {s : State} → Trace r b (laying (count_in S r)) s → Trace r b (serving 0) s
    served : {r k : ℕ} {b : List Worker} {s : State} → Trace r b (serving k) s → k < count_in S r
        → Trace r b (serving (suc k)) (serve k (oldest k (count_in S r) s.workers).who s)
    next_round : {r : ℕ} {b : List Worker} {s : State} → Trace r b (serving (count_in S r)) s → Trace (suc r) s.workers (turning 0) s

pub record ServedIn (S : Setting) (w v l r : ℕ) : Type 0 where
  pub began : List Worker
  pub state : State
  pub now : Trace S r began (serving v) state
  pub there : v < count_in S r
  pub asked : worker_of state w ≡ Waiting v l
  pub first : (oldest v (count_in S r) state.workers).who ≡ suc w

pub record LeftIn (S : Setting) (w v l r : ℕ) : Type 0 where
  pub began : List Worker
  pub state : State
  pub now : Trace S r began (turning (count_in S r)) state
  pub over : ended S.plan state ≡ true
  pub asked : worker_of state w ≡ Waiting v l

-- "A request is served at the latest P − 1 rounds after the one it was laid in, unless the run ends first."
abbrev pub InTime : Setting → ℕ → ℕ → ℕ → ℕ → Type 0
InTime S w v l r = (r' : ℕ) × (r ≤ r') × (r' < l + count_in S r') × (ServedIn S w v l r' ⊎ LeftIn S w v l r')
