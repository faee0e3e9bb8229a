-- A moment of a run from a pool, and what a turn and its parts are given and leave of it. Functions that are no entries cite this file.
--   Moment, At     == a plan, a number of workers, a round, the workers as its taking was over, a state and the worker whose turn it is;
--                     the state is that of such a run, at that worker's turn
--   after_of        == how many actions of each job are done once job j has done its next one
--   unspent p      == no rounds are spent on any job's next action: the progress notes none, since the runner knows in which round each
--                     action ends
--   Held           == the worker holds job j, whose next action stands at place k
--   Acting         == .. and the objects stand for the moment
--   Weighed        == .. and so does the weight of the living frames
--   Sent           == the action is counted and its join sent. In the set are all that are then in the pool and ready, but for the job that
--                     the action spawned; the counts are those of before
--   Settling       == Held and Sent, the weight is that of before, and the action spawned none
--   Ending, Buried == .. and it was the job's last; what is left of the worker then, and of the pool
--   After          == the objects stand for the state t, and the answer `after` for its worker w and living frames
--   Acted          == .. where t is the state after a turn in which the worker finishes the next action of job j
--   Turning        == the worker, which holds a job, is about to take the last turn of its action; the objects stand for the moment
--   TurnTaken      == they stand for the state after it
--   Having, Leaving == job j has an action left, by the counts that the objects hold; so it is of the job that a worker has, if it has one
--   cost_of p next x == how many rounds the next action of the job that a worker x has takes, or 0
use Rattle.std.specs.Prelude.{ℕ, suc, ◌≤◌, ◌<◌, ◌≡◌, ◌≢◌, true, false, List, length, get_or, set, replicate}
use Rattle.plan.specs.Plan.{Plan, size, action}
use Rattle.plan.specs.Rules.{Accepted}
use Rattle.plan.specs.declared.sheet.Sheet.{Sheet}
use Rattle.plan.specs.Sheet.{Planned}
use Rattle.courses.specs.Row.{place}
use Rattle.courses.specs.Ready.{weight}
use Rattle.runs.specs.declared.worker.Worker.{Worker}
use Rattle.runs.specs.declared.worker.Worker.TheVariants.{Idle, Holding, Waiting}
use Rattle.runs.specs.State.{holds}
use Rattle.pools.specs.State.{State, next_of, spent_of, worker_of}
use Rattle.pools.specs.Take.{waits}
use Rattle.pools.specs.Turn.{hand_after, finished, turn_of}
use Rattle.pools.specs.Trace.{turning, Trace}
use Rattle.pool_set.specs.declared.Pool.{Pool}
use Rattle.pool_set.specs.Pool.{pooled}
use Rattle.turns.specs.declared.turn.Turned.{Turned}
use Rattle.turns.specs.Finish.{Deed}
use Rattle.turns.specs.declared.progress.Progress.{Progress}
use Rattle.turns.specs.Progress.{Progressed}
use Rattle.turns.specs.Rows.{Rowed}
use Rattle.pool_turns.specs.Pooled.{Counts, Pooled}

pub record Moment : Type 0 where
  pub plan : Plan
  pub workers : ℕ
  pub round : ℕ
  pub began : List Worker
  pub state : State
  pub worker : ℕ

pub record At (m : Moment) : Type 0 where
  pub accepted : Accepted m.plan
  pub some : 1 ≤ m.workers
  pub most : m.workers ≤ 16
  pub known : m.worker < m.workers
  pub trace : Trace m.plan m.workers m.round m.began (turning m.worker) m.state

abbrev pub after_of : Moment → ℕ → List ℕ
after_of m j = set m.state.next j (suc (next_of m.state j))

abbrev pub unspent : Plan → List ℕ
unspent p = replicate (length p) 0

pub record Held (k j : ℕ) (plan : Sheet) (m : Moment) : Type 0 where
  pub run : At m
  pub holding : worker_of m.state m.worker ≡ Holding j
  pub planned : Planned plan m.plan
  pub here : k ≡ place m.plan j (next_of m.state j)

pub record Acting (k j : ℕ) (plan : Sheet) (progress : Progress) (pool : Pool) (m : Moment) : Type 0 where
  pub held : Held k j plan m
  pub progressed : Progressed m.plan m.state.next (unspent m.plan) progress
  pub pooled : Pooled m.plan m.state.next m.state.workers pool

pub record Weighed (k j weighs : ℕ) (plan : Sheet) (progress : Progress) (pool : Pool) (m : Moment) : Type 0 where
  pub acting : Acting k j plan progress pool m
  pub weighed : weighs ≡ weight m.plan m.state.next

-- the pool once the action is counted and its join sent
pub record Between (j : ℕ) (pool : Pool) (m : Moment) : Type 0 where
  pub waiting : (x : ℕ) → x < length m.plan → (action m.plan j (next_of m.state j)).spawn ≢ suc x
      → pooled pool x ≡ waits m.plan (after_of m j) m.state.workers x
  pub past : (x : ℕ) → length m.plan ≤ x → x < 256 → pooled pool x ≡ false
  pub unborn : (x : ℕ) → (action m.plan j (next_of m.state j)).spawn ≡ suc x → pooled pool x ≡ false
  pub counts : Counts m.plan m.state.next pool

pub record Sent (j : ℕ) (progress : Progress) (pool : Pool) (m : Moment) : Type 0 where
  pub progressed : Progressed m.plan (after_of m j) (unspent m.plan) progress
  pub between : Between j pool m

pub record Settling (k j weighs : ℕ) (plan : Sheet) (progress : Progress) (pool : Pool) (m : Moment) : Type 0 where
  pub held : Held k j plan m
  pub weighed : weighs ≡ weight m.plan m.state.next
  pub sent : Sent j progress pool m
  pub none : (action m.plan j (next_of m.state j)).spawn ≡ 0

pub record Ending (j : ℕ) (plan : Sheet) (pool : Pool) (m : Moment) : Type 0 where
  pub place : ℕ
  pub held : Held place j plan m
  pub between : Between j pool m
  pub none : (action m.plan j (next_of m.state j)).spawn ≡ 0
  pub last : size m.plan j ≤ suc (next_of m.state j)

pub record Buried (j : ℕ) (x : Worker) (pool : Pool) (m : Moment) : Type 0 where
  pub worker : x ≡ hand_after m.plan (after_of m j) m.state.workers j (next_of m.state j)
  pub pooled : Pooled m.plan (after_of m j) (set m.state.workers m.worker x) pool

pub record After (w : ℕ) (after : Turned) (progress : Progress) (pool : Pool) (p : Plan) (t : State) : Type 0 where
  pub worker : after.worker ≡ worker_of t w
  pub weighed : after.weight ≡ weight p t.next
  pub progressed : Progressed p t.next (unspent p) progress
  pub pooled : Pooled p t.next t.workers pool

abbrev pub Acted : ℕ → Turned → Progress → Pool → Moment → Type 0
Acted j after progress pool m =
    After m.worker after progress pool m.plan (finished m.plan m.round m.worker j m.state)

pub record Turning (x : Worker) (r w weighs : ℕ) (plan : Sheet) (progress : Progress) (pool : Pool) (rows : List ℕ) (m : Moment) : Type 0 where
  pub run : At m
  pub now_in : r ≡ m.round
  pub whose : w ≡ m.worker
  pub here : x ≡ worker_of m.state m.worker
  pub holding : holds x ≡ true
  pub weighed : weighs ≡ weight m.plan m.state.next
  pub planned : Planned plan m.plan
  pub last : (j : ℕ) → x ≡ Holding j → (action m.plan j (next_of m.state j)).cost ≤ suc (spent_of m.state j)
  pub progressed : Progressed m.plan m.state.next (unspent m.plan) progress
  pub pooled : Pooled m.plan m.state.next m.state.workers pool
  pub rowed : Rowed m.plan m.state.next m.state.rows rows

pub record TurnTaken (x : Worker) (after : Turned) (progress : Progress) (pool : Pool) (rows : List ℕ) (m : Moment) : Type 0 where
  pub left : After m.worker after progress pool m.plan (turn_of m.plan m.round m.worker x m.state)
  pub rowed : let t = turn_of m.plan m.round m.worker x m.state in Rowed m.plan t.next t.rows rows

-- a job that a worker has, and the counts that the objects hold
pub record Having (j : ℕ) (plan : Sheet) (progress : Progress) (d : Deed) : Type 0 where
  pub planned : Planned plan d.plan
  pub known : j < length d.plan
  pub left : get_or d.next j 0 < size d.plan j
  pub progressed : Progressed d.plan d.next (unspent d.plan) progress

-- .. where the worker x has one, or none
abbrev pub Leaving : Worker → Sheet → Progress → Deed → Type 0
Leaving x plan progress d = (j : ℕ) → x ≡ Holding j → Having j plan progress d

abbrev pub cost_of : Plan → List ℕ → Worker → ℕ
cost_of p next Idle = 0
cost_of p next (Holding j) = (action p j (get_or next j 0)).cost
cost_of p next (Waiting v l) = 0
