-- How the runner's objects stand for a run from a pool, at the head of each of the three loops of `run_pool`, and before a round that
-- may be passed over.
--   Fitted p n plan    == the plan that was read is the plan p, and n workers can run it; fitted == so it is of what a run is given
--   rest_in, rest_of     == how many rounds the action that a worker works on still takes, or 0 where it has none
--   slot r m c         == an action that takes m more rounds after round r ends in a round that stands at place c of the calendar
--   Timed p n r ends s == the calendar has whose actions end when, where r rounds are done
--   Manned             == the workers, the weight of the living frames, the peak and the set of those that are idle
--   Done               == what is done, the rows and the pool
--   Quiet ws           == no worker waits: each holds a job or is idle
--   Begun p n r s      == s is the state of the run as the turns of round r begin, in which job 0 has not ended and no job is free while a
--                         worker is idle; and the run goes on from it
--   Throughout A       == A holds of every plan that a run may have been given, and there is one; one_of, go_on == of that one, and from one
--                         such fact to the next
--   after_turns, over, after_takes == the state after the turns of the workers below k; after all turns; after the takings of the workers below k
--   Between, Waits, InTurns, InTakes == how they stand between two rounds; before a round; among a round's turns, and among the takings
--                         behind them
use Prim.Native.Nat.{ℕ, suc, ◌+◌, ◌-◌, ◌%◌, ◌^◌, ◌≤◌, ◌<◌}
use mathlib.Core.Path.{◌≡◌}
use mathlib.Core.Bool.{Bool, false, not}
use mathlib.Core.List.{List}
use lib.Dec.{eqb, ltb}
use lib.ListN.{length, get_or}
use Rattle.plan.specs.Contract.{Some, ◌⇒◌}
use Rattle.plan.specs.Plan.{Plan, size, action}
use Rattle.plan.specs.declared.sheet.Sheet.{Sheet}
use Rattle.plan.specs.Sheet.{Planned}
use Rattle.plan.specs.Test.{both}
use Rattle.plan_measure.specs.Measure.{work}
use Rattle.courses.specs.Ready.{weight}
use Rattle.runs.specs.declared.worker.Worker.{Worker}
use Rattle.runs.specs.declared.worker.Worker.TheVariants.{Idle, Holding, Waiting}
use Rattle.runs.specs.State.{holds}
use Rattle.runs.proofs.Laws.Coursed.{hands_of}
use Rattle.pools.specs.State.{State, next_of, worker_of}
use Rattle.pools.specs.Take.{takes}
use Rattle.pools.specs.Turn.{turns}
use Rattle.pools.specs.Run.{ended, rounds, pool}
use Rattle.pools.specs.Trace.{turning, Trace}
use Rattle.pools.proofs.Laws.Tests.{Free}
use Rattle.crew.specs.Crew.{member}
use Rattle.crew.proofs.Laws.Walks.{Crewed, Left}
use Rattle.pool_set.specs.declared.Pool.{Pool}
use Rattle.turns.specs.declared.progress.Progress.{Progress}
use Rattle.turns.specs.Progress.{Progressed}
use Rattle.turns.specs.Rows.{Rowed}
use Rattle.rounds.specs.Account.{is_idle}
use Rattle.rounds.proofs.Laws.Standing.{idle_in}
use Rattle.pool_turns.specs.Moments.{unspent}
use Rattle.pool_turns.specs.Pooled.{Pooled}
use Rattle.pool_runner.specs.Rounds.{PoolGiven}

pub record Fitted (p : Plan) (n : ℕ) (plan : Sheet) : Type 0 where
  pub planned : Planned plan p
  pub some : 1 ≤ n
  pub most : n ≤ 16

abbrev pub rest_in : Plan → List ℕ → List ℕ → Worker → ℕ
rest_in p next spent Idle = 0
rest_in p next spent (Holding j) = (action p j (get_or next j 0)).cost - get_or spent j 0
rest_in p next spent (Waiting v l) = 0

abbrev pub rest_of : Plan → State → ℕ → ℕ
rest_of p s w = rest_in p s.next s.spent (worker_of s w)

abbrev pub slot : ℕ → ℕ → ℕ → Bool
slot r m c = both (ltb 0 m) (eqb c ((r + m) % 16))

pub record Timed (p : Plan) (n r : ℕ) (ends : List ℕ) (s : State) : Type 0 where
  pub long : length ends ≡ 16
  pub small : (c : ℕ) → get_or ends c 0 < 2 ^ n
  pub each : (w c : ℕ) → w < 16 → c < 16 → member (get_or ends c 0) w ≡ slot r (rest_of p s w) c

pub record Manned (n : ℕ) (weighs peak idlers : ℕ) (workers : List Worker) (p : Plan) (s : State) : Type 0 where
  pub seated : workers ≡ s.workers
  pub weighed : weighs ≡ weight p s.next
  pub highest : peak ≡ s.tally.peak
  pub idle : Crewed (idle_in s.workers) n idlers

pub record Done (p : Plan) (progress : Progress) (pool : Pool) (rows : List ℕ) (s : State) : Type 0 where
  pub progressed : Progressed p s.next (unspent p) progress
  pub rowed : Rowed p s.next s.rows rows
  pub pooled : Pooled p s.next s.workers pool

abbrev pub Quiet : List Worker → Type 0
Quiet ws = (w : ℕ) → is_idle (get_or ws w Idle) ≡ not (holds (get_or ws w Idle))

pub record Begun (p : Plan) (n r : ℕ) (s : State) : Type 0 where
  pub trace : Trace p n r s.workers (turning 0) s
  pub on : next_of s 0 < size p 0
  pub greedy : (w : ℕ) → w < n → hands_of s.workers w ≡ 0 → (j : ℕ) → ¬ Free p s.next s.workers j
  pub fuel : ℕ
  pub left : pool p n ≡ rounds fuel p n (turns p r n s.workers s)
  pub enough : work p ≤ fuel + r

pub fitted : {n : ℕ} {plan : Sheet} {entering : List ℕ} {q : Plan} → PoolGiven n plan entering q → Fitted q n plan
fitted g = record { planned = g.given.planned; some = g.some; most = g.most }

pub record Throughout (n : ℕ) (plan : Sheet) (entering : List ℕ) (A : Plan → Type 0) : Type 0 where
  pub given : Some (PoolGiven n plan entering)
  pub all : PoolGiven n plan entering ⇒ A

module _ {n : ℕ} {plan : Sheet} {entering : List ℕ} {A : Plan → Type 0} (t : Throughout n plan entering A) where
  pub one_of : (p : Plan) × Fitted p n plan × A p
  one_of = let (p, g) = t.given in (p, fitted g, t.all p g)

  pub go_on : {B : Plan → Type 0} → ((p : Plan) → Fitted p n plan → A p → B p) → Throughout n plan entering B
  go_on f = record { given = t.given; all = λ p g. f p (fitted g) (t.all p g) }

module _ (p : Plan) (n : ℕ) where
  -- r rounds are done, and the taking behind them
  pub record Between (r weighs peak idlers : ℕ) (workers : List Worker) (ends : List ℕ) (progress : Progress) (pool : Pool) (rows : List ℕ) : Type 0 where
    pub state : State
    pub begun : Begun p n (suc r) state
    pub timed : Timed p n r ends state
    pub manned : Manned n weighs peak idlers workers p state
    pub done : Done p progress pool rows state

  -- round r comes next
  pub record Waits (r weighs peak idlers : ℕ) (workers : List Worker) (ends : List ℕ) (progress : Progress) (pool : Pool) (rows : List ℕ) : Type 0 where
    pub past : ℕ
    pub is : r ≡ suc past
    pub stands : Between past weighs peak idlers workers ends progress pool rows

  -- the state after the turns of the workers below k, where `s` is that in which the turns of round r began, and after all turns
  abbrev pub after_turns : ℕ → ℕ → State → State
  after_turns r k s = turns p r k s.workers s

  abbrev pub over : ℕ → State → State
  over r s = after_turns r n s

  -- in round suc r the workers below k have had their turns: the calendar has what they work on next, and, of the others, those whose
  -- actions do not end in this round
  pub record Passing (r k : ℕ) (ends : List ℕ) (s : State) : Type 0 where
    pub long : length ends ≡ 16
    pub small : (c : ℕ) → get_or ends c 0 < 2 ^ n
    pub had : (w c : ℕ) → w < k → c < 16 → member (get_or ends c 0) w ≡ slot (suc r) (rest_of p s w) c
    pub not_yet : (w c : ℕ) → k ≤ w → w < 16 → c < 16 → member (get_or ends c 0) w ≡ both (ltb 1 (rest_of p s w)) (eqb c ((r + rest_of p s w) % 16))

  -- whose action ends in the round that begins
  abbrev pub due_in : State → ℕ → Bool
  due_in s w = eqb (rest_of p s w) 1

  -- the workers below `past` have had their turns in round suc r, and `left` is the set of those of the others whose actions end in it
  pub record InTurns (r left weighs peak idlers : ℕ) (workers : List Worker) (ends : List ℕ) (progress : Progress) (pool : Pool) (rows : List ℕ) : Type 0 where
    pub round : ℕ
    pub is : r ≡ suc round
    pub state : State
    pub begun : Begun p n r state
    pub past : ℕ
    pub ahead : past ≤ n
    pub walk : Left (due_in state) n past left
    pub rests : (w : ℕ) → past ≤ w → rest_of p (after_turns r past state) w ≡ rest_of p state w
    pub passing : Passing round past ends (after_turns r past state)
    pub manned : Manned n weighs peak idlers workers p (after_turns r past state)
    pub done : Done p progress pool rows (after_turns r past state)

  abbrev pub after_takes : ℕ → ℕ → State → State
  after_takes r k s = takes p k (over r s)

  -- the workers below `past` have taken, and `left` is the set of those of the others who were idle as the taking began
  pub record InTakes (r left weighs peak idlers : ℕ) (workers : List Worker) (ends : List ℕ) (progress : Progress) (pool : Pool) (rows : List ℕ) : Type 0 where
    pub state : State
    pub begun : Begun p n r state
    pub on : ended p (over r state) ≡ false
    pub past : ℕ
    pub ahead : past ≤ n
    pub walk : Left (idle_in (over r state).workers) n past left
    pub timed : Timed p n r ends (after_takes r past state)
    pub manned : Manned n weighs peak idlers workers p (after_takes r past state)
    pub done : Done p progress pool rows (after_takes r past state)
