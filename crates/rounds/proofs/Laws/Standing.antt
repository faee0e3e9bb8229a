-- How the runner's objects stand for a run, at the head of each of the four loops of `run_rounds`.
--   Fitted S plan       == the plan that was read is that of S, and S can be run; fitted == so it is of what a run is given
--   holding_in, idle_in, asked_in == a worker holds a job; is idle; a victim has a request: the tests that the three sets stand for
--   Ranked v ws lo hi q == the workers of q wait on v, and their requests have rising ranks from lo on and below hi
--   Queue, Queued       == the line of the requests at a victim, oldest first and whole, and the sixteen lines
--   Manned              == the workers, the weight of the living frames, the counts and the sets of those that hold a job or are idle
--   Asking              == the place of the next request's choice, the lines, and the set of the victims that have one
--   Done                == what is done, and the rows
--   Begun S r s         == s is the state of the run of S as round r begins, and the run goes on from it
--   Throughout A        == A holds of every setting that a run may have been given, and there is one; one_of, go_on == of that one, and
--                          from one such fact to the next
--   after_turns, half, after_lays, after_serves == the state after the turns of the workers below k; after all turns; after the requests of
--                          the workers below k; after the services of the victims below k
--   Between, InTurns, InLays, InServes == the loops' invariants: between two rounds, and among a round's turns, requests and services
use Prim.Native.Nat.{ℕ, suc, ◌+◌, ◌*◌, ◌%◌, ◌≤◌, ◌<◌}
use mathlib.Core.Path.{◌≡◌}
use mathlib.Core.Bool.{Bool, false}
use mathlib.Core.List.{List, [], ◌∷◌}
use lib.ListN.{length, get_or}
use lib.Dec.{T, ltb}
use Rattle.plan.specs.Contract.{Some, ◌⇒◌}
use Rattle.plan.specs.Plan.{Plan}
use Rattle.plan.specs.declared.sheet.Sheet.{Sheet}
use Rattle.plan.specs.Sheet.{Planned}
use Rattle.plan_measure.specs.Measure.{work}
use Rattle.lines.proofs.Laws.Member.{◌∈◌}
use Rattle.courses.specs.Ready.{weight}
use Rattle.runs.specs.declared.worker.Worker.{Worker}
use Rattle.runs.specs.declared.worker.Worker.TheVariants.{Idle, Waiting}
use Rattle.runs.specs.Setting.{Setting, setting}
use Rattle.runs.specs.State.{State, holds}
use Rattle.runs.specs.Turn.{turns}
use Rattle.runs.specs.Steal.{lays, serves}
use Rattle.runs.specs.Run.{ended, rounds, run, choices_fit}
use Rattle.runs.specs.Trace.{turning, Trace}
use Rattle.runs.proofs.Laws.Least.{rank}
use Rattle.crew.specs.declared.line.Lines.{Lines}
use Rattle.crew.specs.Line.{waiting_at, LineAt}
use Rattle.crew.proofs.Laws.Walks.{Crewed, Left}
use Rattle.deques.specs.declared.Deque.{Deque}
use Rattle.deques.specs.Dequed.{Dequed}
use Rattle.turns.specs.declared.progress.Progress.{Progress}
use Rattle.turns.specs.Progress.{Progressed}
use Rattle.turns.specs.Rows.{Rowed}
use Rattle.rounds.specs.Account.{is_idle}
use Rattle.rounds.specs.declared.account.Account.{Account}
use Rattle.rounds.specs.Rounds.{RunGiven}

pub record Fitted (S : Setting) (plan : Sheet) : Type 0 where
  pub planned : Planned plan S.plan
  pub some : 1 ≤ S.workers
  pub most : S.workers ≤ 16
  pub fit : T (choices_fit S.workers S.choices)

abbrev pub holding_in : List Worker → ℕ → Bool
holding_in ws w = holds (get_or ws w Idle)

abbrev pub idle_in : List Worker → ℕ → Bool
idle_in ws w = is_idle (get_or ws w Idle)

abbrev pub asked_in : Lines → ℕ → Bool
asked_in lines v = ltb 0 (waiting_at lines v)

abbrev pub Ranked : ℕ → List Worker → ℕ → ℕ → List ℕ → Type 0
Ranked v ws lo hi [] = lo ≤ hi
Ranked v ws lo hi (w ∷ q) =
    (l : ℕ) × (w < 16) × (get_or ws w Idle ≡ Waiting v l) × (lo ≤ rank l w) × Ranked v ws (suc (rank l w)) hi q

pub record Queue (v : ℕ) (ws : List Worker) (hi : ℕ) (lines : Lines) : Type 0 where
  pub line : List ℕ
  pub lined : LineAt v lines line
  pub ranked : Ranked v ws 0 hi line
  pub whole : (w l : ℕ) → get_or ws w Idle ≡ Waiting v l → w ∈ line

abbrev pub Queued : ℕ → List Worker → Lines → Type 0
Queued hi ws lines = (v : ℕ) → v < 16 → Queue v ws hi lines

pub record Manned (n : ℕ) (a : Account) (workers : List Worker) (p : Plan) (s : State) : Type 0 where
  pub seated : workers ≡ s.workers
  pub weighs : a.weight ≡ weight p s.next
  pub counts : a.tally ≡ s.tally
  pub holders : Crewed (holding_in s.workers) n a.holders
  pub idlers : Crewed (idle_in s.workers) n a.idlers

pub record Asking (n hi : ℕ) (victims : ℕ) (choices : List ℕ) (cursor : ℕ) (lines : Lines) (s : State) : Type 0 where
  pub pointed : cursor ≡ s.tally.requests % length choices
  pub queued : Queued hi s.workers lines
  pub crewed : Crewed (asked_in lines) n victims

pub record Done (p : Plan) (progress : Progress) (rows : List ℕ) (s : State) : Type 0 where
  pub progressed : Progressed p s.next s.spent progress
  pub rowed : Rowed p s.next s.rows rows

pub record Begun (S : Setting) (r : ℕ) (s : State) : Type 0 where
  pub on : ended S.plan s ≡ false
  pub trace : Trace S r s.workers (turning 0) s
  pub fuel : ℕ
  pub left : run S ≡ rounds fuel S s
  pub enough : work S.plan < fuel + r

pub fitted : {m : ℕ} {choices : List ℕ} {plan : Sheet} {entering : List ℕ} {q : Plan} → RunGiven m choices plan entering q
    → Fitted (setting q m choices) plan
fitted g = record { planned = g.given.planned; some = g.some; most = g.most; fit = g.fit }

pub record Throughout (n : ℕ) (choices : List ℕ) (plan : Sheet) (entering : List ℕ) (A : Setting → Type 0) : Type 0 where
  pub given : Some (RunGiven n choices plan entering)
  pub all : RunGiven n choices plan entering ⇒ (λ p. A (setting p n choices))

module _ {n : ℕ} {choices : List ℕ} {plan : Sheet} {entering : List ℕ} {A : Setting → Type 0}
    (t : Throughout n choices plan entering A) where
  pub one_of : (p : Plan) × Fitted (setting p n choices) plan × A (setting p n choices)
  one_of = let (p, g) = t.given in (p, fitted g, t.all p g)

  pub go_on : {B : Setting → Type 0}
      → ((p : Plan) → Fitted (setting p n choices) plan → A (setting p n choices) → B (setting p n choices))
      → Throughout n choices plan entering B
  go_on f = record { given = t.given; all = λ p g. f p (fitted g) (t.all p g) }

module _ (S : Setting) where
  abbrev n : ℕ
  n = S.workers

  abbrev p : Plan
  p = S.plan

  -- r rounds are done
  pub record Between (r : ℕ) (a : Account) (workers : List Worker) (cursor : ℕ) (lines : Lines) (progress : Progress)
      (deques : List Deque) (rows : List ℕ) : Type 0 where
    pub state : State
    pub begun : Begun S (suc r) state
    pub manned : Manned n a workers p state
    pub asking : Asking n (suc r * 16) a.victims S.choices cursor lines state
    pub done : Done p progress rows state
    pub dequed : Dequed deques state.deques

  -- the state after the turns of the workers below k, where `s` is that in which round r began, and after all turns
  abbrev pub after_turns : ℕ → ℕ → State → State
  after_turns r k s = turns p r k s.workers s

  abbrev pub half : ℕ → State → State
  half r s = after_turns r n s

  -- `idle` is the set of those who were idle as round r began; the workers below `past` have had their turns, and `left` is the set
  -- of those of the others who held a job as it began
  pub record InTurns (r idle left past : ℕ) (a : Account) (workers : List Worker) (cursor : ℕ) (lines : Lines) (progress : Progress)
      (deques : List Deque) (rows : List ℕ)
      : Type 0 where
    pub state : State
    pub begun : Begun S r state
    pub were_idle : Crewed (idle_in state.workers) n idle
    pub ahead : past ≤ n
    pub walk : Left (holding_in state.workers) n past left
    pub manned : Manned n a workers p (after_turns r past state)
    pub asking : Asking n (r * 16) a.victims S.choices cursor lines state
    pub done : Done p progress rows (after_turns r past state)
    pub dequed : Dequed deques (after_turns r past state).deques

  abbrev pub after_lays : ℕ → ℕ → State → State
  after_lays r k s = lays S r k s.workers (half r s)

  pub record InLays (r left : ℕ) (a : Account) (workers : List Worker) (cursor : ℕ) (lines : Lines) (progress : Progress)
      (deques : List Deque) (rows : List ℕ) : Type 0 where
    pub state : State
    pub begun : Begun S r state
    pub on : ended p (half r state) ≡ false
    pub past : ℕ
    pub ahead : past ≤ n
    pub walk : Left (idle_in state.workers) n past left
    pub manned : Manned n a workers p (after_lays r past state)
    pub asking : Asking n (r * 16 + past) a.victims S.choices cursor lines (after_lays r past state)
    pub done : Done p progress rows (half r state)
    pub dequed : Dequed deques (half r state).deques

  abbrev pub after_serves : ℕ → ℕ → State → State
  after_serves r k s = serves S r k (after_lays r n s)

  -- `first` are the lines as the services began
  pub record InServes (r left : ℕ) (a : Account) (workers : List Worker) (cursor : ℕ) (lines : Lines) (progress : Progress)
      (deques : List Deque) (rows : List ℕ) : Type 0 where
    pub state : State
    pub begun : Begun S r state
    pub on : ended p (half r state) ≡ false
    pub first : Lines
    pub past : ℕ
    pub ahead : past ≤ n
    pub walk : Left (asked_in first) n past left
    pub same : (u : ℕ) → past ≤ u → u < 16 → waiting_at lines u ≡ waiting_at first u
    pub manned : Manned n a workers p (after_serves r past state)
    pub asking : Asking n (suc r * 16) a.victims S.choices cursor lines (after_serves r past state)
    pub done : Done p progress rows (half r state)
    pub dequed : Dequed deques (after_serves r past state).deques
