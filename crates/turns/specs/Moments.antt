-- A moment of a run, and what a turn and its parts are given and leave of it. Functions that are no entries cite this file.
--   InRun S r b g s == the setting S is let through (an accepted plan, 1 to 16 workers, choices that fit), and s is the state of its run
--                      at stage g of round r, where b are the workers as the round began
--   Moment, At      == a setting, a round, the workers as it began and a state; the state is that of a run at a stage
--   Held            == at moment m worker w holds job j, whose next action stands at place k
--   Sending         == .. and the arrays stand for m, but that no round is spent on job j's next action any more
--   Acting          == .. and so does the weight of the living frames
--   Sent            == the action is counted and rule 1 followed
--   Settling        == Held and Sent, the weight is that of the living frames at m, and the action spawned none
--   After           == the arrays stand for the state t of a run of p, and the answer `after` for its worker w and living frames
--   Acted           == .. where t is the state after a turn in which worker w, which holds job j, finishes its next action
--   Turning         == at moment m worker w, which holds a job, is about to take its turn; the arrays stand for m
--   TurnTaken       == they stand for the state after it
use Rattle.std.specs.Prelude.{ℕ, ◌≤◌, ◌<◌, ◌≡◌, true, List, set, T}
use Rattle.plan.specs.Plan.{Plan, action}
use Rattle.plan.specs.Rules.{Accepted}
use Rattle.plan.specs.declared.sheet.Sheet.{Sheet}
use Rattle.plan.specs.Sheet.{Planned}
use Rattle.courses.specs.Row.{place}
use Rattle.courses.specs.Ready.{weight}
use Rattle.runs.specs.declared.worker.Worker.{Worker}
use Rattle.runs.specs.declared.worker.Worker.TheVariants.{Holding}
use Rattle.runs.specs.Setting.{Setting}
use Rattle.runs.specs.State.{State, next_of, worker_of, holds}
use Rattle.runs.specs.Turn.{finished, turn_of}
use Rattle.runs.specs.Run.{choices_fit}
use Rattle.runs.specs.Trace.{Stage, turning, Trace}
pub use Rattle.runs.specs.Parts.{after_of, fresh_of, above_of}
use Rattle.deques.specs.declared.Deque.{Deque}
use Rattle.deques.specs.Dequed.{Dequed}
use Rattle.turns.specs.declared.turn.Turned.{Turned}
use Rattle.turns.specs.declared.progress.Progress.{Progress}
use Rattle.turns.specs.Progress.{Progressed}
use Rattle.turns.specs.Rows.{Rowed}

pub record InRun (S : Setting) (r : ℕ) (began : List Worker) (g : Stage) (s : State) : Type 0 where
  pub accepted : Accepted S.plan
  pub some : 1 ≤ S.workers
  pub most : S.workers ≤ 16
  pub fit : T (choices_fit S.workers S.choices)
  pub trace : Trace S r began g s

pub record Moment : Type 0 where
  pub setting : Setting
  pub round : ℕ
  pub began : List Worker
  pub state : State

abbrev pub At : Stage → Moment → Type 0
At g m = InRun m.setting m.round m.began g m.state

pub record Held (k j w : ℕ) (plan : Sheet) (m : Moment) : Type 0 where
  pub run : At (turning w) m
  pub known : w < m.setting.workers
  pub holding : worker_of m.state w ≡ Holding j
  pub planned : Planned plan m.setting.plan
  pub here : k ≡ place m.setting.plan j (next_of m.state j)

pub record Sending (k j w : ℕ) (plan : Sheet) (progress : Progress) (deques : List Deque) (m : Moment) : Type 0 where
  pub held : Held k j w plan m
  pub progressed : Progressed m.setting.plan m.state.next (fresh_of m.state j) progress
  pub dequed : Dequed deques m.state.deques

pub record Acting (k j w weighs : ℕ) (plan : Sheet) (progress : Progress) (deques : List Deque) (m : Moment) : Type 0 where
  pub sending : Sending k j w plan progress deques m
  pub weighed : weighs ≡ weight m.setting.plan m.state.next

pub record Sent (j w : ℕ) (progress : Progress) (deques : List Deque) (m : Moment) : Type 0 where
  pub progressed : Progressed m.setting.plan (after_of m.state j) (fresh_of m.state j) progress
  pub dequed : Dequed deques (set m.state.deques w (above_of m.setting.plan m.state w j))

pub record Settling (k j w weighs : ℕ) (plan : Sheet) (progress : Progress) (deques : List Deque) (m : Moment) : Type 0 where
  pub held : Held k j w plan m
  pub weighed : weighs ≡ weight m.setting.plan m.state.next
  pub sent : Sent j w progress deques m
  pub none : (action m.setting.plan j (next_of m.state j)).spawn ≡ 0

pub record After (w : ℕ) (after : Turned) (progress : Progress) (deques : List Deque) (p : Plan) (t : State) : Type 0 where
  pub worker : after.worker ≡ worker_of t w
  pub weighed : after.weight ≡ weight p t.next
  pub progressed : Progressed p t.next t.spent progress
  pub dequed : Dequed deques t.deques

abbrev pub Acted : ℕ → ℕ → Turned → Progress → List Deque → Moment → Type 0
Acted j w after progress deques m =
    After w after progress deques m.setting.plan (finished m.setting.plan m.round w j m.state)

pub record Turning (x : Worker) (r w weighs : ℕ) (plan : Sheet) (progress : Progress) (deques : List Deque) (rows : List ℕ) (m : Moment)
    : Type 0 where
  pub run : At (turning w) m
  pub now_in : r ≡ m.round
  pub known : w < m.setting.workers
  pub here : x ≡ worker_of m.state w
  pub holding : holds x ≡ true
  pub weighed : weighs ≡ weight m.setting.plan m.state.next
  pub planned : Planned plan m.setting.plan
  pub progressed : Progressed m.setting.plan m.state.next m.state.spent progress
  pub dequed : Dequed deques m.state.deques
  pub rowed : Rowed m.setting.plan m.state.next m.state.rows rows

pub record TurnTaken (x : Worker) (w : ℕ) (after : Turned) (progress : Progress) (deques : List Deque) (rows : List ℕ) (m : Moment)
    : Type 0 where
  pub left : After w after progress deques m.setting.plan (turn_of m.setting.plan m.round w x m.state)
  pub rowed : let t = turn_of m.setting.plan m.round w x m.state in Rowed m.setting.plan t.next t.rows rows
