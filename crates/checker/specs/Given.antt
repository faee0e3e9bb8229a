-- What the test of a schedule's rules is given. Private functions alone cite it.
--   Task                      == a plan and the rows of a schedule for it
--   Tasked rows plan t        == the array and the plan's arrays hold the rows and the plan
--   SpawnGiven j rows plan t  == besides, j is a job that is spawned
--   StandGiven k s rows plan t == besides, k is the place of an action, and the walk over the actions stands there as s says
--   RulesGiven workers rows plan t == besides, the number of actions is the plan's, whose costs may stand in a plan of its form, and there
--                                is at least one worker
use Rattle.std.specs.Prelude.{ℕ, ◌≤◌, ◌<◌, ◌≡◌, List, length, T}
use Rattle.plan.specs.declared.sheet.Sheet.{Sheet}
use Rattle.plan.specs.Plan.{Plan, total}
use Rattle.plan.specs.Rules.{costs_fit}
use Rattle.plan.specs.Sheet.{Planned}
use Rattle.courses.specs.Row.{Row}
use Rattle.checker.specs.declared.rules.Standing.{Standing}
use Rattle.checker.specs.Rows.{RowsIn, span_at}
use Rattle.checker.specs.Judging.{Stood}

pub record Task : Type 0 where
  pub plan : Plan
  pub rows : List Row

pub record Tasked (rows : List ℕ) (plan : Sheet) (t : Task) : Type 0 where
  pub planned : Planned plan t.plan
  pub held : RowsIn t.rows rows
  pub all : length t.rows ≡ total t.plan

pub record SpawnGiven (j : ℕ) (rows : List ℕ) (plan : Sheet) (t : Task) : Type 0 where
  pub later : 1 ≤ j
  pub known : j < length t.plan
  pub tasked : Tasked rows plan t

pub record StandGiven (k : ℕ) (s : Standing) (rows : List ℕ) (plan : Sheet) (t : Task) : Type 0 where
  pub within : k < total t.plan
  pub stood : Stood t.plan (span_at rows plan) k s
  pub tasked : Tasked rows plan t

pub record RulesGiven (workers : ℕ) (rows : List ℕ) (plan : Sheet) (t : Task) : Type 0 where
  pub some : 1 ≤ workers
  pub count : plan.actions ≡ total t.plan
  pub fits : T (costs_fit plan.form t.plan)
  pub tasked : Tasked rows plan t
