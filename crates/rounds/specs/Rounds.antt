-- What all rounds of a run are given, and what they leave. Functions that are no entries cite this file.
--   RunIn plan entering p == the plan that was read is the plan p, which keeps all rules, and `entering` has how many joins enter each of
--                       its actions
--   RunGiven n choices plan entering p == so it is, and n workers can run by the choices
--   RunLeft n choices t rows p == the counts are those of the run of p, and the rows those of its schedule
use Rattle.std.specs.Prelude.{ℕ, ◌≤◌, ◌≡◌, List, length, T}
use Rattle.plan.specs.Plan.{Plan, total}
use Rattle.plan.specs.Entering.{Entered}
use Rattle.plan.specs.declared.sheet.Sheet.{Sheet}
use Rattle.plan.specs.Sheet.{Planned}
use Rattle.runs.specs.declared.tally.Tally.{Tally}
use Rattle.runs.specs.Setting.{setting}
use Rattle.runs.specs.Run.{run, choices_fit}
use Rattle.turns.specs.Rows.{Rowed}

pub record RunIn (plan : Sheet) (entering : List ℕ) (p : Plan) : Type 0 where
  pub planned : Planned plan p
  pub all : plan.actions ≡ total p
  pub entered : Entered p entering
  pub whole : length entering ≡ 2048

pub record RunGiven (n : ℕ) (choices : List ℕ) (plan : Sheet) (entering : List ℕ) (p : Plan) : Type 0 where
  pub given : RunIn plan entering p
  pub some : 1 ≤ n
  pub most : n ≤ 16
  pub fit : T (choices_fit n choices)

pub record RunLeft (n : ℕ) (choices : List ℕ) (t : Tally) (rows : List ℕ) (p : Plan) : Type 0 where
  pub counts : t ≡ (run (setting p n choices)).tally
  pub rowed : let s = run (setting p n choices) in Rowed p s.next s.rows rows
