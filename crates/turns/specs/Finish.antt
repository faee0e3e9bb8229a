-- An action that is done, in whatever kind of run: what counting it and sending its join are given, and what they leave. Functions that are
-- no entries cite this file.
--   Deed                          == a plan, how many actions of each job are done, and the rounds spent on each job's next action
--   done_in d j, after_in d j       == how many actions of job j are done; the counts once it has done its next one
--   Finishing k j plan progress d == the action at place k is the next one of job j, which can do it, and plan and progress stand for d
--   Finished j woken progress d   == it is counted and its join sent; `woken` tells whether the parent, which was stalled, is ready by it
use Rattle.std.specs.Prelude.{ℕ, suc, ◌≡◌, Bool, List, get_or, set}
use Rattle.plan.specs.Plan.{Plan}
use Rattle.plan.specs.declared.sheet.Sheet.{Sheet}
use Rattle.plan.specs.Sheet.{Planned}
use Rattle.courses.specs.Row.{place}
use Rattle.courses.proofs.Laws.PlanShape.{shape}
use Rattle.lines.proofs.Laws.Act.{Act}
use Rattle.runs.specs.Turn.{wakes}
use Rattle.turns.specs.declared.progress.Progress.{Progress}
use Rattle.turns.specs.Progress.{Progressed}

pub record Deed : Type 0 where
  pub plan : Plan
  pub next : List ℕ
  pub spent : List ℕ

abbrev pub done_in : Deed → ℕ → ℕ
done_in d j = get_or d.next j 0

abbrev pub after_in : Deed → ℕ → List ℕ
after_in d j = set d.next j (suc (done_in d j))

pub record Finishing (k j : ℕ) (plan : Sheet) (progress : Progress) (d : Deed) : Type 0 where
  pub planned : Planned plan d.plan
  pub act : Act (shape d.plan) (done_in d) (λ h. get_or (after_in d j) h 0) j
  pub here : k ≡ place d.plan j (done_in d j)
  pub progressed : Progressed d.plan d.next d.spent progress

pub record Finished (j : ℕ) (woken : Bool) (progress : Progress) (d : Deed) : Type 0 where
  pub progressed : Progressed d.plan (after_in d j) d.spent progress
  pub told : woken ≡ wakes d.plan d.next (after_in d j) j (done_in d j)
