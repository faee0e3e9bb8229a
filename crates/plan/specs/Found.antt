-- What reading plan bytes into a plan's arrays answers.
--   ReadPlan s plan entering == the bytes s hold a plan, of the form that is told; the arrays hold it, and `entering` how many joins
--                       enter each action; it has its full length, which nothing else tells of a lent array
--   ReadInto s r plan entering == the answer r is the refusal, or that this is so
use Rattle.std.specs.Prelude.{ℕ, ◌≡◌, List, length, ⊤, Result, Ok, Err}
use Rattle.plan.specs.declared.sheet.Sheet.{Sheet}
use Rattle.plan.specs.declared.refusal.Refusal.{Refusal}
use Rattle.plan.specs.Refusal.{refused, accepted, number_of}
use Rattle.plan.specs.Plan.{Plan}
use Rattle.plan.specs.Reader.{read_plan}
use Rattle.plan.specs.Entering.{Entered}
use Rattle.plan.specs.Sheet.{PlanIn}

pub record ReadPlan (s : List ℕ) (plan : Sheet) (entering : List ℕ) : Type 0 where
  pub is : Plan
  pub read : read_plan s ≡ accepted (record { form = plan.form; plan = is })
  pub held : PlanIn plan is
  pub entered : Entered is entering
  pub whole : length entering ≡ 2048

abbrev pub ReadInto : List ℕ → Result ⊤ Refusal → Sheet → (entering : List ℕ) → Type 0
ReadInto s (Err cause) plan entering = read_plan s ≡ refused (number_of cause)
ReadInto s (Ok _) plan entering = ReadPlan s plan entering
