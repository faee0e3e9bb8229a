-- What private functions of this crate are given and answer. No public entry cites these.
--   PlanAs form s plan   == the bytes s are of that form and hold a plan, which the arrays hold
--   ReadAs form s r plan == the answer r is the refusal, or that this is so
use Rattle.std.specs.Prelude.{ℕ, ◌≡◌, List, ⊤, Result, Ok, Err}
use Rattle.plan.specs.declared.sheet.Sheet.{Sheet}
use Rattle.plan.specs.declared.refusal.Refusal.{Refusal}
use Rattle.plan.specs.Refusal.{refused, accepted, number_of}
use Rattle.plan.specs.Plan.{Plan}
use Rattle.plan.specs.Reader.{read_plan}
use Rattle.plan.specs.Sheet.{PlanIn}
use Rattle.plan_forms.specs.Forms.{read_as}

pub record PlanAs (form : ℕ) (s : List ℕ) (plan : Sheet) : Type 0 where
  pub is : Plan
  pub told : read_as form s ≡ accepted is
  pub read : read_plan s ≡ accepted (record { form = form; plan = is })
  pub held : PlanIn plan is

abbrev pub ReadAs : ℕ → List ℕ → Result ⊤ Refusal → Sheet → Type 0
ReadAs form s (Err cause) plan = read_as form s ≡ refused (number_of cause)
ReadAs form s (Ok _) plan = PlanAs form s plan
