-- What a caller of the reader has, by its answer, and what one who has the array of a plan has.
use Prim.Native.Nat.{ℕ, ◌≤◌}
use mathlib.Core.Path.{◌≡◌}
use mathlib.Core.List.{List}
use native.Mathlib.Omega.{arith}
use Rattle.std.specs.Prelude.{⊤, Result, Ok, Err}
use Rattle.plan.specs.declared.sheet.Sheet.{Sheet}
use Rattle.plan.specs.declared.refusal.Refusal.{Refusal}
use Rattle.plan.specs.Refusal.{refused, number_of}
use Rattle.plan.specs.Plan.{Plan}
use Rattle.plan.specs.Reader.{read_plan}
use Rattle.plan.specs.Sheet.{RuledIn, PlanIn}
use Rattle.plan.specs.Found.{ReadPlan, ReadInto}
use Rattle.plan.proofs.Laws.Valid.{jobs_range, total_range}

module _ (s : List ℕ) (r : Result ⊤ Refusal) (plan : Sheet) (entering : List ℕ) (h : ReadInto s r plan entering) where
  pub found_plan : (x : ⊤) → r ≡ Ok x → ReadPlan s plan entering
  found_plan x e = rw e at h

  pub found_none : (cause : Refusal) → r ≡ Err cause → read_plan s ≡ refused (number_of cause)
  found_none cause e = rw e at h

-- arrays that hold a plan have it, parents left out
pub ruled_in : {plan : Sheet} {p : Plan} → PlanIn plan p → RuledIn plan p
ruled_in h = record { count = h.count; all = h.all; rules = h.planned.rules; laid = h.planned.laid }

-- a plan that keeps the rules has at most 256 jobs and 2,048 actions
pub ruled_few : (plan : Sheet) (p : Plan) → RuledIn plan p → (plan.jobs ≤ 256) × (plan.actions ≤ 2048)
ruled_few plan p h = omega (arith, h.count, h.all, jobs_range p h.rules, total_range p h.rules)

pub counts_few : (plan : Sheet) (p : Plan) → PlanIn plan p → (plan.jobs ≤ 256) × (plan.actions ≤ 2048)
counts_few plan p h = ruled_few plan p (ruled_in h)
