-- What is measured of a plan that was read, and what the entry then answers.
use Prim.Native.Nat.{ℕ, ◌/◌, ◌%◌}
use mathlib.Core.Path.{◌≡◌, sym, ap, ◌∙◌}
use mathlib.Core.List.{List}
use Rattle.plan.specs.declared.sheet.Sheet.{Sheet}
use Rattle.plan.specs.Refusal.{refused, accepted}
use Rattle.plan.specs.Plan.{Plan}
use Rattle.plan.specs.Reader.{Read, read_plan}
use Rattle.plan.specs.Sheet.{PlanIn}
use Rattle.plan_measure.specs.declared.Measures.{Measures}
use Rattle.plan_measure.specs.Measure.{work, longest, heaviest, parallel, rest, measures_of, measured, measures}
use Rattle.plan_measure.specs.Times.{PlanOf, ActionsOf}

module _ (p : Plan) (plan : Sheet) (g : PlanIn plan p) where
  pub measured_of : PlanOf plan p
  measured_of = record { count = g.count; planned = g.planned }

  pub measured_all : ActionsOf plan p
  measured_all = record { all = g.all; planned = g.planned }

  pub measured_by : (sum length weight : ℕ) → sum ≡ work p → length ≡ longest p → weight ≡ heaviest p
      → record { total = plan.actions; work = sum; longest = length; path = weight; parallel = sum / length; rest = sum % length } ≡ measures_of p
  unfolding measures_of parallel rest
  measured_by sum length weight s e h = λ i.
      record { total = g.all i; work = s i; longest = e i; path = h i; parallel = s i / e i; rest = s i % e i }

module _ (s : List ℕ) where
  pub measures_read : (r : Read) (m : Measures) → read_plan s ≡ accepted r → m ≡ measures_of r.plan → accepted m ≡ measures s
  unfolding measures measured
  measures_read r m e q = ap accepted q ∙ sym (ap measured e)

  pub measures_refused : (n : ℕ) → read_plan s ≡ refused n → measures s ≡ refused n
  unfolding measures measured
  measures_refused n e = rw e
