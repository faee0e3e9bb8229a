-- What the reader of one action answers. Functions that read alone cite this.
--   cost_field form s at == the cost as it is written: four bits, or in form 1 none, for 1; a cost of 0 is not turned down yet
--   ActionRead form s at j k plan plan' r == the action at place at of the bytes s, of a plan of that form, is laid at place k, as one of
--                                            job j; or why there is none
use Rattle.std.specs.Prelude.{ℕ, ◌≡◌, true, false, List, eqb, Result, Ok, Err}
use Rattle.fields.specs.Field.{Step, stop, step, field_at}
use Rattle.plan.specs.declared.sheet.Sheet.{Sheet}
use Rattle.plan.specs.declared.refusal.Refusal.{Refusal}
use Rattle.plan.specs.Refusal.{number_of}
use Rattle.plan.specs.Plan.{Action}
use Rattle.plan.specs.Reader.{action_at}
use Rattle.plan.specs.Sheet.{with_action}

abbrev pub cost_field : ℕ → List ℕ → ℕ → Step ℕ
cost_field form s at = elim (eqb form 1) [ true ↦ step 1 at | false ↦ field_at s 4 at ]

abbrev pub ActionRead : ℕ → List ℕ → (at j k : ℕ) → Sheet → Sheet → Result ℕ Refusal → Type 0
ActionRead form s at j k plan plan' (Err cause) = action_at form s at ≡ stop (number_of cause)
ActionRead form s at j k plan plan' (Ok next) =
    (x : Action) × (action_at form s at ≡ step x next) × (plan' ≡ with_action plan k j x.spawn x.join x.cost)
