-- Old plans and new (document 02, L6): "One call turns form 1 into form 2 with all costs 1, another turns it back."
--   plan_read o           == the plan of what was read
--   expects form s first == the plan that the bytes s hold, where `first`, their first field, is that form, or the refusal; "A plan of the
--                           form not expected is 2"
--   read_as form s        == the same of the bytes s
--   plain o              == the plan o where all its costs are 1, or 15
--   to_form2, to_form1     == what the two entries answer and leave in the lent buffer
--   Converted from to s r bytes == the first of those bytes hold the plan that the bytes s hold, s in the one form and they in the other
use Rattle.std.specs.Prelude.{ℕ, ◌≡◌, true, false, List, take, eqb, Result, Ok}
use Rattle.fields.specs.Field.{Step, stop, step, field_at}
use Rattle.plan.specs.declared.refusal.Refusal.{Refusal}
use Rattle.plan.specs.Refusal.{Outcome, refused, accepted}
use Rattle.plan.specs.Plan.{Plan}
use Rattle.plan.specs.Rules.{costs_fit}
use Rattle.plan.specs.Reader.{Read, read_plan}
use Rattle.plan_writer.specs.Written.{Written, encoded}

abbrev pub plan_read : Outcome Read → Outcome Plan
plan_read (refused k) = refused k
plan_read (accepted r) = accepted r.plan

-- 2 where the form is read, before all that follows it
unfoldable pub expects : ℕ → List ℕ → Step ℕ → Outcome Plan
unfolding read_plan
expects form s (stop k) = refused k
expects form s (step first at) = elim (eqb first form) [ false ↦ refused 2 | true ↦ plan_read (read_plan s) ]

unfoldable pub read_as : ℕ → List ℕ → Outcome Plan
unfolding field_at expects
read_as form s = expects form s (field_at s 8 0)

-- "15: the form 2 plan has a cost other than 1, after 5 and before 9"
unfoldable pub plain : Outcome Plan → Outcome Plan
unfolding costs_fit
plain (refused k) = refused k
plain (accepted p) = elim (costs_fit 1 p) [ false ↦ refused 15 | true ↦ accepted p ]

unfoldable pub to_form2 : List ℕ → List ℕ → Written
unfolding encoded read_as
to_form2 s buffer = encoded 2 (read_as 1 s) buffer

unfoldable pub to_form1 : List ℕ → List ℕ → Written
unfolding encoded plain read_as
to_form1 s buffer = encoded 1 (plain (read_as 2 s)) buffer

abbrev pub Converted : (from to : ℕ) → List ℕ → Result ℕ Refusal → List ℕ → Type 0
Converted from to s r bytes =
    (n : ℕ) → r ≡ Ok n
    → (p : Plan) × (read_plan s ≡ accepted (record { form = from; plan = p })) × (read_plan (take n bytes) ≡ accepted (record { form = to; plan = p }))
