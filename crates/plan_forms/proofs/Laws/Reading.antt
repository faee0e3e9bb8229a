-- Reading a plan of the form that is expected.
--   as_stopped, as_other, as_read == by what the first field is: 1, 2, or what reading tells
--   as_accepted, as_known         == so a plan is read exactly where the bytes hold one of that form
--   as_answers                    == what the function that reads answers
use Rattle.std.specs.Prelude.{⊤, Result, Ok, Err}
use Prim.Native.Nat.{ℕ}
use native.Mathlib.Decide.{ℕ_discrete}
use mathlib.Core.Path.{◌≡◌, refl, sym, ap, ◌∙◌}
use mathlib.Core.Bool.{true, false}
use mathlib.Core.List.{List}
use borrow.Author.Tests.{eq-eqb, ne_eqb}
use Rattle.fields.specs.Field.{Step, stop, step, field_at}
use Rattle.plan.specs.declared.sheet.Sheet.{Sheet}
use Rattle.plan.specs.declared.refusal.Refusal.{Refusal}
use Rattle.plan.specs.Refusal.{Outcome, refused, accepted}
use Rattle.plan.specs.Plan.{Plan}
use Rattle.plan.specs.Reader.{Read, read_plan}
use Rattle.plan.specs.Found.{ReadInto}
use Rattle.plan.proofs.Laws.Accepted.{accepted_first}
use Rattle.plan.proofs.Laws.Outcomes.{refused_accepted, accepted_same}
use Rattle.plan_forms.specs.Forms.{plan_read, expects, read_as}
use Rattle.plan_forms.specs.Given.{ReadAs}

step_same : (a b m n : ℕ) → ◌≡◌ {A = Step ℕ} (step a m) (step b n) → a ≡ b
step_same a b m n e = cc

module _ (form : ℕ) (s : List ℕ) where
  pub as_stopped : (k : ℕ) → field_at s 8 0 ≡ stop k → read_as form s ≡ refused k
  unfolding read_as expects
  as_stopped k e = ap (expects form s) e

  module _ (first at : ℕ) (e : field_at s 8 0 ≡ step first at) where
    pub as_other : (first ≡ form → ⊥) → read_as form s ≡ refused 2
    unfolding read_as expects
    as_other f = ap (expects form s) e ∙ ap (λ b. elim b [ false ↦ refused 2 | true ↦ plan_read (read_plan s) ]) (ne_eqb first form f)

    pub as_read : first ≡ form → read_as form s ≡ plan_read (read_plan s)
    unfolding read_as expects
    as_read f = ap (expects form s) e ∙ ap (λ b. elim b [ false ↦ refused 2 | true ↦ plan_read (read_plan s) ]) (eq-eqb first form f)

    -- what is read has the first field as its form
    first_form : (x : Read) → read_plan s ≡ accepted x → x.form ≡ first
    first_form x r = let (m, f) = accepted_first s x r in step_same x.form first m at (sym f ∙ e)

    pub as_answers : first ≡ form → (r : Result ⊤ Refusal) (plan : Sheet) (entering : List ℕ) → ReadInto s r plan entering → ReadAs form s r plan
    as_answers f (Err cause) plan entering h = as_read f ∙ ap plan_read h
    as_answers f (Ok _) plan entering h =
        let o : plan.form ≡ form = first_form (record { form = plan.form; plan = h.is }) h.read ∙ f in
        record { is = h.is; told = as_read f ∙ ap plan_read h.read; read = rw o at h.read; held = h.held }

    -- a plan that is read is read of bytes of that form
    by_plan : first ≡ form → (o : Outcome Read) → read_plan s ≡ o → (p : Plan) → read_as form s ≡ accepted p
        → read_plan s ≡ accepted (record { form = form; plan = p })
    by_plan f (refused k) q p r = refused_accepted (sym (as_read f ∙ ap plan_read q) ∙ r)
    by_plan f (accepted x) q p r =
        let same = accepted_same x.plan p (sym (as_read f ∙ ap plan_read q) ∙ r) in
        let own : x.form ≡ form = first_form x q ∙ f in
        q ∙ rw (← same, ← own)

    by_form : (p : Plan) → read_as form s ≡ accepted p → Dec (first ≡ form) → read_plan s ≡ accepted (record { form = form; plan = p })
    by_form p r (yes f) = by_plan f (read_plan s) refl p r
    by_form p r (no f) = refused_accepted (sym (as_other f) ∙ r)

  pub as_accepted : (p : Plan) → read_plan s ≡ accepted (record { form = form; plan = p }) → read_as form s ≡ accepted p
  as_accepted p r = let (m, f) = accepted_first s (record { form = form; plan = p }) r in as_read form m f refl ∙ ap plan_read r

  pub as_known : (p : Plan) → read_as form s ≡ accepted p → read_plan s ≡ accepted (record { form = form; plan = p })
  as_known p r = go (field_at s 8 0) refl
    where
      go : (x : Step ℕ) → field_at s 8 0 ≡ x → read_plan s ≡ accepted (record { form = form; plan = p })
      go (stop k) e = refused_accepted (sym (as_stopped k e) ∙ r)
      go (step first at) e = by_form first at e p r (ℕ_discrete first form)
