-- What the checker answers, by what was read of the plan and of the schedule.
use Prim.Native.Nat.{ℕ}
use mathlib.Core.Path.{◌≡◌, sym, ap, ◌∙◌}
use mathlib.Core.Bool.{Bool, true, false}
use mathlib.Core.List.{List}
use Rattle.plan.specs.declared.sheet.Sheet.{Sheet}
use Rattle.plan.specs.Plan.{Plan}
use Rattle.plan.specs.Refusal.{refused, accepted}
use Rattle.plan.specs.Reader.{read_plan}
use Rattle.plan.specs.Sheet.{PlanIn}
use Rattle.courses.specs.Schedule.{keeps, read_schedule, ruled, judged_by, checked}
use Rattle.plan.proofs.Laws.Costs.{accepted_costs}
use Rattle.checker.specs.Formed.{WellFormed}
use Rattle.checker.specs.Given.{RulesGiven}

module _ (bytes s : List ℕ) where
  pub judges_plan : (k : ℕ) → read_plan bytes ≡ refused k → refused k ≡ checked bytes s
  unfolding checked judged_by
  judges_plan k e = rw e

  -- the plan that was read into the arrays
  module _ {plan : Sheet} (p : Plan) (read : read_plan bytes ≡ accepted (record { form = plan.form; plan = p })) (held : PlanIn plan p) where
    by_schedule : checked bytes s ≡ ruled p (read_schedule plan.form s plan.actions)
    unfolding checked judged_by
    by_schedule = rw (read, held.all)

    pub judges_form : read_schedule plan.form s plan.actions ≡ refused 11 → refused 11 ≡ checked bytes s
    unfolding ruled
    judges_form e = sym (by_schedule ∙ ap (ruled p) e)

    -- the schedule that was read
    module _ {workers : ℕ} {words : List ℕ} (w : WellFormed plan.form s plan.actions workers words) where
      pub rules_given : RulesGiven workers words plan (record { plan = p; rows = w.rows })
      rules_given = record {
        some = w.some;
        count = held.all;
        fits = accepted_costs bytes (record { form = plan.form; plan = p }) read;
        tasked = record { planned = held.planned; held = w.held; all = w.all ∙ held.all };
      }

      by_rules : (b : Bool) → b ≡ keeps p workers w.rows → checked bytes s ≡ elim b [ false ↦ refused 12 | true ↦ accepted 0 ]
      unfolding ruled
      by_rules b e = by_schedule ∙ rw (w.read, e, ruled)

      pub judges_broken : (b : Bool) → b ≡ keeps p workers w.rows → b ≡ false → refused 12 ≡ checked bytes s
      judges_broken b e x = sym (rw x at (by_rules b e))

      pub judges_kept : (b : Bool) → b ≡ keeps p workers w.rows → b ≡ true → accepted 0 ≡ checked bytes s
      judges_kept b e x = sym (rw x at (by_rules b e))
