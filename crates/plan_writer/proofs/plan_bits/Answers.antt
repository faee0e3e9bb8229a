-- `plan_writer::plan_bits` meets its contract. The loop's invariant: the count is that of the headers and of the actions before place k.
use Prim.Native.Nat.{ℕ}
use mathlib.Core.Path.{◌≡◌, ap₂, sym, ◌∙◌}
use native.Mathlib.Omega.{arith}
use lib.ListN.{length}
use Rattle.plan.specs.Sheet.{cost_at}
use Rattle.plan_writer.specs.ActionBits.{fields_of}
use Rattle.plan.proofs.Laws.Found.{ruled_few}
use Rattle.plan_writer.proofs.Laws.PlanBits.{fields_many, fields_more, plan_count}
use Rattle.plan_writer.proofs.plan_bits.Goals as goal

pub overflow_mul-bits : goal.overflow_mul-bits
overflow_mul-bits c = omega (arith, ruled_few _ _ c.requires.1)

pub overflow_add-bits : goal.overflow_add-bits
overflow_add-bits c = omega (arith, ruled_few _ _ c.requires.1)

pub loop-k-init : goal.loop-k-init
loop-k-init c = omega (arith, ruled_few _ _ c.requires.1)

pub overflow_add-bits-in-loop-k : goal.overflow_add-bits-in-loop-k
overflow_add-bits-in-loop-k c =
    omega (arith, fields_many c.args.form c.args.plan.now c.loop-k.k, c.action_bits-bits.ensures.1)

pub loop-k-preserved : goal.loop-k-preserved
loop-k-preserved c =
    let a = c.args in
    let cost = cost_at a.plan.now c.loop-k.k in
    let x = c.action_bits-bits.ensures.0 cost
    ∙ ap₂ (λ (u v : ℕ). length (fields_of a.form u v cost)) c.child_at.ensures.0 c.target_at.ensures.0 in
    omega (arith, fields_more a.form a.plan.now c.loop-k.k, x)

pub returns : goal.returns
returns c =
    let e : c.loop-k.k ≡ c.args.plan.now.actions = omega arith in
    let i = c.loop-k.invariant.2 in
    let a = c.args in
    (omega (arith, fields_many a.form a.plan.now c.loop-k.k), (λ p g. rw e at i ∙ sym (plan_count g a.form)))
