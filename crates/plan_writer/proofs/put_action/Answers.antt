-- `plan_writer::put_action` meets its contract: a header at the first action of a job, and none at a later one.
use Prim.Native.Nat.{◌-◌, ◌≤◌, ◌<◌}
use mathlib.Core.Path.{◌≡◌}
use mathlib.Core.List.{◌++◌}
use native.Mathlib.Omega.{arith}
use Rattle.fields.specs.Field.{bits_of}
use Rattle.plan_writer.specs.ActionBits.{fields_at, action_bits}
use Rattle.fields.proofs.Laws.Puts.{put_length, put_both}
use Rattle.plan_writer.proofs.Laws.PlanBits.{action_first, action_later, header_size}
use Rattle.plan_writer.proofs.put_action.Goals as goal
use Rattle.plan_writer.proofs.put_action.Goals.{After-first_of, Else-start-k}

-- what is written at the first action of a job
opened : (c : After-first_of) → let a = c.args in
    action_bits a.form a.plan.now a.k
    ≡ (bits_of 16 c.frame_of.result ++ bits_of 8 (c.first_of.result - c.first_of-start.result))
    ++ fields_at a.form a.plan.now a.k
opened c =
    let a = c.args in
    action_first a.form a.plan.now a.k _ _ c.job_at-j.ensures.0 c.first_of-start.ensures.0 _ _
    c.first_of.ensures.0 c.frame_of.ensures.0 c.if-start-k.true

sizes : (c : After-first_of) → let s = c.first_of-start.result in
    (s ≤ c.first_of.result) × (c.first_of.result - s < 256)
sizes c =
    header_size c.args.form c.args.plan.now c.args.k _ _ c.job_at-j.ensures.0 c.first_of-start.ensures.0 _ _
    c.first_of.ensures.0 c.frame_of.ensures.0 c.requires.1

-- at a later action
continued : (c : Else-start-k) → let a = c.args in
    action_bits a.form a.plan.now a.k ≡ fields_at a.form a.plan.now a.k
continued c =
    let a = c.args in
    action_later a.form a.plan.now a.k _ _ c.job_at-j.ensures.0 c.first_of-start.ensures.0 c.if-start-k.false

pub overflow_sub-first_of : goal.overflow_sub-first_of
overflow_sub-first_of c = (sizes c).0

pub put_header-s-requires : goal.put_header-s-requires
put_header-s-requires c =
    let r = rw (opened c) at c.requires.2 in
    (c.requires.0, c.frame_of.ensures.1, (sizes c).1, omega arith)

pub put_fields-requires : goal.put_fields-requires
put_fields-requires c =
    let r = rw (opened (goal.at.put_fields-requires c).After-first_of) at c.requires.2 in
    let w = c.put_header-s.ensures in
    let x = c.child_at.ensures.0 in
    let y = c.target_at.ensures.0 in
    let z = c.cost_at.ensures.0 in
    rw (x, y, z) (w.sound, c.requires.1.child, c.requires.1.target, c.requires.1.cost, omega (arith, put_length c.requires.0 w, w.same))

pub returns-then-start-k : goal.returns-then-start-k
returns-then-start-k c =
    let x = c.child_at.ensures.0 in
    let y = c.target_at.ensures.0 in
    let z = c.cost_at.ensures.0 in
    rw (opened (goal.at.returns-then-start-k c).After-first_of, ← x, ← y, ← z) (put_both c.put_header-s.ensures c.put_fields.ensures)

pub put_fields-requires-2 : goal.put_fields-requires-2
put_fields-requires-2 c =
    let x = c.child_at-2.ensures.0 in
    let y = c.target_at-2.ensures.0 in
    let z = c.cost_at-2.ensures.0 in
    rw (x, y, z) (c.requires.0, c.requires.1.child, c.requires.1.target, c.requires.1.cost, rw (continued (goal.at.put_fields-requires-2 c).Else-start-k) at c.requires.2)

pub returns : goal.returns
returns c =
    let x = c.child_at-2.ensures.0 in
    let y = c.target_at-2.ensures.0 in
    let z = c.cost_at-2.ensures.0 in
    rw (continued (goal.at.returns c).Else-start-k, ← x, ← y, ← z) c.put_fields-2.ensures
