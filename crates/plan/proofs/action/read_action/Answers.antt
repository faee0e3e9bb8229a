-- `action::read_action` meets its contract: it reads two numbers and a cost, as `action_at` does, and lays them at place k.
use native.Mathlib.Omega.{arith}
use mathlib.Core.Path.{sym}
use Prim.Native.Nat.{◌%◌, ◌≤◌}
use Rattle.plan.proofs.Laws.Steps.{number_next, cost_field_lem}
use Rattle.plan.proofs.Laws.Action.{left, no_child, no_target, no_cost, cost_none, all_read}
use Rattle.plan.proofs.action.read_action.Goals as goal
use Rattle.plan.proofs.action.read_action.Goals.{In-Some-number_in}

pub returns-in_default : goal.returns-in_default
returns-in_default c =
    let a = c.args in
    no_child a.s.now a.at a.form (sym (c.in_default.ensures (left a.s.now a.at) c.window_at-w.ensures))

-- where the two numbers and the cost end
target_end : (c : In-Some-number_in) → (c.in-Some-number_in.target.value ≤ 256) × (c.in-Some-number_in.target.next ≤ 25)
target_end c =
    let s = left c.args.s.now c.args.at in
    let child = number_next s (c.args.at % 8) _ _ (sym (c.in-Some.ensures s c.window_at-w.ensures)) in
    let target = number_next s c.in-Some.child.next _ _ (sym (c.in-Some-number_in.ensures s c.window_at-w.ensures)) in
    (target.0, omega (arith, target.1, child.1))

pub number_in-requires-2 : goal.number_in-requires-2
number_in-requires-2 c =
    let s = left c.args.s.now c.args.at in
    omega (arith, number_next s (c.args.at % 8) _ _ (sym (c.in-Some.ensures s c.window_at-w.ensures)))

pub returns-in_default-number_in : goal.returns-in_default-number_in
returns-in_default-number_in c =
    let a = c.args in
    let s = left a.s.now a.at in
    let w = c.window_at-w.ensures in
    no_target a.s.now a.at a.form _ _ (sym (c.in-Some.ensures s w)) (sym (c.in_default-number_in.ensures s w))

pub cost_in-requires : goal.cost_in-requires
cost_in-requires c = omega (arith, target_end c)

pub returns-in_default-cost_in : goal.returns-in_default-cost_in
returns-in_default-cost_in c =
    let a = c.args in
    let s = left a.s.now a.at in
    let w = c.window_at-w.ensures in
    no_cost a.s.now a.at a.form _ _ (sym (c.in-Some.ensures s w)) _ _ (sym (c.in-Some-number_in.ensures s w)) (sym (c.in_default-cost_in.ensures s w))

pub returns-then-cost-eq0 : goal.returns-then-cost-eq0
returns-then-cost-eq0 c =
    let a = c.args in
    let s = left a.s.now a.at in
    let w = c.window_at-w.ensures in
    cost_none a.s.now a.at a.form _ _ (sym (c.in-Some.ensures s w)) _ _ (sym (c.in-Some-number_in.ensures s w)) _ _
    (sym (c.in-Some-cost_in.ensures s w)) c.if-cost-eq0.true

pub overflow_cast-child : goal.overflow_cast-child
overflow_cast-child c =
    let s = left c.args.s.now c.args.at in
    omega (arith, number_next s (c.args.at % 8) _ _ (sym (c.in-Some.ensures s c.window_at-w.ensures)))

pub overflow_cast-target : goal.overflow_cast-target
overflow_cast-target c = omega (arith, target_end (goal.at.overflow_cast-target c).In-Some-number_in)

pub overflow_cast-cost : goal.overflow_cast-cost
overflow_cast-cost c =
    let s = left c.args.s.now c.args.at in
    omega (arith, cost_field_lem c.args.form s _ _ _ (sym (c.in-Some-cost_in.ensures s c.window_at-w.ensures)))

pub overflow_add-result : goal.overflow_add-result
overflow_add-result c =
    let s = left c.args.s.now c.args.at in
    omega (
      arith,
      cost_field_lem c.args.form s _ _ _ (sym (c.in-Some-cost_in.ensures s c.window_at-w.ensures)),
      target_end (goal.at.overflow_add-result c).In-Some-number_in,
    )

pub returns : goal.returns
returns c =
    let a = c.args in
    let s = left a.s.now a.at in
    let w = c.window_at-w.ensures in (
      _,
      all_read a.s.now a.at a.form _ _ (sym (c.in-Some.ensures s w)) _ _ (sym (c.in-Some-number_in.ensures s w)) _ _
          (sym (c.in-Some-cost_in.ensures s w)) c.if-cost-eq0.false,
      c.set_action.ensures,
    )
