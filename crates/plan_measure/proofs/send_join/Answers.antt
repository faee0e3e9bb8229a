-- `measure::send_join` meets its contract.
use Prim.Native.Nat.{◌+◌, ◌-◌, ◌<◌}
use mathlib.Core.Path.{◌∙◌}
use native.Mathlib.Omega.{arith}
use lib.ListN.{length, length-set}
use lib.Seq.{get_or-set_same, get_or-set_other}
use Rattle.plan_measure.proofs.Laws.Sends.{sent_one, target_below}
use Rattle.plan_measure.proofs.send_join.Goals as goal

pub overflow_add-target : goal.overflow_add-target
overflow_add-target c = omega (arith, target_below _ _ _ _ _ _ c.requires.1 c.target_at-sent.ensures.0 c.if-sent-eq0.false)

pub offset_bounds-late-target : goal.offset_bounds-late-target
offset_bounds-late-target c = omega (arith, target_below _ _ _ _ _ _ c.requires.1 c.target_at-sent.ensures.0 c.if-sent-eq0.false)

pub bounds-late-target : goal.bounds-late-target
bounds-late-target c = target_below _ _ _ _ _ _ c.requires.1 c.target_at-sent.ensures.0 c.if-sent-eq0.false

pub overflow_add-spawned : goal.overflow_add-spawned
overflow_add-spawned c =
    omega (arith, c.requires.1.sums c.args.k (omega arith) (omega arith))

pub offset_bounds-late-target-2 : goal.offset_bounds-late-target-2
offset_bounds-late-target-2 c =
    omega (arith, target_below _ _ _ _ _ _ c.requires.1 c.target_at-sent.ensures.0 c.if-sent-eq0.false)

pub bounds-late-target-2 : goal.bounds-late-target-2
bounds-late-target-2 c =
    target_below _ _ _ _ _ _ c.requires.1 c.target_at-sent.ensures.0 c.if-sent-eq0.false

pub returns : goal.returns
returns c =
    let n = c.requires.0 in
    let l : c.args.base + (c.target_at-sent.result - 1) < length c.args.late.now = rw n (bounds-late-target-2 c) in (
      simp length-set n,
      sent_one _ _ _ _ _ c.target_at-sent.result _ _ c.target_at-sent.ensures.0 c.if-sent-eq0.false
          (get_or-set_same c.args.late.now _ _ 0 l ∙ c.max.ensures) (λ m n. get_or-set_other c.args.late.now _ m _ 0 n),
    )
