-- `turn::act` meets its contract.
use mathlib.Core.Path.{refl}
use native.Mathlib.Omega.{arith}
use Rattle.turns.proofs.Laws.Held.{held_room}
use Rattle.turns.proofs.Laws.Settling.{act_settles, act_child, act_pushing, act_heavier, act_spawns}
use Rattle.deques.proofs.Laws.Deques.{fitting_in, pushed_in}
use Rattle.turns.proofs.turn.act.Goals as goal

pub child_at-child-requires : goal.child_at-child-requires
child_at-child-requires c = (held_room c.requires.1.sending.held).2

pub settle-requires : goal.settle-requires
settle-requires c =
    let (m, g) = c.requires in
    (m, act_settles g _ c.child_at-child.ensures.0 c.if-child-eq0.true (c.send.ensures m g.sending))

pub returns-then-child-eq0 : goal.returns-then-child-eq0
returns-then-child-eq0 c m g =
    let sent = c.send.ensures m g.sending in
    c.settle.ensures m (act_settles g _ c.child_at-child.ensures.0 c.if-child-eq0.true sent)

pub overflow_cast-j : goal.overflow_cast-j
overflow_cast-j c = omega (arith, held_room c.requires.1.sending.held)

pub push-requires : goal.push-requires
push-requires c =
    let (m, g) = c.requires in
    (_, fitting_in (act_pushing g _ _ c.child_at-child.ensures.0 c.if-child-eq0.false refl (c.send.ensures m g.sending)))

pub overflow_cast-result : goal.overflow_cast-result
overflow_cast-result c = omega (arith, act_child c.requires.1 _ _ c.child_at-child.ensures.0 c.if-child-eq0.false refl)

pub frame_of-requires : goal.frame_of-requires
frame_of-requires c = (act_child c.requires.1 _ _ c.child_at-child.ensures.0 c.if-child-eq0.false refl).1

pub overflow_add-result : goal.overflow_add-result
overflow_add-result c =
    let a = c.requires.1 in
    omega (arith, c.frame_of.ensures, act_heavier a _ _ c.child_at-child.ensures.0 c.if-child-eq0.false refl)

pub returns : goal.returns
returns c m g =
    let sent = c.send.ensures m g.sending in
    let child = c.child_at-child.ensures.0 in
    let pushing = act_pushing g _ _ child c.if-child-eq0.false refl sent in
    act_spawns g _ _ child c.if-child-eq0.false refl _ refl (omega (arith, c.frame_of.ensures))
    sent (pushed_in pushing (c.push.ensures _ (fitting_in pushing)))
