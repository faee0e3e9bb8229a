-- `turn::act` meets its contract.
use mathlib.Core.Path.{refl}
use native.Mathlib.Omega.{arith}
use Rattle.pool_turns.proofs.Laws.Handing.{act_small, act_place, act_settles, act_child, act_heavier, act_room, act_spawns}
use Rattle.pool_turns.proofs.turn.act.Goals as goal

pub child_at-child-requires : goal.child_at-child-requires
child_at-child-requires c = act_place c.requires.1

pub settle-requires : goal.settle-requires
settle-requires c =
    let (m, g) = c.requires in
    (m, act_settles g _ c.child_at-child.ensures.0 c.if-child-eq0.true (c.send.ensures m g.acting))

pub returns-then-child-eq0 : goal.returns-then-child-eq0
returns-then-child-eq0 c m g =
    let sent = c.send.ensures m g.acting in
    c.settle.ensures m (act_settles g _ c.child_at-child.ensures.0 c.if-child-eq0.true sent)

pub add-requires : goal.add-requires
add-requires c = act_small c.requires.1

pub gain_child-requires : goal.gain_child-requires
gain_child-requires c =
    let (m, g) = c.requires in
    (act_small g, act_room g _ _ c.child_at-child.ensures.0 c.if-child-eq0.false refl (c.send.ensures m g.acting) c.add.ensures)

pub overflow_cast-result : goal.overflow_cast-result
overflow_cast-result c =
    omega (arith, (act_child c.requires.1 _ _ c.child_at-child.ensures.0 c.if-child-eq0.false refl).1)

pub frame_of-requires : goal.frame_of-requires
frame_of-requires c = (act_child c.requires.1 _ _ c.child_at-child.ensures.0 c.if-child-eq0.false refl).1

pub overflow_add-result : goal.overflow_add-result
overflow_add-result c =
    omega (arith, c.frame_of.ensures, act_heavier c.requires.1 _ _ c.child_at-child.ensures.0 c.if-child-eq0.false refl)

pub returns : goal.returns
returns c m g =
    act_spawns g _ _ c.child_at-child.ensures.0 c.if-child-eq0.false refl (c.send.ensures m g.acting) c.add.ensures
    c.gain_child.ensures _ refl (omega (arith, c.frame_of.ensures))
