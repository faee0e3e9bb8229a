-- `turn::send` meets its contract.
use native.Mathlib.Omega.{arith}
use Rattle.turns.proofs.Laws.Held.{held_room}
use Rattle.turns.proofs.Laws.Sending.{send_finishing, send_still, send_parent, send_pushing, send_wakes}
use Rattle.deques.proofs.Laws.Deques.{fitting_in, pushed_in}
use Rattle.turns.proofs.turn.send.Goals as goal

pub finish-requires : goal.finish-requires
finish-requires c = (_, send_finishing c.requires.1)

pub parent_of-requires : goal.parent_of-requires
parent_of-requires c = (held_room c.requires.1.held).0

pub overflow_cast-parent_of : goal.overflow_cast-parent_of
overflow_cast-parent_of c =
    let g = c.requires.1 in
    let small = send_parent g (c.finish.ensures _ (send_finishing g)) c.if-finish.true c.parent_of.ensures.0 in
    omega arith

pub push-requires : goal.push-requires
push-requires c =
    let g = c.requires.1 in
    (_, fitting_in (send_pushing g (c.finish.ensures _ (send_finishing g)) c.if-finish.true c.parent_of.ensures.0))

pub returns-then-finish : goal.returns-then-finish
returns-then-finish c m g =
    send_wakes g (c.finish.ensures _ (send_finishing g)) c.if-finish.true c.parent_of.ensures.0
    (λ p. pushed_in p (c.push.ensures _ (fitting_in p)))

pub returns-else-finish : goal.returns-else-finish
returns-else-finish c m g = send_still g (c.finish.ensures _ (send_finishing g)) c.if-finish.false
