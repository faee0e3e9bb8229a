-- `turn::send` meets its contract.
use Rattle.pool_turns.proofs.Laws.Running.{held_finishing}
use Rattle.pool_turns.proofs.Laws.Sending.{send_small, send_still, send_parent, send_added}
use Rattle.pool_turns.proofs.turn.send.Goals as goal

pub finish-requires : goal.finish-requires
finish-requires c = let g = c.requires.1 in (_, held_finishing g.held g.progressed)

pub parent_of-requires : goal.parent_of-requires
parent_of-requires c = send_small c.requires.1

pub add-requires : goal.add-requires
add-requires c =
    let g = c.requires.1 in
    send_parent g (c.finish.ensures _ (held_finishing g.held g.progressed)) c.if-finish.true c.parent_of.ensures.0

pub returns-then-finish : goal.returns-then-finish
returns-then-finish c m g =
    send_added g (c.finish.ensures _ (held_finishing g.held g.progressed)) c.if-finish.true c.parent_of.ensures.0
    c.add.ensures

pub returns-else-finish : goal.returns-else-finish
returns-else-finish c m g = send_still g (c.finish.ensures _ (held_finishing g.held g.progressed)) c.if-finish.false
