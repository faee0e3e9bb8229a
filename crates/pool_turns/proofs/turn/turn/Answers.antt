-- `turn::turn` meets its contract: the row is the one of the action that the worker does, and `act` does the rest.
use Rattle.pool_turns.proofs.Laws.Turning.{turning_small, turning_room, turning_acting, turning_taken}
use Rattle.pool_turns.proofs.turn.turn.Goals as goal

pub row-requires : goal.row-requires
row-requires c = turning_small c.requires.1

pub bounds-rows-k : goal.bounds-rows-k
bounds-rows-k c = (turning_room c.requires.1 c.in-Holding.is c.from-j.ensures c.first_of.ensures.0 c.done_of.ensures.0).1

pub act-requires : goal.act-requires
act-requires c = (
  _,
  turning_acting c.requires.1 c.in-Holding.is c.from-j.ensures
      c.first_of.ensures.0 c.done_of.ensures.0,
)

pub returns : goal.returns
returns c m t =
    let is = c.in-Holding.is in
    let job = c.from-j.ensures in
    let at = c.first_of.ensures.0 in
    let so = c.done_of.ensures.0 in
    rw c.row.ensures (turning_taken t is job at so (c.act.ensures m (turning_acting t is job at so)))
