-- `turn::turn` meets its contract: the action goes on, or the row is the one of the action that the worker does, and `act` does the rest.
use mathlib.Core.Path.{refl, sym}
use native.Mathlib.Omega.{arith}
use Rattle.turns.proofs.Laws.Rows.{turning_small, turning_room, turning_goes, turning_acting, turning_taken}
use Rattle.turns.proofs.turn.turn.Goals as goal

pub spend-requires : goal.spend-requires
spend-requires c =
    turning_room c.requires.1 c.in-Holding.is c.from-j.ensures c.first_of.ensures.0
    c.done_of.ensures.0

pub returns-then-spend : goal.returns-then-spend
returns-then-spend c m t =
    turning_goes t c.in-Holding.is c.from-j.ensures c.first_of.ensures.0
    c.done_of.ensures.0 c.spend.ensures c.if-spend.true _ (sym c.in-Holding.is) refl

pub row-requires : goal.row-requires
row-requires c = omega (arith, turning_small c.requires.1)

pub bounds-rows-k : goal.bounds-rows-k
bounds-rows-k c =
    let room = turning_room c.requires.1 c.in-Holding.is c.from-j.ensures c.first_of.ensures.0 c.done_of.ensures.0 in
    room.1

pub act-requires : goal.act-requires
act-requires c = (
  _,
  turning_acting c.requires.1 c.in-Holding.is c.from-j.ensures
      c.first_of.ensures.0 c.done_of.ensures.0 c.spend.ensures c.if-spend.false,
)

pub returns : goal.returns
returns c m t =
    let is = c.in-Holding.is in
    let job = c.from-j.ensures in
    let at = c.first_of.ensures.0 in
    let so = c.done_of.ensures.0 in
    let act = c.act.ensures m (turning_acting t is job at so c.spend.ensures c.if-spend.false) in
    rw c.row.ensures (turning_taken t is job at so c.spend.ensures c.if-spend.false act)
