-- `finish::finish` meets its contract.
use mathlib.Core.Path.{sym, ◌∙◌}
use native.Mathlib.Omega.{arith}
use Rattle.turns.proofs.Laws.Joins.{finish_room, finish_counts, finish_skips, finish_parent, finish_place, finish_stalls, finish_told}
use Rattle.turns.proofs.finish.finish.Goals as goal

pub count_done-requires : goal.count_done-requires
count_done-requires c = finish_counts c.requires.1

pub target_at-sent-requires : goal.target_at-sent-requires
target_at-sent-requires c = (finish_room c.requires.1).2

pub returns-then-sent-eq0 : goal.returns-then-sent-eq0
returns-then-sent-eq0 c d g = finish_skips g c.count_done.ensures (sym c.target_at-sent.ensures.0 ∙ c.if-sent-eq0.true)

pub parent_of-q-requires : goal.parent_of-q-requires
parent_of-q-requires c = (finish_room c.requires.1).0

pub first_of-requires : goal.first_of-requires
first_of-requires c =
    let small = finish_parent c.requires.1 c.count_done.ensures c.target_at-sent.ensures.0 c.if-sent-eq0.false c.parent_of-q.ensures.0 in
    omega arith

pub take_join-requires : goal.take_join-requires
take_join-requires c =
    finish_place c.requires.1 c.count_done.ensures c.target_at-sent.ensures.0 c.if-sent-eq0.false
    c.parent_of-q.ensures.0 c.first_of.ensures.0

pub returns-then-take_join-ne0 : goal.returns-then-take_join-ne0
returns-then-take_join-ne0 c d g =
    finish_stalls g c.count_done.ensures c.target_at-sent.ensures.0 c.if-sent-eq0.false c.parent_of-q.ensures.0
    c.first_of.ensures.0 c.take_join.ensures (omega (arith, c.if-take_join-ne0.true))

pub done_of-requires : goal.done_of-requires
done_of-requires c =
    let small = finish_parent c.requires.1 c.count_done.ensures c.target_at-sent.ensures.0 c.if-sent-eq0.false c.parent_of-q.ensures.0 in
    omega arith

pub returns : goal.returns
returns c d g =
    finish_told g c.count_done.ensures c.target_at-sent.ensures.0 c.if-sent-eq0.false c.parent_of-q.ensures.0
    c.first_of.ensures.0 c.take_join.ensures (omega (arith, c.if-take_join-ne0.false)) c.done_of.ensures.0
