-- `turn::bury` meets its contract.
use mathlib.Core.Path.{refl, sym, ◌∙◌}
use native.Mathlib.Omega.{arith}
use Rattle.pool_turns.proofs.Laws.Burying.{bury_small, bury_root, bury_parent, bury_room, bury_others, bury_held, bury_raised}
use Rattle.pool_turns.proofs.turn.bury.Goals as goal

pub returns-then-j-eq0 : goal.returns-then-j-eq0
returns-then-j-eq0 c m g = bury_root g c.if-j-eq0.true

pub parent_of-q-requires : goal.parent_of-q-requires
parent_of-q-requires c = bury_small c.requires.1

pub lose_child-requires : goal.lose_child-requires
lose_child-requires c =
    let g = c.requires.1 in
    (bury_parent g c.if-j-eq0.false c.parent_of-q.ensures.0, bury_room g c.if-j-eq0.false c.parent_of-q.ensures.0)

pub returns-then-not-lose_child : goal.returns-then-not-lose_child
returns-then-not-lose_child c m g =
    bury_others g c.if-j-eq0.false c.parent_of-q.ensures.0 c.lose_child.ensures.0
    (sym c.lose_child.ensures.1 ∙ c.if-not-lose_child.true)

pub contains-requires : goal.contains-requires
contains-requires c =
    bury_parent c.requires.1 c.if-j-eq0.false c.parent_of-q.ensures.0

pub returns-then-not-contains : goal.returns-then-not-contains
returns-then-not-contains c m g =
    bury_held g c.if-j-eq0.false c.parent_of-q.ensures.0 c.lose_child.ensures.0
    (sym c.lose_child.ensures.1 ∙ c.if-not-lose_child.false) (sym c.contains.ensures ∙ c.if-not-contains.true)

pub remove-requires : goal.remove-requires
remove-requires c =
    bury_parent c.requires.1 c.if-j-eq0.false c.parent_of-q.ensures.0

pub overflow_cast-result : goal.overflow_cast-result
overflow_cast-result c =
    omega (arith, bury_parent c.requires.1 c.if-j-eq0.false c.parent_of-q.ensures.0)

pub returns : goal.returns
returns c m g =
    bury_raised g c.if-j-eq0.false c.parent_of-q.ensures.0 c.lose_child.ensures.0
    (sym c.lose_child.ensures.1 ∙ c.if-not-lose_child.false) (sym c.contains.ensures ∙ c.if-not-contains.false)
    c.remove.ensures refl
