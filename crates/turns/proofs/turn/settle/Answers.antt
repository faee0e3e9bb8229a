-- `turn::settle` meets its contract.
use mathlib.Core.Path.{refl, sym, ◌∙◌}
use native.Mathlib.Omega.{arith}
use Rattle.turns.proofs.Laws.Held.{held_room}
use Rattle.turns.proofs.Laws.Settling.{settle_lighter, settle_ends, settle_room, settle_goes, settle_stalls}
use Rattle.deques.proofs.Laws.Deques.{bottom_in}
use Rattle.turns.proofs.turn.settle.Goals as goal

pub overflow_add-k : goal.overflow_add-k
overflow_add-k c = omega (arith, held_room c.requires.1.held)

pub overflow_add-j : goal.overflow_add-j
overflow_add-j c = omega (arith, held_room c.requires.1.held)

pub first_of-requires : goal.first_of-requires
first_of-requires c = omega (arith, held_room c.requires.1.held)

pub frame_of-requires : goal.frame_of-requires
frame_of-requires c = (held_room c.requires.1.held).0

pub overflow_sub-result : goal.overflow_sub-result
overflow_sub-result c =
    omega (arith, c.frame_of.ensures, settle_lighter c.requires.1 (c.if-k-first_of.true ∙ c.first_of.ensures.0))

pub returns-then-k-first_of : goal.returns-then-k-first_of
returns-then-k-first_of c m g =
    settle_ends g (c.if-k-first_of.true ∙ c.first_of.ensures.0) _ (omega (arith, c.frame_of.ensures))
    (bottom_in g.sent.dequed (held_room g.held).4 (c.take_bottom.ensures _ (g.sent.dequed.holds _ (held_room g.held).4)))

pub overflow_add-k-2 : goal.overflow_add-k-2
overflow_add-k-2 c = omega (arith, held_room c.requires.1.held)

pub missing_at-requires : goal.missing_at-requires
missing_at-requires c = settle_room c.requires.1 (omega (arith, c.first_of.ensures))

pub overflow_cast-result : goal.overflow_cast-result
overflow_cast-result c = omega (arith, held_room c.requires.1.held)

pub returns-then-missing_at-eq0 : goal.returns-then-missing_at-eq0
returns-then-missing_at-eq0 c m g =
    settle_goes g (omega (arith, c.first_of.ensures)) (sym c.missing_at.ensures.0 ∙ c.if-missing_at-eq0.true) _
    refl refl

pub returns : goal.returns
returns c m g =
    settle_stalls g (omega (arith, c.first_of.ensures)) (omega (arith, c.missing_at.ensures)) _ refl
    (bottom_in g.sent.dequed (held_room g.held).4 (c.take_bottom-2.ensures _ (g.sent.dequed.holds _ (held_room g.held).4)))
