-- `turn::settle` meets its contract.
use mathlib.Core.Path.{refl, sym, ◌∙◌}
use native.Mathlib.Omega.{arith}
use Rattle.pool_turns.proofs.Laws.Handing.{settle_small, settle_ending, settle_lighter, settle_ends, settle_room, settle_goes, settle_stalls}
use Rattle.pool_turns.proofs.turn.settle.Goals as goal

pub overflow_add-k : goal.overflow_add-k
overflow_add-k c = omega (arith, settle_small c.requires.1)

pub overflow_add-j : goal.overflow_add-j
overflow_add-j c = omega (arith, settle_small c.requires.1)

pub first_of-requires : goal.first_of-requires
first_of-requires c = omega (arith, settle_small c.requires.1)

pub bury-requires : goal.bury-requires
bury-requires c =
    let (m, g) = c.requires in
    (m, settle_ending g (c.if-k-first_of.true ∙ c.first_of.ensures.0))

pub frame_of-requires : goal.frame_of-requires
frame_of-requires c = (settle_small c.requires.1).0

pub overflow_sub-result : goal.overflow_sub-result
overflow_sub-result c =
    omega (arith, c.frame_of.ensures, settle_lighter c.requires.1 (c.if-k-first_of.true ∙ c.first_of.ensures.0))

pub returns-then-k-first_of : goal.returns-then-k-first_of
returns-then-k-first_of c m g =
    let e = c.if-k-first_of.true ∙ c.first_of.ensures.0 in
    settle_ends g e _ (omega (arith, c.frame_of.ensures)) (c.bury.ensures m (settle_ending g e))

pub overflow_add-k-2 : goal.overflow_add-k-2
overflow_add-k-2 c = omega (arith, settle_small c.requires.1)

pub missing_at-requires : goal.missing_at-requires
missing_at-requires c = settle_room c.requires.1 (omega (arith, c.first_of.ensures))

pub overflow_cast-result : goal.overflow_cast-result
overflow_cast-result c = omega (arith, (settle_small c.requires.1).0)

pub returns-then-missing_at-eq0 : goal.returns-then-missing_at-eq0
returns-then-missing_at-eq0 c m g =
    settle_goes g (omega (arith, c.first_of.ensures)) (sym c.missing_at.ensures.0 ∙ c.if-missing_at-eq0.true) _ refl refl

pub returns : goal.returns
returns c m g =
    settle_stalls g (omega (arith, c.first_of.ensures)) (omega (arith, c.missing_at.ensures)) _ refl refl
