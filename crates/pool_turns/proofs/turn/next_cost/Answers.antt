-- `turn::next_cost` meets its contract.
use mathlib.Core.Path.{◌∙◌}
use Rattle.pool_turns.proofs.Laws.Turning.{having_small, having_place, having_cost}
use native.Mathlib.Omega.{arith}
use Rattle.pool_turns.proofs.turn.next_cost.Goals as goal

pub first_of-requires : goal.first_of-requires
first_of-requires c = omega (arith, having_small c.requires.1)

pub done_of-requires : goal.done_of-requires
done_of-requires c = having_small c.requires.1

pub cost_at-requires : goal.cost_at-requires
cost_at-requires c =
    having_place c.requires.1 c.first_of.ensures.0 c.done_of.ensures.0

pub returns : goal.returns
returns c d g =
    c.cost_at.ensures.0 ∙ having_cost g c.first_of.ensures.0 c.done_of.ensures.0
