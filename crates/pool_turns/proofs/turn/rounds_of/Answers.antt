-- `turn::rounds_of` meets its contract.
use Rattle.pool_turns.proofs.turn.rounds_of.Goals as goal

pub next_cost-requires : goal.next_cost-requires
next_cost-requires c =
    let (d, g) = c.requires in
    (d, rw c.from.ensures (g _ c.in-Holding.is))
