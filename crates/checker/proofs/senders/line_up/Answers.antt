-- `checker::senders::line_up` meets its contract: before each action those before it stand in their lines (`Laws.Chains`).
use native.Mathlib.Omega.{arith}
use Rattle.plan.proofs.Laws.Valid.{total_range}
use Rattle.checker.proofs.senders.line_up.Goals as goal

pub enter-requires : goal.enter-requires
enter-requires c =
    let (p, g) = c.requires in
    (omega arith, (omega (arith, g.all, total_range p g.planned.rules), omega (arith, c.line_of.ensures.1)))
