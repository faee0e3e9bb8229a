-- `checker::senders::line_up` meets its contract: before each action those before it stand in their lines (`Laws.Chains`).
use Rattle.checker.specs.Chains.{entry, Chains}
use Rattle.checker.specs.Senders.{line_of}
use Rattle.checker.proofs.senders.line_up.Given as goal

abbrev pub invariant-loop-k : goal.invariant-loop-k
invariant-loop-k l = Chains l.k (line_of l.plan) (entry l.senders.latest) (entry l.senders.prior)
