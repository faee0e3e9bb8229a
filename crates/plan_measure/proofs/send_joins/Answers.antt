-- `measure::send_joins` meets its contract: the joins are sent one after the other.
use native.Mathlib.Omega.{arith}
use Rattle.plan_measure.proofs.Laws.Sends.{part_given}
use Rattle.plan_measure.proofs.send_joins.Goals as goal

pub send_join-requires : goal.send_join-requires
send_join-requires c =
    (c.loop-k.invariant.0, part_given _ _ _ _ _ _ _ _ c.loop-k.auto.k (omega arith) (omega arith) c.requires.1)
