-- `dw_pool` meets its contract: the number of the cause, or the tally, with all that is owed of it.
use Rattle.cabi.proofs.Laws.Numbers.{tallies, pool_claimed}
use Rattle.cabi.proofs.dw_pool.Goals as goal

pub returns : goal.returns
returns c =
    let r = c.pool in
    record {
      value = tallies _ r.result _ r.ensures.schedule_after _ c.into.ensures;
      pool_claimed = pool_claimed _ _ r.result _ r.ensures.claimed _ c.into.ensures;
    }
