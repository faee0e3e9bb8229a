-- `dw_run` meets its contract: the number of the cause, or the tally, with demand 3's claim of it.
use Rattle.cabi.proofs.Laws.Numbers.{tallies, run_claimed}
use Rattle.cabi.proofs.dw_run.Goals as goal

pub returns : goal.returns
returns c =
    let r = c.run in
    record {
      value = tallies _ r.result _ r.ensures.schedule_after _ c.into.ensures;
      claimed = run_claimed _ _ _ r.result _ r.ensures.claimed _ c.into.ensures;
    }
