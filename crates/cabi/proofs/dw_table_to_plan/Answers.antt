-- `dw_table_to_plan` meets its contract: what the entry answers is a number that fits.
use Rattle.cabi.proofs.Laws.Numbers.{counts, counts_fit}
use Rattle.cabi.proofs.Laws.Small.{to_plan_few}
use Rattle.cabi.proofs.dw_table_to_plan.Goals as goal

pub counted-requires : goal.counted-requires
counted-requires c = counts_fit _ _ _ c.table_to_plan.ensures (to_plan_few _ _ _)

pub returns : goal.returns
returns c =
    let r = c.table_to_plan in
    counts _ r.result _ r.ensures _ c.counted.ensures
