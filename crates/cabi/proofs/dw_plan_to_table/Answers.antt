-- `dw_plan_to_table` meets its contract: what the entry answers is a number that fits.
use native.Mathlib.Omega.{arith}
use Rattle.cabi.proofs.Laws.Numbers.{counts, counts_fit}
use Rattle.cabi.proofs.Laws.Small.{to_table_few}
use Rattle.cabi.proofs.dw_plan_to_table.Goals as goal

pub counted-requires : goal.counted-requires
counted-requires c = counts_fit _ _ _ c.plan_to_table.ensures (λ n e. omega (arith, to_table_few _ _ n e))

pub returns : goal.returns
returns c =
    let r = c.plan_to_table in
    counts _ r.result _ r.ensures _ c.counted.ensures
