-- `dw_pair` meets its contract: what the entry answers is a number that fits.
use Rattle.cabi.proofs.Laws.Numbers.{counts, counts_fit, paired_count}
use Rattle.cabi.proofs.Laws.Small.{pair_into_few}
use Rattle.cabi.proofs.dw_pair.Goals as goal

pub counted-requires : goal.counted-requires
counted-requires c = counts_fit _ _ _ c.pair.ensures.bytes_after (pair_into_few _ _ _ _)

pub returns : goal.returns
returns c =
    let r = c.pair in
    record {
      value = counts _ r.result _ r.ensures.bytes_after _ c.counted.ensures;
      paired = paired_count _ _ _ r.result _ r.ensures.paired _ c.counted.ensures;
    }
