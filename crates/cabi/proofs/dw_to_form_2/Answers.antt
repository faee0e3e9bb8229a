-- `dw_to_form_2` meets its contract: what the entry answers is a number that fits.
use Rattle.cabi.proofs.Laws.Numbers.{counts, counts_fit, converted_count}
use Rattle.cabi.proofs.Laws.Small.{to_form2_few}
use Rattle.cabi.proofs.dw_to_form_2.Goals as goal

pub counted-requires : goal.counted-requires
counted-requires c = counts_fit _ _ _ c.to_form_2.ensures.bytes_after (to_form2_few _ _)

pub returns : goal.returns
returns c =
    let r = c.to_form_2 in
    record {
      value = counts _ r.result _ r.ensures.bytes_after _ c.counted.ensures;
      converted = converted_count _ _ _ r.result _ r.ensures.converted _ c.counted.ensures;
    }
