-- `dw_measure` meets its contract: the number of the cause, or the measures.
use Rattle.cabi.proofs.Laws.Numbers.{measures_divided}
use Rattle.cabi.proofs.dw_measure.Goals as goal

pub returns-clause-divided : goal.returns-clause-divided
returns-clause-divided c = measures_divided c.measure.result c.measure.ensures.divided _ c.into.ensures
