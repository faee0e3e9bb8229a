-- `busy::put` meets its contract: the set is stored with the rounds in it (`Laws.Busy`).
use Rattle.checker.proofs.Laws.Busy.{put_in}
use Rattle.checker.proofs.busy.put.Goals as goal

pub returns : goal.returns
returns c = put_in _ _ _ _ c.requires.2 c.requires.0 c.from-there.ensures
