-- `set::lowest` meets its contract.
use Rattle.crew.proofs.Laws.Lows.{tz_lowest}
use Rattle.crew.proofs.set.lowest.Goals as goal

pub returns : goal.returns
returns c = tz_lowest _ c.requires c.ranges.set.fits
