-- `set::with` meets its contract.
use lib.Bits.{or_lt}
use lib.Pow.{pow-lt}
use Rattle.crew.proofs.Laws.Members.{one_kept, member_with}
use Rattle.crew.proofs.set.with.Goals as goal

pub returns : goal.returns
returns c = record {
  small = λ n h l. or_lt n _ _ l (rw (one_kept c.requires) (pow-lt h));
  each = λ u. member_with _ _ u c.requires;
}
