-- `set::without` meets its contract.
use native.Mathlib.Nat.{lt_of_le_of_lt}
use lib.Bits.{and_le_l}
use Rattle.crew.proofs.Laws.Members.{member_without}
use Rattle.crew.proofs.set.without.Goals as goal

pub returns : goal.returns
returns c = record {
  small = λ n h l. lt_of_le_of_lt (and_le_l _ _) l;
  each = λ u. member_without _ _ u c.ranges.set.fits c.requires;
}
