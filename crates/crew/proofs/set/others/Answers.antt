-- `set::others` meets its contract: the shift loses no digit.
use Prim.Native.Nat.{◌<◌}
use native.Mathlib.Omega.{arith}
use lib.Pow.{pow-lt}
use Rattle.crew.proofs.Laws.Members.{one_kept}
use Rattle.crew.proofs.set.others.Goals as goal

pub overflow_sub-result : goal.overflow_sub-result
overflow_sub-result c = let h : c.args.n < 64 = omega arith in rw (one_kept h) (pow-lt c.requires.0)
