-- `busy::take` meets its contract: the rounds are digits, and those of each of the two blocks come into its bucket's set (`Laws.Busy`).
use Prim.Native.Nat.{◌+◌, ◌-◌, ◌*◌, ◌/◌, ◌%◌, ◌^◌}
use native.Mathlib.Omega.{arith}
use Rattle.checker.proofs.Laws.Busy.{span_digits, taken}
use Rattle.checker.proofs.busy.take.Goals as goal

pub returns : goal.returns
returns c =
    let digits = (65535 / 2 ^ (c.args.first + 15 - c.args.row / 16) * 2 ^ (c.args.first % 16)) % 2 ^ 32 in
    taken _ _ _ c.requires.0 c.requires.1 digits (λ d l. span_digits _ _ d (omega arith) (omega arith)) _ _ _ _ _
    (rw c.bucket_of.ensures.0 at c.put-low.ensures) (rw c.bucket_of-2.ensures.0 at c.put-high.ensures) (omega arith)
