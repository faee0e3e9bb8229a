-- `first` meets its contract: a word is looked at where those before it are empty.
use Prim.Native.Nat.{◌<◌}
use native.Mathlib.Omega.{arith}
use Rattle.crew.proofs.Laws.Lows.{lowest_lt}
use Rattle.pool_set.proofs.Laws.Jobs.{first_word, first_none}
use Rattle.pool_set.proofs.Pool.first.Goals as goal

pub overflow_add-result : goal.overflow_add-result
overflow_add-result c =
    let h : c.lowest.result < 64 = lowest_lt c.lowest.ensures (omega arith) in omega arith

pub returns-then-word-ne0 : goal.returns-then-word-ne0
returns-then-word-ne0 c =
    first_word c.args.self.now _ c.loop-k.invariant c.loop-k-test.true c.lowest.ensures (lowest_lt c.lowest.ensures (omega arith))

pub returns : goal.returns
returns c = first_none c.args.self.now (λ u h. c.loop-k.invariant u (omega arith))
