-- `take_top` meets its contract.
use mathlib.Core.Path.{refl}
use Rattle.deques.proofs.Laws.Deques.{top_leaves}
use Rattle.deques.proofs.Deque.take_top.Goals as goal

pub returns : goal.returns
returns c d s = rw c.from.ensures (top_leaves s _ refl c.if-self-eq0.false c.args.held)
