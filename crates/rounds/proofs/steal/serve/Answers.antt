-- `steal::serve` meets its contract: the oldest request leaves the victim's line, and the top job its deque.
use Rattle.deques.proofs.Laws.Deques.{top_in}
use Rattle.rounds.proofs.steal.serve.Goals as goal

pub returns : goal.returns
returns c =
    let (line, beside) = c.leave_line-who.ensures in
    let known = c.requires.0.1.servable.there in (
      λ q s. line q s.leaving,
      beside,
      λ ds h. top_in _ h known (rw c.has.ensures at (c.take_top-taken.ensures _ (h.holds _ known))),
      rw c.waiting_at.ensures at c.served-account.ensures,
    )
