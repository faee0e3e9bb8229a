-- `push` meets its contract: the job goes behind the bottom one, to a place not above its number.
use mathlib.Core.Path.{refl}
use Rattle.deques.proofs.Laws.Deques.{restarted, on_bottom}
use Rattle.deques.proofs.Deque.push.Goals.{then-self-eq0, else-self-eq0}
use Rattle.deques.proofs.Deque.push.Goals as goal

pub returns : goal.returns
returns c d p =
    rw (c.from.ensures, c.from-2.ensures)
    (elim c.if-self-eq0.branch [
      | then-self-eq0 w ↦ rw w.self-is (on_bottom (restarted p w.if-self-eq0.true) (λ e. refl))
      | else-self-eq0 w ↦ rw w.self-is (on_bottom p (λ e. absurd (w.if-self-eq0.false e)))
    ])
