-- `run::largest` meets its contract. The loop's invariant: the largest of the choices passed.
use Prim.Native.Nat.{max}
use mathlib.Core.Path.{ap, ◌∙◌}
use native.Mathlib.Omega.{arith}
use lib.ListN.{get_or}
use Rattle.scheduler.proofs.Laws.Choices.{largest_step}
use Rattle.scheduler.proofs.run.largest.Goals as goal

pub loop-c-preserved : goal.loop-c-preserved
loop-c-preserved c =
    let choices = c.args.choices.now in
    c.max-most.ensures ∙ ap (λ m. max m (get_or choices c.loop-c.c-index 0)) c.loop-c.invariant ∙ largest_step choices c.loop-c.c-index (omega arith)
