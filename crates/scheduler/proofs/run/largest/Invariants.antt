-- `run::largest` meets its contract. The loop's invariant: the largest of the choices passed.
use mathlib.Core.Path.{◌≡◌}
use lib.ListN.{take}
use Rattle.scheduler.specs.Choices.{largest_of}
use Rattle.scheduler.proofs.run.largest.Given as goal

abbrev pub invariant-loop-c : goal.invariant-loop-c
invariant-loop-c l = l.most ≡ largest_of (take l.c-index l.choices)
