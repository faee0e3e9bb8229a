-- `plan_forms::costs_one` meets its contract. The loop's invariant: every action before place k costs 1.
use Prim.Native.Nat.{ℕ, ◌<◌}
use mathlib.Core.Path.{◌≡◌}
use Rattle.plan.specs.Sheet.{cost_at}
use Rattle.plan_forms.proofs.costs_one.Given as goal

abbrev pub invariant-loop-k : goal.invariant-loop-k
invariant-loop-k l = (i : ℕ) → i < l.k → cost_at l.plan i ≡ 1
