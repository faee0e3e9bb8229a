-- `plan::rules::lasts_send` meets its contract. The loop's invariant: the last action of every job passed but 0 sends a join.
use Prim.Native.Nat.{ℕ, ◌+◌, ◌≤◌, ◌<◌, ◌-◌}
use mathlib.Core.Path.{◌≡◌}
use Rattle.plan.specs.Sheet.{target_at, first_of}
use Rattle.plan.proofs.rules.lasts_send.Given as goal

abbrev pub invariant-loop-j : goal.invariant-loop-j
invariant-loop-j l =
    (n : ℕ) → n < l.j → 1 ≤ n → target_at l.plan (first_of l.plan (n + 1) - 1) ≡ 0 → ⊥
