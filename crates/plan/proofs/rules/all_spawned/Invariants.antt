-- `plan::rules::all_spawned` meets its contract. The loop's invariant: every job passed but 0 has a spawn noted.
use Prim.Native.Nat.{ℕ, ◌≤◌, ◌<◌}
use mathlib.Core.Path.{◌≡◌}
use Rattle.plan.specs.Sheet.{spawn_of}
use Rattle.plan.proofs.rules.all_spawned.Given as goal

abbrev pub invariant-loop-c : goal.invariant-loop-c
invariant-loop-c l =
    (l.plan.jobs ≤ 256) × ((n : ℕ) → n < l.c → 1 ≤ n → spawn_of l.plan n ≡ 0 → ⊥)
