-- `reader::read_actions` meets its contract. The loop's invariant: the actions l are read and written, and what `actions_at` gives
-- is l and then what it gives of the rest.
use Prim.Native.Nat.{ℕ, ◌+◌, ◌*◌, ◌-◌, ◌≤◌}
use mathlib.Core.Path.{◌≡◌}
use mathlib.Core.List.{List}
use lib.ListN.{length}
use Rattle.plan.specs.declared.sheet.Sheet.{Sheet}
use Rattle.plan.specs.Plan.{Action}
use Rattle.plan.specs.Reader.{actions_at}
use Rattle.plan.specs.Progress.{with_actions}
use Rattle.plan.proofs.Laws.Steps.{after}
use Rattle.plan.proofs.reader.read_actions.Given as goal

pub record Begun (form : ℕ) (s : List ℕ) (at j from count : ℕ) (plan₀ plan : Sheet) (place k : ℕ) : Type 0 where
  pub l : List Action
  pub rest : actions_at form s count at ≡ after l (actions_at form s (count - length l) place)
  pub here : k ≡ from + length l
  pub few : length l ≤ count
  pub near : place ≤ at + 22 * length l
  pub written : plan ≡ with_actions plan₀ from j l

abbrev pub invariant-loop-k : goal.invariant-loop-k
invariant-loop-k l = Begun l.form l.s l.at l.j l.from l.count l.initial.plan l.plan l.place l.k
