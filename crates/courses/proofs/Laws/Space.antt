-- The space of a plan's living jobs where each that has no living child is the first of a line: one heaviest path for each line that is
-- not empty.
--   leaves_space == the weight is at most the number of lines that are not empty times the weight of the heaviest path
use Prim.Native.Nat.{ℕ, ◌*◌, ◌≤◌}
use mathlib.Core.Path.{◌≡◌}
use mathlib.Core.List.{List, []}
use lib.ListN.{get_or}
use Rattle.plan.specs.Plan.{Plan}
use Rattle.plan.specs.Rules.{Accepted}
use Rattle.plan_measure.specs.Measure.{heaviest}
use Rattle.courses.specs.Ready.{weight}
use Rattle.lines.proofs.Laws.Shape.{Leaves}
use Rattle.lines.proofs.Laws.Weight.{filled, space}
use Rattle.courses.proofs.Laws.PlanShape.{shape, shape_valid, weight_held, path_same, path_most}

pub leaves_space : (p : Plan) → Accepted p → (next : List ℕ) (line : ℕ → List ℕ) → Leaves (shape p) (λ j. get_or next j 0) line
    → (size : ℕ) → ((w : ℕ) → size ≤ w → line w ≡ []) → weight p next ≤ filled size line * heaviest p
leaves_space p ok next line leaves size past =
    rw (weight_held p next)
    (space (shape p) (shape_valid p ok) leaves size past (heaviest p) (λ j h. rw (path_same p ok j h) at (path_most p j h)))
