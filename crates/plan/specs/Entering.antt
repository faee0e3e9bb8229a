-- The array that counts, for each action by its place in plan order, the joins that enter it.
--   Unentered l == none is counted yet
--   Entered p l == the array holds how many joins enter each action of the plan p
use Rattle.std.specs.Prelude.{ℕ, ◌≡◌, List, map, take, replicate}
use Rattle.plan.specs.Plan.{Plan, total, placed, entering}

abbrev pub Unentered : List ℕ → Type 0
Unentered l = l ≡ replicate 2048 0

abbrev pub Entered : Plan → List ℕ → Type 0
Entered p l = take (total p) l ≡ map (λ a. entering p a.job a.position) (placed p)
