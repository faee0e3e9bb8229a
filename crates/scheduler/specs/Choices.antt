-- The choices. Functions that are no entries cite this file.
--   largest_of l == the largest member of l, 0 where l is empty
use Rattle.std.specs.Prelude.{ℕ, List}
use Rattle.plan.specs.Test.{largest}

abbrev pub largest_of : List ℕ → ℕ
largest_of l = largest (λ x. x) l
