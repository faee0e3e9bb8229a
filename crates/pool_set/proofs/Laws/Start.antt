-- The pool as a run starts.
--   none_pooled   == no job is in the set
--   none_children == no child of any job lives
use Prim.Native.Nat.{ℕ, zero, suc, ◌/◌, ◌%◌}
use mathlib.Core.Path.{◌≡◌, refl, ap, ◌∙◌}
use mathlib.Core.Bool.{false}
use lib.ListN.{get_or, replicate}
use Rattle.crew.specs.Crew.{member}
use Rattle.crew.proofs.Laws.Members.{member_none}
use Rattle.pool_set.specs.Pool.{no_pool, pooled, children_of}

-- what lies past the end reads as 0 too
all_zero : (n i : ℕ) → get_or {A = ℕ} (replicate n 0) i 0 ≡ 0
all_zero zero i = refl
all_zero (suc n) zero = refl
all_zero (suc n) (suc i) = all_zero n i

pub none_pooled : (j : ℕ) → pooled no_pool j ≡ false
none_pooled j = ap (λ (x : ℕ). member x (j % 64)) (all_zero 4 (j / 64)) ∙ member_none (j % 64)

pub none_children : (j : ℕ) → children_of no_pool j ≡ 0
none_children = all_zero 256
