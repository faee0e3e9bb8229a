-- The set of a pool, by its four words.
--   first_word == where the words below word k are empty, the lowest job of word k is the first
--   first_none == where all four words are empty there is none
use Prim.Native.Nat.{ℕ, ◌+◌, ◌*◌, ◌/◌, ◌%◌, ◌<◌}
use mathlib.Core.Path.{◌≡◌, ap, ap₂, ◌∙◌}
use mathlib.Core.Logic.{by_cases}
use mathlib.Core.Bool.{false}
use native.Mathlib.Omega.{arith}
use native.Mathlib.Decide.{ℕ_discrete}
use lib.ListN.{get_or}
use Rattle.std.specs.Prelude.{Some, None}
use Rattle.crew.specs.Crew.{member, Lowest}
use Rattle.crew.proofs.Laws.Members.{member_none}
use Rattle.pool_set.specs.declared.Pool.{Pool}
use Rattle.pool_set.specs.Pool.{pooled, First}

module _ (pool : Pool) (k : ℕ) (empty : (u : ℕ) → u < k → get_or pool.ready u 0 ≡ 0) where
  none_below : (i : ℕ) → i / 64 < k → pooled pool i ≡ false
  none_below i h = ap (λ (x : ℕ). member x (i % 64)) (empty (i / 64) h) ∙ member_none (i % 64)

  pub first_word : {b : ℕ} → k < 4 → Lowest (get_or pool.ready k 0) b → b < 64 → First pool (Some (64 * k + b))
  first_word {b} h low l = (
    omega arith,
    ap₂ (λ (x y : ℕ). member (get_or pool.ready x 0) y) word digit ∙ low.there,
    λ i s. by_cases (ℕ_discrete (i / 64) k)
        (λ e. ap (λ (x : ℕ). member (get_or pool.ready x 0) (i % 64)) e ∙ low.none (i % 64) (omega arith))
        (λ f. none_below i (omega arith)),
  )
    where
      word : (64 * k + b) / 64 ≡ k
      word = omega arith

      digit : (64 * k + b) % 64 ≡ b
      digit = omega arith

pub first_none : (pool : Pool) → ((u : ℕ) → u < 4 → get_or pool.ready u 0 ≡ 0) → First pool None
first_none pool empty i g = none_below pool 4 empty i (omega arith)
