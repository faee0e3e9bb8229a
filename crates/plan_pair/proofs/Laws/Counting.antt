-- How many actions pass a test, of a job and of the jobs of a plan that stands elsewhere, by job and position.
--   from o b j i == action i of job j of the jobs b, which stand from job o on
--   row_zero     == none of a job's actions, where the job alone tells
--   from_zero, from_once == none, at most one
--   from_within  == no more than in another plan whose actions stand at the same places
use Prim.Native.Nat.{ℕ, suc, ◌+◌, ◌≤◌, ◌<◌}
use mathlib.Core.Path.{◌≡◌, refl, ap, sym, ◌∙◌}
use mathlib.Core.Bool.{Bool}
use mathlib.Core.List.{List, [], ◌∷◌}
use native.Mathlib.Omega.{arith}
use lib.Dec.{T}
use lib.ListN.{length, get_or}
use Rattle.plan.specs.Test.{count}
use Rattle.plan.specs.Plan.{Action, Plan, Placed, size, action, total, placed, placed_in, placed_from, no_placed}
use Rattle.plan.proofs.Laws.Counts.{count_miss, count_zero, count_once, count_within}
use Rattle.plan.proofs.Laws.Placed.{start, placed_from_length, placed_from_at, placed_length, placed_at, Located, locate}
use Rattle.plan_measure.proofs.Laws.Follows.{act}

abbrev pub from : ℕ → Plan → ℕ → ℕ → Placed
from o b j i = record { job = o + j; position = i; spawn = (action b j i).spawn; join = (action b j i).join; cost = (action b j i).cost }

module _ (f : Placed → Bool) where
  pub row_zero : (j o : ℕ) (l : List Action) → ((a : Placed) → a.job ≡ j → T (f a) → ⊥) → count f (placed_in j o l) ≡ 0
  row_zero j o [] none = refl
  row_zero j o (a ∷ l) none =
      count_miss f (record { job = j; position = o; spawn = a.spawn; join = a.join; cost = a.cost }) (placed_in j (suc o) l) (none _ refl)
      ∙ row_zero j (suc o) l none

  module _ (o : ℕ) (b : Plan) where
    -- what stands at a place
    stands : (k : ℕ) (l : Located b k) → get_or (placed_from o b) k no_placed ≡ from o b l.job l.position
    stands k l =
        ap (λ n. get_or (placed_from o b) n no_placed) l.place
        ∙ placed_from_at o b l.job l.position (o + l.job) l.known l.within refl

    located : (k : ℕ) → k < length (placed_from o b) → Located b k
    located k h = locate b k (omega (arith, placed_from_length o b))

    pub from_zero : ((j i : ℕ) → j < length b → i < size b j → T (f (from o b j i)) → ⊥) → count f (placed_from o b) ≡ 0
    from_zero none = count_zero f (placed_from o b) no_placed (λ k h t. by k (located k h) t)
      where
        by : (k : ℕ) → Located b k → T (f (get_or (placed_from o b) k no_placed)) → ⊥
        by k l t = none l.job l.position l.known l.within (rw (stands k l) at t)

    pub from_once : (x y : ℕ) → ((j i : ℕ) → j < length b → i < size b j → T (f (from o b j i)) → (j ≡ x) × (i ≡ y))
        → count f (placed_from o b) ≤ 1
    from_once x y only =
        count_once f (placed_from o b) no_placed (λ k m h g s t. by k (located k h) s ∙ sym (by m (located m g) t))
      where
        by : (k : ℕ) → Located b k → T (f (get_or (placed_from o b) k no_placed)) → k ≡ start b x + y
        by k l t =
            let (j, i) = only l.job l.position l.known l.within (rw (stands k l) at t) in
            l.place ∙ rw (j, i)

    module _ (g : Placed → Bool) (p : Plan) (long : length b ≡ length p) (sizes : (j : ℕ) → size b j ≡ size p j)
        (starts : (j : ℕ) → start b j ≡ start p j) (all : total b ≡ total p) where
      pub from_within : ((j i : ℕ) → j < length p → i < size p j → T (f (from o b j i)) → T (g (act p j i)))
          → count f (placed_from o b) ≤ count g (placed p)
      from_within passes =
          count_within f g no_placed no_placed (placed_from o b) (placed p) (omega (arith, placed_from_length o b, placed_length p))
          (λ k h t. by k (located k h) t)
        where
          by : (k : ℕ) → Located b k → T (f (get_or (placed_from o b) k no_placed)) → T (g (get_or (placed p) k no_placed))
          by k l t =
              let known : l.job < length p = omega (arith, l.known) in
              let within : l.position < size p l.job = omega (arith, sizes l.job, l.within) in
              let e : get_or (placed p) k no_placed ≡ act p l.job l.position
              = ap (λ n. get_or (placed p) n no_placed) (omega (arith, l.place, starts l.job)) ∙ placed_at p l.job l.position known within in
              rw e (passes l.job l.position known within (rw (stands k l) at t))
