-- Weights along the path from a job up to the root: a job's is its own and its parent's, whatever the fuel.
use Prim.Native.Nat.{ℕ, zero, suc, ◌+◌, ◌*◌, ◌≤◌, ◌<◌, max}
use mathlib.Core.Path.{◌≡◌, refl, ap, sym, ◌∙◌}
use mathlib.Core.Bool.{true, false}
use mathlib.Core.List.{[], ◌∷◌}
use native.Mathlib.Numerals.{add-one}
use native.Mathlib.Omega.{arith}
use native.Mathlib.Decide.{dec_lt}
use native.Mathlib.Nat.{not-suc-le-zero, add-zero}
use lib.Dec.{eqb, eqb-suc-zero}
use lib.ListN.{length}
use Rattle.plan.specs.Test.{largest, below}
use Rattle.plan.specs.Plan.{Plan, job, parent}
use Rattle.plan_measure.specs.Measure.{path_over, path, heaviest}
use Rattle.plan_measure.proofs.Laws.Largest.{largest_more, largest_above, largest_attained, below_member, member_below}
use Rattle.plan.specs.Rules.{Accepted}
use Rattle.plan.proofs.Laws.Valid.{older, frame_range, jobs_range}

-- the sum of f over at most n jobs, from job j up to the root
pub along : Plan → (ℕ → ℕ) → ℕ → ℕ → ℕ
along p f zero j = 0
along p f (suc n) j = f j + elim (eqb j 0) [ true ↦ 0 | false ↦ along p f n (parent p j) ]

module _ (p : Plan) (f : ℕ → ℕ) where
  along_root : (n : ℕ) → along p f (suc n) 0 ≡ f 0
  unfolding along
  along_root n = add-zero (f 0)

  along_suc : (n j : ℕ) → along p f (suc n) (suc j) ≡ f (suc j) + along p f n (parent p (suc j))
  unfolding along
  along_suc n j = rw eqb-suc-zero

  -- more jobs than there are below make no difference
  along_fuel : Accepted p → (n m j : ℕ) → j < length p → j < n → j < m → along p f n j ≡ along p f m j
  along_fuel ok zero m j b h k = absurd (not-suc-le-zero h)
  along_fuel ok (suc n) zero j b h k = absurd (not-suc-le-zero k)
  along_fuel ok (suc n) (suc m) zero b h k = along_root n ∙ sym (along_root m)
  along_fuel ok (suc n) (suc m) (suc j) b h k =
      let o = older p ok (suc j) (omega arith) b in
      omega (arith, along_suc n j, along_suc m j, along_fuel ok n m (parent p (suc j)) (omega arith) (omega arith) (omega arith))

  pub along_parent : Accepted p → (j : ℕ) → 1 ≤ j → j < length p → along p f (length p) j ≡ f j + along p f (length p) (parent p j)
  along_parent ok zero h b = absurd (not-suc-le-zero h)
  along_parent ok (suc j) h b =
      let o = older p ok (suc j) h b in
      along_fuel ok (length p) (suc (length p)) (suc j) b b (omega arith) ∙ along_suc (length p) j

-- a job's path weight is its frame's weight and its parent's path weight
pub path_root : (p : Plan) → path p 0 ≡ (job p 0).frame
unfolding path
path_root [] = refl
path_root (b ∷ bs) = add-zero b.frame

module _ (p : Plan) where
  path_along : (n j : ℕ) → path_over p n j ≡ along p (λ i. (job p i).frame) n j
  unfolding path_over along
  path_along zero j = refl
  path_along (suc n) j =
      ap (λ (v : ℕ). (job p j).frame + elim (eqb j 0) [ true ↦ 0 | false ↦ v ]) (path_along n (parent p j))

  pub path_parent : Accepted p → (j : ℕ) → 1 ≤ j → j < length p → path p j ≡ (job p j).frame + path p (parent p j)
  unfolding path
  path_parent ok j h b = rw (path_along, path_along) (along_parent p (λ i. (job p i).frame) ok j h b)

  -- the heaviest path is no lighter than any, and one path has its weight
  pub path_heaviest : (j : ℕ) → j < length p → path p j ≤ heaviest p
  unfolding heaviest
  path_heaviest j h = largest_above (path p) (below (length p)) j (member_below (length p) j h)

  pub path_positive : Accepted p → (j : ℕ) → j < length p → 1 ≤ path p j
  path_positive ok zero h = omega (arith, path_root p, frame_range p ok 0 h)
  path_positive ok (suc j) h = omega (arith, path_parent ok (suc j) (omega arith) h, frame_range p ok (suc j) h)

  pub heaviest_attained : Accepted p → (j : ℕ) × (j < length p) × (path p j ≡ heaviest p)
  unfolding heaviest
  heaviest_attained ok =
      let h = (jobs_range p ok).0 in
      let (j, m, e) = largest_attained (path p) (below (length p)) (omega (arith, path_positive ok 0 h, path_heaviest 0 h)) in
      (j, below_member (length p) j m, e)

  -- so a path weight is below 2 ^ 24
  pub path_small : Accepted p → (j : ℕ) → j < length p → path p j ≤ 65535 * suc j
  path_small ok j h = go (suc j) j (omega arith) h
    where
      go : (n j : ℕ) → j < n → j < length p → path p j ≤ 65535 * suc j
      go zero j l h = absurd (not-suc-le-zero l)
      go (suc n) zero l h = omega (arith, path_root p, frame_range p ok 0 h)
      go (suc n) (suc j) l h =
          let o = older p ok (suc j) (omega arith) h in
          omega (arith, path_parent ok (suc j) (omega arith) h, frame_range p ok (suc j) h, go n (parent p (suc j)) (omega arith) (omega arith))

-- the path weights of the jobs below j, and the largest of them
pub record Weighed (p : Plan) (j most : ℕ) (weight : ℕ → ℕ) : Type 0 where
  pub weights : (k : ℕ) → k < j → weight k ≡ path p k
  pub largest : most ≡ largest (path p) (below j)

module _ (p : Plan) (ok : Accepted p) where
  pub weighed_root : (most : ℕ) (weight : ℕ → ℕ) → most ≡ (job p 0).frame → weight 0 ≡ most → Weighed p 1 most weight
  weighed_root most weight e f =
      record {
        weights = λ k h. let z : k ≡ 0 = omega arith in rw z (omega (arith, path_root p));
        largest = omega (arith, path_root p);
      }

  pub weighed_more : (j most new : ℕ) (weight weight' : ℕ → ℕ) → Weighed p j most weight → 1 ≤ j → j < length p
      → new ≡ (job p j).frame + weight (parent p j) → weight' j ≡ new → ((k : ℕ) → k < j → weight' k ≡ weight k)
      → Weighed p (j + 1) (max most new) weight'
  weighed_more j most new weight weight' w h b e f same =
      let n : new ≡ path p j = omega (arith, path_parent p ok j h b, w.weights (parent p j) (older p ok j h b)) in
      rw add-one (record {
        weights = λ k l. by k l n (dec_lt k j);
        largest = omega (arith, w.largest, largest_more (path p) j);
      })
    where
      by : (k : ℕ) → k < suc j → new ≡ path p j → Dec (k < j) → weight' k ≡ path p k
      by k l n (yes a) = same k a ∙ w.weights k a
      by k l n (no a) = let z : k ≡ j = omega arith in rw z (f ∙ n)
