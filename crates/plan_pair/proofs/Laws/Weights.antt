-- S1 of the pair of two plans: the new root's frame and the greater S1.
--   part_path  == a job's path weight is what it was and the new root's frame
--   pair_space == S1
use Prim.Native.Nat.{ℕ, zero, suc, ◌+◌, ◌≤◌, ◌<◌, max}
use mathlib.Core.Path.{◌≡◌, ap}
use native.Mathlib.Omega.{arith}
use native.Mathlib.Nat.{not-suc-le-zero, le_antisymm}
use lib.ListN.{length}
use Rattle.plan.specs.Plan.{Plan, job, parent}
use Rattle.plan.specs.Rules.{Accepted}
use Rattle.plan_measure.specs.Measure.{path, heaviest}
use Rattle.plan.proofs.Laws.Valid.{older}
use Rattle.plan_measure.proofs.Laws.Paths.{path_root, path_parent, path_heaviest, heaviest_attained}
use Rattle.plan_pair.proofs.Laws.Pairing.{part_frame, Whose, top, mine, theirs, Pairing, swapped}
use Rattle.plan_pair.proofs.Laws.Spawns.{root_parent, part_parent}

module _ {d e s u : ℕ} {p q r : Plan} (t : Pairing d e s u p q r) (ok : Accepted p) (ok' : Accepted q) (all : Accepted r) where
  -- over the jobs below n, parents first
  path_below : (n k : ℕ) → k < n → k < length p → path r (d + k) ≡ (job r 0).frame + path p k
  path_below zero k l h = absurd (not-suc-le-zero l)
  path_below (suc n) zero l h =
      let o = (root_parent t ok ok').0 in
      omega (
        arith,
        path_parent r all (d + 0) (omega (arith, t.one.some)) (omega (arith, t.one.room)),
        ap (path r) o,
        path_root r,
        path_root p,
        part_frame t.one 0 h,
      )
  path_below (suc n) (suc k) l h =
      let o = (part_parent t ok ok' (suc k) (omega arith) h).0 in
      let older = older p ok (suc k) (omega arith) h in
      omega (
        arith,
        path_parent r all (d + suc k) (omega arith) (omega (arith, t.one.room)),
        ap (path r) o,
        path_below n (parent p (suc k)) (omega arith) (omega arith),
        path_parent p ok (suc k) (omega arith) h,
        part_frame t.one (suc k) h,
      )

  pub part_path : (k : ℕ) → k < length p → path r (d + k) ≡ (job r 0).frame + path p k
  part_path k h = path_below (suc k) k (omega arith) h

  -- a path of the one plan is a path of the pair
  space_least : (job r 0).frame + heaviest p ≤ heaviest r
  space_least =
      let (j, h, e) = heaviest_attained p ok in
      omega (arith, part_path j h, path_heaviest r (d + j) (omega (arith, t.one.room)))

module _ {d e s u : ℕ} {p q r : Plan} (t : Pairing d e s u p q r) (ok : Accepted p) (ok' : Accepted q) (all : Accepted r) where
  path_most : (j : ℕ) → Whose d e p q j → path r j ≤ (job r 0).frame + max (heaviest p) (heaviest q)
  path_most j (top x) = omega (arith, ap (path r) x, path_root r)
  path_most j (mine k h x) = omega (arith, ap (path r) x, part_path t ok ok' all k h, path_heaviest p k h)
  path_most j (theirs k h x) = omega (arith, ap (path r) x, part_path (swapped t) ok' ok all k h, path_heaviest q k h)

  pub pair_space : heaviest r ≡ (job r 0).frame + max (heaviest p) (heaviest q)
  pair_space =
      let (j, h, e) = heaviest_attained r all in
      le_antisymm (omega (arith, path_most j (t.whose j h)))
      (omega (arith, space_least t ok ok' all, space_least (swapped t) ok' ok all))
