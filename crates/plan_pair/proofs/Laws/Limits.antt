-- The limits of the new root's frame and of the result's counts.
--   limits_told, limits_less == what they tell, and that smaller counts are within them too
--   fits_limits == they are those of the result
use Prim.Native.Nat.{ℕ, ◌+◌, ◌≤◌}
use mathlib.Core.Path.{◌≡◌}
use native.Mathlib.Omega.{arith}
use lib.Dec.{T, leb, leb→le, le→leb}
use lib.ListN.{length}
use borrow.Author.Tests.{le-leb}
use Rattle.plan.specs.Test.{both}
use Rattle.plan.specs.Plan.{Plan, total}
use Rattle.plan.proofs.Laws.Lists.{both_left, both_right}
use Rattle.plan_pair.specs.Pair.{paired, pair_fits, in_limits}
use Rattle.plan_pair.proofs.Laws.Pairing.{paired_length, paired_total}

module _ (frame jobs actions : ℕ) where
  pub limits_told : T (in_limits frame jobs actions) → (1 ≤ frame) × (frame ≤ 65535) × (jobs ≤ 256) × (actions ≤ 2048)
  unfolding in_limits
  limits_told t =
      let frames = both (leb 1 frame) (leb frame 65535) in
      let counts = both (leb jobs 256) (leb actions 2048) in
      let f = both_left frames counts t in
      let c = both_right frames counts t in (
        leb→le 1 frame (both_left (leb 1 frame) (leb frame 65535) f),
        leb→le frame 65535 (both_right (leb 1 frame) (leb frame 65535) f),
        leb→le jobs 256 (both_left (leb jobs 256) (leb actions 2048) c),
        leb→le actions 2048 (both_right (leb jobs 256) (leb actions 2048) c),
      )

pub limits_less : (frame a b m n : ℕ) → T (in_limits frame a b) → m ≤ a → n ≤ b → T (in_limits frame m n)
unfolding in_limits
limits_less frame a b m n t h k =
    let (x, y, z, w) = limits_told frame a b t in
    rw (in_limits, le-leb 1 frame x, le-leb frame 65535 y, le-leb m 256 (omega arith)) (le→leb n 2048 (omega arith))

pub fits_limits : (frame : ℕ) (p q : Plan) (jobs actions : ℕ) → jobs ≡ 1 + length p + length q → actions ≡ 5 + total p + total q
    → in_limits frame jobs actions ≡ pair_fits frame (paired frame p q)
unfolding in_limits pair_fits
fits_limits frame p q jobs actions e f = rw (paired_length frame p q, paired_total frame p q, e, f)
