-- `set::rest` meets its contract.
use Prim.Native.Nat.{ℕ, ◌-◌}
use mathlib.Core.Path.{ap, ◌∙◌}
use mathlib.Core.Bool.{false}
use native.Mathlib.Omega.{arith}
use lib.Bits.{and_le_r}
use lib.Dec.{eqb}
use Rattle.crew.specs.Crew.{whether, member}
use Rattle.crew.proofs.Laws.Lows.{tz_lowest, tz_rest, lowest_one}
use Rattle.crew.proofs.set.rest.Goals as goal

pub returns : goal.returns
returns c =
    let s = c.args.set in
    let p = c.requires in
    let f = c.ranges.set.fits in record {
      less = omega (arith, and_le_r s (s - 1));
      each = λ w u low. tz_rest 64 s u p f
          ∙ ap (λ (t : ℕ). whether (eqb u t) false (member s u)) (lowest_one s _ w (tz_lowest s p f) low);
    }
