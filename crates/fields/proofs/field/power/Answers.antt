-- `fields::field::power` meets its contract: 2^k is at most 2^32, so that nothing is shifted out of 64 bits.
use native.Mathlib.Omega.{arith}
use lib.Pow.{pow_mono}
use Rattle.fields.proofs.field.power.Goals as goal

pub returns : goal.returns
returns c = omega (arith, pow_mono {i = c.args.k} {j = 32} c.requires)
