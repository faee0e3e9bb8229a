-- A set of workers as one number: worker w is in it where binary digit w is 1. Functions that are no entries cite this file.
--   odd s          == the lowest binary digit of s is 1
--   member s w     == worker w is in the set s
--   whether t a b  == a where t is true, and b where it is false
--   Marked w b s r == the set r is s, but for worker w, which is in it where b is true and only there
--   Lowest s w     == w is in the set, and nothing below it is
--   Rest s r       == the set r is s without its lowest worker
use Rattle.std.specs.Prelude.{ℕ, zero, suc, ◌/◌, ◌%◌, ◌^◌, ◌<◌, ◌≡◌, Bool, true, false, eqb}

abbrev pub odd : ℕ → Bool
odd s = eqb (s % 2) 1

unfoldable pub member : ℕ → ℕ → Bool
member s zero = odd s
member s (suc w) = member (s / 2) w

abbrev pub whether : Bool → Bool → Bool → Bool
whether true a b = a
whether false a b = b

pub record Marked (w : ℕ) (b : Bool) (s r : ℕ) : Type 0 where
  pub small : (n : ℕ) → w < n → s < 2 ^ n → r < 2 ^ n
  pub each : (u : ℕ) → member r u ≡ whether (eqb u w) b (member s u)

pub record Lowest (s w : ℕ) : Type 0 where
  pub there : member s w ≡ true
  pub none : (u : ℕ) → u < w → member s u ≡ false

pub record Rest (s r : ℕ) : Type 0 where
  pub less : r < s
  pub each : (w u : ℕ) → Lowest s w → member r u ≡ whether (eqb u w) false (member s u)
