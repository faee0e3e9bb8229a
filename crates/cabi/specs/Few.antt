-- What the function that hands a count on is given. No exported function cites it.
--   Few a == a count that is answered fits 32 bits
use Rattle.std.specs.Prelude.{ℕ, ◌<◌, ◌≡◌, Result, Ok}
use Rattle.plan.specs.declared.refusal.Refusal.{Refusal}

abbrev pub Few : Result ℕ Refusal → Type 0
Few a = (n : ℕ) → a ≡ Ok n → n < 4294967296
