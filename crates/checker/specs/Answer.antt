-- What the checker's answer stands for.
--   judged_of r == the number of the refusal, or 0, which stands for accepted
use Rattle.std.specs.Prelude.{ℕ, Result, Ok, Err}
use Rattle.plan.specs.declared.refusal.Refusal.{Refusal}
use Rattle.plan.specs.Refusal.{Outcome, refused, accepted, number_of}

abbrev pub judged_of : Result Unit Refusal → Outcome ℕ
judged_of (Err cause) = refused (number_of cause)
judged_of (Ok _) = accepted 0
