-- What an entry that writes into a lent buffer answers and leaves there (document 01, "Turned down").
--   Written            == an answer, with what the buffer then holds
--   written output n buffer == the output, of which the answer tells n units, or 9
--   encoded form o buffer   == the bytes, in that form, of the plan o, or its refusal
--   answer_of r         == the outcome that an answer stands for
use Rattle.std.specs.Prelude.{ℕ, true, false, List, ◌++◌, length, drop, leb, Result, Ok, Err}
use Rattle.plan.specs.declared.refusal.Refusal.{Refusal}
use Rattle.plan.specs.Refusal.{Outcome, refused, accepted, number_of}
use Rattle.plan.specs.Plan.{Plan}
use Rattle.plan_writer.specs.Writer.{plan_bytes}

-- An entry's answer with what its lent buffer then holds: "On success, bytes or numbers beyond the output keep
-- what they held"; on a refusal the buffer is as it was.
pub record Written : Type 0 where
  pub answer : Outcome ℕ
  pub buffer : List ℕ

-- 9 where the output is longer than the buffer; an answer of n tells n of the output's units
unfoldable pub written : List ℕ → ℕ → List ℕ → Written
written output n buffer =
    elim (leb (length output) (length buffer)) [
      | false ↦ record { answer = refused 9; buffer = buffer }
      | true ↦ record { answer = accepted n; buffer = output ++ drop (length output) buffer }
    ]

-- the answer is the number of bytes; document 02, L5: "The writer is told the form."
unfoldable pub encoded : ℕ → Outcome Plan → List ℕ → Written
unfolding written plan_bytes
encoded form (refused n) buffer = record { answer = refused n; buffer = buffer }
encoded form (accepted p) buffer = written (plan_bytes form p) (length (plan_bytes form p)) buffer

abbrev pub answer_of : Result ℕ Refusal → Outcome ℕ
answer_of (Err cause) = refused (number_of cause)
answer_of (Ok n) = accepted n
