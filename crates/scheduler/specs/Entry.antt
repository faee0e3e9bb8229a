-- What the entry `run` answers and leaves in the lent schedule (document 01, "Turned down"), and what any kind of run leaves there.
--   Made, made o                      == the rows and the tally that a run makes
--   resulted form o n schedule        == the tally and the schedule's bytes of what was made, or the refusal
--   read_into x n choices schedule     == the same of what was read
--   run_into plan n choices schedule   == the tally and the schedule's bytes, or the refusal: 1 to 6, then 7, 8, 9
--   Claimed plan n choices r schedule == demand 3's claim and the sums, of what was returned and written
--   ran_of r                           == the outcome that an answer stands for
use Rattle.std.specs.Prelude.{ℕ, ◌≡◌, true, false, List, ◌++◌, length, drop, leb, Result as Returned, Ok, Err}
use Rattle.plan.specs.declared.refusal.Refusal.{Refusal}
use Rattle.plan.specs.Refusal.{Outcome, refused, accepted, number_of}
use Rattle.plan.specs.Reader.{Read, read_plan}
use Rattle.runs.specs.declared.tally.Tally.{Tally}
use Rattle.runs.specs.State.{State}
use Rattle.runs.specs.Setting.{setting}
use Rattle.runs.specs.Run.{admitted}
use Rattle.courses.specs.Row.{Row}
use Rattle.courses.specs.Schedule.{schedule_bytes}
use Rattle.runs.specs.Claim.{Bounded}

pub record Result : Type 0 where
  pub answer : Outcome Tally
  pub schedule : List ℕ

pub record Made : Type 0 where
  pub rows : List Row
  pub tally : Tally

-- a schedule of that form; 9 where it is longer than its buffer; "On success, bytes .. beyond the output keep what they held."
unfoldable pub resulted : ℕ → Outcome Made → ℕ → List ℕ → Result
unfolding schedule_bytes
resulted form (refused k) n schedule = record { answer = refused k; schedule = schedule }
resulted form (accepted s) n schedule =
    elim (leb (length (schedule_bytes form n s.rows)) (length schedule)) [
      | false ↦ record { answer = refused 9; schedule = schedule }
      | true ↦ record {
        answer = accepted s.tally;
        schedule = schedule_bytes form n s.rows ++ drop (length (schedule_bytes form n s.rows)) schedule;
      }
    ]

abbrev pub made : Outcome State → Outcome Made
made (refused k) = refused k
made (accepted s) = accepted (record { rows = s.rows; tally = s.tally })

-- document 02, L5: "A run writes the schedule in its plan's form."
unfoldable pub read_into : Outcome Read → ℕ → List ℕ → List ℕ → Result
unfolding resulted admitted
read_into (refused k) n choices schedule = record { answer = refused k; schedule = schedule }
read_into (accepted x) n choices schedule = resulted x.form (made (admitted (accepted x) n choices)) n schedule

unfoldable pub run_into : List ℕ → ℕ → List ℕ → List ℕ → Result
unfolding read_into read_plan
run_into plan n choices schedule = read_into (read_plan plan) n choices schedule

abbrev pub ran_of : Returned Tally Refusal → Outcome Tally
ran_of (Err cause) = refused (number_of cause)
ran_of (Ok t) = accepted t

-- where the run was done, the plan was accepted, and the claim holds of the rows read off the schedule, with the tally
abbrev pub Claimed : List ℕ → ℕ → List ℕ → Returned Tally Refusal → List ℕ → Type 0
Claimed plan n choices r schedule =
    (t : Tally) → r ≡ Ok t → (x : Read) × (read_plan plan ≡ accepted x) × Bounded (setting x.plan n choices) x.form schedule t
