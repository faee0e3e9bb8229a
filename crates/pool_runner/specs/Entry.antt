-- What the entry `pool` answers and leaves in the lent schedule (document 02, L1; document 01, "Turned down").
--   made_of o                  == the rows and the tally of a run from a pool
--   read_into x n schedule     == what is answered and left of what was read
--   pool_into plan n schedule  == the tally and the schedule's bytes, or the refusal: 1 to 6, then 7, 9
--   Claimed plan n r schedule == all that is owed of such a run, of what was returned and written; and the checker accepts the schedule
use Rattle.std.specs.Prelude.{ℕ, ◌≡◌, List, take, Result as Returned, Ok}
use Rattle.plan.specs.declared.refusal.Refusal.{Refusal}
use Rattle.plan.specs.Refusal.{Outcome, refused, accepted}
use Rattle.plan.specs.Plan.{total}
use Rattle.plan.specs.Reader.{Read, read_plan}
use Rattle.courses.specs.Schedule.{schedule_length, checked}
use Rattle.runs.specs.declared.tally.Tally.{Tally}
use Rattle.scheduler.specs.Entry.{Result, Made, resulted}
use Rattle.pools.specs.State.{State}
use Rattle.pools.specs.Run.{admitted}
use Rattle.pools.specs.Claim.{Bounded}

abbrev pub made_of : Outcome State → Outcome Made
made_of (refused k) = refused k
made_of (accepted s) = accepted (record { rows = s.rows; tally = s.tally })

unfoldable pub read_into : Outcome Read → ℕ → List ℕ → Result
unfolding resulted admitted
read_into (refused k) n schedule = record { answer = refused k; schedule = schedule }
read_into (accepted x) n schedule = resulted x.form (made_of (admitted (accepted x) n)) n schedule

unfoldable pub pool_into : List ℕ → ℕ → List ℕ → Result
unfolding read_into read_plan
pool_into plan n schedule = read_into (read_plan plan) n schedule

-- where the run was done, the plan was accepted, and the claim holds of the rows read off the schedule, with the tally
abbrev pub Claimed : List ℕ → ℕ → Returned Tally Refusal → List ℕ → Type 0
Claimed plan n r schedule =
    (t : Tally) → r ≡ Ok t
    → (x : Read) × (read_plan plan ≡ accepted x) × Bounded x.plan n x.form schedule t
    × (checked plan (take (schedule_length x.form (total x.plan)) schedule) ≡ accepted 0)
