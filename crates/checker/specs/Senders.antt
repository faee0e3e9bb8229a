-- The lines of senders of joins. Private functions alone cite it.
--   line_from first sent == the place that a join enters in a job whose first action is at place `first`, where `sent` is the
--                          position plus 1; or, where it is 0, the line behind all places
--   line_of plan k       == that of the action at place k. What stands as job 0's parent may be any number of 16 bits: the remainder
--                          keeps it an index, and what is looked up there is not used, since job 0 sends no join
--   Sending k plan p    == the arrays hold the plan p, of which k is a place
--   Senders plan p      == the arrays hold the plan p, and their number of actions is its
use Rattle.std.specs.Prelude.{ℕ, zero, suc, ◌+◌, ◌%◌, ◌<◌, ◌≡◌}
use Rattle.plan.specs.declared.sheet.Sheet.{Sheet}
use Rattle.plan.specs.Plan.{Plan, total}
use Rattle.plan.specs.Sheet.{first_of, parent_of, job_at, target_at, Planned}

abbrev pub line_from : ℕ → ℕ → ℕ
line_from first zero = 2048
line_from first (suc t) = first + t

abbrev pub line_of : Sheet → ℕ → ℕ
line_of plan k = line_from (first_of plan (parent_of plan (job_at plan k) % 256)) (target_at plan k)

pub record Sending (k : ℕ) (plan : Sheet) (p : Plan) : Type 0 where
  pub within : k < total p
  pub planned : Planned plan p

pub record Senders (plan : Sheet) (p : Plan) : Type 0 where
  pub all : plan.actions ≡ total p
  pub planned : Planned plan p
