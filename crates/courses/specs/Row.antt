-- The rows of a schedule (document 01, "Schedule"; document 02, L5).
--   Row         == the last round of an action, and its worker; no_row == what stands past the end of a list
--   place p j i == the place of action i of job j in plan order
use Rattle.std.specs.Prelude.{ℕ, ◌+◌, take}
use Rattle.plan.specs.Plan.{Plan, total}

pub record Row : Type 0 where
  pub round : ℕ
  pub worker : ℕ

abbrev pub no_row : Row
no_row = record { round = 0; worker = 0 }

abbrev pub place : Plan → ℕ → ℕ → ℕ
place p j i = total (take j p) + i
