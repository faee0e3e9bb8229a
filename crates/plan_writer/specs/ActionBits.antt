-- What the writer adds at one place in plan order, by the arrays that hold the plan. Private functions alone cite these.
--   opening_bits plan j k == the frame and the size of job j, if its first action stands at place k
--   fields_of form child target cost == what an action itself adds: its two numbers, and its cost where the form has one
--   fields_at form plan k == that of the action at place k
--   action_bits form plan k == the opening, then that
--   Writable plan k      == the numbers at place k fit their fields
use Rattle.std.specs.Prelude.{ℕ, ◌+◌, ◌-◌, ◌≤◌, ◌<◌, true, false, List, [], ◌++◌, eqb}
use Rattle.fields.specs.Field.{bits_of}
use Rattle.plan.specs.declared.sheet.Sheet.{Sheet}
use Rattle.plan.specs.Sheet.{child_at, target_at, frame_of, first_of, job_at, cost_at}
use Rattle.plan_writer.specs.Writer.{number_bits, cost_bits}

unfoldable pub opening_bits : Sheet → ℕ → ℕ → List ℕ
opening_bits plan j k =
    elim (eqb (first_of plan j) k) [ true ↦ bits_of 16 (frame_of plan j) ++ bits_of 8 (first_of plan (j + 1) - first_of plan j) | false ↦ [] ]

abbrev pub fields_of : ℕ → (child target cost : ℕ) → List ℕ
fields_of form child target cost = (number_bits child ++ number_bits target) ++ cost_bits form cost

abbrev pub fields_at : ℕ → Sheet → ℕ → List ℕ
fields_at form plan k = fields_of form (child_at plan k) (target_at plan k) (cost_at plan k)

abbrev pub action_bits : ℕ → Sheet → ℕ → List ℕ
action_bits form plan k = opening_bits plan (job_at plan k) k ++ fields_at form plan k

pub record Writable (plan : Sheet) (k : ℕ) : Type 0 where
  pub place : k < 2048
  pub owner : job_at plan k < 256
  pub rises : first_of plan (job_at plan k) ≤ first_of plan (job_at plan k + 1)
  pub few : first_of plan (job_at plan k + 1) < first_of plan (job_at plan k) + 256
  pub child : child_at plan k ≤ 256
  pub target : target_at plan k ≤ 256
  pub cost : cost_at plan k < 16
