-- The array of a run's rows, and how it holds them. Functions that are no entries cite this file.
--   word round worker   == a row's word: sixteen times the round, and the worker
--   row_at rows k       == the word at place k; with_row == the array with a row there
--   Rowed p done made rows == the array holds the rows `made` of the actions that are done, so many of each job
use Rattle.std.specs.Prelude.{ℕ, ◌+◌, ◌*◌, ◌<◌, ◌≡◌, List, length, get_or, set}
use Rattle.plan.specs.Plan.{Plan}
use Rattle.courses.specs.Row.{Row, no_row, place}

abbrev pub word : (round worker : ℕ) → ℕ
word round worker = 16 * round + worker

abbrev pub row_at : List ℕ → ℕ → ℕ
row_at rows k = get_or rows k 0

abbrev pub with_row : List ℕ → (k round worker : ℕ) → List ℕ
with_row rows k round worker = set rows k (word round worker)

pub record Rowed (p : Plan) (done : List ℕ) (made : List Row) (rows : List ℕ) : Type 0 where
  pub long : length rows ≡ 2048
  pub each : (j i : ℕ) → j < length p → i < get_or done j 0
      → let row = get_or made (place p j i) no_row in row_at rows (place p j i) ≡ word row.round row.worker
