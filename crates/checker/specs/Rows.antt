-- A schedule's rows as numbers, and their spans. Private functions alone cite it.
--   pair s k              == the two bytes of row k as one number, where each row has two
--   word width s k        == the bits of row k in the bytes s, `width` of them, as one number: 16 times its round, and its worker
--   Words width s n words == the array has those of the first n rows, none with a round of 0
--   RowsIn rows words     == the array holds the rows: each row's round and worker as one number
--   span_from first row    == the span of a row that is given with its first round
--   span_at words plan k   == the span of the row at place k, whose cost the plan's arrays have
use Rattle.std.specs.Prelude.{ℕ, suc, ◌+◌, ◌-◌, ◌*◌, ◌/◌, ◌%◌, ◌≤◌, ◌<◌, ◌≡◌, List, length, get_or, take, drop}
use Rattle.fields.specs.Field.{bits, number}
use Rattle.plan.specs.declared.sheet.Sheet.{Sheet}
use Rattle.plan.specs.Sheet.{cost_at}
use Rattle.courses.specs.Row.{Row, no_row}
use Rattle.courses.specs.Schedule.{Span}
use Rattle.checker.specs.Chains.{entry}

abbrev pub pair : List ℕ → ℕ → ℕ
pair s k = get_or s (4 + 2 * k) 0 * 256 + get_or s (5 + 2 * k) 0

abbrev pub word : ℕ → List ℕ → ℕ → ℕ
word width s k = number (take width (drop (32 + width * k) (bits s)))

pub record Words (width : ℕ) (s : List ℕ) (n : ℕ) (words : List ℕ) : Type 0 where
  pub long : length words ≡ 2048
  pub are : (k : ℕ) → k < n → entry words k ≡ word width s k
  pub some : (k : ℕ) → k < n → 16 ≤ entry words k

pub record RowsIn (rows : List Row) (words : List ℕ) : Type 0 where
  pub row : (k : ℕ) → k < length rows → (get_or rows k no_row).round * 16 + (get_or rows k no_row).worker ≡ entry words k
  pub worker : (k : ℕ) → k < length rows → (get_or rows k no_row).worker < 16

abbrev pub span_from : ℕ → ℕ → Span
span_from first row = record { first = first; last = row / 16; worker = row % 16 }

abbrev pub span_at : List ℕ → Sheet → ℕ → Span
span_at words plan k = span_from (suc (entry words k / 16) - cost_at plan k) (entry words k)
