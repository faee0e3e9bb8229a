-- The bytes of a schedule. Functions that are no entries cite this file; a public entry's promise cites the
-- meaning itself.
--   header_bytes form n a == the four bytes of the header of n workers and a actions
--   words_bits w rows i k == the bits of k words of the rows from place i on, w each
--   rows_length w k       == how many bytes k words of w bits fill
--   Words w k rows       == the first k words of the rows have w bits
--   RowsWritten w k rows before after == the bytes `after` hold those words, zero bits that fill the last byte, and behind them what
--                           `before` held
--   ScheduleWritten form n k rows before after == the bytes `after` hold the header and the first k words, and behind them what `before` held
--   Doubled k rows before after == the bytes `after` hold the first k words, two bytes each, the high one first, and behind them what
--                           `before` held
use Rattle.std.specs.Prelude.{ℕ, zero, suc, ◌+◌, ◌*◌, ◌/◌, ◌%◌, ◌^◌, ◌<◌, ◌≡◌, List, [], ◌∷◌, ◌++◌, length, get_or, drop}
use Rattle.fields.specs.Field.{bits_of, pack}
use Rattle.courses.specs.Schedule.{round_bits, schedule_length}
use Rattle.turns.specs.Rows.{row_at}

abbrev pub header_bytes : ℕ → ℕ → ℕ → List ℕ
header_bytes form n a = form ∷ ((n * 8 + a / 512) ∷ ((a / 2 % 256) ∷ ((a % 2 * 128) ∷ [])))

unfoldable pub words_bits : ℕ → List ℕ → ℕ → ℕ → List ℕ
words_bits w rows i zero = []
words_bits w rows i (suc k) = bits_of w (row_at rows i) ++ words_bits w rows (suc i) k

abbrev pub rows_length : ℕ → ℕ → ℕ
rows_length w k = (w * k + 7) / 8

abbrev pub Words : ℕ → ℕ → List ℕ → Type 0
Words w k rows = (i : ℕ) → i < k → row_at rows i < 2 ^ w

abbrev pub RowsWritten : ℕ → ℕ → List ℕ → List ℕ → List ℕ → Type 0
RowsWritten w k rows before after = after ≡ pack (rows_length w k) (words_bits w rows 0 k) ++ drop (rows_length w k) before

abbrev pub ScheduleWritten : ℕ → ℕ → ℕ → List ℕ → List ℕ → List ℕ → Type 0
ScheduleWritten form n k rows before after =
    after ≡ header_bytes form n k
    ++ (pack (rows_length (round_bits form + 4) k) (words_bits (round_bits form + 4) rows 0 k) ++ drop (schedule_length form k) before)

pub record Doubled (k : ℕ) (rows before after : List ℕ) : Type 0 where
  pub long : length after ≡ length before
  pub high : (i : ℕ) → i < k → get_or after (2 * i) 0 ≡ row_at rows i / 256
  pub down : (i : ℕ) → i < k → get_or after (2 * i + 1) 0 ≡ row_at rows i % 256
  pub kept : drop (2 * k) after ≡ drop (2 * k) before
