-- A schedule as it is written: the header, and then the words into what follows it.
--   header_room    == there is room for the header
--   headed_long, rows_room == it is there, and what follows it has room for the rows
--   both_written   == the two parts are the whole
use Prim.Native.Nat.{ℕ, ◌+◌, ◌-◌, ◌≤◌}
use mathlib.Core.Path.{◌≡◌, sym, ap, ap₂, ◌∙◌}
use mathlib.Core.List.{List, [], ◌++◌, append-nil}
use native.Mathlib.Omega.{arith}
use lib.ListN.{length, take, drop, length-drop}
use lib.Seq.{take_all, drop-length, drop-drop}
use Rattle.fields.specs.Field.{pack}
use Rattle.courses.specs.Schedule.{round_bits, schedule_length}
use Rattle.scheduler.specs.Written.{header_bytes, words_bits, rows_length, RowsWritten, ScheduleWritten}

module _ (form n k : ℕ) (schedule : List ℕ) (long : schedule_length form k ≤ length schedule) where
  pub header_room : 4 ≤ length schedule
  unfolding schedule_length
  header_room = omega arith

  module _ (headed : List ℕ) (e : headed ≡ header_bytes form n k ++ drop 4 schedule) where
    abbrev rest : ℕ
    rest = length headed - 4

    pub headed_long : 4 ≤ length headed
    headed_long = omega (arith, ap length e)

    part : take rest (drop 4 headed) ≡ drop 4 schedule
    part = take_all rest (drop 4 headed) (omega (arith, length-drop 4 headed)) ∙ ap (drop 4) e

    behind : drop rest (drop 4 headed) ≡ []
    behind = ap (λ k. drop k (drop 4 headed)) (sym (length-drop 4 headed)) ∙ drop-length (drop 4 headed)

    pub rows_room : rows_length (round_bits form + 4) k ≤ length (take rest (drop 4 headed))
    unfolding schedule_length
    rows_room = rw (part, length-drop) (omega arith)

    pub both_written : (rows out : List ℕ) → RowsWritten (round_bits form + 4) k rows (take rest (drop 4 headed)) out
        → ScheduleWritten form n k rows schedule (take 4 headed ++ (out ++ drop rest (drop 4 headed)))
    unfolding schedule_length
    both_written rows out w =
        let m = rows_length (round_bits form + 4) k in
        let bits = pack m (words_bits (round_bits form + 4) rows 0 k) in
        let tail : out ≡ bits ++ drop (schedule_length form k) schedule =
        w ∙ ap (λ l. bits ++ drop m l) part ∙ ap (λ l. bits ++ l) (drop-drop m 4 schedule) in
        ap₂ ◌++◌ (ap (take 4) e) (ap (λ l. out ++ l) behind ∙ append-nil out ∙ tail)
