-- The answers of the test of a schedule's form: at a wrong length, a header that is not well formed, a round of 0, fill bits that are not 0,
-- and where the schedule is well formed. A row has `width` bits.
use Prim.Native.Nat.{ℕ, ◌+◌, ◌*◌, ◌/◌, ◌≤◌, ◌<◌}
use mathlib.Core.Path.{◌≡◌, ap, sym, ◌∙◌}
use mathlib.Core.Bool.{true, false}
use mathlib.Core.List.{List}
use native.Mathlib.Omega.{arith}
use lib.ListN.{length}
use Rattle.std.specs.Prelude.{Some, None}
use lib.Dec.{eqb}
use borrow.Author.Tests.{eq-eqb, ne_eqb}
use Rattle.plan.specs.Reader.{fills}
use Rattle.fields.specs.Field.{stop, step, then}
use Rattle.courses.specs.Schedule.{round_bits, schedule_length, rows_at, written_at, read_schedule}
use Rattle.checker.specs.Rows.{word, Words}
use Rattle.checker.specs.Formed.{Formed, Headed}
use Rattle.checker.proofs.Laws.RowWords.{rows_from, rows_read, rows_stop, rows_length_lem, rows_held}

-- the bits of the rows are there
pub room : (s : List ℕ) (n width : ℕ) → length s ≡ 4 + (width * n + 7) / 8 → 32 + width * n ≤ 8 * length s
room s n width long = omega arith

module _ (form : ℕ) (s : List ℕ) (n : ℕ) (words : List ℕ) (width : ℕ) (is : width ≡ round_bits form + 4) where
  length_is : 4 + (width * n + 7) / 8 ≡ schedule_length form n
  unfolding schedule_length
  length_is = ap (λ w. 4 + (w * n + 7) / 8) is

  pub wrong_length : (length s ≡ 4 + (width * n + 7) / 8 → ⊥) → Formed form s n None words
  unfolding read_schedule
  wrong_length h = rw (ne_eqb (length s) (schedule_length form n) (λ e. h (e ∙ sym length_is)), read_schedule)

  module _ (long : length s ≡ 4 + (width * n + 7) / 8) where
    right_length : eqb (length s) (schedule_length form n) ≡ true
    right_length = eq-eqb (length s) (schedule_length form n) (long ∙ length_is)

    stopped : (k : ℕ) → written_at form s n ≡ stop k → Formed form s n None words
    unfolding read_schedule
    stopped k e = rw (right_length, e, read_schedule)

    pub wrong_header : Headed form s n None → Formed form s n None words
    wrong_header (k, e) = stopped k e

    module _ (workers : ℕ) (head : Headed form s n (Some workers)) where
      pub wrong_round : (k : ℕ) → k < n → word width s k < 16 → Formed form s n None words
      wrong_round k h none =
          let e : rows_at (round_bits form) s n 32 ≡ stop 11 = rows_stop (round_bits form) s n (rw is at (room s n width long)) k h (rw is at none) in
          stopped 11 (rw (head.1, e))

      module _ (held : Words width s n words) where
        written : written_at form s n ≡ step (record { workers = workers; rows = rows_from (round_bits form) s 0 n }) (32 + width * n)
        written =
            let w : Words (round_bits form + 4) s n words = rw is at held in
            let e = rows_read (round_bits form) s n (rw is at (room s n width long)) (λ k h. omega (arith, w.are k h, w.some k h)) in
            rw (head.1, e, is, then)

        pub wrong_fill : fills s (32 + width * n) ≡ false → Formed form s n None words
        unfolding read_schedule
        wrong_fill e = rw (right_length, written, e, read_schedule)

        pub well_formed : fills s (32 + width * n) ≡ true → Formed form s n (Some workers) words
        unfolding read_schedule
        well_formed e =
            record {
              rows = rows_from (round_bits form) s 0 n;
              read = rw (right_length, written, e, read_schedule);
              held = rows_held (round_bits form) s n words (rw is at held);
              all = rows_length_lem (round_bits form) s n 0;
              some = head.0;
            }
