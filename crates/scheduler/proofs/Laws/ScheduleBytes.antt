-- The bytes of a schedule: the four of the header, and the bits of the rows behind them.
--   rows_words     == the bits of the rows, by their words
--   words_more     == those of one word more
--   wide_written   == words put one behind the other are so written
--   schedule_bytes_lem == the bytes of a schedule are those of the header and then those of the rows' bits
use Prim.Native.Nat.{ℕ, zero, suc, ◌+◌, ◌*◌, ◌/◌, ◌%◌, ◌^◌, ◌≤◌, ◌<◌}
use mathlib.Core.Path.{◌≡◌, refl, sym, ap, ap₂, ◌∙◌}
use mathlib.Core.List.{List, [], ◌∷◌, ◌++◌, append_assoc, append-nil}
use native.Mathlib.Omega.{arith}
use native.Mathlib.Nat.{add-zero, mul-zero, mul-suc}
use lib.Pow.{pow-add}
use lib.ListN.{length, get_or, take, drop, length-append, take-append-drop}
use Rattle.fields.specs.declared.field.Sink.{Sink}
use Rattle.fields.specs.Field.{Bytes, bits_of, bits, number, pack}
use Rattle.fields.specs.Sink.{sink_bits, Put, Done}
use Rattle.courses.specs.Row.{Row, no_row}
use Rattle.courses.specs.Schedule.{round_bits, rows_bits, schedule_bits, schedule_length, schedule_bytes}
use Rattle.turns.specs.Rows.{row_at}
use Rattle.scheduler.specs.Written.{header_bytes, words_bits, rows_length, RowsWritten}
use Rattle.fields.proofs.Laws.Bits.{append_binary, bits_of_binary, bits_of_length, number_append, number_injective, number_bits_of, pack_front}
use Rattle.fields.proofs.Laws.Puts.{sink_length, empty, drop_later}

-- a number of b bits and one of 4 are one of b + 4
row_bits : (b r w : ℕ) → r < 2 ^ b → w < 16 → bits_of b r ++ bits_of 4 w ≡ bits_of (b + 4) (16 * r + w)
row_bits b r w h k =
    number_injective (bits_of b r ++ bits_of 4 w) (bits_of (b + 4) (16 * r + w))
    (append_binary (bits_of b r) (bits_of 4 w) (bits_of_binary b r) (bits_of_binary 4 w)) (bits_of_binary (b + 4) (16 * r + w))
    (length-append (bits_of b r) (bits_of 4 w) ∙ (ap₂ ◌+◌ (bits_of_length b r) (bits_of_length 4 w) ∙ sym (bits_of_length (b + 4) (16 * r + w))))
    (number_append (bits_of b r) (bits_of 4 w)
    ∙ rw (number_bits_of b r h, number_bits_of 4 w (omega arith), number_bits_of (b + 4) (16 * r + w) small) (omega arith))
  where
    small : 16 * r + w < 2 ^ (b + 4)
    small = rw (pow-add 2 b 4) (omega arith)

pub rows_words : (b : ℕ) (rows : List Row) (words : List ℕ) (i : ℕ)
    → ((k : ℕ) → k < length rows → let a = get_or rows k no_row in
    (a.round < 2 ^ b) × (a.worker < 16) × (row_at words (i + k) ≡ 16 * a.round + a.worker))
    → rows_bits b rows ≡ words_bits (b + 4) words i (length rows)
unfolding rows_bits words_bits
rows_words b [] words i h = refl
rows_words b (a ∷ rows) words i h =
    let (r, w, e) = rw (add-zero i) at (h 0 (omega arith)) in
    sym (append_assoc (bits_of b a.round) (bits_of 4 a.worker) (rows_bits b rows))
    ∙ ap₂ (λ (x y : List ℕ). x ++ y) (row_bits b a.round a.worker r w ∙ ap (bits_of (b + 4)) (sym e))
    (rows_words b rows words (suc i) (λ k l. let q : i + suc k ≡ suc i + k = omega arith in rw q at (h (suc k) (omega arith))))

pub words_more : (w : ℕ) (words : List ℕ) (i k : ℕ) → words_bits w words i (suc k) ≡ words_bits w words i k ++ bits_of w (row_at words (i + k))
unfolding words_bits
words_more w words i zero = rw (add-zero i) (append-nil (bits_of w (row_at words i)))
words_more w words i (suc k) =
    let q : i + suc k ≡ suc i + k = omega arith in
    rw q (ap (λ (l : List ℕ). bits_of w (row_at words i) ++ l) (words_more w words (suc i) k)
    ∙ sym (append_assoc (bits_of w (row_at words i)) (words_bits w words (suc i) k) (bits_of w (row_at words (suc i + k)))))

pub words_length : (w : ℕ) (words : List ℕ) (i k : ℕ) → length (words_bits w words i k) ≡ w * k
unfolding words_bits
words_length w words i zero = sym (mul-zero w)
words_length w words i (suc k) =
    length-append (bits_of w (row_at words i)) (words_bits w words (suc i) k)
    ∙ omega (arith, bits_of_length w (row_at words i), words_length w words (suc i) k, mul-suc w k)

-- words put one behind the other, and the last byte filled
pub wide_written : (w k : ℕ) (words out₀ out out' : List ℕ) (s : Sink) (n : ℕ) → Put out₀ empty (words_bits w words 0 k) out s
    → Done out s out' n → RowsWritten w k words out₀ out'
unfolding sink_bits bits
wide_written w k words out₀ out out' s n p d =
    let all = words_bits w words 0 k in
    let e : sink_bits out s ≡ all = p.written in
    let long : n ≡ rows_length w k = d.count ∙ rw e (ap (λ (m : ℕ). (m + 7) / 8) (words_length w words 0 k)) in
    let front : take n out' ≡ pack n all = d.written ∙ ap (pack n) e in
    let back : drop n out' ≡ drop n out₀ = d.beyond ∙ drop_later s.bytes n out out₀ (omega (arith, sink_length out s p.sound, d.count)) p.beyond in
    rw (← long) (sym (take-append-drop n out') ∙ ap₂ (λ (x y : List ℕ). x ++ y) front back)

-- three numbers of 8 bits hold one of 5, one of 12 and seven zeros
header_bits : (n a : ℕ) → n ≤ 16 → a ≤ 2048
    → bits_of 8 (n * 8 + a / 512) ++ (bits_of 8 (a / 2 % 256) ++ bits_of 8 (a % 2 * 128)) ≡ bits_of 5 n ++ (bits_of 12 a ++ bits_of 7 0)
header_bits n a h k =
    let x = bits_of 8 (n * 8 + a / 512) in
    let y = bits_of 8 (a / 2 % 256) in
    let z = bits_of 8 (a % 2 * 128) in
    let u = bits_of 5 n in
    let v = bits_of 12 a in
    let o = bits_of 7 0 in
    number_injective (x ++ (y ++ z)) (u ++ (v ++ o))
    (append_binary x (y ++ z) (bits_of_binary 8 (n * 8 + a / 512))
    (append_binary y z (bits_of_binary 8 (a / 2 % 256)) (bits_of_binary 8 (a % 2 * 128))))
    (append_binary u (v ++ o) (bits_of_binary 5 n) (append_binary v o (bits_of_binary 12 a) (bits_of_binary 7 0)))
    refl
    (number_append x (y ++ z) ∙ (ap (λ m. number x * 2 ^ 16 + m) (number_append y z)
    ∙ (same ∙ (ap (λ m. number u * 2 ^ 19 + m) (sym (number_append v o)) ∙ sym (number_append u (v ++ o))))))
  where
    same : number (bits_of 8 (n * 8 + a / 512)) * 2 ^ 16 + (number (bits_of 8 (a / 2 % 256)) * 2 ^ 8 + number (bits_of 8 (a % 2 * 128)))
        ≡ number (bits_of 5 n) * 2 ^ 19 + (number (bits_of 12 a) * 2 ^ 7 + number (bits_of 7 0))
    same =
        rw (
          number_bits_of 8 (n * 8 + a / 512) (omega arith),
          number_bits_of 8 (a / 2 % 256) (omega arith),
          number_bits_of 8 (a % 2 * 128) (omega arith),
          number_bits_of 5 n (omega arith),
          number_bits_of 12 a (omega arith),
        )
        (omega arith)

all_bytes : (form n a : ℕ) → form < 256 → n ≤ 16 → a ≤ 2048 → Bytes (header_bytes form n a)
all_bytes form n a f h k zero = f
all_bytes form n a f h k (suc zero) = omega arith
all_bytes form n a f h k (suc (suc zero)) = omega arith
all_bytes form n a f h k (suc (suc (suc zero))) = omega arith
all_bytes form n a f h k (suc (suc (suc (suc i)))) = omega arith

module _ (form n : ℕ) (rows : List Row) (byte : form < 256) (most : n ≤ 16) (few : length rows ≤ 2048) where
  bits_same : bits (header_bytes form n (length rows)) ++ rows_bits (round_bits form) rows ≡ schedule_bits form n rows
  unfolding bits schedule_bits
  bits_same =
      let a = length rows in
      let all = rows_bits (round_bits form) rows in
      let x = bits_of 8 (n * 8 + a / 512) in
      let y = bits_of 8 (a / 2 % 256) in
      let z = bits_of 8 (a % 2 * 128) in
      let e : x ++ (y ++ (z ++ all)) ≡ bits_of 5 n ++ (bits_of 12 a ++ (bits_of 7 0 ++ all)) =
      simp append_assoc at (ap (λ (l : List ℕ). l ++ all) (header_bits n a most few)) in
      ap (λ (l : List ℕ). bits_of 8 form ++ l) (simp append_assoc e)

  pub schedule_bytes_lem : schedule_bytes form n rows
      ≡ header_bytes form n (length rows) ++ pack (rows_length (round_bits form + 4) (length rows)) (rows_bits (round_bits form) rows)
  unfolding schedule_bytes schedule_length
  schedule_bytes_lem =
      ap (pack (4 + rows_length (round_bits form + 4) (length rows))) (sym bits_same)
      ∙ pack_front (header_bytes form n (length rows)) (rows_length (round_bits form + 4) (length rows)) (rows_bits (round_bits form) rows)
      (all_bytes form n (length rows) byte most few)
