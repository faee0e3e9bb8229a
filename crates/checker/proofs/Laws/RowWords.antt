-- The rows of a schedule, each read off its bits as one number.
--   word_bytes == a row of 16 bits is two bytes
--   rows_from b s k n == the n rows from row k on, where a round has b bits
--   rows_read == where no round is 0, the rows are read
--   rows_stop == where one is, reading stops
--   rows_held == an array that has those numbers holds the rows
use Prim.Native.Nat.{ℕ, zero, suc, ◌+◌, ◌*◌, ◌/◌, ◌%◌, ◌≤◌, ◌<◌}
use mathlib.Core.Path.{◌≡◌, refl, sym, ap, ◌∙◌}
use mathlib.Core.Logic.{by_cases}
use mathlib.Core.Bool.{true, false}
use mathlib.Core.List.{List, [], ◌∷◌, ◌++◌}
use native.Mathlib.Omega.{arith}
use native.Mathlib.Nat.{mul-zero, mul-suc, mul-le-mul}
use native.Mathlib.Decide.{ℕ_discrete}
use lib.ListN.{length, get_or, take, drop, length-drop}
use lib.Seq.{drop-cons, take-add, drop-drop, length-take-le}
use lib.Dec.{eqb}
use borrow.Author.Tests.{eq-eqb, ne_eqb}
use Rattle.fields.specs.Field.{Bytes, bits_of, bits, number, stop, step, then, field_at}
use Rattle.courses.specs.Row.{Row, no_row}
use Rattle.courses.specs.Schedule.{rows_at}
use Rattle.checker.specs.Rows.{pair, word, Words, RowsIn}
use Rattle.plan.proofs.Laws.Steps.{bool_cases}
use Rattle.fields.proofs.Laws.Bits.{bits_binary, bits_length, bits_drop, take_binary, drop_binary, number_append, number_below, number_bits_of, field_within}

abbrev pub row_of_word : ℕ → Row
row_of_word v = record { round = v / 16; worker = v % 16 }

abbrev pub rows_from : ℕ → List ℕ → ℕ → ℕ → List Row
rows_from b s k zero = []
rows_from b s k (suc n) = row_of_word (word (b + 4) s k) ∷ rows_from b s (suc k) n

-- a row of 16 bits is two bytes
pub word_bytes : (s : List ℕ) (k : ℕ) → 5 + 2 * k < length s → Bytes s → pair s k ≡ word 16 s k
unfolding bits
word_bytes s k h byte =
    let a = get_or s (4 + 2 * k) 0 in
    let b = get_or s (5 + 2 * k) 0 in
    let first : suc (4 + 2 * k) ≡ 5 + 2 * k = omega arith in
    let second : suc (5 + 2 * k) ≡ 6 + 2 * k = omega arith in
    let e : drop (4 + 2 * k) s ≡ a ∷ (b ∷ drop (6 + 2 * k) s) =
    rw first at (drop-cons s (4 + 2 * k) 0 (omega arith)) ∙ ap (λ l. a ∷ l) (rw second at (drop-cons s (5 + 2 * k) 0 h)) in
    let place : 8 * (4 + 2 * k) ≡ 32 + 16 * k = omega arith in
    let d : bits (drop (4 + 2 * k) s) ≡ drop (32 + 16 * k) (bits s) = bits_drop (4 + 2 * k) s ∙ ap (λ n. drop n (bits s)) place in
    let n : number (bits_of 8 a ++ bits_of 8 b) ≡ a * 256 + b = number_append (bits_of 8 a) (bits_of 8 b)
    ∙ rw (number_bits_of 8 a (byte (4 + 2 * k)), number_bits_of 8 b (byte (5 + 2 * k))) in
    sym n ∙ ap (λ l. number (take 16 (bits l))) (sym e) ∙ ap (λ l. number (take 16 l)) d

module _ (b : ℕ) (s : List ℕ) where
  -- where row k begins
  abbrev place : ℕ → ℕ
  place k = 32 + (b + 4) * k

  abbrev word_at : ℕ → ℕ
  word_at k = word (b + 4) s k

  place_next : (k : ℕ) → place k + b + 4 ≡ place (suc k)
  place_next k = omega (arith, mul-suc (b + 4) k)

  module _ (k : ℕ) (h : place k + b + 4 ≤ 8 * length s) where
    abbrev high : List ℕ
    high = take b (drop (place k) (bits s))

    abbrev low : List ℕ
    low = take 4 (drop (place k + b) (bits s))

    low_length : length low ≡ 4
    low_length = length-take-le 4 (drop (place k + b) (bits s)) (rw (length-drop, bits_length) (omega arith))

    low_below : number low < 16
    low_below =
        let p = take_binary 4 (drop (place k + b) (bits s)) (drop_binary (place k + b) (bits s) (bits_binary s)) in
        rw low_length at (number_below low p)

    parts : word_at k ≡ number high * 16 + number low
    parts =
        let e = take-add b 4 (drop (place k) (bits s)) ∙ ap (λ l. high ++ take 4 l) (drop-drop b (place k) (bits s)) in
        let n : number (high ++ low) ≡ number high * 16 + number low = rw low_length at (number_append high low) in
        ap number e ∙ n

    round_read : field_at s b (place k) ≡ step (word_at k / 16) (place k + b)
    round_read =
        let e : number high ≡ word_at k / 16 = omega (arith, parts, low_below) in
        rw e at (field_within s b (place k) (omega arith))

    worker_read : field_at s 4 (place k + b) ≡ step (word_at k % 16) (place k + b + 4)
    worker_read =
        let e : number low ≡ word_at k % 16 = omega (arith, parts, low_below) in
        rw e at (field_within s 4 (place k + b) h)

    -- a row that is read, one whose round is 0, and one in front of such a one
    row_on : (n : ℕ) → 16 ≤ word_at k
        → rows_at b s (suc n) (place k) ≡ then (rows_at b s n (place (suc k))) (λ rows at. step (row_of_word (word_at k) ∷ rows) at)
    unfolding rows_at
    row_on n some =
        let x : eqb (word_at k / 16) 0 ≡ false = ne_eqb (word_at k / 16) 0 (λ e. omega arith) in
        rw (round_read, x, worker_read, place_next k, then)

    row_none : (n : ℕ) → word_at k < 16 → rows_at b s (suc n) (place k) ≡ stop 11
    unfolding rows_at
    row_none n none =
        let x : eqb (word_at k / 16) 0 ≡ true = eq-eqb (word_at k / 16) 0 (omega arith) in
        rw (round_read, x, then)

    row_past : (n : ℕ) → rows_at b s n (place (suc k)) ≡ stop 11 → rows_at b s (suc n) (place k) ≡ stop 11
    unfolding rows_at
    row_past n e =
        bool_cases (eqb (word_at k / 16) 0) (λ x. rw (round_read, x, then)) (λ x. rw (round_read, x, worker_read, place_next k, e, then))

  read_from : (n k : ℕ) → place k + (b + 4) * n ≤ 8 * length s → ((x : ℕ) → x < k + n → 16 ≤ word_at x)
      → rows_at b s n (place k) ≡ step (rows_from b s k n) (place k + (b + 4) * n)
  unfolding rows_at
  read_from zero k h some = ap (step []) (omega (arith, mul-zero (b + 4)))
  read_from (suc n) k h some =
      let m = mul-suc (b + 4) n in
      let p = place_next k in
      let end : place (suc k) + (b + 4) * n ≡ place k + (b + 4) * suc n = omega arith in
      row_on k (omega arith) n (some k (omega arith))
      ∙ rw (read_from n (suc k) (omega arith) (λ x b. some x (omega arith)), end)

  stop_from : (n k x : ℕ) → place k + (b + 4) * n ≤ 8 * length s → k ≤ x → x < k + n → word_at x < 16 → rows_at b s n (place k) ≡ stop 11
  stop_from zero k x h l m none = absurd (omega arith)
  stop_from (suc n) k x h l m none =
      let q = mul-suc (b + 4) n in
      let p = place_next k in
      by_cases (ℕ_discrete x k) (λ e. row_none k (omega arith) n (rw e at none))
      (λ d. row_past k (omega arith) n (stop_from n (suc k) x (omega arith) (omega arith) (omega arith) none))

  -- all rows
  module _ (n : ℕ) (h : 32 + (b + 4) * n ≤ 8 * length s) where
    begin : place 0 ≡ 32
    begin = omega (arith, mul-zero (b + 4))

    pub rows_read : ((x : ℕ) → x < n → 16 ≤ word_at x) → rows_at b s n 32 ≡ step (rows_from b s 0 n) (32 + (b + 4) * n)
    rows_read some = rw begin at (read_from n 0 (omega (arith, begin)) (λ x l. some x (omega arith)))

    pub rows_stop : (x : ℕ) → x < n → word_at x < 16 → rows_at b s n 32 ≡ stop 11
    rows_stop x l none = rw begin at (stop_from n 0 x (omega (arith, begin)) (omega arith) (omega arith) none)

  pub rows_length_lem : (n k : ℕ) → length (rows_from b s k n) ≡ n
  rows_length_lem zero k = refl
  rows_length_lem (suc n) k = ap suc (rows_length_lem n (suc k))

  row_at_lem : (n k x : ℕ) → x < n → get_or (rows_from b s k n) x no_row ≡ row_of_word (word_at (k + x))
  row_at_lem zero k x h = absurd (omega arith)
  row_at_lem (suc n) k zero h = let here : k + 0 ≡ k = omega arith in rw here
  row_at_lem (suc n) k (suc x) h = let later : k + suc x ≡ suc k + x = omega arith in rw later (row_at_lem n (suc k) x (omega arith))

  pub rows_held : (n : ℕ) (words : List ℕ) → Words (b + 4) s n words → RowsIn (rows_from b s 0 n) words
  rows_held n words w =
      let l = rows_length_lem n 0 in
      let at : (k : ℕ) → k < n → get_or (rows_from b s 0 n) k no_row ≡ row_of_word (word_at k) =
      λ k h. row_at_lem n 0 k h ∙ ap (λ x. row_of_word (word_at x)) (omega arith) in
      record {
        row = λ k h. rw (at k (omega arith)) (omega (arith, w.are k (omega arith)));
        worker = λ k h. rw (at k (omega arith)) (omega arith);
      }

-- the rows' bits are few
pub places_few : (width n : ℕ) → width ≤ 20 → n ≤ 2048 → width * n ≤ 40960
places_few width n h l = mul-le-mul {n₁ = width} {m₁ = n} {n₂ = 20} {m₂ = 2048} h l
