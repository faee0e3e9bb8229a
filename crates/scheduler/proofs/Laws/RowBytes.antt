-- Words written as bytes, two each, the high one first.
--   rows_step    == one more is written by storing its two bytes
--   doubled_written == so written, they are the bits of the words
use Prim.Native.Nat.{ℕ, zero, suc, ◌+◌, ◌*◌, ◌/◌, ◌%◌, ◌^◌, ◌≤◌, ◌<◌}
use mathlib.Core.Path.{◌≡◌, refl, sym, ap, ap₂, ◌∙◌}
use mathlib.Core.Logic.{◌≢◌}
use mathlib.Core.List.{List, [], ◌∷◌, ◌++◌, append_assoc}
use native.Mathlib.Omega.{arith}
use native.Mathlib.Nat.{add-zero, zero-add}
use borrow.Author.Count.{below_more}
use lib.ListN.{length, get_or, take, set, drop, length-set, take-append-drop}
use lib.Seq.{lt-length-set, get_or-set_same, get_or-set_other, drop-set-lt, drop-drop}
use Rattle.fields.specs.Field.{Bytes, bits_of, bits, pack}
use Rattle.fields.proofs.Laws.Bits.{append_binary, bits_of_binary, number_append, number_injective, number_bits_of, pack_bits}
use Rattle.turns.specs.Rows.{row_at}
use Rattle.scheduler.specs.Written.{words_bits, rows_length, Words, RowsWritten, Doubled}

module _ {rows l m : List ℕ} {k a b : ℕ} (w : Doubled k rows l m) (room : 2 * k + 2 ≤ length l)
    (high : a ≡ row_at rows k / 256) (low : b ≡ row_at rows k % 256) where
  abbrev stored : List ℕ
  stored = set (set m (2 * k) a) (2 * k + 1) b

  apart : (i : ℕ) → i ≢ 2 * k → i ≢ 2 * k + 1 → get_or stored i 0 ≡ get_or m i 0
  apart i f g = get_or-set_other (set m (2 * k) a) (2 * k + 1) i b 0 g ∙ get_or-set_other m (2 * k) i a 0 f

  here_high : get_or stored (2 * k) 0 ≡ row_at rows k / 256
  here_high =
      get_or-set_other (set m (2 * k) a) (2 * k + 1) (2 * k) b 0 (omega arith)
      ∙ get_or-set_same m (2 * k) a 0 (omega (arith, w.long)) ∙ high

  here_down : get_or stored (2 * k + 1) 0 ≡ row_at rows k % 256
  here_down = get_or-set_same (set m (2 * k) a) (2 * k + 1) b 0 (lt-length-set m (2 * k) a (omega (arith, w.long))) ∙ low

  behind : drop (2 * k + 2) stored ≡ drop (2 * k + 2) l
  behind =
      drop-set-lt (2 * k + 2) (set m (2 * k) a) (2 * k + 1) b (omega arith)
      ∙ (drop-set-lt (2 * k + 2) m (2 * k) a (omega arith)
      ∙ (sym (drop-drop 2 (2 * k) m) ∙ (ap (drop 2) w.kept ∙ drop-drop 2 (2 * k) l)))

  pub rows_step : Doubled (k + 1) rows l stored
  rows_step =
      record {
        long = length-set (set m (2 * k) a) (2 * k + 1) b ∙ (length-set m (2 * k) a ∙ w.long);
        high = below_more _ k (λ i h. apart (2 * i) (omega arith) (omega arith) ∙ w.high i h) here_high;
        down = below_more _ k (λ i h. apart (2 * i + 1) (omega arith) (omega arith) ∙ w.down i h) here_down;
        kept = let e : 2 * (k + 1) ≡ 2 * k + 2 = omega arith in rw e behind;
      }

-- the bytes of k words from place i on
abbrev word_bytes : List ℕ → ℕ → ℕ → List ℕ
word_bytes rows i zero = []
word_bytes rows i (suc k) = (row_at rows i / 256) ∷ ((row_at rows i % 256) ∷ word_bytes rows (suc i) k)

word_bytes_length : (rows : List ℕ) (i k : ℕ) → length (word_bytes rows i k) ≡ 2 * k
word_bytes_length rows i zero = refl
word_bytes_length rows i (suc k) = omega (arith, word_bytes_length rows (suc i) k)

-- two numbers of 8 bits hold one of 16
word_bits : (x : ℕ) → x < 2 ^ 16 → bits_of 8 (x / 256) ++ bits_of 8 (x % 256) ≡ bits_of 16 x
word_bits x h =
    number_injective (bits_of 8 (x / 256) ++ bits_of 8 (x % 256)) (bits_of 16 x)
    (append_binary (bits_of 8 (x / 256)) (bits_of 8 (x % 256)) (bits_of_binary 8 (x / 256)) (bits_of_binary 8 (x % 256))) (bits_of_binary 16 x) refl
    (number_append (bits_of 8 (x / 256)) (bits_of 8 (x % 256))
    ∙ rw (number_bits_of 8 (x / 256) (omega arith), number_bits_of 8 (x % 256) (omega arith), number_bits_of 16 x h) (omega arith))

words_bits_lem : (rows : List ℕ) (i k : ℕ) → ((m : ℕ) → m < k → row_at rows (i + m) < 2 ^ 16) → bits (word_bytes rows i k) ≡ words_bits 16 rows i k
unfolding bits words_bits
words_bits_lem rows i zero h = refl
words_bits_lem rows i (suc k) h =
    let x = row_at rows i in
    let small : x < 2 ^ 16 = rw (add-zero i) at (h 0 (omega arith)) in
    let more : (m : ℕ) → m < k → row_at rows (suc i + m) < 2 ^ 16 =
    λ m l. let e : i + suc m ≡ suc i + m = omega arith in rw e at (h (suc m) (omega arith)) in
    sym (append_assoc (bits_of 8 (x / 256)) (bits_of 8 (x % 256)) (bits (word_bytes rows (suc i) k)))
    ∙ ap₂ (λ (a b : List ℕ). a ++ b) (word_bits x small) (words_bits_lem rows (suc i) k more)

word_bytes_bytes : (rows : List ℕ) (i k : ℕ) → ((m : ℕ) → m < k → row_at rows (i + m) < 2 ^ 16) → Bytes (word_bytes rows i k)
word_bytes_bytes rows i zero h n = omega arith
word_bytes_bytes rows i (suc k) h zero = let small : row_at rows i < 2 ^ 16 = rw (add-zero i) at (h 0 (omega arith)) in omega arith
word_bytes_bytes rows i (suc k) h (suc zero) = omega arith
word_bytes_bytes rows i (suc k) h (suc (suc n)) =
    word_bytes_bytes rows (suc i) k (λ m l. let e : i + suc m ≡ suc i + m = omega arith in rw e at (h (suc m) (omega arith))) n

-- bytes that hold each word at its place begin with the words' bytes
bytes_found : (rows : List ℕ) (i k : ℕ) (bytes : List ℕ) → 2 * k ≤ length bytes
    → ((m : ℕ) → m < k → (get_or bytes (2 * m) 0 ≡ row_at rows (i + m) / 256) × (get_or bytes (2 * m + 1) 0 ≡ row_at rows (i + m) % 256))
    → take (2 * k) bytes ≡ word_bytes rows i k
bytes_found rows i zero bytes h f = refl
bytes_found rows i (suc k) [] h f = absurd (omega arith)
bytes_found rows i (suc k) (x ∷ []) h f = absurd (omega arith)
bytes_found rows i (suc k) (x ∷ (y ∷ bytes)) h f =
    let all = x ∷ (y ∷ bytes) in
    let (u, v) = rw (add-zero i) at (f 0 (omega arith)) in
    let long : 2 * suc k ≡ suc (suc (2 * k)) = omega arith in
    let rest = bytes_found rows (suc i) k bytes (omega arith) (λ m l.
    let next : i + suc m ≡ suc i + m = omega arith in
    let (s, t) = rw next at (f (suc m) (omega arith)) in
    let even : suc (suc (2 * m)) ≡ 2 * suc m = omega arith in
    let odd : suc (suc (2 * m + 1)) ≡ 2 * suc m + 1 = omega arith in
    (ap (λ n. get_or all n 0) even ∙ s, ap (λ n. get_or all n 0) odd ∙ t)) in
    ap (λ n. take n all) long ∙ ap₂ (λ (z : ℕ) (l : List ℕ). z ∷ l) u (ap₂ (λ (z : ℕ) (l : List ℕ). z ∷ l) v rest)

pub doubled_written : (k : ℕ) (rows before after : List ℕ) → 2 * k ≤ length before → Words 16 k rows → Doubled k rows before after
    → RowsWritten 16 k rows before after
doubled_written k rows before after room small w =
    let none : (m : ℕ) → 0 + m ≡ m = zero-add in
    let fits : (m : ℕ) → m < k → row_at rows (0 + m) < 2 ^ 16 = λ m l. rw (none m) (small m l) in
    let front : take (2 * k) after ≡ word_bytes rows 0 k =
    bytes_found rows 0 k after (omega (arith, w.long)) (λ m l. rw (none m) (w.high m l, w.down m l)) in
    let long : rows_length 16 k ≡ 2 * k = omega arith in
    let packed : pack (2 * k) (words_bits 16 rows 0 k) ≡ word_bytes rows 0 k =
    ap₂ pack (sym (word_bytes_length rows 0 k)) (sym (words_bits_lem rows 0 k fits)) ∙ pack_bits (word_bytes rows 0 k) (word_bytes_bytes rows 0 k fits) in
    sym (take-append-drop (2 * k) after) ∙ rw (long, packed) (ap₂ (λ (a b : List ℕ). a ++ b) front w.kept)
