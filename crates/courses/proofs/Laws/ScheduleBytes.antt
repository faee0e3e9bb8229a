-- What was written of rows is read again.
--   Small b rows  == each row has a round of b bits that is not 0, and a worker below 16
--   schedule_read == the bytes of a schedule are read as that schedule
--   length_plain, length_most == how long a schedule of form 1 is, and how long one is at most
use Prim.Native.Nat.{ℕ, suc, ◌+◌, ◌*◌, ◌-◌, ◌^◌, ◌≤◌, ◌<◌}
use mathlib.Core.Path.{◌≡◌, refl, sym, ◌∙◌}
use mathlib.Core.Bool.{Bool, true, false}
use mathlib.Core.List.{List, [], ◌∷◌, ◌++◌, append_assoc}
use native.Mathlib.Omega.{arith}
use native.Mathlib.Nat.{mul-zero, mul-suc}
use lib.ListN.{length, get_or, replicate, length-append}
use lib.Dec.{eqb, leb, le→leb, eqb_refl}
use borrow.Author.Tests.{eq-eqb, ne_eqb}
use Rattle.plan.specs.Refusal.{Outcome, refused, accepted}
use Rattle.plan.specs.Test.{both}
use Rattle.fields.specs.Field.{bits_of, bits, Step, stop, step, field_at}
use Rattle.courses.specs.Row.{Row, no_row}
use Rattle.courses.specs.Schedule.{round_bits, rows_bits, schedule_bits, schedule_length, schedule_bytes, Written, rows_at, written_at, read_schedule}
use Rattle.plan.specs.Reader.{fills}
use Rattle.plan.proofs.Laws.Fill.{fills_rest}
use Rattle.plan.proofs.Laws.Lists.{true_of, both_intro}
use Rattle.fields.proofs.Laws.Readings.{then_goes_on, unless_goes_on, when_goes_on}
use Rattle.fields.proofs.Laws.Seams.{Rest, field_found}
use Rattle.fields.proofs.Laws.Bits.{Binary, append_binary, bits_of_binary, bits_of_length, pack_length, bits_pack}
use Rattle.plan.proofs.Laws.Steps.{bool_cases}

abbrev pub Small : ℕ → List Row → Type 0
Small b rows = (k : ℕ) → k < length rows
    → (1 ≤ (get_or rows k no_row).round) × ((get_or rows k no_row).round < 2 ^ b) × ((get_or rows k no_row).worker < 16)

module _ (b : ℕ) where
  rows_found : {P : Type 0} (s : List ℕ) (rows : List Row) (n : ℕ) (c : List ℕ) → Small b rows → Rest s n (rows_bits b rows ++ c)
      → ((m : ℕ) → rows_at b s (length rows) n ≡ step rows m → Rest s m c → P) → P
  unfolding rows_at rows_bits
  rows_found s [] n c h r use-it = use-it n refl r
  rows_found s (a ∷ rows) n c h r use-it =
      let z = h 0 (omega arith) in
      let f = field_found s b a.round n (bits_of 4 a.worker ++ (rows_bits b rows ++ c)) z.1 (simp append_assoc at r) in
      let g = field_found s 4 a.worker (n + b) (rows_bits b rows ++ c) (omega (arith, z.2)) f.1 in
      let x : eqb a.round 0 ≡ false = ne_eqb a.round 0 (λ e. omega (arith, z.0)) in
      rows_found s rows (n + b + 4) c (λ k l. h (suc k) (omega arith)) g.1 λ m e r'.
      use-it m
      (then_goes_on (field_at s b n) _ f.0 (unless_goes_on (eqb a.round 0) 11 _ x
      (then_goes_on (field_at s 4 (n + b)) _ g.0 (then_goes_on (rows_at b s (length rows) (n + b + 4)) _ e refl)))) r'

  pub rows_bits_length : (rows : List Row) → length (rows_bits b rows) ≡ (b + 4) * length rows
  unfolding rows_bits
  rows_bits_length [] = sym (mul-zero (b + 4))
  rows_bits_length (a ∷ rows) = simp (length-append, bits_of_length) (omega (arith, rows_bits_length rows, mul-suc (b + 4) (length rows)))

  pub rows_bits_binary : (rows : List Row) → Binary (rows_bits b rows)
  unfolding rows_bits
  rows_bits_binary [] = λ i. omega arith
  rows_bits_binary (a ∷ rows) =
      append_binary (bits_of b a.round) (bits_of 4 a.worker ++ rows_bits b rows) (bits_of_binary b a.round)
      (append_binary (bits_of 4 a.worker) (rows_bits b rows) (bits_of_binary 4 a.worker) (rows_bits_binary rows))

-- a schedule of form 1 is "exactly 4 + 2 × actions bytes long"
pub length_plain : (n : ℕ) → schedule_length 1 n ≡ 4 + 2 * n
unfolding schedule_length
length_plain n = omega arith

-- how long a schedule is at most
pub length_most : (form n : ℕ) → n ≤ 2048 → schedule_length form n ≤ 5124
unfolding schedule_length
length_most form n h =
    bool_cases (eqb form 1) (λ e. rw (e, round_bits) (omega arith)) (λ e. rw (e, round_bits) (omega arith))

module _ (form n : ℕ) (rows : List Row) where
  bits_length_all : length (schedule_bits form n rows) ≡ 32 + (round_bits form + 4) * length rows
  unfolding schedule_bits
  bits_length_all = simp (length-append, bits_of_length) (omega (arith, rows_bits_length (round_bits form) rows))

  bits_binary_all : Binary (schedule_bits form n rows)
  unfolding schedule_bits
  bits_binary_all =
      let l = length rows in
      let all = rows_bits (round_bits form) rows in
      append_binary (bits_of 8 form) (bits_of 5 n ++ (bits_of 12 l ++ (bits_of 7 0 ++ all))) (bits_of_binary 8 form)
      (append_binary (bits_of 5 n) (bits_of 12 l ++ (bits_of 7 0 ++ all)) (bits_of_binary 5 n)
      (append_binary (bits_of 12 l) (bits_of 7 0 ++ all) (bits_of_binary 12 l)
      (append_binary (bits_of 7 0) all (bits_of_binary 7 0) (rows_bits_binary (round_bits form) rows))))

  pub schedule_length_lem : length (schedule_bytes form n rows) ≡ schedule_length form (length rows)
  unfolding schedule_bytes
  schedule_length_lem = pack_length (schedule_length form (length rows)) (schedule_bits form n rows)

  -- how many zero bits fill the last byte
  abbrev fill : ℕ
  fill = 8 * schedule_length form (length rows) - length (schedule_bits form n rows)

  fill_few : fill < 8
  unfolding schedule_length
  fill_few = omega (arith, bits_length_all)

  schedule_bits_lem : bits (schedule_bytes form n rows) ≡ schedule_bits form n rows ++ replicate fill 0
  unfolding schedule_bytes schedule_length
  schedule_bits_lem =
      bits_pack (schedule_length form (length rows)) (schedule_bits form n rows) bits_binary_all
      (omega (arith, bits_length_all)) (omega (arith, bits_length_all))

header : (form n l : ℕ) → 1 ≤ n → n ≤ 16 → both (both (eqb form form) (both (leb 1 n) (leb n 16))) (both (eqb l l) (eqb 0 0)) ≡ true
header form n l h k =
    true_of _ (both_intro (both (eqb form form) (both (leb 1 n) (leb n 16))) (both (eqb l l) true)
    (both_intro (eqb form form) (both (leb 1 n) (leb n 16)) (eqb_refl form) (both_intro (leb 1 n) (leb n 16) (le→leb 1 n h) (le→leb n 16 k)))
    (both_intro (eqb l l) true (eqb_refl l) tt))

takes : {w : Written} {m : ℕ} (c : Bool) (x : Step Written) (fits : ℕ → Bool) → c ≡ true → x ≡ step w m → fits m ≡ true
    → ◌≡◌ {A = Outcome Written}
    (elim c [ false ↦ refused 11 | true ↦ elim x [ stop k ↦ refused 11 | step w at ↦ elim (fits at) [ false ↦ refused 11 | true ↦ accepted w ] ] ])
    (accepted w)
takes c x fits e f g = rw (e, f, g)

-- a schedule that is written is read again
pub schedule_read : (form n : ℕ) (rows : List Row) → form < 256 → 1 ≤ n → n ≤ 16 → length rows ≤ 4095 → Small (round_bits form) rows
    → read_schedule form (schedule_bytes form n rows) (length rows) ≡ accepted (record { workers = n; rows = rows })
unfolding read_schedule written_at schedule_bits
schedule_read form n rows known some most few small =
    let s = schedule_bytes form n rows in
    let l = length rows in
    let b = round_bits form in
    let c : List ℕ = replicate (fill form n rows) 0 in
    let begin : Rest s 0 (bits_of 8 form ++ (bits_of 5 n ++ (bits_of 12 l ++ (bits_of 7 0 ++ (rows_bits b rows ++ c))))) =
    record { within = omega arith; bits = schedule_bits_lem form n rows ∙ simp append_assoc } in
    let f = field_found s 8 form 0 _ (omega arith) begin in
    let g = field_found s 5 n 8 _ (omega arith) f.1 in
    let h = field_found s 12 l 13 _ (omega arith) g.1 in
    let i = field_found s 7 0 25 _ (omega arith) h.1 in
    rows_found b s rows 32 c small i.1 λ m e r.
    let w : written_at form s l ≡ step (record { workers = n; rows = rows }) m =
    then_goes_on (field_at s 8 0) _ f.0 (then_goes_on (field_at s 5 8) _ g.0 (then_goes_on (field_at s 12 13) _ h.0
    (then_goes_on (field_at s 7 25) _ i.0 (when_goes_on _ 11 _ (header form n l some most) (then_goes_on (rows_at b s l 32) _ e refl))))) in
    takes (eqb (length s) (schedule_length form l)) (written_at form s l) (fills s)
    (eq-eqb (length s) (schedule_length form l) (schedule_length_lem form n rows)) w
    (true_of (fills s m) (fills_rest s m (fill form n rows) (fill_few form n rows) r))
