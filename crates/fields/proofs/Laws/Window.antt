-- A field is cut out of the window that it lies in, the 32 bits from some byte on, by a shift to the left and one to the right.
--   window_field  == what the two shifts leave is the field
--   window_short  == where the window holds fewer bits than it takes, there is no such field
--   window_behind == the field of 8 bits that stands behind one bit
--   moved n x     == the step x, with n added to the next place
--   field_moved   == a field behind whole bytes is that of the bytes behind them, moved
--   field_at_lem      == the field at a place, in the bytes from that of the place on
--   Byte t j x    == x is byte j of the bytes t, 0 past their end
--   bytes_window  == the four bytes from byte i on, each with its weight, are the window there
use mathlib.Core.Path.{◌≡◌, refl, sym, ap, ◌∙◌}
use mathlib.Core.List.{List, [], ◌∷◌, ◌++◌}
use Prim.Native.Nat.{ℕ, ◌+◌, ◌*◌, ◌-◌, ◌/◌, ◌%◌, ◌^◌, ◌≤◌, ◌<◌, min}
use native.Mathlib.Nat.{add-mul, mul_assoc, mul_comm, mul-lt-mul_of_pos_right, add_assoc, add-zero}
use native.Mathlib.Omega.{arith}
use native.Mathlib.Decide.{dec_le}
use lib.Arith.{digits_lt, digits_div, digits_mod}
use lib.Pow.{pow-add, pow_pos, mod-mod-pow}
use lib.ListN.{length, get_or, take, drop, replicate, length-append, length-drop, take-append-drop}
use lib.Seq.{take-append-le, drop-append-le, drop-drop, take-add, get_or-drop, length-take-le}
use Rattle.fields.specs.declared.field.Window.{Window}
use Rattle.fields.specs.Field.{bits_of, bits, number, Step, stop, step, field_at}
use Rattle.fields.specs.FieldParts.{window_of, Windowed}
use Rattle.fields.proofs.Laws.Bits.{Binary, append_binary, take_binary, drop_binary, zeros_binary, bits_binary}
use Rattle.fields.proofs.Laws.Bits.{bits_length, bits_append, bits_take, bits_drop, number_append, number_bits_of, number_below, field_within, field_beyond}

-- ---- the numbers

shifted : (a m b p : ℕ) → (a * m + b) * p ≡ a * (p * m) + b * p
shifted a m b p = rw (add-mul, mul_assoc, mul_comm m p)

shifted_below : (b m p : ℕ) → b < m → 0 < p → b * p < p * m
shifted_below b m p h l = rw (mul_comm p m) (mul-lt-mul_of_pos_right h l)

-- of three numbers put together as digits, the middle one: the first goes by the remainder, the last by the quotient
middle : (a b c p q r : ℕ) → b < q → c < r → 0 < p → (a * (q * r) + (b * r + c)) * p % (p * (q * r)) / (p * r) ≡ b
middle a b c p q r h k l =
    rw (shifted a (q * r) (b * r + c) p, digits_mod a (shifted_below (b * r + c) (q * r) p (digits_lt h k) l), shifted b r c p)
    (digits_div b (shifted_below c r p k l))

-- the part of w bits behind the first k, cut out of the number of all n bits
cut_number : (l : List ℕ) (n k w : ℕ) → Binary l → length l ≡ n → k + w ≤ n → number l * 2 ^ k % 2 ^ n / 2 ^ (n - w) ≡ number (take w (drop k l))
cut_number l n k w p size h =
    let d = drop k l in
    let m = length (drop w d) in
    let d-length : length d ≡ w + m = omega (arith, length-drop k l, length-drop w d) in
    let b-length : length (take w d) ≡ w = length-take-le w d (omega arith) in
    let behind : n - w ≡ k + m = omega (arith, length-drop k l) in
    let all : n ≡ k + (w + m) = omega (arith, length-drop k l) in
    let parts : number l ≡ number (take k l) * (2 ^ w * 2 ^ m) + (number (take w d) * 2 ^ m + number (drop w d)) =
    ap number (sym (take-append-drop k l)) ∙ number_append (take k l) d
    ∙ rw (d-length, pow-add 2 w m) (ap (λ (r : ℕ). number (take k l) * (2 ^ w * 2 ^ m) + r) (ap number (sym (take-append-drop w d)) ∙ number_append (take w d) (drop w d))) in
    rw (behind, all, pow-add 2 k m, pow-add 2 k (w + m), pow-add 2 w m, parts)
    (middle (number (take k l)) (number (take w d)) (number (drop w d)) (2 ^ k) (2 ^ w) (2 ^ m)
    (rw b-length at (number_below (take w d) (take_binary w d (drop_binary k l p))))
    (number_below (drop w d) (drop_binary w d (drop_binary k l p))) (pow_pos k))

-- ---- the bits

part_front : (x y : List ℕ) (k w : ℕ) → k + w ≤ length x → take w (drop k (x ++ y)) ≡ take w (drop k x)
part_front x y k w h = rw (drop-append-le k x y (omega arith)) (take-append-le w (drop k x) y (rw length-drop (omega arith)))

window_length : (t : List ℕ) → length (window_of t) ≡ 32
unfolding window_of
window_length t = length-take-le 32 (bits t ++ replicate 32 0) (rw length-append (omega arith))

window_binary : (t : List ℕ) → Binary (window_of t)
unfolding window_of
window_binary t = take_binary 32 (bits t ++ replicate 32 0) (append_binary (bits t) (replicate 32 0) (bits_binary t) (zeros_binary 32))

window_front : (t : List ℕ) (k w : ℕ) → k + w ≤ 32 → k + w ≤ 8 * length t → take w (drop k (window_of t)) ≡ take w (drop k (bits t))
unfolding window_of
window_front t k w b h =
    let x = bits t ++ replicate 32 0 in
    sym (part_front (take 32 x) (drop 32 x) k w (omega (arith, window_length t))) ∙ ap (λ (r : List ℕ). take w (drop k r)) (take-append-drop 32 x)
    ∙ part_front (bits t) (replicate 32 0) k w (omega (arith, bits_length t))

-- ---- the window

module _ (w : Window) (t : List ℕ) (is : Windowed w t) (at : ℕ) where
  -- the bits from bit `at` on, at the top of 32
  abbrev from : ℕ
  from = w.bits * 2 ^ at % 2 ^ 64 % 4294967296

  from_part : (n : ℕ) → at + n ≤ 32 → from / 2 ^ (32 - n) ≡ number (take n (drop at (window_of t)))
  from_part n h =
      rw (mod-mod-pow (w.bits * 2 ^ at) 32 32, is.front) (cut_number (window_of t) 32 at n (window_binary t) (window_length t) h)

  pub window_field : (n : ℕ) → at + n ≤ 32 → at + n ≤ w.held → field_at t n at ≡ step (from / 2 ^ (32 - n)) (at + n)
  window_field n h b =
      let held = is.there in
      let c : at + n ≤ 8 * length t = omega arith in
      rw (from_part n h, window_front t at n h c) (field_within t n at c)

  pub window_short : (n : ℕ) → at + n ≤ 32 → w.held < at + n → field_at t n at ≡ stop 1
  window_short n h b = let held = is.there in field_beyond t n at (omega arith)

  -- the eight bits behind bit `at`
  pub window_behind : at + 9 ≤ 32 → at + 9 ≤ w.held → field_at t 8 (at + 1) ≡ step (from / 8388608 % 256) (at + 1 + 8)
  window_behind h b =
      let held = is.there in
      let l = drop at (window_of t) in
      let r = take 8 (drop 1 l) in
      let size : length r ≡ 8 = length-take-le 8 (drop 1 l) (omega (arith, length-drop 1 l, length-drop at (window_of t), window_length t)) in
      let small : number r < 256 = rw size at (number_below r (take_binary 8 (drop 1 l) (drop_binary 1 l (drop_binary at (window_of t) (window_binary t))))) in
      let parts : from / 8388608 ≡ number (take 1 l) * 256 + number r =
      from_part 9 h ∙ ap number (take-add 1 8 l) ∙ number_append (take 1 l) r ∙ rw size in
      let c : at + 1 + 8 ≤ 8 * length t = omega arith in
      rw (parts, digits_mod (number (take 1 l)) small, drop-drop 1 at (window_of t), window_front t (at + 1) 8 (omega arith) c) (field_within t 8 (at + 1) c)

-- ---- behind whole bytes

abbrev pub moved : {A : Type 0} → ℕ → Step A → Step A
moved n (stop k) = stop k
moved n (step a at) = step a (n + at)

pub field_moved : (s : List ℕ) (i w at : ℕ) → (length s < i → 0 < at + w) → field_at s w (8 * i + at) ≡ moved (8 * i) (field_at (drop i s) w at)
field_moved s i w at h = go (dec_le (8 * i + at + w) (8 * length s))
  where
    left : length (drop i s) ≡ length s - i
    left = length-drop i s

    go : Dec (8 * i + at + w ≤ 8 * length s) → field_at s w (8 * i + at) ≡ moved (8 * i) (field_at (drop i s) w at)
    go (yes b) =
        rw (field_within s w (8 * i + at) b, field_within (drop i s) w at (omega (arith, left)), bits_drop i s, drop-drop at (8 * i) (bits s), add_assoc (8 * i) at w)
    go (no b) = rw (field_beyond s w (8 * i + at) (omega arith), field_beyond (drop i s) w at (beyond (dec_le i (length s))))
      where
        beyond : Dec (i ≤ length s) → 8 * length (drop i s) < at + w
        beyond (yes e) = omega (arith, left)
        beyond (no e) = omega (arith, left, h (omega arith))

-- the field at a place, in the window from the byte of that place on
pub field_at_lem : (s : List ℕ) (w at : ℕ) → at / 8 ≤ length s → field_at s w at ≡ moved (8 * (at / 8)) (field_at (drop (at / 8) s) w (at % 8))
field_at_lem s w at h =
    let e : at ≡ 8 * (at / 8) + at % 8 = omega arith in
    ap (field_at s w) e ∙ field_moved s (at / 8) w (at % 8) (λ l. omega arith)

-- ---- the four bytes

zero_bytes : replicate 32 0 ≡ bits (replicate 4 0)
unfolding bits
zero_bytes = refl

first_four : (t : List ℕ) → take 4 (t ++ replicate 4 0) ≡ get_or t 0 0 ∷ get_or t 1 0 ∷ get_or t 2 0 ∷ get_or t 3 0 ∷ []
first_four [] = refl
first_four (a ∷ []) = refl
first_four (a ∷ b ∷ []) = refl
first_four (a ∷ b ∷ c ∷ []) = refl
first_four (a ∷ b ∷ c ∷ d ∷ t) = refl

window_bits : (t : List ℕ) → window_of t ≡ bits (get_or t 0 0 ∷ get_or t 1 0 ∷ get_or t 2 0 ∷ get_or t 3 0 ∷ [])
unfolding window_of
window_bits t =
    ap (λ (z : List ℕ). take 32 (bits t ++ z)) zero_bytes ∙ ap (λ (l : List ℕ). take 32 l) (sym (bits_append t (replicate 4 0)))
    ∙ sym (bits_take 4 (t ++ replicate 4 0)) ∙ ap bits (first_four t)

number_byte : (b : ℕ) (s : List ℕ) → b < 256 → number (bits (b ∷ s)) ≡ b * 2 ^ (8 * length s) + number (bits s)
unfolding bits
number_byte b s h = number_append (bits_of 8 b) (bits s) ∙ rw (number_bits_of 8 b h, bits_length s)

number_none : number (bits []) ≡ 0
unfolding bits
number_none = refl

abbrev Byte : List ℕ → ℕ → ℕ → Type 0
Byte t j x = (x ≡ get_or t j 0) × (x < 256)

bytes_number : (t : List ℕ) (a b c d : ℕ) → Byte t 0 a → Byte t 1 b → Byte t 2 c → Byte t 3 d → a * 16777216 + b * 65536 + c * 256 + d ≡ number (window_of t)
bytes_number t a b c d f g h j =
    rw (window_bits t, ← f.0, ← g.0, ← h.0, ← j.0)
    (omega (arith, number_byte a (b ∷ c ∷ d ∷ []) f.1, number_byte b (c ∷ d ∷ []) g.1, number_byte c (d ∷ []) h.1, number_byte d [] j.1, number_none))

module _ (s : List ℕ) (i : ℕ) where
  behind : (j x : ℕ) → Byte s (i + j) x → Byte (drop i s) j x
  behind j x e = (e.0 ∙ sym (get_or-drop i s j 0), e.1)

  pub bytes_window : (a b c d x held : ℕ) → Byte s i a → Byte s (i + 1) b → Byte s (i + 2) c → Byte s (i + 3) d → x ≡ a * 16777216 + b * 65536 + c * 256 + d → held ≡ min 32 (8 * (length s - i)) → Windowed (record { bits = x; held = held }) (drop i s)
  bytes_window a b c d x held f g h j e k =
      record {
        front = e ∙ bytes_number (drop i s) a b c d (behind 0 a (rw add-zero f)) (behind 1 b g) (behind 2 c h) (behind 3 d j);
        there = rw length-drop k;
      }
