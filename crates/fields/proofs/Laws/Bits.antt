-- Bit lists, most significant bit first: their numbers, the bits of bytes, the field at a place, and the bytes that bits fill.
--   Binary l                     == each member is 0 or 1
--   number_bits_of, bits_of_number == numbers and bits of a width undo one another
--   field_within, field_beyond   == a field is read where the bytes have room for it, and not where they have none
--   field_read, field_stop       == what a field that was read is, and why none was
--   field_seam                   == a field that stands behind other bits is read there
--   pack_bits, bits_pack         == bytes and bits undo one another, but for the zero bits that fill the last byte
use mathlib.Core.Path.{◌≡◌, refl, sym, ap, ap₂, ◌∙◌}
use mathlib.Core.List.{List, [], ◌∷◌, ◌++◌, append_assoc, append-nil}
use Prim.Native.Nat.{ℕ, zero, suc, ◌+◌, ◌*◌, ◌-◌, ◌/◌, ◌%◌, ◌^◌, ◌≤◌, ◌<◌}
use native.Mathlib.Nat.{add-zero, zero-add, suc-add, add-mul, mul_assoc, add_assoc, mul-suc, pow-succ', mod-lt, mod-eq_of_lt, suc_inj}
use native.Mathlib.Numerals.{add_eight, one-add}
use native.Mathlib.Omega.{arith}
use native.Mathlib.Decide.{dec_le}
use lib.Arith.{digits_lt, digits_div, digits_mod}
use lib.Pow.{pow-add, mod-pow-add}
use lib.ListN.{length, get_or, take, drop, replicate, length-append, length-drop, length-replicate, take-append-drop}
use lib.ListN.{replicate-append-replicate}
use lib.Seq.{take-nil, drop-nil, take_at, drop_at, take-append-le, length-take-le}
use borrow.Author.Tests.{le-leb, lt-leb}
use Rattle.fields.specs.Field.{Bytes, bits_of, bits, number, step, stop, field_at, pack}

-- ---- each member is 0 or 1

abbrev pub Binary : List ℕ → Type 0
Binary l = (i : ℕ) → get_or l i 0 < 2

nil_binary : Binary []
nil_binary i = omega arith

pub append_binary : (a b : List ℕ) → Binary a → Binary b → Binary (a ++ b)
append_binary [] b p q i = q i
append_binary (x ∷ a) b p q zero = p 0
append_binary (x ∷ a) b p q (suc i) = append_binary a b (λ k. p (suc k)) q i

-- a bound of each member holds of those that are taken
pub take_below : (b n : ℕ) (l : List ℕ) → 0 < b → ((i : ℕ) → get_or l i 0 < b) → (i : ℕ) → get_or (take n l) i 0 < b
take_below b zero l h p i = h
take_below b (suc n) [] h p i = h
take_below b (suc n) (x ∷ l) h p zero = p 0
take_below b (suc n) (x ∷ l) h p (suc i) = take_below b n l h (λ k. p (suc k)) i

pub take_binary : (n : ℕ) (l : List ℕ) → Binary l → Binary (take n l)
take_binary n l p = take_below 2 n l (omega arith) p

pub drop_binary : (n : ℕ) (l : List ℕ) → Binary l → Binary (drop n l)
drop_binary zero l p i = p i
drop_binary (suc n) [] p i = nil_binary i
drop_binary (suc n) (x ∷ l) p i = drop_binary n l (λ k. p (suc k)) i

pub zeros_binary : (n : ℕ) → Binary (replicate n 0)
zeros_binary zero i = nil_binary i
zeros_binary (suc n) zero = omega arith
zeros_binary (suc n) (suc i) = zeros_binary n i

pub bits_of_binary : (w v : ℕ) → Binary (bits_of w v)
bits_of_binary zero v i = nil_binary i
bits_of_binary (suc w) v zero = mod-lt (v / 2 ^ w) (omega arith)
bits_of_binary (suc w) v (suc i) = bits_of_binary w v i

pub bits_binary : (s : List ℕ) → Binary (bits s)
unfolding bits
bits_binary [] i = nil_binary i
bits_binary (b ∷ s) i = append_binary (bits_of 8 b) (bits s) (bits_of_binary 8 b) (bits_binary s) i

-- ---- lengths, and bits of joined and cut lists of bytes

pub bits_of_length : (w v : ℕ) → length (bits_of w v) ≡ w
bits_of_length zero v = refl
bits_of_length (suc w) v = ap suc (bits_of_length w v)

pub bits_length : (s : List ℕ) → length (bits s) ≡ 8 * length s
unfolding bits
bits_length [] = refl
bits_length (b ∷ s) = omega (arith, bits_length s)

pub bits_append : (a b : List ℕ) → bits (a ++ b) ≡ bits a ++ bits b
unfolding bits
bits_append [] b = refl
bits_append (x ∷ a) b = ap (λ (l : List ℕ). bits_of 8 x ++ l) (bits_append a b)

pub bits_take : (n : ℕ) (s : List ℕ) → bits (take n s) ≡ take (8 * n) (bits s)
unfolding bits
bits_take zero s = refl
bits_take (suc n) [] = sym (take-nil (8 * suc n))
bits_take (suc n) (b ∷ s) = rw (mul-suc, add_eight, bits_take n s)

pub bits_drop : (n : ℕ) (s : List ℕ) → bits (drop n s) ≡ drop (8 * n) (bits s)
unfolding bits
bits_drop zero s = refl
bits_drop (suc n) [] = sym (drop-nil (8 * suc n))
bits_drop (suc n) (b ∷ s) = rw (mul-suc, add_eight, bits_drop n s)

-- ---- the number that bits stand for

pub number_zeros : (n : ℕ) → number (replicate n 0) ≡ 0
number_zeros zero = refl
number_zeros (suc n) = omega (arith, number_zeros n)

pub number_append : (a b : List ℕ) → number (a ++ b) ≡ number a * 2 ^ length b + number b
number_append [] b = omega arith
number_append (x ∷ a) b = rw (length-append a b, pow-add 2 (length a) (length b), number_append a b, add-mul, mul_assoc, add_assoc)

pub number_below : (l : List ℕ) → Binary l → number l < 2 ^ length l
number_below [] p = omega arith
number_below (x ∷ l) p = rw pow-succ' (digits_lt (p 0) (number_below l (λ i. p (suc i))))

-- bits of one length that stand for one number are the same
pub number_injective : (a b : List ℕ) → Binary a → Binary b → length a ≡ length b → number a ≡ number b → a ≡ b
number_injective [] [] p q e f = refl
number_injective [] (y ∷ b) p q e f = absurd (omega arith)
number_injective (x ∷ a) [] p q e f = absurd (omega arith)
number_injective (x ∷ a) (y ∷ b) p q e f =
    let l : length a ≡ length b = suc_inj e in
    let g : x * 2 ^ length b + number a ≡ y * 2 ^ length b + number b = rw l at f in
    let m : number a < 2 ^ length b = rw l at (number_below a (λ i. p (suc i))) in
    let n : number b < 2 ^ length b = number_below b (λ i. q (suc i)) in
    ap₂ (λ (z : ℕ) (r : List ℕ). z ∷ r) (sym (digits_div x m) ∙ ap (λ (k : ℕ). k / 2 ^ length b) g ∙ digits_div y n)
    (number_injective a b (λ i. p (suc i)) (λ i. q (suc i)) l (sym (digits_mod x m) ∙ ap (λ (k : ℕ). k % 2 ^ length b) g ∙ digits_mod y n))

number_low : (w v : ℕ) → number (bits_of w v) ≡ v % 2 ^ w
number_low zero v = omega arith
number_low (suc w) v = rw (bits_of_length w v, number_low w v, ← one-add w, mod-pow-add v 1 w)

pub number_bits_of : (w v : ℕ) → v < 2 ^ w → number (bits_of w v) ≡ v
number_bits_of w v h = number_low w v ∙ mod-eq_of_lt h

pub bits_of_number : (l : List ℕ) → Binary l → bits_of (length l) (number l) ≡ l
bits_of_number l p =
    number_injective (bits_of (length l) (number l)) l (bits_of_binary (length l) (number l)) p (bits_of_length (length l) (number l))
    (number_bits_of (length l) (number l) (number_below l p))

-- ---- the field at a place

part_length : (s : List ℕ) (w at : ℕ) → at + w ≤ 8 * length s → length (take w (drop at (bits s))) ≡ w
part_length s w at h = length-take-le w (drop at (bits s)) (rw (length-drop, bits_length) (omega arith))

pub field_within : (s : List ℕ) (w at : ℕ) → at + w ≤ 8 * length s → field_at s w at ≡ step (number (take w (drop at (bits s)))) (at + w)
unfolding field_at
field_within s w at h = rw (field_at, le-leb (at + w) (8 * length s) h)

pub field_beyond : (s : List ℕ) (w at : ℕ) → 8 * length s < at + w → field_at s w at ≡ stop 1
unfolding field_at
field_beyond s w at h = rw (field_at, lt-leb (at + w) (8 * length s) h)

pub field_read : (s : List ℕ) (w at v n : ℕ) → field_at s w at ≡ step v n → (v < 2 ^ w) × (n ≡ at + w) × (n ≤ 8 * length s) × (take w (drop at (bits s)) ≡ bits_of w v)
field_read s w at v n e = go (dec_le (at + w) (8 * length s))
  where
    go : Dec (at + w ≤ 8 * length s) → (v < 2 ^ w) × (n ≡ at + w) × (n ≤ 8 * length s) × (take w (drop at (bits s)) ≡ bits_of w v)
    go (yes h) =
        let f = field_within s w at h in
        let p = take_binary w (drop at (bits s)) (drop_binary at (bits s) (bits_binary s)) in
        let l = part_length s w at h in
        let i : number (take w (drop at (bits s))) ≡ v = cc in
        let j : n ≡ at + w = cc in
        (rw (i, l) at (number_below (take w (drop at (bits s))) p), j, rw j h, sym (rw (i, l) at (bits_of_number (take w (drop at (bits s))) p)))
    go (no h) = let f = field_beyond s w at (omega arith) in let z : ◌≡◌ {A = ℕ} 0 1 = cc in absurd (omega arith)

pub field_stop : (s : List ℕ) (w at n : ℕ) → field_at s w at ≡ stop n → (n ≡ 1) × (8 * length s < at + w)
field_stop s w at n e = go (dec_le (at + w) (8 * length s))
  where
    go : Dec (at + w ≤ 8 * length s) → (n ≡ 1) × (8 * length s < at + w)
    go (yes h) = let f = field_within s w at h in let z : ◌≡◌ {A = ℕ} 0 1 = cc in absurd (omega arith)
    go (no h) = let f = field_beyond s w at (omega arith) in (cc, omega arith)

pub field_seam : (s a : List ℕ) (w v : ℕ) (c : List ℕ) → v < 2 ^ w → bits s ≡ a ++ (bits_of w v ++ c) → field_at s w (length a) ≡ step v (length a + w)
field_seam s a w v c h e =
    let l = bits_length s in
    let b : length a + w ≤ 8 * length s = omega (arith, rw (e, length-append, length-append, bits_of_length) at (sym l)) in
    rw (field_within s w (length a) b, e, drop_at a (bits_of w v ++ c) (length a) refl, take_at (bits_of w v) c w (bits_of_length w v), number_bits_of w v h)

-- ---- the bytes that bits fill

pub pack_length : (n : ℕ) (l : List ℕ) → length (pack n l) ≡ n
unfolding pack
pack_length zero l = refl
pack_length (suc n) l = ap suc (pack_length n (drop 8 l))

-- the bits of the first byte
abbrev pub head : List ℕ → List ℕ
head l = take 8 (l ++ replicate 8 0)

head_binary : (l : List ℕ) → Binary l → Binary (head l)
head_binary l p = take_binary 8 (l ++ replicate 8 0) (append_binary l (replicate 8 0) p (zeros_binary 8))

head_length : (l : List ℕ) → length (head l) ≡ 8
head_length l = length-take-le 8 (l ++ replicate 8 0) (rw length-append (omega arith))

pub pack_bytes : (n : ℕ) (l : List ℕ) → Binary l → Bytes (pack n l)
unfolding pack
pack_bytes zero l p i = omega arith
pack_bytes (suc n) l p zero = rw (head_length l) at (number_below (head l) (head_binary l p))
pack_bytes (suc n) l p (suc i) = pack_bytes n (drop 8 l) (drop_binary 8 l p) i

-- whole bytes in front are those bytes
pub pack_front : (s : List ℕ) (n : ℕ) (l : List ℕ) → Bytes s → pack (length s + n) (bits s ++ l) ≡ s ++ pack n l
unfolding pack bits
pack_front [] n l h = rw zero-add
pack_front (b ∷ s) n l h =
    rw suc-add (ap₂ (λ (z : ℕ) (r : List ℕ). z ∷ r) (number_bits_of 8 b (h 0)) (pack_front s n l (λ i. h (suc i))))

pub pack_bits : (s : List ℕ) → Bytes s → pack (length s) (bits s) ≡ s
unfolding pack
pack_bits s h = simp (add-zero, append-nil) at (pack_front s 0 [] h)

head_bits : (l : List ℕ) → Binary l → bits_of 8 (number (head l)) ≡ head l
head_bits l p = rw (head_length l) at (bits_of_number (head l) (head_binary l p))

pub head_short : (l : List ℕ) → length l ≤ 8 → head l ≡ l ++ replicate (8 - length l) 0
head_short l h =
    let zeros : ℕ → List ℕ = λ k. replicate k 0 in
    let m : 8 ≡ (8 - length l) + length l = omega arith in
    let e : zeros 8 ≡ zeros (8 - length l) ++ zeros (length l) = ap zeros m ∙ sym (replicate-append-replicate (8 - length l) (length l) 0) in
    ap (λ (r : List ℕ). take 8 (l ++ r)) e ∙ ap (λ (r : List ℕ). take 8 r) (sym (append_assoc l (zeros (8 - length l)) (zeros (length l))))
    ∙ take_at (l ++ zeros (8 - length l)) (zeros (length l)) 8 (rw (length-append, length-replicate) (omega arith))

pub bits_pack : (n : ℕ) (l : List ℕ) → Binary l → length l ≤ 8 * n → 8 * n < length l + 8 → bits (pack n l) ≡ l ++ replicate (8 * n - length l) 0
unfolding pack bits
bits_pack zero [] p h k = refl
bits_pack zero (x ∷ l) p h k = absurd (omega arith)
bits_pack (suc n) l p h k = ap (λ (t : List ℕ). t ++ bits (pack n (drop 8 l))) (head_bits l p) ∙ go (bits_pack n (drop 8 l) (drop_binary 8 l p)) (dec_le 8 (length l))
  where
    go : (length (drop 8 l) ≤ 8 * n → 8 * n < length (drop 8 l) + 8 → bits (pack n (drop 8 l)) ≡ drop 8 l ++ replicate (8 * n - length (drop 8 l)) 0) → Dec (8 ≤ length l) → head l ++ bits (pack n (drop 8 l)) ≡ l ++ replicate (8 * suc n - length l) 0
    go rest (yes g) =
        let d = length-drop 8 l in
        let m : 8 * n - length (drop 8 l) ≡ 8 * suc n - length l = omega arith in
        rw (take-append-le 8 l (replicate 8 0) g, rest (omega arith) (omega arith), m, ← append_assoc, take-append-drop)
    go rest (no g) =
        let z : n ≡ 0 = omega arith in
        rw (z, append-nil, head_short l (omega arith))
