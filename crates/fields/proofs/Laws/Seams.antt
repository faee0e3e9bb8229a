-- Fields one behind another: a field that is read takes the bits that writing it gives, and bits that writing gives are read again.
--   bits_same   == bytes with the same bits are the same
--   bits_of_zero == the bits of 0 are zero bits
--   field_taken == from a field's place on, the bits are the field's and then those behind it
--   Rest s n l  == from place n on, the bytes s hold the bits l
--   field_found == where they are a field's bits and others, the field is read, and then the others are held
use Prim.Native.Nat.{ℕ, zero, suc, ◌+◌, ◌*◌, ◌^◌, ◌≤◌, ◌<◌}
use native.Mathlib.Omega.{arith}
use native.Mathlib.Nat.{zero-div}
use mathlib.Core.Path.{◌≡◌, refl, sym, ap, ap₂, ◌∙◌}
use mathlib.Core.List.{List, ◌∷◌, ◌++◌}
use lib.ListN.{length, take, drop, replicate, length-append, take-append-drop}
use lib.Seq.{drop-drop, drop_at, length-take-le}
use Rattle.fields.specs.Field.{Bytes, bits_of, bits, pack, step, field_at}
use Rattle.fields.proofs.Laws.Bits.{bits_length, bits_of_length, field_read, field_seam, pack_bits}

pub bits_same : (s t : List ℕ) → Bytes s → Bytes t → bits s ≡ bits t → s ≡ t
bits_same s t hs ht e =
    let l : length s ≡ length t = omega (arith, bits_length s, bits_length t, ap length e) in
    sym (pack_bits s hs) ∙ ap₂ pack l e ∙ pack_bits t ht

pub bits_of_zero : (w : ℕ) → bits_of w 0 ≡ replicate w 0
bits_of_zero zero = refl
bits_of_zero (suc w) = ap₂ ◌∷◌ (rw zero-div) (bits_of_zero w)

pub field_taken : (s : List ℕ) (w at v n : ℕ) → field_at s w at ≡ step v n → drop at (bits s) ≡ bits_of w v ++ drop n (bits s)
field_taken s w at v n e =
    let r = field_read s w at v n e in
    sym (take-append-drop w (drop at (bits s))) ∙ ap₂ ◌++◌ r.3 (drop-drop w at (bits s) ∙ ap (λ (k : ℕ). drop k (bits s)) (sym r.1))

pub record Rest (s : List ℕ) (n : ℕ) (l : List ℕ) : Type 0 where
  pub within : n ≤ 8 * length s
  pub bits : drop n (bits s) ≡ l

pub field_found : (s : List ℕ) (w v n : ℕ) (c : List ℕ) → v < 2 ^ w → Rest s n (bits_of w v ++ c) → (field_at s w n ≡ step v (n + w)) × Rest s (n + w) c
field_found s w v n c h r = (rw at at (field_seam s front w v c h parts), record { within = omega (arith, room); bits = rest })
  where
    front : List ℕ
    front = take n (bits s)

    at : length front ≡ n
    at = length-take-le n (bits s) (rw bits_length r.within)

    parts : bits s ≡ front ++ (bits_of w v ++ c)
    parts = sym (take-append-drop n (bits s)) ∙ ap (λ l. front ++ l) r.bits

    room : 8 * length s ≡ n + (w + length c)
    room = sym (bits_length s) ∙ ap length parts ∙ simp (length-append, bits_of_length) (rw at)

    rest : drop (n + w) (bits s) ≡ c
    rest = sym (drop-drop w n (bits s)) ∙ ap (drop w) r.bits ∙ drop_at (bits_of w v) c w (bits_of_length w v)
