-- The field writer's sink: what it holds after a field is put in, after a whole byte went to the buffer, and after the last byte was filled.
--   Moved out k o k'        == only whole bytes went from the sink to the buffer; moved_byte, moved_all == one did, all did
--   put_loose, put_written  == a field is put in, and then the whole bytes moved
--   done_whole, done_filled == the last byte is whole, or filled with zero bits
use mathlib.Core.Path.{◌≡◌, refl, sym, ap, ap₂, ◌∙◌}
use mathlib.Core.List.{List, [], ◌∷◌, ◌++◌, append_assoc, append-nil}
use Prim.Native.Nat.{ℕ, ◌+◌, ◌*◌, ◌-◌, ◌/◌, ◌%◌, ◌^◌, ◌≤◌, ◌<◌}
use native.Mathlib.Nat.{add-mul, mul_assoc, add-zero, mul-lt-mul_of_pos_right}
use native.Mathlib.Numerals.{add-one}
use native.Mathlib.Omega.{arith}
use lib.Arith.{digits_div, digits_mod}
use lib.Pow.{pow-add, pow_pos, shl-shr}
use lib.ListN.{length, take, drop, set, replicate, length-append, length-drop, length-set, length-replicate, take-append-drop}
use lib.Seq.{take_at, drop_at, drop-drop, drop-set-lt, take-suc-set, length-take-le}
use Rattle.fields.specs.declared.field.Sink.{Sink}
use Rattle.fields.specs.Field.{Bytes, bits_of, bits, number, pack}
use Rattle.fields.specs.FieldParts.{Loose}
use Rattle.fields.specs.Sink.{sink_bits, Sound, Put, Done}
use Rattle.fields.proofs.Laws.Bits.{Binary, append_binary, take_binary, drop_binary, zeros_binary, bits_of_binary, bits_of_length, bits_append}
use Rattle.fields.proofs.Laws.Bits.{number_zeros, number_append, number_below, number_bits_of, bits_of_number, take_below, head, head_short, pack_front}
use Rattle.fields.proofs.Laws.Puts.{sink_length}

-- ---- bits at the top of a number of n bits

zeros_behind : (l : List ℕ) (n : ℕ) → number (l ++ replicate n 0) ≡ number l * 2 ^ n
zeros_behind l n = number_append l (replicate n 0) ∙ rw (length-replicate, number_zeros n, add-zero)

-- the m bits l stand at the top of held, and zero bits behind them
record Holds (n held m : ℕ) (l : List ℕ) : Type 0 where
  size : length l ≡ m
  short : m ≤ n
  binary : Binary l
  value : held ≡ number l * 2 ^ (n - m)

holds_of : (n held m : ℕ) → m ≤ n → held < 2 ^ n → drop m (bits_of n held) ≡ replicate (n - m) 0 → Holds n held m (take m (bits_of n held))
holds_of n held m h b e =
    record {
      size = length-take-le m (bits_of n held) (rw bits_of_length h);
      short = h;
      binary = take_binary m (bits_of n held) (bits_of_binary n held);
      value =
          sym (number_bits_of n held b) ∙ ap number (sym (take-append-drop m (bits_of n held))) ∙ ap (λ (r : List ℕ). number (take m (bits_of n held) ++ r)) e
          ∙ zeros_behind (take m (bits_of n held)) (n - m);
    }

module _ {n held m : ℕ} {l : List ℕ} (k : Holds n held m l) where
  holds_all : length (l ++ replicate (n - m) 0) ≡ n
  holds_all = rw (length-append, length-replicate, k.size) (omega (arith, k.short))

  holds_binary : Binary (l ++ replicate (n - m) 0)
  holds_binary = append_binary l (replicate (n - m) 0) k.binary (zeros_binary (n - m))

  holds_bits : bits_of n held ≡ l ++ replicate (n - m) 0
  holds_bits = rw (holds_all, zeros_behind l (n - m), ← k.value) at (bits_of_number (l ++ replicate (n - m) 0) holds_binary)

  holds_small : held < 2 ^ n
  holds_small = rw (holds_all, zeros_behind l (n - m), ← k.value) at (number_below (l ++ replicate (n - m) 0) holds_binary)

  holds_taken : take m (bits_of n held) ≡ l
  holds_taken = rw holds_bits (take_at l (replicate (n - m) 0) m k.size)

  holds_behind : drop m (bits_of n held) ≡ replicate (n - m) 0
  holds_behind = rw holds_bits (drop_at l (replicate (n - m) 0) m k.size)

  -- a field of w bits goes behind those that are held
  holds_more : (w v : ℕ) → v < 2 ^ w → m + w ≤ n → Holds n (held + v * 2 ^ (n - (m + w))) (m + w) (l ++ bits_of w v)
  holds_more w v b h =
      let e : n - m ≡ w + (n - (m + w)) = omega arith in
      let p : 2 ^ (n - m) ≡ 2 ^ w * 2 ^ (n - (m + w)) = ap (λ (i : ℕ). 2 ^ i) e ∙ pow-add 2 w (n - (m + w)) in
      record {
        size = rw (length-append, bits_of_length, k.size);
        short = h;
        binary = append_binary l (bits_of w v) k.binary (bits_of_binary w v);
        value = rw (number_append l (bits_of w v), bits_of_length w v, number_bits_of w v b, add-mul, mul_assoc, ← p, ← k.value);
      }

  -- the first byte of those that are held goes, and the others move up
  holds_less : 8 ≤ m → (bits_of 8 (held / 2 ^ (n - 8)) ≡ take 8 l) × Holds n (held % 2 ^ (n - 8) * 256) (m - 8) (drop 8 l)
  holds_less h =
      let a = take 8 l in
      let b = drop 8 l in
      let b-size : length b ≡ m - 8 = length-drop 8 l ∙ ap (λ (i : ℕ). i - 8) k.size in
      let a-size : length a ≡ 8 = length-take-le 8 l (omega (arith, k.size)) in
      let e : n - 8 ≡ (m - 8) + (n - m) = omega (arith, k.short) in
      let p : 2 ^ (n - 8) ≡ 2 ^ (m - 8) * 2 ^ (n - m) = ap (λ (i : ℕ). 2 ^ i) e ∙ pow-add 2 (m - 8) (n - m) in
      let f : n - (m - 8) ≡ (n - m) + 8 = omega (arith, k.short) in
      let q : 2 ^ (n - (m - 8)) ≡ 2 ^ (n - m) * 256 = ap (λ (i : ℕ). 2 ^ i) f ∙ pow-add 2 (n - m) 8 in
      let below : number b * 2 ^ (n - m) < 2 ^ (n - 8) =
      rw p (mul-lt-mul_of_pos_right (rw b-size at (number_below b (drop_binary 8 l k.binary))) (pow_pos (n - m))) in
      let parts : held ≡ number a * 2 ^ (n - 8) + number b * 2 ^ (n - m) =
      k.value ∙ ap (λ (r : List ℕ). number r * 2 ^ (n - m)) (sym (take-append-drop 8 l))
      ∙ rw (number_append a b, b-size, add-mul, mul_assoc, ← p) in (
        rw (parts, digits_div (number a) below) (rw a-size at (bits_of_number a (take_binary 8 l k.binary))),
        record {
          size = b-size;
          short = omega (arith, k.short);
          binary = drop_binary 8 l k.binary;
          value = rw (parts, digits_mod (number a) below, q, mul_assoc);
        },
      )

  -- bits that do not fill the first byte, with zero bits behind them
  holds_top : m ≤ 8 → 8 ≤ n → held / 2 ^ (n - 8) ≡ number (head l)
  holds_top h b =
      let e : n - m ≡ (8 - m) + (n - 8) = omega arith in
      rw (k.value, e, pow-add 2 (8 - m) (n - 8), ← mul_assoc, shl-shr (number l * 2 ^ (8 - m)) (n - 8))
      (sym (ap number (head_short l (omega (arith, k.size))) ∙ rw k.size (zeros_behind l (8 - m))))

-- ---- whole bytes to the buffer

bits_one : (x : ℕ) → bits (x ∷ []) ≡ bits_of 8 x
unfolding bits
bits_one x = refl

-- from out and k to out' and k' only whole bytes went from the sink to the buffer
pub record Moved (out : List ℕ) (k : Sink) (out' : List ℕ) (k' : Sink) : Type 0 where
  pub loose : Loose out' k'
  pub same : length out' ≡ length out
  pub written : sink_bits out' k' ≡ sink_bits out k
  pub beyond : drop k'.bytes out' ≡ drop k'.bytes out

pub moved_none : (out : List ℕ) (k : Sink) → Loose out k → Moved out k out k
moved_none out k s = record { loose = s; same = refl; written = refl; beyond = refl }

module _ (out : List ℕ) (k : Sink) (o : List ℕ) (bytes held m x : ℕ) where
  pub moved_byte : Moved out k o (record { bytes = bytes; held = held; bits = m }) → 8 ≤ m → x ≡ held / 16777216 → Moved out k (set o bytes x) (record { bytes = bytes + 1; held = held % 16777216 * 256; bits = m - 8 })
  unfolding sink_bits
  moved_byte s h is =
      let l = take m (bits_of 32 held) in
      let (byte, rest) = holds_less (holds_of 32 held m (omega (arith, s.loose.few)) s.loose.small s.loose.behind) h in
      let room : bytes < length o = omega (arith, s.loose.room) in
      let first : bits (take (bytes + 1) (set o bytes x)) ≡ bits (take bytes o) ++ take 8 l =
      ap (λ (i : ℕ). bits (take i (set o bytes x))) (add-one bytes) ∙ ap bits (take-suc-set o bytes x room) ∙ bits_append (take bytes o) (x ∷ [])
      ∙ ap (λ (r : List ℕ). bits (take bytes o) ++ r) (bits_one x ∙ ap (bits_of 8) is ∙ byte) in
      record {
        loose = record { few = omega (arith, s.loose.few); room = rw length-set (omega (arith, s.loose.room)); small = holds_small rest; behind = holds_behind rest };
        same = length-set o bytes x ∙ s.same;
        written =
            ap₂ (λ (a b : List ℕ). a ++ b) first (holds_taken rest) ∙ append_assoc (bits (take bytes o)) (take 8 l) (drop 8 l)
            ∙ ap (λ (r : List ℕ). bits (take bytes o) ++ r) (take-append-drop 8 l) ∙ s.written;
        beyond =
            drop-set-lt (bytes + 1) o bytes x (omega arith) ∙ sym (drop-drop 1 bytes o) ∙ ap (λ (r : List ℕ). drop 1 r) s.beyond ∙ drop-drop 1 bytes out;
      }

pub moved_all : (out : List ℕ) (k : Sink) (o : List ℕ) (k' : Sink) → Moved out k o k' → k'.bits < 8 → Put out k [] o k'
moved_all out k o k' s h =
    record {
      sound = record { few = h; room = omega (arith, s.loose.room); small = s.loose.small; behind = s.loose.behind };
      same = s.same;
      written = rw append-nil s.written;
      beyond = s.beyond;
    }

-- ---- a field behind what is written

sound_holds : (out : List ℕ) (k : Sink) → Sound out k → Holds 32 k.held k.bits (take k.bits (bits_of 32 k.held))
sound_holds out k s = holds_of 32 k.held k.bits (omega (arith, s.few)) s.small s.behind

module _ (out : List ℕ) (k : Sink) (v w p : ℕ) (s : Sound out k) (h : (w ≤ 24) × (v < 2 ^ w) × (8 * k.bytes + k.bits + w ≤ 8 * length out)) (e : p ≡ 2 ^ (32 - (k.bits + w))) where
  taken : Holds 32 (k.held + v * p) (k.bits + w) (take k.bits (bits_of 32 k.held) ++ bits_of w v)
  taken =
      let few = s.few in
      rw e (holds_more (sound_holds out k s) w v h.1 (omega arith))

  pub put_loose : Loose out (record { bytes = k.bytes; held = k.held + v * p; bits = k.bits + w })
  put_loose = record { few = omega (arith, s.few); room = omega arith; small = holds_small taken; behind = holds_behind taken }

  pub put_written : (o : List ℕ) (k' : Sink) → Put out (record { bytes = k.bytes; held = k.held + v * p; bits = k.bits + w }) [] o k' → Put out k (bits_of w v) o k'
  unfolding sink_bits
  put_written o k' t =
      let b = bits (take k.bytes out) in
      record {
        sound = t.sound;
        same = t.same;
        written =
            t.written ∙ append-nil (b ++ take (k.bits + w) (bits_of 32 (k.held + v * p))) ∙ ap (λ (r : List ℕ). b ++ r) (holds_taken taken)
            ∙ sym (append_assoc b (take k.bits (bits_of 32 k.held)) (bits_of w v));
        beyond = t.beyond;
      }

-- ---- the last byte

module _ (out : List ℕ) (k : Sink) (s : Sound out k) (small : Bytes out) where
  -- the bits behind the whole bytes go into n bytes more
  sink_pack : (n : ℕ) → pack (k.bytes + n) (sink_bits out k) ≡ take k.bytes out ++ pack n (take k.bits (bits_of 32 k.held))
  unfolding sink_bits
  sink_pack n =
      rw (length-take-le k.bytes out s.room) at
      (pack_front (take k.bytes out) n (take k.bits (bits_of 32 k.held)) (take_below 256 k.bytes out (omega arith) small))

  pub done_whole : k.bits ≡ 0 → Done out k out k.bytes
  unfolding pack
  done_whole e =
      record {
        count = omega (arith, sink_length out k s);
        same = refl;
        written = sym (simp (add-zero, append-nil) at (sink_pack 0));
        beyond = refl;
      }

  pub done_filled : (x : ℕ) → (k.bits ≡ 0 → ⊥) → 8 * k.bytes + k.bits ≤ 8 * length out → x ≡ k.held / 16777216 → Done out k (set out k.bytes x) (k.bytes + 1)
  unfolding pack
  done_filled x f room e =
      record {
        count = omega (arith, sink_length out k s, s.few);
        same = length-set out k.bytes x;
        written =
            ap (λ (i : ℕ). take i (set out k.bytes x)) (add-one k.bytes) ∙ take-suc-set out k.bytes x (omega arith)
            ∙ ap (λ (r : ℕ). take k.bytes out ++ (r ∷ [])) (e ∙ holds_top (sound_holds out k s) (omega (arith, s.few)) (omega arith)) ∙ sym (sink_pack 1);
        beyond = drop-set-lt (k.bytes + 1) out k.bytes x (omega arith);
      }
