-- The bits of a number plus 1 and of a cost, an action's fields in one, and all of a plan's bits where the field writer wrote them.
--   number_few == how many bits a number plus 1 takes at most; number_binary == each is 0 or 1
--   cost_none, cost_some, cost_few == the bits of a cost by the form, and how many they are
--   numbers_value, numbers_fit == two numbers plus 1 in one field
--   fields_plain, fields_cost  == these and no cost, or a cost, in one field
--   fields_length, fields_few, fields_small, fields_field == how many bits that is, and that the field fits and gives them
--   header_field  == a frame and a size in one field
--   plan_written  == where all of a plan's bits are written and the last byte is filled, the buffer holds the plan's bytes
use Prim.Native.Nat.{ℕ, zero, suc, ◌+◌, ◌*◌, ◌/◌, ◌^◌, ◌≤◌, ◌<◌}
use mathlib.Core.Path.{◌≡◌, sym, ap, ap₂, ◌∙◌}
use mathlib.Core.Bool.{Bool, true, false}
use mathlib.Core.List.{List, [], ◌++◌, append-nil}
use native.Mathlib.Omega.{arith}
use native.Mathlib.Nat.{lt_of_lt_of_le, mul_comm}
use borrow.Author.Tests.{ne_eqb}
use lib.Dec.{eqb}
use lib.Pow.{pow_mono}
use lib.ListN.{length, take, drop, length-append, take-append-drop}
use Rattle.fields.specs.declared.field.Sink.{Sink}
use Rattle.fields.specs.Field.{bits_of, bits, number, pack}
use Rattle.fields.specs.Sink.{sink_bits, Put, Done}
use Rattle.plan.specs.Plan.{Plan}
use Rattle.plan_writer.specs.Writer.{number_bits, cost_bits, plan_bits, plan_bytes}
use Rattle.plan_writer.specs.ActionBits.{fields_of}
use Rattle.fields.proofs.Laws.Bits.{Binary, append_binary, bits_of_binary, bits_of_number, number_append, number_below, number_bits_of, pack_length}
use Rattle.fields.proofs.Laws.Puts.{empty, sink_length, drop_later}

pub number_few : (x : ℕ) → length (number_bits x) ≤ 9
number_few zero = omega arith
number_few (suc v) = omega arith

pub number_binary : (x : ℕ) → Binary (number_bits x)
number_binary zero zero = omega arith
number_binary zero (suc i) = omega arith
number_binary (suc v) zero = omega arith
number_binary (suc v) (suc i) = bits_of_binary 8 v i

-- the bits of a cost

module _ (form : ℕ) where
  pub cost_none : (cost : ℕ) → form ≡ 1 → cost_bits form cost ≡ []
  cost_none cost e = rw e

  pub cost_some : (cost : ℕ) → (form ≡ 1 → ⊥) → cost_bits form cost ≡ bits_of 4 cost
  cost_some cost n = rw (ne_eqb form 1 n, cost_bits)

  pub cost_few : (cost : ℕ) → length (cost_bits form cost) ≤ 4
  cost_few cost = go (eqb form 1)
    where
      go : (b : Bool) → length {A = ℕ} (elim b [ true ↦ [] | false ↦ bits_of 4 cost ]) ≤ 4
      go true = omega arith
      go false = omega arith

  pub cost_binary : (cost : ℕ) → Binary (cost_bits form cost)
  cost_binary cost = go (eqb form 1)
    where
      go : (b : Bool) → Binary (elim b [ true ↦ [] | false ↦ bits_of 4 cost ])
      go true = λ i. omega arith
      go false = bits_of_binary 4 cost

-- bits behind others are one field
joined_field : (a b : List ℕ) → Binary a → Binary b → bits_of (length a + length b) (number a * 2 ^ length b + number b) ≡ a ++ b
joined_field a b p q =
    rw (← number_append a b, ← length-append a b) (bits_of_number (a ++ b) (append_binary a b p q))

numbers_binary : (x y : ℕ) → Binary (number_bits x ++ number_bits y)
numbers_binary x y = append_binary (number_bits x) (number_bits y) (number_binary x) (number_binary y)

-- two numbers plus 1 in one field: value v, scale s and value u
module _ (x y v s u : ℕ) (i : v ≡ number (number_bits x)) (j : s ≡ 2 ^ length (number_bits y)) (k : u ≡ number (number_bits y)) where
  pub numbers_value : v * s + u ≡ number (number_bits x ++ number_bits y)
  numbers_value = rw (i, j, k) (sym (number_append (number_bits x) (number_bits y)))

  pub numbers_fit : v * s + u < 262144
  numbers_fit =
      lt_of_lt_of_le (rw numbers_value (number_below (number_bits x ++ number_bits y) (numbers_binary x y)))
      (pow_mono {i = length (number_bits x ++ number_bits y)} {j = 18} (omega (arith, length-append (number_bits x) (number_bits y), number_few x, number_few y)))

-- an action's fields in one: the two numbers x and y, of value n together, and the cost
module _ (form x y cost : ℕ) where
  pub fields_length : length (fields_of form x y cost) ≡ length (number_bits x) + length (number_bits y) + length (cost_bits form cost)
  fields_length = rw (length-append, length-append)

  pub fields_few : length (fields_of form x y cost) ≤ 22
  fields_few = omega (arith, fields_length, number_few x, number_few y, cost_few form cost)

  fields_binary : Binary (fields_of form x y cost)
  fields_binary = append_binary (number_bits x ++ number_bits y) (cost_bits form cost) (numbers_binary x y) (cost_binary form cost)

  pub fields_plain : (n : ℕ) → form ≡ 1 → n ≡ number (number_bits x ++ number_bits y) → n ≡ number (fields_of form x y cost)
  fields_plain n e i = i ∙ ap number (sym (append-nil (number_bits x ++ number_bits y)) ∙ ap (λ l. (number_bits x ++ number_bits y) ++ l) (sym (cost_none form cost e)))

  pub fields_cost : (n : ℕ) → (form ≡ 1 → ⊥) → cost < 16 → n ≡ number (number_bits x ++ number_bits y) → 16 * n + cost ≡ number (fields_of form x y cost)
  fields_cost n f h i =
      let a = number_append (number_bits x ++ number_bits y) (bits_of 4 cost) in
      rw (cost_some form cost f, i) (omega (arith, a, number_bits_of 4 cost h))

  module _ (w v : ℕ) (e : w ≡ length (fields_of form x y cost)) (i : v ≡ number (fields_of form x y cost)) where
    pub fields_small : v < 2 ^ w
    fields_small = rw (e, i) (number_below (fields_of form x y cost) fields_binary)

    pub fields_field : bits_of w v ≡ fields_of form x y cost
    fields_field = rw (e, i) (bits_of_number (fields_of form x y cost) fields_binary)

-- a frame and a size in one field
pub header_field : (frame size : ℕ) → frame < 65536 → size < 256 → bits_of 24 (256 * frame + size) ≡ bits_of 16 frame ++ bits_of 8 size
header_field frame size g h =
    ap₂ (λ (x y : ℕ). bits_of 24 (256 * x + y)) (sym (number_bits_of 16 frame g)) (sym (number_bits_of 8 size h))
    ∙ ap (λ (n : ℕ). bits_of 24 (n + number (bits_of 8 size))) (mul_comm 256 (number (bits_of 16 frame)))
    ∙ joined_field (bits_of 16 frame) (bits_of 8 size) (bits_of_binary 16 frame) (bits_of_binary 8 size)

pub plan_written : (out₀ out out' : List ℕ) (s : Sink) (n form : ℕ) (p : Plan) → Put out₀ empty (plan_bits form p) out s → Done out s out' n
    → (n ≡ length (plan_bytes form p)) × (out' ≡ plan_bytes form p ++ drop (length (plan_bytes form p)) out₀)
unfolding plan_bytes sink_bits bits
plan_written out₀ out out' s n form p w d =
    let e : sink_bits out s ≡ plan_bits form p = w.written in
    let c : n ≡ (length (plan_bits form p) + 7) / 8 = rw e at d.count in
    let b : plan_bytes form p ≡ pack n (plan_bits form p) = ap (λ (m : ℕ). pack m (plan_bits form p)) (sym c) in
    let l : length (plan_bytes form p) ≡ n = rw b (pack_length n (plan_bits form p)) in
    let f : take n out' ≡ plan_bytes form p = d.written ∙ ap (λ (x : List ℕ). pack n x) e ∙ sym b in
    let g : drop n out' ≡ drop n out₀ = d.beyond ∙ drop_later s.bytes n out out₀ (omega (arith, sink_length out s w.sound, d.count)) w.beyond in
    (sym l, rw (l, ← f, ← g) (sym (take-append-drop n out')))
