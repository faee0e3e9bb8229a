-- `reader::filled` meets its contract: the bits from place `at` to the end of its byte are 0, and that byte is the last,
-- exactly where `fills` holds.
use Prim.Native.Nat.{ℕ, ◌+◌, ◌*◌, ◌-◌, ◌/◌, ◌%◌, ◌≤◌, ◌<◌}
use native.Mathlib.Decide.{dec_lt}
use native.Mathlib.Omega.{arith}
use mathlib.Core.Path.{◌≡◌, refl, ap, sym, ◌∙◌}
use mathlib.Core.Bool.{Bool, true, false}
use mathlib.Core.List.{List}
use borrow.Author.Tests.{eq-eqb, ne_eqb, lt-ltb, le-ltb}
use lib.ListN.{length, drop, length-drop}
use lib.Seq.{take_all}
use lib.Dec.{eqb}
use Rattle.plan.specs.Test.{both}
use Rattle.fields.specs.Field.{step, field_at, step_of, bits, number}
use Rattle.plan.specs.Reader.{fills}
use Rattle.fields.proofs.Laws.Bits.{bits_length, number_bits_of, field_read, field_stop}
use Rattle.plan.proofs.reader.filled.Goals as goal
use Rattle.plan.proofs.reader.filled.Goals.{In-Some}

both_false : (a : Bool) → both a false ≡ false
both_false true = refl
both_false false = refl

both_true : (a : Bool) → both a true ≡ a
both_true true = refl
both_true false = refl

module _ (s : List ℕ) (at w v n : ℕ) (e : field_at s w at ≡ step v n) (small : w < 8) (whole : (at + w) % 8 ≡ 0) where
  -- the field ends the bytes, so its value is that of all bits from `at` on
  last_number : 8 * length s < at + 8 → number (drop at (bits s)) ≡ v
  last_number h =
      let r = field_read s w at v n e in
      let l : length (drop at (bits s)) ≤ w = omega (arith, length-drop at (bits s), bits_length s, r.1, r.2) in
      ap number (sym (take_all w (drop at (bits s)) l) ∙ r.3) ∙ number_bits_of w v r.0

  fills_is : fills s at ≡ both (eqb (n / 8) (length s)) (eqb v 0)
  unfolding fills
  fills_is =
      let r = field_read s w at v n e in
      go r.1 r.2 (dec_lt (8 * length s) (at + 8))
    where
      go : n ≡ at + w → n ≤ 8 * length s → Dec (8 * length s < at + 8) → fills s at ≡ both (eqb (n / 8) (length s)) (eqb v 0)
      go p q (yes h) = rw (lt-ltb (8 * length s) (at + 8) h, last_number h, eq-eqb (n / 8) (length s) (omega arith))
      go p q (no h) =
          rw (le-ltb (8 * length s) (at + 8) (omega arith), ne_eqb (n / 8) (length s) (λ d. omega arith))

pub returns-in_default : goal.returns-in_default
returns-in_default c =
    let a = c.args in
    let p = c.requires in
    absurd (omega (arith, p, (field_stop a.s.now ((8 - a.at % 8) % 8) a.at 1 (sym c.cut.ensures ∙ ap step_of c.in_default.is)).1))

is_filled :
    (c : In-Some) → fills c.args.s.now c.args.at ≡ both (eqb (c.in-Some.zeros.next / 8) (length c.args.s.now)) (eqb c.in-Some.zeros.value 0)
is_filled c =
    fills_is _ _ ((8 - c.args.at % 8) % 8) _ _ (sym c.cut.ensures ∙ ap step_of c.in-Some.is) (omega arith) (omega arith)

pub returns-then-zeros-eq0 : goal.returns-then-zeros-eq0
returns-then-zeros-eq0 c = rw (is_filled (goal.at.returns-then-zeros-eq0 c).In-Some, eq-eqb _ 0 c.if-zeros-eq0.true, both_true)

pub returns-else-zeros-eq0 : goal.returns-else-zeros-eq0
returns-else-zeros-eq0 c = rw (is_filled (goal.at.returns-else-zeros-eq0 c).In-Some, ne_eqb _ 0 c.if-zeros-eq0.false, both_false)
