-- `reader::read_header` meets its contract: each way through it is one way through `header_at`.
use Prim.Native.Nat.{ℕ, ◌+◌, ◌≤◌, ◌<◌}
use native.Mathlib.Omega.{arith}
use mathlib.Core.Path.{◌≡◌, sym, ◌∙◌}
use mathlib.Core.Bool.{true, false}
use mathlib.Core.List.{List}
use borrow.Author.Tests.{ne_eqb, lt-ltb, le-ltb}
use lib.Dec.{eqb, ltb}
use Rattle.plan.specs.Test.{either}
use Rattle.fields.specs.Field.{Step, stop, step, then, field_at}
use Rattle.plan.specs.Progress.{Head, header_at}
use Rattle.fields.proofs.Laws.Bits.{field_read}
use Rattle.plan.proofs.Laws.Steps.{either_right}
use Rattle.plan.proofs.reader.read_header.Goals as goal
use Rattle.plan.proofs.reader.read_header.Goals.{Else-weight-eq0}

module _ (s : List ℕ) (k weight m : ℕ) where
  -- what is left to do once the weight is read
  abbrev size_at : Step Head
  size_at =
      then (field_at s 8 m) (λ size at. elim (either (eqb size 0) (ltb 2048 (k + size))) [ true ↦ stop 3 | false ↦ step (record { weight = weight; size = size }) at ])

  heavy : (at : ℕ) → field_at s 16 at ≡ step weight m → (weight ≡ 0 → ⊥) → header_at s k at ≡ size_at
  unfolding header_at
  heavy at e h = rw (e, ne_eqb weight 0 h, then)

  module _ (size n : ℕ) (e : field_at s 8 m ≡ step size n) where
    over : 2048 < k + size → size_at ≡ stop 3
    over h =
        let f : either (eqb size 0) (ltb 2048 (k + size)) ≡ true = rw lt-ltb (either_right (eqb size 0)) in
        rw (e, f, then)

    within : (size ≡ 0 → ⊥) → k + size ≤ 2048 → size_at ≡ step (record { weight = weight; size = size }) n
    within g h =
        let f : either (eqb size 0) (ltb 2048 (k + size)) ≡ false = rw (ne_eqb size 0 g, le-ltb 2048 (k + size) h) in
        rw (e, f, then)

pub returns-in_default : goal.returns-in_default
unfolding header_at
returns-in_default c = rw (← c.cut.ensures, c.in_default.is)

pub returns-then-weight-eq0 : goal.returns-then-weight-eq0
unfolding header_at
returns-then-weight-eq0 c = rw (← c.cut.ensures, c.in-Some.is, c.if-weight-eq0.true)

pub cut-requires-2 : goal.cut-requires-2
cut-requires-2 c =
    let p = c.requires in
    (omega (arith, (field_read _ 16 _ _ _ (sym c.in-Some.ensures)).1, p.0), omega arith)

-- the way on after a weight that is not 0
went_on :
    (c : Else-weight-eq0) → header_at c.args.s.now c.args.earlier c.args.at ≡ size_at c.args.s.now c.args.earlier c.in-Some.weight.value c.in-Some.weight.next
went_on c = heavy _ _ _ _ _ (sym c.in-Some.ensures) c.if-weight-eq0.false

pub returns-in_default-cut : goal.returns-in_default-cut
returns-in_default-cut c = rw (went_on (goal.at.returns-in_default-cut c).Else-weight-eq0, ← c.cut-2.ensures, c.in_default-cut.is)

pub returns-then-size-eq0 : goal.returns-then-size-eq0
returns-then-size-eq0 c =
    rw (went_on (goal.at.returns-then-size-eq0 c).Else-weight-eq0, ← c.cut-2.ensures, c.in-Some-cut.is, c.if-size-eq0.true)

pub returns-then-earlier-size-gt2048 : goal.returns-then-earlier-size-gt2048
returns-then-earlier-size-gt2048 c =
    went_on (goal.at.returns-then-earlier-size-gt2048 c).Else-weight-eq0 ∙ over _ _ _ _ _ _ (sym c.in-Some-cut.ensures) c.if-earlier-size-gt2048.true

pub overflow_cast-weight : goal.overflow_cast-weight
overflow_cast-weight c = omega (arith, (field_read _ 16 _ _ _ (sym c.in-Some.ensures)).0)

pub returns : goal.returns
returns c = (
  _,
  went_on (goal.at.returns c).Else-weight-eq0 ∙ within _ _ _ _ _ _ (sym c.in-Some-cut.ensures) c.if-size-eq0.false c.if-earlier-size-gt2048.false,
  c.set_frame.ensures,
)
