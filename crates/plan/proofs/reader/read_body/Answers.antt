-- `reader::read_body` meets its contract: each way through it is one way through `plan_at`.
use Prim.Native.Nat.{ℕ, ◌≤◌, ◌<◌}
use native.Mathlib.Omega.{arith}
use mathlib.Core.Path.{◌≡◌, sym, ◌∙◌}
use mathlib.Core.Bool.{true, false}
use mathlib.Core.List.{List}
use borrow.Author.Tests.{ne_eqb, lt-ltb, le-ltb}
use lib.Dec.{eqb, ltb}
use Rattle.plan.specs.Test.{either}
use Rattle.fields.specs.Field.{Step, stop, step, then, field_at}
use Rattle.plan.specs.Reader.{jobs_at, Read, plan_at, is_form}
use Rattle.plan.specs.Progress.{formed}
use Rattle.fields.proofs.Laws.Bits.{field_read}
use Rattle.plan.proofs.Laws.Steps.{either_right}
use Rattle.plan.proofs.reader.read_body.Goals as goal
use Rattle.plan.proofs.reader.read_body.Goals.{Else-not-is_form}

module _ (s : List ℕ) where
  wrong_form : (form m : ℕ) → field_at s 8 0 ≡ step form m → is_form form ≡ false → plan_at s ≡ stop 2
  unfolding plan_at
  wrong_form form m e h = rw (e, h, then)

  -- what is left to do once the form is read
  abbrev count_at : ℕ → ℕ → Step Read
  count_at form m =
      then (field_at s 9 m) (λ jobs at. elim (either (eqb jobs 0) (ltb 256 jobs)) [ true ↦ stop 3 | false ↦ formed form (jobs_at form s jobs 0 at) ])

  right_form : (form m : ℕ) → field_at s 8 0 ≡ step form m → is_form form ≡ true → plan_at s ≡ count_at form m
  unfolding plan_at
  right_form form m e h = rw (e, h, then)

  module _ (form m jobs n : ℕ) (e : field_at s 9 m ≡ step jobs n) where
    over : 256 < jobs → count_at form m ≡ stop 3
    over h =
        let f : either (eqb jobs 0) (ltb 256 jobs) ≡ true = rw lt-ltb (either_right (eqb jobs 0)) in
        rw (e, f, then)

    within : (jobs ≡ 0 → ⊥) → jobs ≤ 256 → count_at form m ≡ formed form (jobs_at form s jobs 0 n)
    within g h =
        let f : either (eqb jobs 0) (ltb 256 jobs) ≡ false = rw (ne_eqb jobs 0 g, le-ltb 256 jobs h) in
        rw (e, f, then)

pub returns-in_default : goal.returns-in_default
unfolding plan_at
returns-in_default c = rw (← c.cut.ensures, c.in_default.is)

pub returns-then-not-is_form : goal.returns-then-not-is_form
returns-then-not-is_form c =
    wrong_form _ _ _ (sym c.in-Some.ensures) (sym c.is_form.ensures ∙ c.if-not-is_form.true)

pub cut-requires-2 : goal.cut-requires-2
cut-requires-2 c =
    (omega (arith, (field_read _ 8 _ _ _ (sym c.in-Some.ensures)).1), omega arith)

-- the way on after a form that is 1
went_on :
    (c : Else-not-is_form) → let s = c.args.s.now in
    plan_at s ≡ count_at s c.in-Some.form.value c.in-Some.form.next
went_on c =
    right_form _ _ _ (sym c.in-Some.ensures) (sym c.is_form.ensures ∙ c.if-not-is_form.false)

pub returns-in_default-cut : goal.returns-in_default-cut
returns-in_default-cut c = rw (went_on (goal.at.returns-in_default-cut c).Else-not-is_form, ← c.cut-2.ensures, c.in_default-cut.is)

pub returns-then-jobs-eq0 : goal.returns-then-jobs-eq0
returns-then-jobs-eq0 c =
    rw (went_on (goal.at.returns-then-jobs-eq0 c).Else-not-is_form, ← c.cut-2.ensures, c.in-Some-cut.is, c.if-jobs-eq0.true)

pub returns-then-jobs-gt256 : goal.returns-then-jobs-gt256
returns-then-jobs-gt256 c =
    went_on (goal.at.returns-then-jobs-gt256 c).Else-not-is_form ∙ over _ _ _ _ _ (sym c.in-Some-cut.ensures) c.if-jobs-gt256.true

pub read_jobs-requires : goal.read_jobs-requires
read_jobs-requires c =
    (omega (arith, (field_read _ 9 _ _ _ (sym c.in-Some-cut.ensures)).1, (field_read _ 8 _ _ _ (sym c.in-Some.ensures)).1), c.if-jobs-gt256.false)

pub returns : goal.returns
returns c =
    rw (went_on (goal.at.returns c).Else-not-is_form ∙ within _ _ _ _ _ (sym c.in-Some-cut.ensures) c.if-jobs-eq0.false c.if-jobs-gt256.false) c.read_jobs.ensures
