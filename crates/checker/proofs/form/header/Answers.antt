-- `form::header` meets its contract: each field that is missing and each test that fails is one way through `written_at`.
use native.Mathlib.Omega.{arith}
use mathlib.Core.Path.{ap, sym, ◌∙◌}
use Rattle.fields.specs.Field.{step_of}
use Rattle.fields.proofs.Laws.Bits.{field_read}
use Rattle.checker.proofs.Laws.Header.{no_form, no_workers, no_actions, no_zeros, HeaderRead, headed_not, headed_by}
use Rattle.checker.proofs.form.header.Goals as goal
use Rattle.checker.proofs.form.header.Goals.{In-Some-cut-3}

pub returns-in_default : goal.returns-in_default
returns-in_default c = no_form _ _ _ 1 (sym c.cut.ensures ∙ ap step_of c.in_default.is)

-- `in-Some.ensures` and the like tell which field was read
pub cut-requires-2 : goal.cut-requires-2
cut-requires-2 c =
    (omega (arith, (field_read _ 8 _ _ _ (sym c.in-Some.ensures)).1), omega arith)

pub returns-in_default-cut : goal.returns-in_default-cut
returns-in_default-cut c =
    no_workers _ _ _ _ _ (sym c.in-Some.ensures) 1 (sym c.cut-2.ensures ∙ ap step_of c.in_default-cut.is)

pub cut-requires-3 : goal.cut-requires-3
cut-requires-3 c = (
  omega (arith, (field_read _ 8 _ _ _ (sym c.in-Some.ensures)).1, (field_read _ 5 _ _ _ (sym c.in-Some-cut.ensures)).1),
  omega arith,
)

pub returns-in_default-cut-2 : goal.returns-in_default-cut-2
returns-in_default-cut-2 c =
    no_actions _ _ _ _ _ (sym c.in-Some.ensures) _ _ (sym c.in-Some-cut.ensures) 1 (sym c.cut-3.ensures ∙ ap step_of c.in_default-cut-2.is)

pub cut-requires-4 : goal.cut-requires-4
cut-requires-4 c = (
  omega (arith, (field_read _ 8 _ _ _ (sym c.in-Some.ensures)).1, (field_read _ 5 _ _ _ (sym c.in-Some-cut.ensures)).1, (field_read _ 12 _ _ _ (sym c.in-Some-cut-2.ensures)).1),
  omega arith,
)

pub returns-in_default-cut-3 : goal.returns-in_default-cut-3
returns-in_default-cut-3 c =
    no_zeros _ _ _ _ _ (sym c.in-Some.ensures) _ _ (sym c.in-Some-cut.ensures) _ _ (sym c.in-Some-cut-2.ensures) 1 (sym c.cut-4.ensures ∙ ap step_of c.in_default-cut-3.is)

-- the fields that were read
all_read : (c : In-Some-cut-3)
    → HeaderRead c.args.schedule.now c.in-Some.written.value c.in-Some-cut.workers.value c.in-Some-cut-2.number.value c.in-Some-cut-3.zeros.value
all_read c =
    record {
      form_end = c.in-Some.written.next;
      workers_end = c.in-Some-cut.workers.next;
      actions_end = c.in-Some-cut-2.number.next;
      end = c.in-Some-cut-3.zeros.next;
      form_is = sym c.in-Some.ensures;
      workers_are = sym c.in-Some-cut.ensures;
      actions_are = sym c.in-Some-cut-2.ensures;
      zeros_are = sym c.in-Some-cut-3.ensures;
    }

pub returns-then-written-form : goal.returns-then-written-form
returns-then-written-form c = headed_not _ _ _ _ _ _ _ (all_read (goal.at.returns-then-written-form c).In-Some-cut-3) (λ same some most all none. omega arith)

pub returns-then-workers-eq0 : goal.returns-then-workers-eq0
returns-then-workers-eq0 c = headed_not _ _ _ _ _ _ _ (all_read (goal.at.returns-then-workers-eq0 c).In-Some-cut-3) (λ same some most all none. omega arith)

pub returns-then-workers-gt16 : goal.returns-then-workers-gt16
returns-then-workers-gt16 c = headed_not _ _ _ _ _ _ _ (all_read (goal.at.returns-then-workers-gt16 c).In-Some-cut-3) (λ same some most all none. omega arith)

pub returns-then-count-actions : goal.returns-then-count-actions
returns-then-count-actions c = headed_not _ _ _ _ _ _ _ (all_read (goal.at.returns-then-count-actions c).In-Some-cut-3) (λ same some most all none. omega arith)

pub returns-then-zeros-ne0 : goal.returns-then-zeros-ne0
returns-then-zeros-ne0 c = headed_not _ _ _ _ _ _ _ (all_read (goal.at.returns-then-zeros-ne0 c).In-Some-cut-3) (λ same some most all none. omega arith)

pub returns : goal.returns
returns c =
    headed_by _ _ _ _ _ _ _ (all_read (goal.at.returns c).In-Some-cut-3) (omega arith) (omega arith) (omega arith) (omega arith) (omega arith)
