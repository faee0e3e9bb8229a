-- `form::row_at` meets its contract: the bits are there, so the field is read.
use native.Mathlib.Omega.{arith}
use mathlib.Core.Path.{ap, sym, ◌∙◌}
use Rattle.fields.specs.Field.{step_of}
use Rattle.fields.proofs.Laws.Bits.{field_within, field_stop}
use Rattle.checker.proofs.Laws.RowWords.{word_bytes}
use Rattle.checker.proofs.form.row_at.Goals as goal

pub returns-then-width-eq16 : goal.returns-then-width-eq16
returns-then-width-eq16 c =
    let h = rw c.if-width-eq16.true at c.requires.2 in
    rw c.if-width-eq16.true (c.bytes_at.ensures.0 ∙ word_bytes _ _ (omega arith) (λ i. omega (arith, c.type_inv.schedule i)))

pub unreachable-requires : goal.unreachable-requires
unreachable-requires c =
    omega (arith, field_stop _ _ _ 1 (sym c.cut.ensures ∙ ap step_of c.in_default.is))

pub returns : goal.returns
returns c =
    let e = sym (ap step_of c.in-Some.is) ∙ c.cut.ensures ∙ field_within _ _ _ c.requires.2 in
    cc
