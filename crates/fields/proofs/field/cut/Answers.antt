-- `fields::field::cut` meets its contract.
use Prim.Native.Nat.{◌/◌}
use native.Mathlib.Omega.{arith}
use mathlib.Core.Path.{sym, ◌∙◌}
use lib.ListN.{drop}
use Rattle.fields.proofs.Laws.Bits.{field_beyond, field_read}
use Rattle.fields.proofs.Laws.Window.{field_at_lem}
use Rattle.fields.proofs.field.cut.Goals as goal

pub returns-then-s-i : goal.returns-then-s-i
returns-then-s-i c = let a = c.args in sym (field_beyond a.s.now a.width a.at (omega arith))

pub returns-in_err-value : goal.returns-in_err-value
returns-in_err-value c =
    let a = c.args in
    let e = c.in_err-value.ensures (drop (a.at / 8) a.s.now) c.window_at.ensures in
    rw c.from_residual.ensures (sym (field_at_lem a.s.now a.width a.at (omega arith) ∙ rw (← e)))

pub returns : goal.returns
returns c =
    let a = c.args in
    let e = c.in_ok-value.ensures (drop (a.at / 8) a.s.now) c.window_at.ensures in
    sym (field_at_lem a.s.now a.width a.at (omega arith) ∙ rw (← e))

pub overflow_add-result : goal.overflow_add-result
overflow_add-result c =
    let a = c.args in
    omega (arith, (field_read a.s.now a.width a.at _ _ (sym (returns c))).1)
