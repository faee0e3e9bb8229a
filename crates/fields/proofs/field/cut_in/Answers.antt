-- `fields::field::cut_in` meets its contract.
use native.Mathlib.Nat.{lt_of_le_of_lt}
use native.Mathlib.Omega.{arith}
use mathlib.Core.Path.{sym}
use lib.Pow.{shr_le}
use Rattle.fields.proofs.Laws.Window.{window_field, window_short}
use Rattle.fields.proofs.field.cut_in.Goals as goal

pub returns-then-w-next : goal.returns-then-w-next
returns-then-w-next c t is = let a = c.args in sym (window_short a.w t is a.at a.width (omega arith) (omega arith))

pub overflow_cast-result : goal.overflow_cast-result
overflow_cast-result c = record { fits = lt_of_le_of_lt (shr_le _ _) (omega arith) }

pub returns : goal.returns
returns c t is =
    let a = c.args in
    sym (window_field a.w t is a.at a.width (omega arith) (omega arith))
