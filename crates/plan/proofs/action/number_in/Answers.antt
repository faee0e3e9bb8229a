-- `action::number_in` meets its contract: it reads in the window what `number_at` reads in the bytes.
use Prim.Native.Nat.{ℕ, ◌+◌, ◌*◌, ◌/◌, ◌%◌, ◌^◌, ◌≤◌}
use native.Mathlib.Omega.{arith}
use mathlib.Core.Path.{sym}
use Rattle.plan.proofs.Laws.Action.{number_short, number_held, marked_below}
use Rattle.plan.proofs.action.number_in.Goals as goal
use Rattle.plan.proofs.action.number_in.Goals.{Else-w-next}

pub returns-then-w-next : goal.returns-then-w-next
returns-then-w-next c t is =
    let a = c.args in
    sym (number_short a.w t is a.at (omega arith) (omega arith))

-- the bits from bit `at` on, at the top of 32
abbrev from : (c : Else-w-next) → ℕ
from c = let a = c.args in a.w.bits * 2 ^ a.at % 2 ^ 64 % 4294967296

small : (c : Else-w-next) → (from c / 8388608 % 256 + 1) * (from c / 2147483648) ≤ 256
small c = marked_below (from c / 8388608 % 256 + 1) (from c / 2147483648) (omega arith) (omega arith)

pub overflow_mul-value : goal.overflow_mul-value
overflow_mul-value c = omega (arith, small c)

pub overflow_cast-result : goal.overflow_cast-result
overflow_cast-result c = omega (arith, small c)

pub returns : goal.returns
returns c t is =
    let a = c.args in
    sym (number_held a.w t is a.at (omega arith) (omega arith))
