-- `fields::field::window_at` meets its contract: its four bytes, with zeros for those behind the end, are those of the window.
use mathlib.Core.Path.{refl, ◌∙◌}
use native.Mathlib.Omega.{arith}
use Rattle.std.specs.Prelude.{ℕ, ◌<◌, get_or}
use Rattle.fields.proofs.Laws.Window.{bytes_window}
use Rattle.fields.proofs.field.window_at.Goals as goal

pub returns-then-i-s : goal.returns-then-i-s
returns-then-i-s c =
    let a = c.args in
    let byte : (i : ℕ) → get_or a.s.now i 0 < 256 = λ i. omega (arith, c.type_inv.s i) in
    bytes_window a.s.now a.i _ _ _ _ _ _ (refl, byte _) (refl, byte _) (refl, byte _) (refl, byte _) (c.from.ensures ∙ c.from_be_bytes.ensures) (omega arith)

pub returns : goal.returns
returns c =
    let a = c.args in
    bytes_window a.s.now a.i _ _ _ _ _ _ (c.byte_or_0.ensures, omega arith) (c.byte_or_0-2.ensures, omega arith) (c.byte_or_0-3.ensures, omega arith)
    (c.byte_or_0-4.ensures, omega arith) (c.from-2.ensures ∙ c.from_be_bytes-2.ensures) (c.bits_left.ensures ∙ omega arith)
