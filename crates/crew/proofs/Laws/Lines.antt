-- The lines of sixteen victims.
--   line_first_zero == where nobody stands every line is empty
--   line_beside     == where every other victim has what it had its line stays
use Prim.Native.Nat.{ℕ, ◌<◌}
use mathlib.Core.Path.{refl}
use mathlib.Core.Logic.{◌≢◌}
use mathlib.Core.List.{List, []}
use native.Mathlib.Omega.{arith}
use lib.ListN.{get_or-replicate}
use Rattle.crew.specs.declared.line.Lines.{Lines}
use Rattle.crew.specs.Line.{pack, Lined, LineAt, Beside, no_lines}

lined_none : Lined 0 0 []
unfolding pack
lined_none = record { long = omega arith; count = refl; packed = refl; small = omega arith }

pub line_first_zero : (v : ℕ) → v < 16 → LineAt v no_lines []
line_first_zero v h = record {
  known = h;
  lined = rw (get_or-replicate {A = ℕ} 16 v 0 0 h) lined_none;
}

pub line_beside : {u v : ℕ} {lines lines' : Lines} {q : List ℕ} → LineAt u lines q → Beside v lines lines' → u ≢ v → LineAt u lines' q
line_beside {u} a b f = record { known = a.known; lined = rw (b.others u f, b.lens u f) a.lined }
