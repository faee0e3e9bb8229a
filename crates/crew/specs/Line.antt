-- Lines of workers, one for each of sixteen victims: each a number that has four binary digits for a worker, the first one lowest, and how
-- many workers stand in it. Functions that are no entries cite this file.
--   pack q            == the number of the line q
--   Small q           == every worker of the line is below 16
--   without q i       == the line without its worker at place i
--   Lined line len q  == the two numbers hold the line q
--   line_at, waiting_at == the two numbers of victim v
--   no_lines          == nobody stands in any line
--   LineAt v lines q  == the lines have the line q at victim v
--   Beside v l l'     == the lines l' have what l has of every other victim
--   LiningUp, LinedUp == worker w is about to go behind the line at victim v; it has gone there
--   Leaving, Gone     == the worker at place i of the line at victim v is about to leave it; it is w, and has left
use Rattle.std.specs.Prelude.{ℕ, suc, ◌+◌, ◌*◌, ◌≤◌, ◌<◌, ◌≡◌, ◌≢◌, List, [], ◌∷◌, ◌++◌, length, get_or, take, drop, replicate}
use Rattle.crew.specs.declared.line.Lines.{Lines}

unfoldable pub pack : List ℕ → ℕ
pack [] = 0
pack (w ∷ q) = pack q * 16 + w

abbrev pub Small : List ℕ → Type 0
Small [] = 0 < 1
Small (w ∷ q) = (w < 16) × Small q

abbrev pub without : List ℕ → ℕ → List ℕ
without q i = take i q ++ drop (suc i) q

pub record Lined (line len : ℕ) (q : List ℕ) : Type 0 where
  pub long : len ≤ 16
  pub count : length q ≡ len
  pub packed : line ≡ pack q
  pub small : Small q

abbrev pub line_at : Lines → ℕ → ℕ
line_at lines v = get_or lines.lines v 0

abbrev pub waiting_at : Lines → ℕ → ℕ
waiting_at lines v = get_or lines.counts v 0

abbrev pub no_lines : Lines
no_lines = record { lines = replicate 16 0; counts = replicate 16 0 }

pub record LineAt (v : ℕ) (lines : Lines) (q : List ℕ) : Type 0 where
  pub known : v < 16
  pub lined : Lined (line_at lines v) (waiting_at lines v) q

pub record Beside (v : ℕ) (lines lines' : Lines) : Type 0 where
  pub others : (u : ℕ) → u ≢ v → line_at lines' u ≡ line_at lines u
  pub lens : (u : ℕ) → u ≢ v → waiting_at lines' u ≡ waiting_at lines u

pub record LiningUp (v w : ℕ) (lines : Lines) (q : List ℕ) : Type 0 where
  pub line : LineAt v lines q
  pub room : length q < 16
  pub known : w < 16

abbrev pub LinedUp : ℕ → ℕ → Lines → List ℕ → Type 0
LinedUp v w lines q = LineAt v lines (q ++ (w ∷ []))

pub record Leaving (v i : ℕ) (lines : Lines) (q : List ℕ) : Type 0 where
  pub line : LineAt v lines q
  pub there : i < length q

pub record Gone (v i w : ℕ) (lines : Lines) (q : List ℕ) : Type 0 where
  pub who : w ≡ get_or q i 0
  pub known : w < 16
  pub line : LineAt v lines (without q i)
