-- What the steps of the field reader and of the field writer do. No public entry cites this.
--   window_of t    == the first 32 bits of the bytes t, zero past their end
--   Windowed w t  == w is the window that the bytes t begin with
--   Loose out k   == k is a sink that holds up to 31 bits, for which the buffer out has room
use Rattle.std.specs.Prelude.{ℕ, ◌+◌, ◌*◌, ◌-◌, ◌^◌, ◌≤◌, ◌<◌, min, ◌≡◌, List, ◌++◌, length, take, drop, replicate}
use Rattle.fields.specs.declared.field.Window.{Window}
use Rattle.fields.specs.declared.field.Sink.{Sink}
use Rattle.fields.specs.Field.{bits_of, bits, number}

unfoldable pub window_of : List ℕ → List ℕ
window_of t = take 32 (bits t ++ replicate 32 0)

pub record Windowed (w : Window) (t : List ℕ) : Type 0 where
  pub front : w.bits ≡ number (window_of t)
  pub there : w.held ≡ min 32 (8 * length t)

pub record Loose (out : List ℕ) (k : Sink) : Type 0 where
  pub few : k.bits < 32
  pub room : 8 * k.bytes + k.bits ≤ 8 * length out
  pub small : k.held < 2 ^ 32
  pub behind : drop k.bits (bits_of 32 k.held) ≡ replicate (32 - k.bits) 0
