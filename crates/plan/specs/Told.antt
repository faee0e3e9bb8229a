-- What the answer of a test tells.
--   Told r A B == A holds where the answer r is yes, and B where it is no
use Rattle.std.specs.Prelude.{Bool, T}

pub record Told (r : Bool) (A B : Type 0) : Type 0 where
  pub kept : T r → A
  pub broken : (T r → ⊥) → B
