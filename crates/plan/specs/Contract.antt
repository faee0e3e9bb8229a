-- Contracts over lent arrays that stand for something. What they stand for is not passed: a function is given that there is such a
-- thing, and promises of each such thing.
--   Some A   == there is a value of which A holds
--   A ⇒ B    == B holds of every value of which A does
abbrev pub Some : {X : Type 0} → (X → Type 0) → Type 0
Some {X} A = (x : X) × A x

infixr 1 ◌⇒◌
abbrev pub ◌⇒◌ : {X : Type 0} → (X → Type 0) → (X → Type 0) → Type 0
◌⇒◌ {X} A B = (x : X) → A x → B x
