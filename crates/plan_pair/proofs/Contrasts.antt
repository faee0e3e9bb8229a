-- Numbers that tell the rules of document 02, L9, from errors close to them: with the error, the fact does not hold.
--   One == one job with frame 1 and one action; E, F, E2 == the plans of docs/RULES.md, "Cases"
use Prim.Native.Nat.{ℕ}
use mathlib.Core.Path.{◌≡◌, refl}
use mathlib.Core.List.{List, [], ◌∷◌}
use lib.ListN.{replicate}
use Rattle.plan.specs.Refusal.{refused, accepted}
use Rattle.plan.specs.Plan.{entering, spawn_at}
use Rattle.plan_pair.specs.Pair.{pair_into}

abbrev One : List ℕ
One = 0x01 ∷ 0x00 ∷ 0x80 ∷ 0x00 ∷ 0x80 ∷ 0x80 ∷ []

abbrev E : List ℕ
E = 0x01 ∷ 0x01 ∷ 0x80 ∷ 0x02 ∷ 0x02 ∷ 0xC0 ∷ 0x44 ∷ 0x08 ∷ 0x00 ∷ 0x00 ∷ 0x60 ∷ 0x42 ∷ 0x08 ∷ 0x00 ∷ 0x04 ∷ 0x02 ∷ 0x82
    ∷ 0x00 ∷ []

abbrev F : List ℕ
F = 0x01 ∷ 0x01 ∷ 0x00 ∷ 0x00 ∷ 0x81 ∷ 0xC0 ∷ 0x40 ∷ 0x00 ∷ 0x02 ∷ 0x08 ∷ 0x02 ∷ 0x04 ∷ []

abbrev E2 : List ℕ
E2 =
    0x02 ∷ 0x01 ∷ 0x80 ∷ 0x02 ∷ 0x02 ∷ 0xC0 ∷ 0x44 ∷ 0x0C ∷ 0x08 ∷ 0x60 ∷ 0x84 ∷ 0x00 ∷ 0x06 ∷ 0x04 ∷ 0x22 ∷ 0x08 ∷ 0x20 ∷ 0x00 ∷ 0x40 ∷ 0x28
    ∷ 0x22 ∷ 0x80 ∷ []

One-One : pair_into 1 One One (replicate 18 7) ≡ record {
  answer = accepted 17;
  buffer = 0x01 ∷ 0x01 ∷ 0x80 ∷ 0x00 ∷ 0x82 ∷ 0xC0 ∷ 0x44 ∷ 0x08 ∷ 0x00 ∷ 0x00 ∷ 0x20 ∷ 0x28 ∷ 0x20 ∷ 0x00 ∷ 0x08 ∷ 0x0A ∷ 0x08 ∷ 7 ∷ [];
}
unfolding pair_into entering
One-One = refl

-- the second plan's numbers rise by 2, its root's join goes to position 4, and the result is of form 2
One-E2 : pair_into 3 One E2 (replicate 36 7) ≡ record {
  answer = accepted 36;
  buffer = 0x02 ∷ 0x02 ∷ 0x80 ∷ 0x01 ∷ 0x82 ∷ 0xC0 ∷ 0x42 ∷ 0x0C ∷ 0x08 ∷ 0x20 ∷ 0x82 ∷ 0x00 ∷ 0x02 ∷ 0x02 ∷ 0x82 ∷ 0x08 ∷ 0x00 ∷ 0x20
      ∷ 0x2C ∷ 0x0C ∷ 0x40 ∷ 0xC1 ∷ 0x06 ∷ 0x0A ∷ 0x08 ∷ 0x40 ∷ 0x00 ∷ 0x60 ∷ 0x42 ∷ 0x20 ∷ 0x82 ∷ 0x00 ∷ 0x04 ∷ 0x02 ∷ 0x82 ∷ 0x28 ∷ [];
}
unfolding pair_into entering spawn_at
One-E2 = refl

-- with each plan's own children
E-F : pair_into 2 E F (replicate 36 7) ≡ record {
  answer = accepted 36;
  buffer = 0x01 ∷ 0x03 ∷ 0x00 ∷ 0x01 ∷ 0x02 ∷ 0xC0 ∷ 0x44 ∷ 0x10 ∷ 0x00 ∷ 0x00 ∷ 0x80 ∷ 0xB0 ∷ 0x21 ∷ 0x03 ∷ 0x08 ∷ 0x20 ∷ 0x00
      ∷ 0x18 ∷ 0x10 ∷ 0x82 ∷ 0x00 ∷ 0x01 ∷ 0x00 ∷ 0xA0 ∷ 0x80 ∷ 0x00 ∷ 0x20 ∷ 0x70 ∷ 0x50 ∷ 0x82 ∷ 0x00 ∷ 0x00 ∷ 0x82 ∷ 0x00
      ∷ 0x81 ∷ 0x00 ∷ [];
}
unfolding pair_into entering spawn_at
E-F = refl

-- the first plan's number, then the second's, then 17, then 9
first_before_second : pair_into 0 (0x03 ∷ []) [] [] ≡ record { answer = refused 2; buffer = [] }
unfolding pair_into
first_before_second = refl

second_before_limits : pair_into 0 One [] [] ≡ record { answer = refused 1; buffer = [] }
unfolding pair_into entering
second_before_limits = refl

limits_before_room : pair_into 0 One One [] ≡ record { answer = refused 17; buffer = [] }
unfolding pair_into entering
limits_before_room = refl

frame_most : pair_into 65536 One One [] ≡ record { answer = refused 17; buffer = [] }
unfolding pair_into entering
frame_most = refl

room_last : pair_into 65535 One One [] ≡ record { answer = refused 9; buffer = [] }
unfolding pair_into entering
room_last = refl
