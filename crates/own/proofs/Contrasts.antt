-- Worked examples of document 02, L6.
--   E-in_form_2 == E of document 01 in form 2, with all costs 1
use Prim.Native.Nat.{ℕ}
use mathlib.Core.Path.{◌≡◌, refl}
use mathlib.Core.List.{List, [], ◌∷◌}
use lib.ListN.{replicate}
use Rattle.plan.specs.Refusal.{refused, accepted}
use Rattle.plan.specs.Plan.{spawn_at, entering}
use Rattle.plan_forms.specs.Forms.{to_form2, to_form1}
use Rattle.runs.specs.Cases.{E, E2}

abbrev E-in_form_2 : List ℕ
E-in_form_2 =
    0x02 ∷ 0x01 ∷ 0x80 ∷ 0x02 ∷ 0x02 ∷ 0xC0 ∷ 0x42 ∷ 0x0C ∷ 0x08 ∷ 0x20 ∷ 0x82 ∷ 0x00 ∷ 0x06 ∷ 0x04 ∷ 0x0A ∷ 0x08 ∷ 0x20 ∷ 0x00
    ∷ 0x40 ∷ 0x28 ∷ 0x20 ∷ 0x80 ∷ []

E-turned : to_form2 E (replicate 22 0) ≡ record { answer = accepted 22; buffer = E-in_form_2 }
unfolding to_form2 E spawn_at entering
E-turned = refl

E-turned_back : to_form1 E-in_form_2 (replicate 18 0) ≡ record { answer = accepted 18; buffer = E }
unfolding to_form1 E spawn_at entering
E-turned_back = refl

-- its costs are not all 1
E2-not_turned : to_form1 E2 [] ≡ record { answer = refused 15; buffer = [] }
unfolding to_form1 E2 spawn_at entering
E2-not_turned = refl
