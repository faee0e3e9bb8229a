-- Numbers that tell the rules of document 02, L6, from errors close to them: with the error, the fact does not hold.
--   One, One-2 == one job with frame 1 and one action, in form 1 and in form 2; One-of_2 == the same with cost 2
use Prim.Native.Nat.{ℕ}
use mathlib.Core.Path.{◌≡◌, refl}
use mathlib.Core.List.{List, [], ◌∷◌}
use lib.ListN.{replicate}
use Rattle.plan.specs.Refusal.{refused, accepted}
use Rattle.plan.specs.Plan.{entering}
use Rattle.plan_forms.specs.Forms.{to_form2, to_form1}

abbrev One : List ℕ
One = 0x01 ∷ 0x00 ∷ 0x80 ∷ 0x00 ∷ 0x80 ∷ 0x80 ∷ []

abbrev One-2 : List ℕ
One-2 = 0x02 ∷ 0x00 ∷ 0x80 ∷ 0x00 ∷ 0x80 ∷ 0x82 ∷ []

abbrev One-of_2 : List ℕ
One-of_2 = 0x02 ∷ 0x00 ∷ 0x80 ∷ 0x00 ∷ 0x80 ∷ 0x84 ∷ []

into_form_2 : to_form2 One (replicate 6 7) ≡ record { answer = accepted 6; buffer = One-2 }
unfolding to_form2 entering
into_form_2 = refl

into_form_1 : to_form1 One-2 (replicate 6 7) ≡ record { answer = accepted 6; buffer = One }
unfolding to_form1 entering
into_form_1 = refl

-- 15, and where there is no room for the plan either
cost_before_room : to_form1 One-of_2 [] ≡ record { answer = refused 15; buffer = [] }
unfolding to_form1 entering
cost_before_room = refl

-- a form that is not expected is told before what follows it is read, and after that there is a form
form_expected : to_form2 (0x02 ∷ []) [] ≡ record { answer = refused 2; buffer = [] }
unfolding to_form2
form_expected = refl

form_there : to_form2 [] [] ≡ record { answer = refused 1; buffer = [] }
unfolding to_form2
form_there = refl
