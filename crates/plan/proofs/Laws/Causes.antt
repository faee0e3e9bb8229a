-- Which numbers plan bytes are refused with.
--   Low m      == a step that stops does so with a number from 1 to 6
--   read_low   == plan bytes are refused with no other number
use Prim.Native.Nat.{ℕ, zero, suc, ◌+◌, ◌*◌, ◌≤◌}
use mathlib.Core.Path.{◌≡◌, refl}
use mathlib.Core.Bool.{Bool, true, false}
use mathlib.Core.List.{List}
use native.Mathlib.Omega.{arith}
use lib.ListN.{length}
use lib.Dec.{eqb, leb, ltb}
use Rattle.fields.specs.Field.{Step, stop, step, then, field_at}
use Rattle.plan.specs.Test.{either}
use Rattle.plan.specs.Refusal.{Outcome, refused, accepted}
use Rattle.plan.specs.Rules.{spawn_rules, join_rules}
use Rattle.plan.specs.Reader.{Read, is_form, number_at, cost_in, action_at, actions_at, jobs_at, plan_at, fills, judged, read_plan}

abbrev Low : {A : Type 0} → Step A → Type 0
Low m = (n : ℕ) → m ≡ stop n → (1 ≤ n) × (n ≤ 6)

module _ {A : Type 0} where
  stops : (k : ℕ) → 1 ≤ k → k ≤ 6 → Low {A = A} (stop k)
  stops k l h n e = let q : k ≡ n = cc in (omega arith, omega arith)

  steps : (a : A) (at : ℕ) → Low (step a at)
  steps a at n e = absurd (let z : ◌≡◌ {A = ℕ} 0 1 = cc in omega arith)

  -- either way of a test
  tests : (b : Bool) (x y : Step A) → Low x → Low y → Low (elim b [ true ↦ x | false ↦ y ])
  tests true x y l h = l
  tests false x y l h = h

then_low : {A B : Type 0} (m : Step A) (f : A → ℕ → Step B) → Low m → ((a : A) (at : ℕ) → Low (f a at)) → Low (then m f)
then_low (stop k) f l g n e = l n (let q : k ≡ n = cc in rw q)
then_low (step a at) f l g n e = g a at n e

field_low : (s : List ℕ) (w at : ℕ) → Low (field_at s w at)
unfolding field_at
field_low s w at = tests (leb (at + w) (8 * length s)) _ _ (steps _ _) (stops 1 (omega arith) (omega arith))

number_low : (s : List ℕ) (at : ℕ) → Low (number_at s at)
unfolding number_at
number_low s at = then_low (field_at s 1 at) _ (field_low s 1 at) go
  where
    go : (there at : ℕ) → Low {A = ℕ} (elim there [ zero ↦ step 0 at | suc one ↦ then (field_at s 8 at) (λ v at. step (suc v) at) ])
    go zero at = steps _ _
    go (suc one) at = then_low (field_at s 8 at) _ (field_low s 8 at) (λ v at. steps _ _)

module _ (form : ℕ) (s : List ℕ) where
  cost_low : (at : ℕ) → Low (cost_in form s at)
  unfolding cost_in
  cost_low at = tests (eqb form 1) _ _ (steps _ _)
      (then_low (field_at s 4 at) _ (field_low s 4 at) (λ cost at. tests (eqb cost 0) _ _ (stops 3 (omega arith) (omega arith)) (steps _ _)))

  action_low : (at : ℕ) → Low (action_at form s at)
  unfolding action_at
  action_low at =
      then_low (number_at s at) _ (number_low s at) (λ spawn at.
      then_low (number_at s at) _ (number_low s at) (λ join at.
      then_low (cost_in form s at) _ (cost_low at) (λ cost at. steps _ _)))

  actions_low : (n at : ℕ) → Low (actions_at form s n at)
  unfolding actions_at
  actions_low zero at = steps _ _
  actions_low (suc n) at =
      then_low (action_at form s at) _ (action_low at) (λ a at. then_low (actions_at form s n at) _ (actions_low n at) (λ rest at. steps _ _))

  jobs_low : (n k at : ℕ) → Low (jobs_at form s n k at)
  unfolding jobs_at
  jobs_low zero k at = steps _ _
  jobs_low (suc n) k at =
      then_low (field_at s 16 at) _ (field_low s 16 at) (λ frame at.
      tests (eqb frame 0) _ _ (stops 3 (omega arith) (omega arith)) (then_low (field_at s 8 at) _ (field_low s 8 at) (λ size at.
      tests (either (eqb size 0) (ltb 2048 (k + size))) _ _ (stops 3 (omega arith) (omega arith)) (
      then_low (actions_at form s size at) _ (actions_low size at) (λ actions at.
      then_low (jobs_at form s n (k + size) at) _ (jobs_low n (k + size) at) (λ bs at. steps _ _))))))

plan_low : (s : List ℕ) → Low (plan_at s)
unfolding plan_at
plan_low s =
    then_low (field_at s 8 0) _ (field_low s 8 0) (λ form at.
    tests (is_form form) _ _ (then_low (field_at s 9 at) _ (field_low s 9 at) (λ jobs at.
    tests (either (eqb jobs 0) (ltb 256 jobs)) _ _ (stops 3 (omega arith) (omega arith)) (
    then_low (jobs_at form s jobs 0 at) _ (jobs_low form s jobs 0 at) (λ p at. steps _ _))))
    (stops 2 (omega arith) (omega arith)))

pub read_low : (s : List ℕ) (k : ℕ) → read_plan s ≡ refused k → (1 ≤ k) × (k ≤ 6)
unfolding read_plan
read_low s k e = go (plan_at s) (plan_low s) e
  where
    is : (a b : ℕ) → ◌≡◌ {A = Outcome Read} (refused a) (refused b) → a ≡ b
    is a b e = cc

    over : (a b : Bool) (c : Bool) (r : Read)
        → ◌≡◌ {A = Outcome Read} (elim a [ false ↦ refused 6 | true ↦ elim b [ false ↦ refused 4 | true ↦ elim c [ false ↦ refused 5 | true ↦ accepted r ] ] ]) (refused k)
        → (1 ≤ k) × (k ≤ 6)
    over false b c r e = let q = is 6 k e in (omega arith, omega arith)
    over true false c r e = let q = is 4 k e in (omega arith, omega arith)
    over true true false r e = let q = is 5 k e in (omega arith, omega arith)
    over true true true r e = absurd (let z : ◌≡◌ {A = ℕ} 0 1 = cc in omega arith)

    go : (m : Step Read) → Low m → judged s m ≡ refused k → (1 ≤ k) × (k ≤ 6)
    go (stop n) l e = let q = is n k e in rw (← q) (l n refl)
    go (step r at) l e = over (fills s at) (spawn_rules r.plan) (join_rules r.plan) r e
