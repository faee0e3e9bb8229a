-- Steps of a reading that goes on: what was read first, what was tested, and what was read then.
--   then_went_on, unless_went_on, when_went_on == from a reading that went on, what its first step gave and its test told
--   then_goes_on, unless_goes_on, when_goes_on == and the other way
use Prim.Native.Nat.{ℕ}
use native.Mathlib.Omega.{arith}
use mathlib.Core.Path.{◌≡◌, refl, ap, ◌∙◌}
use mathlib.Core.Bool.{Bool, true, false}
use Rattle.fields.specs.Field.{Step, stop, step, then}

stopped : {B P : Type 0} {k : ℕ} {b : B} {n : ℕ} → ◌≡◌ {A = Step B} (stop k) (step b n) → P
stopped e = absurd (let z : ◌≡◌ {A = ℕ} 0 1 = cc in omega arith)

pub then_went_on : {A B P : Type 0} {b : B} {n : ℕ} (m : Step A) (f : A → ℕ → Step B) → then m f ≡ step b n
    → ((a : A) (at : ℕ) → m ≡ step a at → f a at ≡ step b n → P) → P
then_went_on (stop k) f e use-it = stopped e
then_went_on (step a at) f e use-it = use-it a at refl e

pub unless_went_on : {B P : Type 0} {b : B} {n : ℕ} (c : Bool) (k : ℕ) (m : Step B)
    → ◌≡◌ {A = Step B} (elim c [ true ↦ stop k | false ↦ m ]) (step b n) → (c ≡ false → m ≡ step b n → P) → P
unless_went_on true k m e use-it = stopped e
unless_went_on false k m e use-it = use-it refl e

pub when_went_on : {B P : Type 0} {b : B} {n : ℕ} (c : Bool) (k : ℕ) (m : Step B)
    → ◌≡◌ {A = Step B} (elim c [ false ↦ stop k | true ↦ m ]) (step b n) → (c ≡ true → m ≡ step b n → P) → P
when_went_on true k m e use-it = use-it refl e
when_went_on false k m e use-it = stopped e

pub then_goes_on : {A B : Type 0} {a : A} {n : ℕ} {r : Step B} (m : Step A) (f : A → ℕ → Step B) → m ≡ step a n → f a n ≡ r → then m f ≡ r
then_goes_on m f e g = ap (λ x. then x f) e ∙ g

pub unless_goes_on : {B : Type 0} {r : Step B} (c : Bool) (k : ℕ) (m : Step B) → c ≡ false → m ≡ r
    → ◌≡◌ {A = Step B} (elim c [ true ↦ stop k | false ↦ m ]) r
unless_goes_on c k m e g = rw e g

pub when_goes_on : {B : Type 0} {r : Step B} (c : Bool) (k : ℕ) (m : Step B) → c ≡ true → m ≡ r
    → ◌≡◌ {A = Step B} (elim c [ false ↦ stop k | true ↦ m ]) r
when_goes_on c k m e g = rw e g
