-- Outcomes: a refusal is no acceptance, what is accepted is one thing, and three tests in order, of which the last two answer refusals 4 and 5.
use Prim.Native.Nat.{ℕ}
use native.Mathlib.Omega.{arith}
use mathlib.Core.Path.{◌≡◌, refl}
use mathlib.Core.Bool.{Bool, true, false}
use lib.Dec.{T}
use Rattle.plan.specs.Refusal.{Outcome, refused, accepted}

pub refused_accepted : {A P : Type 0} {k : ℕ} {a : A} → ◌≡◌ {A = Outcome A} (refused k) (accepted a) → P
refused_accepted e = absurd (let z : ◌≡◌ {A = ℕ} 0 1 = cc in omega arith)

pub accepted_same : {A : Type 0} (a b : A) → ◌≡◌ {A = Outcome A} (accepted a) (accepted b) → a ≡ b
accepted_same a b e = cc

pub passes : {A : Type 0} (k : ℕ) (x y z : Bool) (a : A) → T x → T y → T z
    → ◌≡◌ {A = Outcome A} (elim x [
      | false ↦ refused k
      | true ↦ elim y [ false ↦ refused 4 | true ↦ elim z [ false ↦ refused 5 | true ↦ accepted a ] ]
    ]) (accepted a)
passes k true true true a s t u = refl
passes k true true false a s t u = absurd u
passes k true false z a s t u = absurd t
passes k false y z a s t u = absurd s

pub passed : {A : Type 0} (k : ℕ) (x y z : Bool) (a b : A)
    → ◌≡◌ {A = Outcome A} (elim x [
      | false ↦ refused k
      | true ↦ elim y [ false ↦ refused 4 | true ↦ elim z [ false ↦ refused 5 | true ↦ accepted a ] ]
    ]) (accepted b)
    → T x × T y × T z × (a ≡ b)
passed k true true true a b e = (tt, tt, tt, cc)
passed k true true false a b e = refused_accepted e
passed k true false z a b e = refused_accepted e
passed k false y z a b e = refused_accepted e
