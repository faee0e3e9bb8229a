-- What it is for an action to send its join into another.
use Prim.Native.Nat.{ℕ, suc, ◌≤◌}
use mathlib.Core.Path.{◌≡◌}
use lib.Dec.{T, leb, eqb, leb→le, le→leb, eqb→eq, eqb_refl}
use Rattle.plan.specs.Test.{both}
use Rattle.plan.specs.Plan.{Plan, Placed, parent, enters}
use Rattle.plan.proofs.Laws.Lists.{both_intro, both_left, both_right}

pub enters_by : (p : Plan) (q t : ℕ) (a : Placed) → 1 ≤ a.job → parent p a.job ≡ q → a.join ≡ suc t → T (enters p q t a)
unfolding enters
enters_by p q t a o e i =
    both_intro (leb 1 a.job) _ (le→leb 1 a.job o)
    (both_intro (eqb (parent p a.job) q) _ (rw e (eqb_refl q)) (rw i (eqb_refl (suc t))))

pub enters_is : (p : Plan) (q t : ℕ) (a : Placed) → T (enters p q t a) → (1 ≤ a.job) × (parent p a.job ≡ q) × (a.join ≡ suc t)
unfolding enters
enters_is p q t a x =
    let y : T (both (eqb (parent p a.job) q) (eqb a.join (suc t))) = both_right (leb 1 a.job) _ x in (
      leb→le 1 a.job (both_left (leb 1 a.job) _ x),
      eqb→eq (parent p a.job) q (both_left (eqb (parent p a.job) q) _ y),
      eqb→eq a.join (suc t) (both_right (eqb (parent p a.job) q) _ y),
    )
