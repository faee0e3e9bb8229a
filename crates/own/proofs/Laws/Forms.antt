-- What the first entry answered and left, and what the second one makes of it, of plans turned into the other form.
use Prim.Native.Nat.{ℕ, ◌-◌, ◌≤◌}
use Rattle.std.specs.Prelude.{Result, Ok}
use native.Mathlib.Omega.{arith}
use mathlib.Core.Path.{◌≡◌, ◌∙◌}
use mathlib.Core.List.{List}
use lib.ListN.{length, take, drop}
use Rattle.fields.specs.Field.{Bytes}
use Rattle.plan.specs.declared.refusal.Refusal.{Refusal}
use Rattle.plan.specs.Refusal.{accepted}
use Rattle.plan_writer.specs.Written.{Written, written, answer_of}
use Rattle.plan_writer.proofs.Laws.Answers.{encoded_room}
use Rattle.plan_forms.specs.Forms.{read_as, plain, to_form2, to_form1}
use Rattle.plan_forms.proofs.Laws.RoundTrip.{there_and_back, back_and_there}
use Rattle.own.specs.RoundTrip.{back}
use Rattle.own.specs.Forms.{old_back, new_back}
use Rattle.own.proofs.Laws.RoundTrip.{answered, left_is, counted_back}

-- a plan that one call turned into n bytes, which another turns back
module _ (one other : List ℕ → List ℕ → Written)
    (undone : (s bytes lent : List ℕ) (n : ℕ) → Bytes s → (one s bytes).answer ≡ accepted n
    → other (take n (one s bytes).buffer) lent ≡ written s (length s) lent)
    (plan bytes left : List ℕ) (r : Result ℕ Refusal) (n : ℕ) (f : r ≡ Ok n) (e : record { answer = answer_of r; buffer = left } ≡ one plan bytes) where
  undone_back : Bytes plan → (out : List ℕ) (second : Written) → second ≡ other (take (n - 0) (drop 0 left)) out
      → (second ≡ back (one plan bytes).answer plan (length plan) out) × (left ≡ (one plan bytes).buffer)
  undone_back h out second g =
      let whole : n - 0 ≡ n = omega arith in
      counted_back _ r left e n f second plan (length plan) out
      (rw (whole, left_is _ r left e) at g ∙ undone plan bytes out n h (answered _ r left e (Ok n) f))

module _ (plan bytes left : List ℕ) (r : Result ℕ Refusal) (n : ℕ) (f : r ≡ Ok n) where
  -- from form 1 into form 2
  module _ (e : record { answer = answer_of r; buffer = left } ≡ to_form2 plan bytes) where
    pub old_room : n ≤ length left
    unfolding to_form2
    old_room = rw (left_is _ r left e) (encoded_room 2 (read_as 1 plan) bytes n (answered _ r left e (Ok n) f))

    pub old_back_lem : Bytes plan → (out : List ℕ) (second : Written) → second ≡ to_form1 (take (n - 0) (drop 0 left)) out
        → (second ≡ old_back plan bytes out) × (left ≡ (to_form2 plan bytes).buffer)
    old_back_lem = undone_back to_form2 to_form1 there_and_back plan bytes left r n f e

  -- from form 2 into form 1
  module _ (e : record { answer = answer_of r; buffer = left } ≡ to_form1 plan bytes) where
    pub new_room : n ≤ length left
    unfolding to_form1
    new_room = rw (left_is _ r left e) (encoded_room 1 (plain (read_as 2 plan)) bytes n (answered _ r left e (Ok n) f))

    pub new_back_lem : Bytes plan → (out : List ℕ) (second : Written) → second ≡ to_form2 (take (n - 0) (drop 0 left)) out
        → (second ≡ new_back plan bytes out) × (left ≡ (to_form1 plan bytes).buffer)
    new_back_lem = undone_back to_form1 to_form2 back_and_there plan bytes left r n f e
