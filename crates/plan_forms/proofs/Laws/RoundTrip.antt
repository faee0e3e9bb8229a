-- There and back (document 02, L6): "There and back gives the same bytes from either side, where it is accepted".
--   plain_told     == what was found plain
--   there_and_back == from form 1 into form 2 and back
--   back_and_there == from form 2 into form 1 and back
use Prim.Native.Nat.{ℕ}
use mathlib.Core.Path.{◌≡◌, refl, sym, ap, ◌∙◌}
use mathlib.Core.Bool.{Bool, true, false}
use mathlib.Core.List.{List}
use lib.Dec.{T}
use lib.ListN.{length, take}
use Rattle.fields.specs.Field.{Bytes}
use Rattle.plan.specs.Refusal.{Outcome, refused, accepted}
use Rattle.plan.specs.Plan.{Plan}
use Rattle.plan.specs.Rules.{costs_fit}
use Rattle.plan_writer.specs.Writer.{plan_bytes}
use Rattle.plan_writer.specs.Written.{written, encoded}
use Rattle.plan.proofs.Laws.Costs.{accepted_costs}
use Rattle.plan.proofs.Laws.Lists.{true_of, of_true}
use Rattle.plan.proofs.Laws.Outcomes.{refused_accepted, accepted_same}
use Rattle.plan_writer.proofs.Laws.Answers.{encoded_front}
use Rattle.plan_writer.proofs.Laws.PlanBytes.{read_write}
use Rattle.plan_forms.specs.Forms.{read_as, plain, to_form2, to_form1}
use Rattle.plan_forms.proofs.Laws.Reading.{as_accepted, as_known}
use Rattle.plan_forms.proofs.Laws.Turned.{turned, turned_back, again_as}

pub plain_told : (o : Outcome Plan) (p : Plan) → plain o ≡ accepted p → (o ≡ accepted p) × T (costs_fit 1 p)
unfolding plain
plain_told (refused k) p e = refused_accepted e
plain_told (accepted q) p e = go (costs_fit 1 q) refl
  where
    go : (b : Bool) → costs_fit 1 q ≡ b → (accepted q ≡ accepted p) × T (costs_fit 1 p)
    go false f = refused_accepted {k = 15} (let z : plain (accepted q) ≡ refused 15 = rw (plain, f) in sym z ∙ e)
    go true f =
        let z : plain (accepted q) ≡ accepted q = rw (plain, f) in
        let same : accepted q ≡ accepted p = sym z ∙ e in
        (same, rw (← accepted_same q p same) (of_true (costs_fit 1 q) f))

pub there_and_back : (s bytes lent : List ℕ) (n : ℕ) → Bytes s → (to_form2 s bytes).answer ≡ accepted n
    → to_form1 (take n (to_form2 s bytes).buffer) lent ≡ written s (length s) lent
unfolding to_form2 encoded costs_fit
there_and_back s bytes lent n h e =
    encoded_front 2 (read_as 1 s) bytes n e λ p q out.
    let r = as_known 1 s p q in
    let costs = accepted_costs s (record { form = 1; plan = p }) r in
    ap (λ t. to_form1 t lent) out
    ∙ sym (turned_back (plan_bytes 2 p) lent p (as_accepted 2 (plan_bytes 2 p) p (again_as s 1 2 p r tt tt)) (true_of (costs_fit 1 p) costs))
    ∙ ap (λ t. written t (length t) lent) (read_write s (record { form = 1; plan = p }) h r)

pub back_and_there : (s bytes lent : List ℕ) (n : ℕ) → Bytes s → (to_form1 s bytes).answer ≡ accepted n
    → to_form2 (take n (to_form1 s bytes).buffer) lent ≡ written s (length s) lent
unfolding to_form1 encoded
back_and_there s bytes lent n h e =
    encoded_front 1 (plain (read_as 2 s)) bytes n e λ p q out.
    let (o, costs) = plain_told (read_as 2 s) p q in
    let r = as_known 2 s p o in
    ap (λ t. to_form2 t lent) out
    ∙ sym (turned (plan_bytes 1 p) lent p (as_accepted 1 (plan_bytes 1 p) p (again_as s 2 1 p r tt costs)))
    ∙ ap (λ t. written t (length t) lent) (read_write s (record { form = 2; plan = p }) h r)
