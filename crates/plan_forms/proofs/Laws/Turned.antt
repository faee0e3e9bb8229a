-- What the two entries answer, by what was read.
--   turns_down, turned     == into form 2: a refusal, or the plan's bytes
--   turns_back_down, costs_down, turned_back == into form 1: a refusal, 15, or the plan's bytes
--   again_as               == the plan's bytes in a form that its costs fit hold that plan
--   converted              == what was written is the plan that was read
use Rattle.std.specs.Prelude.{Result}
use Prim.Native.Nat.{ℕ}
use mathlib.Core.Path.{◌≡◌}
use mathlib.Core.Bool.{true, false}
use mathlib.Core.List.{List}
use lib.Dec.{T}
use Rattle.plan.specs.declared.refusal.Refusal.{Refusal}
use Rattle.plan.specs.Refusal.{refused, accepted}
use Rattle.plan.specs.Plan.{Plan}
use Rattle.plan.specs.Rules.{costs_fit}
use Rattle.plan.specs.Reader.{is_form, read_plan}
use Rattle.plan_writer.specs.Writer.{plan_bytes}
use Rattle.plan_writer.specs.Written.{encoded, answer_of}
use Rattle.plan.proofs.Laws.Accepted.{accepted_kept}
use Rattle.plan_writer.proofs.Laws.ReadBack.{again, read_back}
use Rattle.plan_forms.specs.Forms.{read_as, plain, to_form2, to_form1, Converted}

module _ (s buffer : List ℕ) where
  pub turns_down : (k : ℕ) → read_as 1 s ≡ refused k → record { answer = refused k; buffer = buffer } ≡ to_form2 s buffer
  unfolding to_form2 encoded
  turns_down k e = rw e

  pub turned : (p : Plan) → read_as 1 s ≡ accepted p → encoded 2 (accepted p) buffer ≡ to_form2 s buffer
  unfolding to_form2
  turned p e = rw e

  pub turns_back_down : (k : ℕ) → read_as 2 s ≡ refused k → record { answer = refused k; buffer = buffer } ≡ to_form1 s buffer
  unfolding to_form1 plain encoded
  turns_back_down k e = rw e

  module _ (p : Plan) (e : read_as 2 s ≡ accepted p) where
    pub costs_down : costs_fit 1 p ≡ false → record { answer = refused 15; buffer = buffer } ≡ to_form1 s buffer
    unfolding to_form1 plain encoded
    costs_down f = rw (e, plain, f)

    pub turned_back : costs_fit 1 p ≡ true → encoded 1 (accepted p) buffer ≡ to_form1 s buffer
    unfolding to_form1 plain
    turned_back f = rw (e, plain, f)

-- of a plan that was read
module _ (s : List ℕ) (from to : ℕ) (p : Plan) (read : read_plan s ≡ accepted (record { form = from; plan = p })) (known : T (is_form to)) (costs : T (costs_fit to p)) where
  pub again_as : read_plan (plan_bytes to p) ≡ accepted (record { form = to; plan = p })
  again_as = again to p known costs (accepted_kept s (record { form = from; plan = p }) read)

  pub converted : (buffer : List ℕ) (r : Result ℕ Refusal) (bytes : List ℕ) → record { answer = answer_of r; buffer = bytes } ≡ encoded to (accepted p) buffer
      → Converted from to s r bytes
  converted buffer r bytes e n f =
      (p, read, read_back to p known costs (accepted_kept s (record { form = from; plan = p }) read) buffer r bytes e n f)
