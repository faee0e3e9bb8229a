-- What was written is read again.
--   again      == the bytes of an accepted plan, in a form that its costs fit, hold that plan
--   read_back  == and so do the first bytes of a buffer that it was written into
use Prim.Native.Nat.{ℕ}
use Rattle.std.specs.Prelude.{Result, Ok}
use mathlib.Core.Path.{◌≡◌, sym, ap, ◌∙◌}
use mathlib.Core.List.{List}
use lib.Dec.{T}
use lib.ListN.{take}
use Rattle.plan.specs.declared.refusal.Refusal.{Refusal}
use Rattle.plan.specs.Refusal.{accepted}
use Rattle.plan.specs.Plan.{Plan}
use Rattle.plan.specs.Rules.{costs_fit, Accepted}
use Rattle.plan.specs.Reader.{is_form, read_plan}
use Rattle.plan.proofs.Laws.Outcomes.{accepted_same}
use Rattle.plan_writer.specs.Writer.{plan_bytes}
use Rattle.plan_writer.specs.Written.{Written, encoded, answer_of}
use Rattle.plan_writer.proofs.Laws.Answers.{encoded_front}
use Rattle.plan_writer.proofs.Laws.PlanBytes.{write_read}

module _ (form : ℕ) (p : Plan) (known : T (is_form form)) (costs : T (costs_fit form p)) (ok : Accepted p) where
  pub again : read_plan (plan_bytes form p) ≡ accepted (record { form = form; plan = p })
  again = write_read form p known costs ok.range ok.spawns ok.joins

  pub read_back : (buffer : List ℕ) (r : Result ℕ Refusal) (bytes : List ℕ) → record { answer = answer_of r; buffer = bytes } ≡ encoded form (accepted p) buffer
      → (n : ℕ) → r ≡ Ok n → read_plan (take n bytes) ≡ accepted (record { form = form; plan = p })
  read_back buffer r bytes e n f =
      encoded_front form (accepted p) buffer n (sym (ap (λ (w : Written). w.answer) e) ∙ ap answer_of f) λ q is out.
      ap (λ (w : Written). read_plan (take n w.buffer)) e ∙ ap read_plan (out ∙ ap (plan_bytes form) (sym (accepted_same p q is))) ∙ again
