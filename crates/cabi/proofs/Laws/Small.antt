-- What entries that write count is small: at most 2,048 rows, and at most 6,403 bytes.
--   plan_bytes_few == the longest that the format allows: 256 jobs and 2,048 actions, each with a child, a target and a cost
use Prim.Native.Nat.{ℕ, ◌+◌, ◌*◌, ◌≤◌}
use native.Mathlib.Omega.{arith}
use mathlib.Core.Path.{◌≡◌, refl}
use mathlib.Core.List.{List, [], ◌∷◌, ◌++◌}
use lib.ListN.{length, length-append}
use lib.Dec.{T}
use Rattle.plan.specs.Refusal.{Outcome, refused, accepted}
use Rattle.plan.specs.Plan.{Action, Plan, total}
use Rattle.plan.specs.Reader.{Read, read_plan}
use Rattle.plan.specs.Rules.{in_range}
use Rattle.fields.specs.Field.{bits_of}
use Rattle.plan_writer.specs.Writer.{number_bits, cost_bits, actions_bits, jobs_bits, plan_bits, plan_bytes}
use Rattle.plan.proofs.Laws.Accepted.{accepted_kept}
use Rattle.plan.proofs.Laws.Outcomes.{refused_accepted, accepted_same}
use Rattle.fields.proofs.Laws.Bits.{bits_of_length}
use Rattle.plan_writer.proofs.Laws.PlanBytes.{plan_bytes_length}
use Rattle.plan.proofs.Laws.Spawning.{jobs_in_range, total_in_range}
use Rattle.plan_table.specs.Table.{read_table, to_table, to_plan}
use Rattle.plan_table.proofs.Laws.OpenTable.{read_table_rules}
use Rattle.plan_writer.proofs.Laws.Numbers.{number_few, cost_few}
use Rattle.plan_table.proofs.Laws.RoundTrip.{to_table_told}
use Rattle.plan_writer.specs.Written.{encoded}
use Rattle.plan_writer.proofs.Laws.Answers.{encoded_told}
use Rattle.plan_forms.specs.Forms.{read_as, plain, to_form2, to_form1}
use Rattle.plan_forms.proofs.Laws.Reading.{as_known}
use Rattle.plan_forms.proofs.Laws.RoundTrip.{plain_told}
use Rattle.plan_pair.specs.Pair.{pair_of, written_out, pair_into}
use Rattle.plan_pair.proofs.Laws.Answers.{result_range}

module _ (form : ℕ) where
  actions_few : (l : List Action) → length (actions_bits form l) ≤ 22 * length l
  unfolding actions_bits
  actions_few [] = omega arith
  actions_few (a ∷ l) =
      let rest = cost_bits form a.cost ++ actions_bits form l in
      rw (
        length-append (number_bits a.spawn) (number_bits a.join ++ rest),
        length-append (number_bits a.join) rest,
        length-append (cost_bits form a.cost) (actions_bits form l),
      )
      (omega (arith, number_few a.spawn, number_few a.join, cost_few form a.cost, actions_few l))

  jobs_few : (p : Plan) → length (jobs_bits form p) ≤ 24 * length p + 22 * total p
  unfolding jobs_bits
  jobs_few [] = omega arith
  jobs_few (b ∷ p) =
      rw (
        length-append (bits_of 16 b.frame) (bits_of 8 (length b.actions) ++ (actions_bits form b.actions ++ jobs_bits form p)),
        length-append (bits_of 8 (length b.actions)) (actions_bits form b.actions ++ jobs_bits form p),
        length-append (actions_bits form b.actions) (jobs_bits form p),
        bits_of_length 16 b.frame,
        bits_of_length 8 (length b.actions),
      )
      (omega (arith, actions_few b.actions, jobs_few p))

  plan_bits_few : (p : Plan) → length (plan_bits form p) ≤ 17 + (24 * length p + 22 * total p)
  unfolding plan_bits
  plan_bits_few p =
      rw (
        length-append (bits_of 8 form) (bits_of 9 (length p) ++ jobs_bits form p),
        length-append (bits_of 9 (length p)) (jobs_bits form p),
        bits_of_length 8 form,
        bits_of_length 9 (length p),
      )
      (omega (arith, jobs_few p))

  pub plan_bytes_few : (p : Plan) → T (in_range p) → length (plan_bytes form p) ≤ 6403
  plan_bytes_few p t =
      omega (arith, plan_bytes_length form p, plan_bits_few p, jobs_in_range p t, total_in_range p t)

pub to_table_few : (s rows : List ℕ) (n : ℕ) → (to_table s rows).answer ≡ accepted n → n ≤ 2048
to_table_few s rows n e = to_table_told s rows n e λ x r k b. omega (arith, total_in_range x.plan (accepted_kept s x r).range)

-- bytes of a plan that is in range
encoded_few : (form : ℕ) (o : Outcome Plan) (bytes : List ℕ) (n : ℕ) → ((p : Plan) → o ≡ accepted p → T (in_range p)) → (encoded form o bytes).answer ≡ accepted n
    → n ≤ 6403
encoded_few form o bytes n range e = encoded_told form o bytes n e λ p q k b. omega (arith, plan_bytes_few form p (range p q))

pub to_plan_few : (form : ℕ) (t bytes : List ℕ) (n : ℕ) → (to_plan form t bytes).answer ≡ accepted n → n ≤ 6403
unfolding to_plan
to_plan_few form t bytes n e = encoded_few form (read_table form t) bytes n (λ p q. (read_table_rules form t p q).0) e

-- a plan that was read as one of a form is in range
as_range : (form : ℕ) (s : List ℕ) (p : Plan) → read_as form s ≡ accepted p → T (in_range p)
as_range form s p e = (accepted_kept s (record { form = form; plan = p }) (as_known form s p e)).range

pub to_form2_few : (s bytes : List ℕ) (n : ℕ) → (to_form2 s bytes).answer ≡ accepted n → n ≤ 6403
unfolding to_form2
to_form2_few s bytes n e = encoded_few 2 (read_as 1 s) bytes n (as_range 1 s) e

pub to_form1_few : (s bytes : List ℕ) (n : ℕ) → (to_form1 s bytes).answer ≡ accepted n → n ≤ 6403
unfolding to_form1
to_form1_few s bytes n e = encoded_few 1 (plain (read_as 2 s)) bytes n (λ p q. as_range 2 s p (plain_told (read_as 2 s) p q).0) e

pub pair_into_few : (frame : ℕ) (s t bytes : List ℕ) (n : ℕ) → (pair_into frame s t bytes).answer ≡ accepted n → n ≤ 6403
unfolding pair_into written_out
pair_into_few frame s t bytes n e = go (pair_of frame (read_plan s) (read_plan t)) refl e
  where
    go : (o : Outcome Read) → pair_of frame (read_plan s) (read_plan t) ≡ o → (written_out o bytes).answer ≡ accepted n → n ≤ 6403
    go (refused k) f e = refused_accepted e
    go (accepted x) f e =
        encoded_few x.form (accepted x.plan) bytes n (λ p q. rw (← accepted_same x.plan p q) (result_range frame s t x f)) e
