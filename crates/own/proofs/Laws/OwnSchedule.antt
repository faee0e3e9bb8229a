-- The schedule that a run writes: it lies within what was lent, and the checker accepts it.
--   Sized plan k               == k bytes are as long as a schedule of the plan that the bytes hold
--   length_told                == they are, where its form is the first byte and its number of actions was measured
--   run_room, run_accepted     == the schedule of a run that was done lies within so many bytes, and is accepted
--   left_is, left_read, left_room, left_accepted == so it is of what the entry `run` left
use Prim.Native.Nat.{ℕ, ◌-◌, ◌≤◌}
use Rattle.std.specs.Prelude.{Result as Returned, Ok, Err}
use Rattle.std.specs.Result.{is_ok}
use mathlib.Core.Path.{◌≡◌, refl, sym, ap, ap₂, ◌∙◌}
use mathlib.Core.Bool.{true}
use mathlib.Core.List.{List}
use native.Mathlib.Omega.{arith}
use lib.ListN.{length, get_or, take, drop, length-append}
use Rattle.fields.specs.Field.{Bytes}
use Rattle.plan.specs.declared.refusal.Refusal.{Refusal}
use Rattle.plan.specs.Refusal.{Outcome, refused, accepted, number_of}
use Rattle.plan.specs.Plan.{total}
use Rattle.plan.specs.Reader.{Read, read_plan}
use Rattle.plan.proofs.Laws.Accepted.{accepted_kept, accepted_form}
use Rattle.plan.proofs.Laws.Outcomes.{refused_accepted}
use Rattle.plan.proofs.Laws.Valid.{total_range}
use Rattle.plan_writer.proofs.Laws.PlanBytes.{read_form}
use Rattle.plan_measure.specs.declared.Measures.{Measures}
use Rattle.plan_measure.specs.Measure.{measures_of, measured, measures, told}
use Rattle.courses.specs.Schedule.{schedule_length, schedule_bytes, checked}
use Rattle.runs.specs.Setting.{setting}
use Rattle.runs.specs.declared.tally.Tally.{Tally}
use Rattle.runs.specs.Run.{run}
use Rattle.runs.proofs.Laws.OwnSchedule.{run_checked}
use Rattle.runs.proofs.Laws.Whole.{run_trace}
use Rattle.runs.proofs.Laws.Coursed.{round_most}
use Rattle.scheduler.specs.Entry.{Result, run_into, ran_of}
use Rattle.checker.specs.Answer.{judged_of}
use Rattle.own.proofs.Laws.Wrote.{Wrote, wrote, wrote_fit, wrote_length, wrote_front, wrote_few}

abbrev pub Sized : List ℕ → ℕ → Type 0
Sized plan k = (x : Read) → read_plan plan ≡ accepted x → k ≡ schedule_length x.form (total x.plan)

-- by what measuring the plan tells
module _ (plan : List ℕ) (r : Returned Measures Refusal) (m : Measures) (e : told r ≡ measures plan) (of : r ≡ Ok m) where
  measured_total : (x : Read) → read_plan plan ≡ accepted x → m.total ≡ total x.plan
  unfolding measures measured measures_of
  measured_total x q =
      let y : ◌≡◌ {A = Outcome Measures} (accepted m) (accepted (measures_of x.plan)) = sym (ap told of) ∙ (e ∙ rw q) in
      let z : m ≡ measures_of x.plan = cc in
      ap (λ (m : Measures). m.total) z

  pub length_told : Bytes plan → (form : ℕ) → form ≡ get_or plan 0 0 → (k : ℕ) → k ≡ schedule_length form m.total → Sized plan k
  length_told h form first k long x q =
      long ∙ ap₂ schedule_length (first ∙ (read_form plan x h q).1) (measured_total x q)

  pub measured_few : (x : Read) → read_plan plan ≡ accepted x → m.total ≤ 2048
  measured_few x q = omega (arith, measured_total x q, total_range x.plan (accepted_kept plan x q))

module _ (plan : List ℕ) (n : ℕ) (choices schedule : List ℕ) (t : Tally) (w : Wrote plan n choices schedule t) (k : ℕ) (sized : Sized plan k) where
  own_room : k ≤ length (run_into plan n choices schedule).schedule
  own_room =
      let bytes = schedule_bytes w.x.form n (run (setting w.x.plan n choices)).rows in
      omega (arith, wrote_length plan n choices schedule t w, sized w.x w.read, ap length w.written ∙ length-append bytes (drop (length bytes) schedule))

  own_accepted : checked plan (take k (run_into plan n choices schedule).schedule) ≡ accepted 0
  own_accepted =
      let fit = wrote_fit plan n choices schedule t w in
      let (r, b, trace, e, q) = run_trace fit in
      ap (checked plan) (wrote_front plan n choices schedule t w k (sized w.x w.read))
      ∙ run_checked fit trace e w.x.form (accepted_form plan w.x w.read) (wrote_few plan n choices schedule t w r (round_most fit trace)) plan w.read

-- the schedule of a run lies within what was lent
pub run_room : (plan : List ℕ) (n : ℕ) (choices schedule : List ℕ) (t : Tally) → (run_into plan n choices schedule).answer ≡ accepted t
    → (k : ℕ) → Sized plan k → k ≤ length (run_into plan n choices schedule).schedule
run_room plan n choices schedule t e k sized = own_room plan n choices schedule t (wrote plan n choices schedule t e) k sized

-- and the checker accepts it, for every plan, worker count and choices that are run
pub run_accepted : (plan : List ℕ) (n : ℕ) (choices schedule : List ℕ) (t : Tally) → (run_into plan n choices schedule).answer ≡ accepted t
    → (k : ℕ) → Sized plan k → checked plan (take k (run_into plan n choices schedule).schedule) ≡ accepted 0
run_accepted plan n choices schedule t e k sized = own_accepted plan n choices schedule t (wrote plan n choices schedule t e) k sized

-- the same of what the entry answered and left
module _ (plan : List ℕ) (n : ℕ) (choices before after : List ℕ) where
  pub left_is : (o : Outcome Tally) → record { answer = o; schedule = after } ≡ run_into plan n choices before
      → after ≡ (run_into plan n choices before).schedule
  left_is o e = ap (λ (x : Result). x.schedule) e

  module _ (r : Returned Tally Refusal) (t : Tally) (e : record { answer = ran_of r; schedule = after } ≡ run_into plan n choices before) (done : r ≡ Ok t) where
    answered : (run_into plan n choices before).answer ≡ accepted t
    answered = sym (ap (λ (x : Result). x.answer) e) ∙ ap ran_of done

    -- a plan was read, so it can be measured and has a first byte
    pub left_read : (x : Read) × (read_plan plan ≡ accepted x)
    left_read = let w = wrote plan n choices before t answered in (w.x, w.read)

    pub left_measured : (m : Returned Measures Refusal) (cause : Refusal) → told m ≡ measures plan → m ≡ Err cause → ⊥
    unfolding measures measured
    left_measured m cause told-so f =
        let (x, q) = left_read in
        let y : ◌≡◌ {A = Outcome Measures} (refused (number_of cause)) (accepted (measures_of x.plan)) = sym (ap told f) ∙ (told-so ∙ rw q) in
        refused_accepted y

    module _ (k : ℕ) (sized : Sized plan k) where
      pub left_room : k ≤ length after
      left_room = rw (left_is (ran_of r) e) (run_room plan n choices before t answered k sized)

      -- the checker, lent the part from 0 to that length, accepts it
      pub left_accepted : (j : Returned Unit Refusal) → judged_of j ≡ checked plan (take (k - 0) (drop 0 after)) → is_ok j ≡ true
      left_accepted (Ok _) told-so = refl
      left_accepted (Err cause) told-so =
          let whole : k - 0 ≡ k = omega arith in
          let x : ◌≡◌ {A = Outcome ℕ} (refused (number_of cause)) (accepted 0) =
          told-so ∙ rw (whole, left_is (ran_of r) e) (run_accepted plan n choices before t answered k sized) in
          refused_accepted x
