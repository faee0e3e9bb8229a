-- The plain numbers that an entry's answer stands for, refused or not.
--   number_some == the number of a cause is not 0, so 0 stands for no refusal
use Prim.Native.Nat.{ℕ, ◌≤◌}
use native.Mathlib.Omega.{arith}
use Rattle.std.specs.Prelude.{Result as Returned, Ok, Err}
use mathlib.Core.Path.{◌≡◌, refl, sym, ap, ◌∙◌}
use mathlib.Core.List.{List}
use lib.ListN.{take}
use Rattle.plan.specs.declared.refusal.Refusal.{Refusal}
use Rattle.plan.specs.declared.refusal.Refusal.TheVariants.{RanOut, Form, Range, Spawn, Join, Fill, Workers, Choices, Short, Table, Schedule, Rule}
use Rattle.plan.specs.declared.refusal.Refusal.TheVariants.{Name, Round, Cost, Changes, Pair, Deadline, Windows, Clock}
use Rattle.plan.specs.Refusal.{Outcome, accepted, number_of}
use Rattle.plan.specs.Plan.{Plan, total}
use Rattle.plan.specs.Reader.{Read, read_plan}
use Rattle.plan_measure.specs.declared.Measures.{Measures}
use Rattle.plan_measure.specs.Measure.{told, Divided as MeasuresDivided}
use Rattle.plan_writer.specs.Written.{Written, answer_of}
use Rattle.plan_forms.specs.Forms.{Converted as FormConverted}
use Rattle.plan_pair.specs.Pair.{Result, Paired as PlansPaired}
use Rattle.runs.specs.declared.tally.Tally.{Tally}
use Rattle.scheduler.specs.Entry.{Result as Result', ran_of, Claimed as RunClaimed}
use Rattle.pool_runner.specs.Entry.{Claimed as FromPool}
use Rattle.pools.specs.Claim.{Bounded as PoolBounded}
use Rattle.runs.specs.Setting.{setting}
use Rattle.runs.specs.Claim.{Bounded}
use Rattle.courses.specs.Schedule.{schedule_length, checked}
use Rattle.cabi.specs.declared.DwCount.{DwCount}
use Rattle.cabi.specs.declared.DwMeasures.{DwMeasures}
use Rattle.cabi.specs.declared.DwTally.{DwTally}
use Rattle.cabi.specs.Few.{Few}
use Rattle.cabi.specs.Plain.{count_of, measures_of, tally_of, Converted, Paired, Divided, Claimed, PoolClaimed}

pub number_some : (cause : Refusal) → number_of cause ≡ 0 → ⊥
number_some RanOut e = omega arith
number_some Form e = omega arith
number_some Range e = omega arith
number_some Spawn e = omega arith
number_some Join e = omega arith
number_some Fill e = omega arith
number_some Workers e = omega arith
number_some Choices e = omega arith
number_some Short e = omega arith
number_some Table e = omega arith
number_some Schedule e = omega arith
number_some Rule e = omega arith
number_some Name e = omega arith
number_some Round e = omega arith
number_some Cost e = omega arith
number_some Changes e = omega arith
number_some Pair e = omega arith
number_some Deadline e = omega arith
number_some Windows e = omega arith
number_some Clock e = omega arith

-- what an entry that writes answered and left, with the number that stands for it
module _ (w : Written) (a : Returned ℕ Refusal) (l : List ℕ) (ensures : record { answer = answer_of a; buffer = l } ≡ w) where
  pub counts : (r : DwCount) → r ≡ count_of (answer_of a) → (r ≡ count_of w.answer) × (l ≡ w.buffer)
  counts r e = (e ∙ ap (λ (w : Written). count_of w.answer) ensures, ap (λ (w : Written). w.buffer) ensures)

  -- a count that is at most 6,403 fits
  pub counts_fit : ((n : ℕ) → w.answer ≡ accepted n → n ≤ 6403) → Few a
  counts_fit few n e = omega (arith, few n (sym (ap (λ (w : Written). w.answer) ensures) ∙ ap answer_of e))

-- what an entry promises of what it wrote, by the number that it answered
count_claim : (P : ℕ → Type 0) (a : Returned ℕ Refusal) → ((n : ℕ) → a ≡ Ok n → P n) → (r : DwCount) → r ≡ count_of (answer_of a) → r.refused ≡ 0 → P r.count
count_claim P (Err cause) claim r e z = absurd (number_some cause (sym (ap (λ (r : DwCount). r.refused) e) ∙ z))
count_claim P (Ok n) claim r e z = rw (ap (λ (r : DwCount). r.count) e) (claim n refl)

pub converted_count : (from to : ℕ) (s : List ℕ) (a : Returned ℕ Refusal) (l : List ℕ) → FormConverted from to s a l → (r : DwCount) → r ≡ count_of (answer_of a)
    → Converted from to s r l
converted_count from to s a l claim r e =
    count_claim
    (λ n. (p : Plan) × (read_plan s ≡ accepted (record { form = from; plan = p })) × (read_plan (take n l) ≡ accepted (record { form = to; plan = p })))
    a claim r e

pub paired_count : (frame : ℕ) (s t : List ℕ) (a : Returned ℕ Refusal) (l : List ℕ) → PlansPaired frame s t a l → (r : DwCount) → r ≡ count_of (answer_of a)
    → Paired frame s t r l
paired_count frame s t a l claim r e = count_claim (λ n. Result frame s t (take n l)) a claim r e

-- what an entry that measures promises of what it answered
pub measures_divided : (r : Returned Measures Refusal) → MeasuresDivided r → (d : DwMeasures) → d ≡ measures_of (told r) → Divided d
measures_divided (Err cause) divided d e z = absurd (number_some cause (sym (ap (λ (d : DwMeasures). d.refused) e) ∙ z))
measures_divided (Ok m) divided d e z = rw e (divided m refl)

-- what it answered, with its numbers
pub measures_accepted : (o : Outcome Measures) (r : Returned Measures Refusal) → told r ≡ o → MeasuresDivided r → (m : Measures) → r ≡ Ok m
    → (measures_of (accepted m) ≡ measures_of o) × Divided (measures_of (accepted m))
measures_accepted o r ensures divided m e = (rw (← ensures, e), λ z. divided m e)

-- what an entry that runs answered and left, with the numbers that stand for it
pub tallies : (w : Result') (r : Returned Tally Refusal) (l : List ℕ) → record { answer = ran_of r; schedule = l } ≡ w → (d : DwTally) → d ≡ tally_of (ran_of r)
    → (d ≡ tally_of w.answer) × (l ≡ w.schedule)
tallies w r l ensures d e = (e ∙ ap (λ (w : Result'). tally_of w.answer) ensures, ap (λ (w : Result'). w.schedule) ensures)

-- what it promises of what was returned
ran_claim : (P : Tally → Type 0) (r : Returned Tally Refusal) → ((t : Tally) → r ≡ Ok t → P t) → (d : DwTally) → d ≡ tally_of (ran_of r) → d.refused ≡ 0
    → (t : Tally) × (d ≡ tally_of (accepted t)) × P t
ran_claim P (Err cause) claim d e z = absurd (number_some cause (sym (ap (λ (d : DwTally). d.refused) e) ∙ z))
ran_claim P (Ok t) claim d e z = (t, e, claim t refl)

pub run_claimed : (bytes : List ℕ) (n : ℕ) (choices : List ℕ) (r : Returned Tally Refusal) (l : List ℕ) → RunClaimed bytes n choices r l → (d : DwTally)
    → d ≡ tally_of (ran_of r) → Claimed bytes n choices d l
run_claimed bytes n choices r l claim d e z =
    let (t, is, (x, read, bounded)) = ran_claim
    (λ t. (x : Read) × (read_plan bytes ≡ accepted x) × Bounded (setting x.plan n choices) x.form l t) r claim d e z in
    (x, t, read, is, bounded)

pub pool_claimed : (bytes : List ℕ) (n : ℕ) (r : Returned Tally Refusal) (l : List ℕ) → FromPool bytes n r l → (d : DwTally) → d ≡ tally_of (ran_of r)
    → PoolClaimed bytes n d l
pool_claimed bytes n r l claim d e z =
    let (t, is, (x, read, bounded, checks)) = ran_claim
    (λ t. (x : Read) × (read_plan bytes ≡ accepted x) × PoolBounded x.plan n x.form l t
    × (checked bytes (take (schedule_length x.form (total x.plan)) l) ≡ accepted 0)) r claim d e z in
    (x, t, read, is, bounded, checks)
