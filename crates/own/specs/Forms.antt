-- Old plans and new (document 02, L6), of several entries.
--   old_back plan bytes out == what comes back of a plan of form 1 that is turned into form 2 and back: the plan's own bytes
--   new_back plan bytes out == the same of a plan of form 2 that is turned into form 1 and back
--   ReadOff plan schedule w == the workers and rows w stand in front in the schedule of the plan that the bytes hold, in its form
--   SameRun s t n choices  == "both run to equal tallies and equal rounds and workers", for plan bytes s and t and one P and list
--   EqualRuns              == so do a plan and what it is turned into, from either side and for every P and list
--   SamePool s t n         == the same of the runs from a pool, for plan bytes s and t and one P; their measures stand in SameRun
--   EqualPools             == so do a plan and what it is turned into, from either side and for every P
use Rattle.std.specs.Prelude.{ℕ, ◌≡◌, List, length, take}
use Rattle.plan.specs.Refusal.{accepted}
use Rattle.plan.specs.Plan.{total}
use Rattle.plan.specs.Reader.{Read, read_plan}
use Rattle.plan_writer.specs.Written.{Written}
use Rattle.plan_forms.specs.Forms.{to_form2, to_form1}
use Rattle.plan_measure.specs.Measure.{measures}
use Rattle.courses.specs.Schedule.{schedule_length, read_schedule}
use Rattle.courses.specs.Schedule.{Written as Rows}
use Rattle.runs.specs.declared.tally.Tally.{Tally}
use Rattle.runs.specs.Run.{run_of}
use Rattle.pools.specs.Run.{pool_of}
use Rattle.scheduler.specs.Entry.{run_into}
use Rattle.pool_runner.specs.Entry.{pool_into}
use Rattle.own.specs.RoundTrip.{back}

abbrev pub old_back : List ℕ → List ℕ → List ℕ → Written
old_back plan bytes out = back (to_form2 plan bytes).answer plan (length plan) out

abbrev pub new_back : List ℕ → List ℕ → List ℕ → Written
new_back plan bytes out = back (to_form1 plan bytes).answer plan (length plan) out

abbrev pub ReadOff : List ℕ → List ℕ → Rows → Type 0
ReadOff plan schedule w =
    (x : Read) × (read_plan plan ≡ accepted x)
    × (read_schedule x.form (take (schedule_length x.form (total x.plan)) schedule) (total x.plan) ≡ accepted w)

pub record SameRun (s t : List ℕ) (n : ℕ) (choices : List ℕ) : Type 0 where
  -- all measures are equal
  pub measured : measures s ≡ measures t
  -- both are turned down with one number, or run to one state: one tally and one list of rows
  pub run : run_of s n choices ≡ run_of t n choices
  -- whatever is lent for each schedule, where the entry accepts both: the tallies that it returns are equal, and so are the workers and
  -- rows that are read off what it writes
  pub told : (a b : List ℕ) (x y : Tally) → (run_into s n choices a).answer ≡ accepted x → (run_into t n choices b).answer ≡ accepted y
      → (x ≡ y) × ((w : Rows) × ReadOff s (run_into s n choices a).schedule w × ReadOff t (run_into t n choices b).schedule w)

abbrev pub EqualRuns : Type 0
EqualRuns =
    (s bytes : List ℕ) (m n : ℕ) (choices : List ℕ)
    → ((to_form2 s bytes).answer ≡ accepted m → SameRun s (take m (to_form2 s bytes).buffer) n choices)
    × ((to_form1 s bytes).answer ≡ accepted m → SameRun s (take m (to_form1 s bytes).buffer) n choices)

pub record SamePool (s t : List ℕ) (n : ℕ) : Type 0 where
  -- both are turned down with one number, or run to one state: one tally and one list of rows
  pub run : pool_of s n ≡ pool_of t n
  -- whatever is lent for each schedule, where the entry accepts both: the tallies that it returns are equal, and so are the workers and
  -- rows that are read off what it writes
  pub told : (a b : List ℕ) (x y : Tally) → (pool_into s n a).answer ≡ accepted x → (pool_into t n b).answer ≡ accepted y
      → (x ≡ y) × ((w : Rows) × ReadOff s (pool_into s n a).schedule w × ReadOff t (pool_into t n b).schedule w)

abbrev pub EqualPools : Type 0
EqualPools =
    (s bytes : List ℕ) (m n : ℕ)
    → ((to_form2 s bytes).answer ≡ accepted m → SamePool s (take m (to_form2 s bytes).buffer) n)
    × ((to_form1 s bytes).answer ≡ accepted m → SamePool s (take m (to_form1 s bytes).buffer) n)
