-- What the exported functions answer, as plain numbers: the refusal's number, 0 for none, then what was asked for, or 0s.
--   count_of, measures_of, tally_of      == the numbers of an outcome
--   check_of                           == the number of a judgement
--   Converted from to plan r bytes    == what was written holds the plan that was given, in the other form
--   Paired frame first second r bytes == what was written is accepted, and has the T1, S1 and T∞ that document 02, L9, says
--   Divided r                         == T1 divided by T∞ is `parallel`, and `rest` remains
--   Claimed plan n choices r schedule == demand 3's claim and the sums, of what was returned and written
--   PoolClaimed plan n r schedule     == all that is owed of a run from a pool, of what was returned and written
use Rattle.std.specs.Prelude.{ℕ, ◌≡◌, List, take}
use Rattle.plan.specs.Refusal.{Outcome, refused, accepted}
use Rattle.plan.specs.Plan.{Plan, total}
use Rattle.plan.specs.Reader.{Read, read_plan}
use Rattle.plan_measure.specs.declared.Measures.{Measures}
use Rattle.plan_measure.specs.Measure.{Quotient}
use Rattle.plan_pair.specs.Pair.{Result}
use Rattle.runs.specs.declared.tally.Tally.{Tally}
use Rattle.runs.specs.Setting.{setting}
use Rattle.runs.specs.Claim.{Bounded}
use Rattle.pools.specs.Claim.{Bounded as PoolBounded}
use Rattle.courses.specs.Schedule.{schedule_length, checked}
use Rattle.cabi.specs.declared.DwCount.{DwCount}
use Rattle.cabi.specs.declared.DwMeasures.{DwMeasures}
use Rattle.cabi.specs.declared.DwTally.{DwTally}

abbrev pub count_of : Outcome ℕ → DwCount
count_of (refused k) = record { refused = k; count = 0 }
count_of (accepted n) = record { refused = 0; count = n }

abbrev pub measures_of : Outcome Measures → DwMeasures
measures_of (refused k) = record { refused = k; total = 0; work = 0; longest = 0; path = 0; parallel = 0; rest = 0 }
measures_of (accepted m) =
    record {
      refused = 0;
      total = m.total;
      work = m.work;
      longest = m.longest;
      path = m.path;
      parallel = m.parallel;
      rest = m.rest;
    }

abbrev pub tally_of : Outcome Tally → DwTally
tally_of (refused k) =
    record { refused = k; rounds = 0; actions = 0; idle = 0; requests = 0; steals = 0; bare = 0; idle_victim = 0; peak = 0 }
tally_of (accepted t) =
    record {
      refused = 0;
      rounds = t.rounds;
      actions = t.actions;
      idle = t.idle;
      requests = t.requests;
      steals = t.steals;
      bare = t.bare;
      idle_victim = t.idle_victim;
      peak = t.peak;
    }

abbrev pub check_of : Outcome ℕ → ℕ
check_of (refused k) = k
check_of (accepted n) = 0

-- where nothing is refused
abbrev pub Converted : (from to : ℕ) → List ℕ → DwCount → List ℕ → Type 0
Converted from to plan r bytes =
    r.refused ≡ 0
    → (p : Plan) × (read_plan plan ≡ accepted (record { form = from; plan = p }))
    × (read_plan (take r.count bytes) ≡ accepted (record { form = to; plan = p }))

abbrev pub Paired : ℕ → List ℕ → List ℕ → DwCount → List ℕ → Type 0
Paired frame first second r bytes = r.refused ≡ 0 → Result frame first second (take r.count bytes)

abbrev pub Divided : DwMeasures → Type 0
Divided r = r.refused ≡ 0 → Quotient r.work r.longest r.parallel r.rest

-- where nothing is refused, the plan was accepted, and the claim holds of the rows read off the schedule, with the tally
abbrev pub Claimed : List ℕ → ℕ → List ℕ → DwTally → List ℕ → Type 0
Claimed plan n choices r schedule =
    r.refused ≡ 0
    → (x : Read) × (t : Tally) × (read_plan plan ≡ accepted x) × (r ≡ tally_of (accepted t)) × Bounded (setting x.plan n choices) x.form schedule t

-- the same of a run from a pool, whose schedule the checker accepts
abbrev pub PoolClaimed : List ℕ → ℕ → DwTally → List ℕ → Type 0
PoolClaimed plan n r schedule =
    r.refused ≡ 0
    → (x : Read) × (t : Tally) × (read_plan plan ≡ accepted x) × (r ≡ tally_of (accepted t)) × PoolBounded x.plan n x.form schedule t
    × (checked plan (take (schedule_length x.form (total x.plan)) schedule) ≡ accepted 0)
