-- What is owed of a run from a pool (document 02, L1; demand 3 of document 01, said of this run): one claim about the whole of it.
--   Bounds p n rows t    == the claim, said of any rows and any tally for the plan p and n workers, and of the last state of its run
--   Bounded p n form schedule t == the same of the rows that are read off the bytes of a schedule of that form, and a tally
--   Claim p n            == it holds of the rows and the tally of the run
--   PoolClaim            == for all accepted plan bytes and all worker counts 1 to 16
use Rattle.std.specs.Prelude.{ℕ, ◌+◌, ◌-◌, ◌*◌, ◌≤◌, ◌<◌, ◌≡◌, List, take, get_or, T}
use Rattle.plan.specs.Refusal.{accepted}
use Rattle.plan.specs.Plan.{Plan, size, total}
use Rattle.plan.specs.Reader.{Read, read_plan}
use Rattle.plan_measure.specs.Measure.{work, longest, heaviest, parallel, rest}
use Rattle.courses.specs.Row.{Row, no_row, place}
use Rattle.courses.specs.Schedule.{schedule_length, read_schedule, keeps}
use Rattle.courses.specs.Living.{weight_after, peak_of, last_round}
use Rattle.runs.specs.declared.tally.Tally.{Tally}
use Rattle.runs.specs.Run.{workers_fit}
use Rattle.pools.specs.State.{next_of}
use Rattle.pools.specs.Run.{pool}

module _ (plan : Plan) (workers : ℕ) where
  pub record Bounds (rows : List Row) (t : Tally) : Type 0 where
    -- the build ends: every action is done, in a round from 1 to the last one and by one of the P workers
    pub done : (k : ℕ) → k < total plan → let a = get_or rows k no_row in (1 ≤ a.round) × (a.round ≤ t.rounds) × (a.worker < workers)
    -- the run has ended: in its last state job 0 has no action left, and the last round is the one in which it does its last
    pub over : size plan 0 ≤ next_of (pool plan workers) 0
    pub ends : (get_or rows (place plan 0 (size plan 0 - 1)) no_row).round ≡ t.rounds
    -- "the frames stay within P × S1 after each turn", and at the start (round 0)
    pub space : (r w : ℕ) → weight_after plan rows r w ≤ workers * heaviest plan
    -- "P × rounds is at most T1 + (P − 1) × T∞"
    pub greedy : workers * t.rounds ≤ work plan + (workers - 1) * longest plan
    -- the build ends in at most T1 rounds and at least T∞
    pub most_rounds : t.rounds ≤ work plan
    pub least_rounds : longest plan ≤ t.rounds
    -- with one worker the peak is S1 and the rounds are T1
    pub lone_peak : workers ≡ 1 → t.peak ≡ heaviest plan
    pub lone_rounds : workers ≡ 1 → t.rounds ≡ work plan
    -- the peak is the largest of those weights, and after no turn, idle turns with them, do the frames weigh more; the rounds are
    -- the last round in the rows
    pub peak : t.peak ≡ peak_of plan rows
    pub below_peak : (r w : ℕ) → weight_after plan rows r w ≤ t.peak
    pub rounds : t.rounds ≡ last_round rows
    -- in T1 turns an action was worked on, and "P × rounds = actions + idle turns"
    pub actions : t.actions ≡ work plan
    pub turns : workers * t.rounds ≡ t.actions + t.idle
    -- L7: more workers than the quotient of T1 and T∞ cannot all be kept busy. P − quotient is 0 where P is not above it
    pub spare : (workers - parallel plan) * longest plan ≤ t.idle + rest plan
    -- "requests, steals and misses are 0"
    pub none : (t.requests ≡ 0) × (t.steals ≡ 0) × (t.bare ≡ 0) × (t.idle_victim ≡ 0)
    -- the rows keep the checker's rules
    pub kept : T (keeps plan workers rows)

  -- the first bytes are a schedule of P workers for the plan, and the bounds hold of its rows with the tally
  pub record Bounded (form : ℕ) (schedule : List ℕ) (t : Tally) : Type 0 where
    pub rows : List Row
    pub read : read_schedule form (take (schedule_length form (total plan)) schedule) (total plan) ≡ accepted (record { workers = workers; rows = rows })
    pub bounds : Bounds rows t

  abbrev pub Claim : Type 0
  Claim = Bounds (pool plan workers).rows (pool plan workers).tally

abbrev pub PoolClaim : Type 0
PoolClaim = (s : List ℕ) (r : Read) (n : ℕ) → read_plan s ≡ accepted r → T (workers_fit n) → Claim r.plan n
