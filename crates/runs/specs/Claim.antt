-- What demand 3 says: one claim about a whole run, from its start to its end, and with it the sums that the run's counts keep and
-- what T1 divided by T∞ says of idle turns.
--   Bounds S rows t      == the claim, said of any rows and any tally for the setting S, and of the last state of its run
--   Bounded S form schedule t == the same of the rows that are read off the bytes of a schedule of that form, and a tally
--   Claim S              == it holds of the rows and the tally of the run of S
--   Demand3              == for all accepted plan bytes, all worker counts 1 to 16 and all accepted lists of choices
--   EveryOrder           == for every order of steals: lists of choices of any length, whose entries name workers
use Rattle.std.specs.Prelude.{ℕ, ◌+◌, ◌-◌, ◌*◌, ◌≤◌, ◌<◌, ◌≡◌, List, take, get_or, T, ltb}
use Rattle.plan.specs.Refusal.{accepted}
use Rattle.plan.specs.Test.{all}
use Rattle.plan.specs.Plan.{size, total}
use Rattle.plan.specs.Reader.{Read, read_plan}
use Rattle.plan_measure.specs.Measure.{work, longest, heaviest, parallel, rest}
use Rattle.runs.specs.declared.tally.Tally.{Tally}
use Rattle.courses.specs.Row.{Row, no_row, place}
use Rattle.runs.specs.Setting.{Setting, setting}
use Rattle.runs.specs.State.{next_of}
use Rattle.runs.specs.Steal.{waiting}
use Rattle.runs.specs.Run.{run, workers_fit, choices_fit}
use Rattle.runs.specs.Misses.{misses}
use Rattle.courses.specs.Schedule.{schedule_length, read_schedule}
use Rattle.courses.specs.Living.{weight_after, peak_of, last_round}

module _ (S : Setting) where
  open S use {plan, workers}

  pub record Bounds (rows : List Row) (t : Tally) : Type 0 where
    -- the build ends: every action is done, in a round from 1 to the last one and by one of the P workers
    pub done : (k : ℕ) → k < total plan → let a = get_or rows k no_row in (1 ≤ a.round) × (a.round ≤ t.rounds) × (a.worker < workers)
    -- the run has ended: in its last state job 0 has no action left, and the last round is the one in which it does its last
    pub over : size plan 0 ≤ next_of (run S) 0
    pub ends : (get_or rows (place plan 0 (size plan 0 - 1)) no_row).round ≡ t.rounds
    -- at the start (round 0) and after every single turn the frames of living jobs weigh at most P × S1
    pub space : (r w : ℕ) → weight_after plan rows r w ≤ workers * heaviest plan
    -- the build ends in at most T1 rounds and at least T∞
    pub most_rounds : t.rounds ≤ work plan
    pub least_rounds : longest plan ≤ t.rounds
    -- with one worker the peak is S1 and the rounds are T1
    pub lone_peak : workers ≡ 1 → t.peak ≡ heaviest plan
    pub lone_rounds : workers ≡ 1 → t.rounds ≡ work plan
    -- the peak is the largest of those weights, and after no turn, idle turns with them, do the frames weigh more; the rounds are
    -- the last round in the rows
    pub peak : t.peak ≡ peak_of plan rows
    pub below_peak : (r w : ℕ) → weight_after plan rows r w ≤ t.peak
    pub rounds : t.rounds ≡ last_round rows
    -- in T1 turns an action was worked on, and "P × rounds = actions + idle turns"
    pub actions : t.actions ≡ work plan
    pub turns : workers * t.rounds ≡ t.actions + t.idle
    -- document 02, L7: more workers than the quotient of T1 and T∞ cannot all be kept busy. P − quotient is 0 where P is not above it
    pub spare : (workers - parallel plan) * longest plan ≤ t.idle + rest plan
    -- "requests = steals + misses + requests still waiting", as the run ends; document 02, L2, of bare and idle-victim: "Their sum is the
    -- old count."
    pub requests : t.requests ≡ t.steals + t.bare + t.idle_victim + waiting workers (run S).workers
    pub misses_split : t.bare + t.idle_victim ≡ misses S

  -- the first bytes are a schedule of P workers for the plan, and the bounds hold of its rows with the tally
  pub record Bounded (form : ℕ) (schedule : List ℕ) (t : Tally) : Type 0 where
    pub rows : List Row
    pub read : read_schedule form (take (schedule_length form (total plan)) schedule) (total plan) ≡ accepted (record { workers = workers; rows = rows })
    pub bounds : Bounds rows t

  abbrev pub Claim : Type 0
  Claim = Bounds (run S).rows (run S).tally

abbrev pub Demand3 : Type 0
Demand3 =
    (s : List ℕ) (r : Read) (n : ℕ) (choices : List ℕ) → read_plan s ≡ accepted r → T (workers_fit n) → T (choices_fit n choices)
    → Claim (setting r.plan n choices)

-- An entry takes at most 4,096 choices and reads them again from the first once they are used up. A run lays finitely many requests,
-- so a list that is long enough names any victims that anybody may choose, one after the other, as the run goes on.
abbrev pub EveryOrder : Type 0
EveryOrder =
    (s : List ℕ) (r : Read) (n : ℕ) (choices : List ℕ) → read_plan s ≡ accepted r → T (workers_fit n) → T (all (λ c. ltb c n) choices)
    → Claim (setting r.plan n choices)
