-- What all rounds of a run from a pool are given, and what they leave; the same of a run of a plan that was read. Functions that are no
-- entries cite this file.
--   PoolGiven n plan entering p == the plan that was read is the plan p, which keeps all rules, `entering` has how many joins enter each of
--                       its actions, and n workers can run it
--   PoolLeft n t rows p == the counts are those of the run of p, and the rows those of its schedule
--   Noted round cost w ends ends' == in the calendar ends' worker w works on an action of that cost from the round after `round` on
--   Marks round marks ends == d is a member of the set of marks where actions end in the d-th round after that one, by the calendar; none
--                       ends in that round itself
--   tally_of n rounds worked peak == the counts of so many rounds of n workers, in so many turns of which an action was worked on
--   Answered form n before r after p == the answer r and the schedule `after` are those of a run of p, and all that is owed of it holds; the
--                       checker accepts the schedule, whatever bytes hold p in that form
use Rattle.std.specs.Prelude.{ℕ, ◌+◌, ◌-◌, ◌*◌, ◌%◌, ◌^◌, ◌≤◌, ◌<◌, ◌≡◌, ◌≢◌, false, not, List, eqb, length, get_or, take, Result as Returned, Ok}
use Rattle.plan.specs.declared.refusal.Refusal.{Refusal}
use Rattle.plan.specs.Refusal.{accepted}
use Rattle.plan.specs.Plan.{Plan, total}
use Rattle.plan.specs.Reader.{read_plan}
use Rattle.plan.specs.declared.sheet.Sheet.{Sheet}
use Rattle.courses.specs.Schedule.{schedule_length, checked}
use Rattle.crew.specs.Crew.{member}
use Rattle.plan.specs.Test.{either}
use Rattle.runs.specs.declared.tally.Tally.{Tally}
use Rattle.rounds.specs.Rounds.{RunIn}
use Rattle.scheduler.specs.Entry.{Result, resulted, ran_of}
use Rattle.turns.specs.Rows.{Rowed}
use Rattle.pools.specs.Run.{pool, admitted}
use Rattle.pools.specs.Claim.{Bounded}
use Rattle.pool_runner.specs.Entry.{made_of}

pub record PoolGiven (n : ℕ) (plan : Sheet) (entering : List ℕ) (p : Plan) : Type 0 where
  pub given : RunIn plan entering p
  pub some : 1 ≤ n
  pub most : n ≤ 16

pub record PoolLeft (n : ℕ) (t : Tally) (rows : List ℕ) (p : Plan) : Type 0 where
  pub counts : t ≡ (pool p n).tally
  pub rowed : Rowed p (pool p n).next (pool p n).rows rows

pub record Noted (round cost w : ℕ) (ends ends' : List ℕ) : Type 0 where
  pub long : length ends' ≡ 16
  pub small : (k : ℕ) → w < k → ((c : ℕ) → get_or ends c 0 < 2 ^ k) → (c : ℕ) → get_or ends' c 0 < 2 ^ k
  pub others : (c u : ℕ) → u ≢ w → member (get_or ends' c 0) u ≡ member (get_or ends c 0) u
  pub none : cost ≡ 0 → (c : ℕ) → member (get_or ends' c 0) w ≡ member (get_or ends c 0) w
  pub here : 1 ≤ cost → (c : ℕ) → c < 16 → member (get_or ends' c 0) w ≡ either (eqb c ((round + cost) % 16)) (member (get_or ends c 0) w)

pub record Marks (round marks : ℕ) (ends : List ℕ) : Type 0 where
  pub small : marks < 2 ^ 16
  pub here : member marks 0 ≡ false
  pub each : (d : ℕ) → d < 16 → member marks d ≡ not (eqb (get_or ends ((round + d) % 16) 0) 0)

abbrev pub tally_of : ℕ → ℕ → ℕ → ℕ → Tally
tally_of n rounds worked peak = record {
  rounds = rounds;
  actions = worked;
  idle = n * rounds - worked;
  requests = 0;
  steals = 0;
  bare = 0;
  idle_victim = 0;
  peak = peak;
}

abbrev pub Answered : ℕ → ℕ → List ℕ → Returned Tally Refusal → List ℕ → Plan → Type 0
Answered form n before r after p =
    (◌≡◌ {A = Result} (record { answer = ran_of r; schedule = after })
    (resulted form (made_of (admitted (accepted (record { form = form; plan = p })) n)) n before))
    × ((t : Tally) → r ≡ Ok t → Bounded p n form after t
    × ((bytes : List ℕ) → read_plan bytes ≡ accepted (record { form = form; plan = p })
    → checked bytes (take (schedule_length form (total p)) after) ≡ accepted 0))
