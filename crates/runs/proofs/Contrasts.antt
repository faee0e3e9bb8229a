-- Small runs that tell rules of documents 01 and 02 from errors close to them: with the error, the fact does not hold.
-- The laws are checked in the order of their names, so a wrong definition is first refused here, by a number of these runs.
--   G of courses == job 0, three actions, spawns 1 at 0; job 1, one, joins position 2; frames 1
--   H == job 0, four actions, spawns 1 at 0 and 3 at 1; job 1, four, spawns 2 at 0 and 4 at 1, last joins position 3;
--        jobs 2, 3 and 4, one each, join position 3; frames 1
--   K == job 0, four actions, spawns 1 at 0; job 1, four, its second spawns 2 and joins position 2, last joins position 3;
--        job 2, one, joins position 3; frames 1
--   L == job 0, four actions, spawns 1 at 1; job 1, one, joins position 3; frames 1
--   M == job 0, four actions, spawns 1 at 0 and 2 at 1; job 1, one, joins position 3; job 2, two, last joins position 3; frames 1
--   N == job 0, three actions, of which the first takes three rounds and spawns 1; job 1, one, joins position 2; frames 1
--   done p s j i == the row of action i of job j
--   undone rows  == how many actions have no round
use Prim.Native.Nat.{ℕ, zero, suc}
use mathlib.Core.Path.{◌≡◌, refl}
use mathlib.Core.List.{List, [], ◌∷◌}
use lib.ListN.{get_or}
use Rattle.plan.specs.Plan.{Plan, spawn_at, entering}
use Rattle.plan.specs.Rules.{in_range, spawn_rules, join_rules, Accepted}
use Rattle.courses.specs.Row.{Row, no_row, place}
use Rattle.runs.specs.State.{State}
use Rattle.plan_measure.specs.Measure.{work}
use Rattle.runs.specs.Setting.{Setting, setting, count_in}
use Rattle.runs.specs.Run.{run}
use Rattle.runs.specs.Misses.{misses}
use Rattle.runs.specs.Cases.{row}
use Rattle.courses.proofs.Contrasts.{plain, spawns, joins, taking, of, G}

abbrev H : Plan
H =
    of (spawns 1 ∷ spawns 3 ∷ plain ∷ plain ∷ [])
    ∷ of (spawns 2 ∷ spawns 4 ∷ plain ∷ joins 3 ∷ [])
    ∷ of (joins 3 ∷ [])
    ∷ of (joins 3 ∷ [])
    ∷ of (joins 3 ∷ [])
    ∷ []

abbrev K : Plan
K =
    of (spawns 1 ∷ plain ∷ plain ∷ plain ∷ [])
    ∷ of (plain ∷ record { spawn = 3; join = 3; cost = 1 } ∷ plain ∷ joins 3 ∷ [])
    ∷ of (joins 3 ∷ [])
    ∷ []

abbrev L : Plan
L = of (plain ∷ spawns 1 ∷ plain ∷ plain ∷ []) ∷ of (joins 3 ∷ []) ∷ []

abbrev M : Plan
M = of (spawns 1 ∷ spawns 2 ∷ plain ∷ plain ∷ []) ∷ of (joins 3 ∷ []) ∷ of (plain ∷ joins 3 ∷ []) ∷ []

abbrev N : Plan
N = of (taking 3 (spawns 1) ∷ plain ∷ plain ∷ []) ∷ of (joins 2 ∷ []) ∷ []

pub H-accepted : Accepted H
unfolding in_range spawn_rules join_rules entering spawn_at
H-accepted = record { range = tt; spawns = tt; joins = tt }

pub K-accepted : Accepted K
unfolding in_range spawn_rules join_rules entering spawn_at
K-accepted = record { range = tt; spawns = tt; joins = tt }

pub L-accepted : Accepted L
unfolding in_range spawn_rules join_rules entering spawn_at
L-accepted = record { range = tt; spawns = tt; joins = tt }

pub M-accepted : Accepted M
unfolding in_range spawn_rules join_rules entering spawn_at
M-accepted = record { range = tt; spawns = tt; joins = tt }

pub N-accepted : Accepted N
unfolding in_range spawn_rules join_rules entering spawn_at
N-accepted = record { range = tt; spawns = tt; joins = tt }

abbrev G-run : State
G-run = run (setting G 2 (0 ∷ []))

abbrev H-run : State
H-run = run (setting H 2 (1 ∷ 0 ∷ []))

abbrev K-run : State
K-run = run (setting K 2 (0 ∷ []))

abbrev L-run : State
L-run = run (setting L 3 (0 ∷ []))

abbrev G-all_ask_0 : Setting
G-all_ask_0 = setting G 3 (0 ∷ [])

abbrev G-given : State
G-given = run (setting G 3 (0 ∷ 1 ∷ 1 ∷ []))

abbrev M-run : State
M-run = run (setting M 3 (0 ∷ 0 ∷ 1 ∷ 0 ∷ 1 ∷ []))

abbrev N-run : State
N-run = run (setting N 2 (0 ∷ []))

abbrev done : Plan → State → ℕ → ℕ → Row
done p s j i = get_or s.rows (place p j i) no_row

abbrev undone : List Row → ℕ
undone [] = 0
undone (a ∷ rows) = elim a.round [ zero ↦ suc (undone rows) | suc r ↦ undone rows ]

-- every action of G has a round: the run goes on until job 0 has ended, and leaves no row out
pub every_action_done : undone G-run.rows ≡ 0
unfolding run count_in work
every_action_done = refl

-- worker 1 steals job 0 in round 1 and does its next action in round 2
pub thief_waits : done G G-run 0 1 ≡ row 2 1
unfolding run count_in work
thief_waits = refl

-- as round 2 ends worker 0's deque has job 1 at the bottom and job 0 at the top: worker 1 steals job 0
pub top_stolen : done H H-run 0 1 ≡ row 3 1
unfolding run count_in work
top_stolen = refl

-- job 0 stalls on worker 1 in round 5; worker 0 sends the last join to it in round 7, and does its next action
pub parent_to_sender : done H H-run 0 3 ≡ row 8 0
unfolding run count_in work
parent_to_sender = refl

-- in round 2 worker 0 sends the join into job 0's action 2 before worker 1 does action 1: job 0 does not stall
pub join_in_time : done G G-run 0 2 ≡ row 3 1
unfolding run count_in work
join_in_time = refl

-- worker 0 loses its job in round 2, and the run ends before it lays a request
pub request_waits : G-run.tally.requests ≡ 1
unfolding run count_in work
request_waits = refl

-- in round 4 worker 0 spawns job 4, and then job 3 ends on worker 1: jobs 0, 1, 3 and 4 live between the two turns
pub peak_each_turn : H-run.tally.peak ≡ 4
unfolding run count_in work
peak_each_turn = refl

-- job 0 stalls on worker 1 in round 2. In round 3 worker 0's action sends it its join and spawns: job 0 goes on the bottom of
-- worker 0's deque, then job 1, so that job 0 is at the top and worker 1 steals it
pub parent_above_spawner : done K K-run 0 2 ≡ row 4 1
unfolding run count_in work
parent_above_spawner = refl

-- workers 1 and 2 ask worker 0 in round 1, worker 1 misses and asks again in round 2: worker 2's request is the older one
pub oldest_served : done L L-run 0 2 ≡ row 3 2
unfolding run count_in work
oldest_served = refl

-- workers 1 and 2 ask worker 0 in round 1, and worker 1 gets job 0. In round 2 job 1 ends on worker 0, which then serves worker 2: it
-- held a job when the round began, and holds none now
pub idle_when_served : (run G-all_ask_0).tally.idle_victim ≡ 1
unfolding run count_in work
idle_when_served = refl

-- worker 1 is given job 0 in round 1 and then serves worker 2: it held none when the round began, and holds one now. In round 2 worker 2
-- asks it again
pub bare_when_served : G-given.tally.bare ≡ 2
unfolding run count_in work
bare_when_served = refl

-- in round 3 worker 0, which holds nothing, serves worker 2, and then worker 1 gives it job 0
pub idle_before_given : M-run.tally.idle_victim ≡ 2
unfolding run count_in work
idle_before_given = refl

-- of the requests that all ask worker 0, one meets an empty deque
pub missed_once : misses G-all_ask_0 ≡ 1
unfolding misses count_in work
missed_once = refl

-- job 0's first action takes rounds 1 to 3: job 1 is spawned in round 3 and does its action in round 4
pub effect_in_last_round : done N N-run 1 0 ≡ row 4 0
unfolding run count_in work
effect_in_last_round = refl

-- its row is its last round
pub row_of_last_round : done N N-run 0 0 ≡ row 3 0
unfolding run count_in work
row_of_last_round = refl

-- each of its rounds is a worked turn
pub turns_worked : N-run.tally.actions ≡ 6
unfolding run count_in work
turns_worked = refl
