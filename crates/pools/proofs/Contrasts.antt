-- Small runs from a pool that tell the rules of document 02, L1, from errors close to them: with the error, the fact does not hold.
-- The laws are checked in the order of their names, so a wrong definition is first refused here, by a number of these runs.
--   G of courses == job 0, three actions, spawns 1 at 0; job 1, one, joins position 2; frames 1
--   A == job 0, four actions, spawns 1 at 0 and 3 at 1; job 1, four, spawns 2 at 0, last joins position 3; job 2, three, last joins
--        position 3; job 3, one, joins position 3; frames 1
--   B == job 0, four actions, spawns 1 at 0 and 2 at 1; job 1, three, last joins position 3; job 2, two, last joins position 3; frames 1
--   N == job 0, three actions, of which the first takes three rounds and spawns 1; job 1, one, joins position 2; frames 1
--   K == the plan that three workers run in 8 rounds, four in 9 and five in 8 again (specs/Cases.antt has its bytes)
--   done p n j i == the row of action i of job j in the run by n workers
use Prim.Native.Nat.{ℕ}
use mathlib.Core.Path.{◌≡◌, refl}
use mathlib.Core.List.{[], ◌∷◌}
use lib.ListN.{get_or}
use Rattle.plan.specs.Refusal.{accepted}
use Rattle.plan.specs.Plan.{Plan, spawn_at, entering}
use Rattle.plan.specs.Rules.{in_range, spawn_rules, join_rules, Accepted}
use Rattle.plan_measure.specs.Measure.{work}
use Rattle.courses.specs.Row.{Row, no_row, place}
use Rattle.courses.proofs.Contrasts.{plain, spawns, joins, taking, of, G}
use Rattle.runs.specs.Cases.{row}
use Rattle.pools.specs.Run.{pool}
use Rattle.pools.specs.Fewest.{fewest}

abbrev A : Plan
A =
    of (spawns 1 ∷ spawns 3 ∷ plain ∷ plain ∷ [])
    ∷ of (spawns 2 ∷ plain ∷ plain ∷ joins 3 ∷ [])
    ∷ of (plain ∷ plain ∷ joins 3 ∷ [])
    ∷ of (joins 3 ∷ [])
    ∷ []

abbrev B : Plan
B = of (spawns 1 ∷ spawns 2 ∷ plain ∷ plain ∷ []) ∷ of (plain ∷ plain ∷ joins 3 ∷ []) ∷ of (plain ∷ joins 3 ∷ []) ∷ []

abbrev N : Plan
N = of (taking 3 (spawns 1) ∷ plain ∷ plain ∷ []) ∷ of (joins 2 ∷ []) ∷ []

abbrev K : Plan
K =
    of (spawns 2 ∷ spawns 1 ∷ plain ∷ plain ∷ plain ∷ [])
    ∷ of (spawns 3 ∷ plain ∷ plain ∷ plain ∷ joins 4 ∷ [])
    ∷ of (spawns 4 ∷ joins 3 ∷ plain ∷ joins 4 ∷ [])
    ∷ of (joins 3 ∷ [])
    ∷ of (plain ∷ joins 3 ∷ [])
    ∷ []

pub A-accepted : Accepted A
unfolding in_range spawn_rules join_rules entering spawn_at
A-accepted = record { range = tt; spawns = tt; joins = tt }

pub B-accepted : Accepted B
unfolding in_range spawn_rules join_rules entering spawn_at
B-accepted = record { range = tt; spawns = tt; joins = tt }

abbrev done : Plan → ℕ → ℕ → ℕ → Row
done p n j i = get_or (pool p n).rows (place p j i) no_row

-- jobs 0 and 1 wait in the pool, both ready, and worker 1 takes job 0
pub lowest_taken : done A 2 0 2 ≡ row 4 1
unfolding pool work
lowest_taken = refl

-- worker 0 ends job 1 while job 2 lives, and does not take job 0; worker 1 then ends job 2 in the same round, and does
pub last_child_takes : done B 2 0 2 ≡ row 5 1
unfolding pool work
last_child_takes = refl

-- worker 0 ends job 1, no child of job 0 lives, but worker 1 holds it: it does the last action, and worker 0 idles
pub held_stays : done G 2 0 2 ≡ row 3 1
unfolding pool work
held_stays = refl

-- worker 1 idles in rounds 1 and 3; in round 2 it took job 0, and has no idle turn
pub idle_after_taking : (pool G 2).tally.idle ≡ 2
unfolding pool work
idle_after_taking = refl

-- the spawner goes to the pool, where the other worker finds it
pub child_kept : done G 2 1 0 ≡ row 2 0
unfolding pool work
child_kept = refl

-- a spawn takes effect in the last of an action's rounds
pub effect_in_last_round : done N 2 1 0 ≡ row 4 0
unfolding pool work
effect_in_last_round = refl

-- a fourth worker makes it slower, and a fifth as fast again
pub fourth_slower : ((pool K 3).tally.rounds ≡ 8) × ((pool K 4).tally.rounds ≡ 9) × ((pool K 5).tally.rounds ≡ 8)
unfolding pool work
fourth_slower = (refl, refl, refl)

-- just within the count, by three; that four take too long proves nothing of three
pub just_within : fewest K 8 ≡ accepted 3
unfolding fewest work
just_within = refl
