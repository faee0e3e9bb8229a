-- A number that tells a rule of document 01 from an error close to it: with the error, the fact does not hold.
-- The laws are checked in the order of their names, so a wrong definition is first refused here.
--   plain, spawns c, joins t == an action that does neither, that spawns job c, that joins position t; it costs 1
--   taking n a               == the action a, which costs n
--   of actions               == a job of frame 1
--   G == job 0, three actions, spawns 1 at 0; job 1, one, joins position 2; frames 1
use Prim.Native.Nat.{ℕ, suc}
use mathlib.Core.Path.{◌≡◌, refl}
use mathlib.Core.List.{List, [], ◌∷◌}
use Rattle.plan.specs.Plan.{Action, Job, Plan, spawn_at, entering}
use Rattle.plan.specs.Rules.{in_range, spawn_rules, join_rules, Accepted}
use Rattle.courses.specs.Ready.{weight}

abbrev pub plain : Action
plain = record { spawn = 0; join = 0; cost = 1 }

abbrev pub spawns : ℕ → Action
spawns c = record { spawn = suc c; join = 0; cost = 1 }

abbrev pub joins : ℕ → Action
joins t = record { spawn = 0; join = suc t; cost = 1 }

abbrev pub taking : ℕ → Action → Action
taking n a = record { spawn = a.spawn; join = a.join; cost = n }

abbrev pub of : List Action → Job
of actions = record { frame = 1; actions = actions }

abbrev pub G : Plan
G = of (spawns 1 ∷ plain ∷ plain ∷ []) ∷ of (joins 2 ∷ []) ∷ []

pub G-accepted : Accepted G
unfolding in_range spawn_rules join_rules entering spawn_at
G-accepted = record { range = tt; spawns = tt; joins = tt }

-- job 1, which has one action, is spawned and its action is not done: its frame is held
pub frame_held : weight G (1 ∷ 0 ∷ []) ≡ 2
unfolding weight
frame_held = refl
