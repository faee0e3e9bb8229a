-- Numbers that tell rules of documents 01 and 02 from errors close to them: with the error, the fact does not hold.
--   G == job 0, three actions that cost 2, 3 and 4, spawns 1 at 0; job 1, one that costs 9, joins position 2; frames 1
--   H == job 0, five actions that cost 1, spawns 1, 2 and 3 at 0, 1 and 2; each of them, one that costs 4, joins position 4; frames 1
use mathlib.Core.Path.{◌≡◌, refl}
use mathlib.Core.List.{[], ◌∷◌}
use Rattle.plan.specs.Plan.{Job, Plan, spawn_at, entering}
use Rattle.plan.specs.Rules.{in_range, spawn_rules, join_rules, Accepted}
use Rattle.plan_measure.specs.Measure.{work, longest, parallel, rest}

abbrev G : Plan
G =
    record {
      frame = 1;
      actions = record { spawn = 2; join = 0; cost = 2 } ∷ record { spawn = 0; join = 0; cost = 3 } ∷ record { spawn = 0; join = 0; cost = 4 } ∷ [];
    }
    ∷ record { frame = 1; actions = record { spawn = 0; join = 3; cost = 9 } ∷ [] }
    ∷ []

abbrev child : Job
child = record { frame = 1; actions = record { spawn = 0; join = 5; cost = 4 } ∷ [] }

abbrev H : Plan
H =
    record {
      frame = 1;
      actions =
          record { spawn = 2; join = 0; cost = 1 }
          ∷ record { spawn = 3; join = 0; cost = 1 }
          ∷ record { spawn = 4; join = 0; cost = 1 }
          ∷ record { spawn = 0; join = 0; cost = 1 }
          ∷ record { spawn = 0; join = 0; cost = 1 }
          ∷ [];
    }
    ∷ child
    ∷ child
    ∷ child
    ∷ []

G-accepted : Accepted G
unfolding in_range spawn_rules join_rules entering spawn_at
G-accepted = record { range = tt; spawns = tt; joins = tt }

H-accepted : Accepted H
unfolding in_range spawn_rules join_rules entering spawn_at
H-accepted = record { range = tt; spawns = tt; joins = tt }

-- the costs of its four actions
costs_added : work G ≡ 18
unfolding work
costs_added = refl

-- the root's first action, that of job 1 and the root's last; the root's three, as many, cost 9
costliest_chain : longest G ≡ 15
unfolding longest
costliest_chain = refl

-- T1 17 divided by T∞ 8
H-quotient : parallel H ≡ 2
unfolding parallel work longest
H-quotient = refl

H-remainder : rest H ≡ 1
unfolding rest work longest
H-remainder = refl
