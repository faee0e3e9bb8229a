-- Which jobs are spawned, ready and living, where so many actions of each job are done (document 01, "Plan").
--   spawned p next j == job j is spawned, where next gives how many actions of each job are done
--   ready p next j   == the next action of job j is ready
--   living p next j  == job j lives
--   weight p next    == the weight of the living jobs' frames
use Rattle.std.specs.Prelude.{ℕ, suc, ◌+◌, Bool, true, false, not, List, [], ◌∷◌, get_or, eqb, leb, ltb}
use Rattle.plan.specs.Test.{both, either, all}
use Rattle.plan.specs.Plan.{Plan, Job, size, placed, parent, spawn_at, enters}

unfoldable pub spawned : Plan → List ℕ → ℕ → Bool
unfolding parent spawn_at
spawned p next j = either (eqb j 0) (ltb (spawn_at p j) (get_or next (parent p j) 0))

-- "An action is ready when the one before it, its spawner (for position 0) and all senders of joins into it are done."
unfoldable pub ready : Plan → List ℕ → ℕ → Bool
unfolding spawned enters
ready p next j =
    both (either (leb 1 (get_or next j 0)) (spawned p next j))
    (all (λ a. either (not (enters p j (get_or next j 0) a)) (ltb a.position (get_or next a.job 0))) (placed p))

-- "held from its spawn until its last action is done"
unfoldable pub living : Plan → List ℕ → ℕ → Bool
unfolding spawned
living p next j = both (spawned p next j) (ltb (get_or next j 0) (size p j))

-- the frames of those jobs, of the ones from job j on, that a test holds of
abbrev pub frames : (ℕ → Bool) → ℕ → List Job → ℕ
frames f j [] = 0
frames f j (b ∷ bs) = elim (f j) [ true ↦ b.frame + frames f (suc j) bs | false ↦ frames f (suc j) bs ]

unfoldable pub weight : Plan → List ℕ → ℕ
unfolding living
weight p next = frames (living p next) 0 p
