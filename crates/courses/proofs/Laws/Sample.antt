-- A sample: the definition of a course can be met, also with an action that takes two turns, a round in which nobody works and a change
-- of workers. Worker 0 has the first turn in round 1, nobody works in round 2, and worker 1 has the second turn in round 3.
--   sample_terms == a plan of one job with one action, which takes two turns, and two workers
--   with v      == the hands where worker v has job 0; nobody == the hands where no worker has a job
--   sample      == the course
use Prim.Native.Nat.{ℕ, zero, suc, ◌+◌, ◌<◌}
use mathlib.Core.Path.{◌≡◌, refl}
use mathlib.Core.Logic.{inl, inr}
use mathlib.Core.Bool.{false}
use mathlib.Core.List.{[], ◌∷◌}
use native.Mathlib.Omega.{arith}
use lib.ListN.{get_or}
use Rattle.plan.specs.Plan.{Plan, action}
use Rattle.courses.specs.Row.{no_row}
use Rattle.courses.specs.Ready.{weight}
use Rattle.lines.proofs.Laws.Shape.{Living, Ready}
use Rattle.courses.proofs.Laws.PlanShape.{shape}
use Rattle.courses.proofs.Laws.Course.{Core, next_in, Terms, Begins, Hands, Course, begins, next_round, rests, works, ends}
use Rattle.courses.proofs.Laws.Steps.{worked, finished, worked_works, finished_ends}

abbrev pub sample_plan : Plan
sample_plan = record { frame = 1; actions = record { spawn = 0; join = 0; cost = 2 } ∷ [] } ∷ []

abbrev pub sample_terms : Terms
sample_terms = record {
  plan = sample_plan;
  workers = 2;
  bound = λ r. weight sample_plan (0 ∷ []) + weight sample_plan (1 ∷ []);
  steady = false;
}

-- nothing is done, and then the first of the two turns
abbrev pub unbegun : Core
unbegun = record { next = 0 ∷ []; spent = 0 ∷ []; rows = no_row ∷ []; turns = 0; peak = 1 }

abbrev pub half : Core
half = worked 0 unbegun

abbrev pub nobody : ℕ → ℕ
nobody w = 0

abbrev pub with : ℕ → ℕ → ℕ
with zero zero = 1
with zero (suc w) = 0
with (suc v) zero = 0
with (suc v) (suc w) = with v w

-- whoever has a job is worker v and has job 0
abbrev Just : ℕ → (ℕ → ℕ) → Type 0
Just v b = (w j : ℕ) → b w ≡ suc j → (w ≡ v) × (j ≡ 0)

nobody_just : (v : ℕ) → Just v nobody
nobody_just v w j e = absurd (omega arith)

with_just : (v : ℕ) → Just v (with v)
with_just zero zero j e = (refl, omega arith)
with_just zero (suc w) j e = absurd (omega arith)
with_just (suc v) zero j e = absurd (omega arith)
with_just (suc v) (suc w) j e = let q = with_just v w j e in omega arith

no_join : (k a x : ℕ) → (action sample_plan k a).join ≡ suc x → ⊥
no_join zero zero x e = omega arith
no_join zero (suc a) x e = omega arith
no_join (suc k) a x e = omega arith

module _ (c : Core) (none : next_in c 0 ≡ 0) where
  lives : Living (shape sample_plan) (next_in c) 0
  lives = record { below = omega arith; begun = λ o. absurd (omega arith); left = omega arith }

  ready : Ready (shape sample_plan) (next_in c) 0
  ready k b a l e i = absurd (no_join k a (next_in c 0) i)

  -- just worker v has the job in the next round, or nobody
  hands : {k : ℕ} {b b' : ℕ → ℕ} → ((w j : ℕ) → b w ≡ suc j → w < k) → (v : ℕ) → v < 2 → Just v b' → Hands sample_terms k b b' c
  hands over v known just = record {
    over = over;
    goes = omega arith;
    known = λ w j q. omega (arith, just w j q);
    lives = λ w j q. rw (just w j q).1 lives;
    ready = λ w j q. rw (just w j q).1 ready;
    once = λ u w j q i. omega (arith, just u j q, just w j i);
    stays = λ z. absurd z;
  }

zeros : (j : ℕ) → ◌≡◌ {A = ℕ} (get_or (0 ∷ []) j 0) 0
zeros zero = refl
zeros (suc j) = refl

begun : Begins sample_plan unbegun
begun = record { none = zeros; fresh = zeros; long = refl; turns = refl; peak = refl }

start : Course sample_terms 0 0 0 nobody unbegun
start = begins (λ w. refl) begun (omega arith)

round_1 : Course sample_terms 1 0 1 (with 0) half
round_1 =
    works (next_round start (hands unbegun refl (λ w j q. absurd (omega arith)) 0 (omega arith) (with_just 0)) (inl (refl, (0, 0, refl))))
    refl (omega arith) (worked_works sample_plan 0 unbegun (omega arith))

round_2 : Course sample_terms 2 1 0 nobody half
round_2 = next_round round_1 (hands half refl (λ w j q. omega (arith, with_just 0 w j q)) 0 (omega arith) (nobody_just 0)) (inr (refl, λ w. refl))

round_3 : Course sample_terms 3 1 0 (with 1) half
round_3 = next_round round_2 (hands half refl (λ w j q. absurd (omega arith)) 1 (omega arith) (with_just 1)) (inl (refl, (1, 0, refl)))

pub sample : Course sample_terms 3 1 2 (with 1) (finished sample_plan 3 1 0 half)
sample = ends (rests round_3 refl) refl refl (finished_ends sample_plan 3 1 0 half refl refl (omega arith) (omega arith)) (omega arith)
