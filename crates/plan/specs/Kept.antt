-- What the loops over a plan's array keep from action to action. Private functions alone cite this file.
--   spawning c a      == the action spawns job c
--   Recorded k plan p == the counts are those of p, and the arrays have the jobs and actions of p, of which the first k keep the rules of their own spawns, and what
--                        these spawn: a job with no spawn noted is one that none of them spawns
--   SpawnAt k plan p  == so it is before action k of p, which spawns a job
--   SpawnTold k r plan p == the answer r tells whether the first k actions keep those rules, or the spawn rules are broken
--   AllTold plan r       == the answer r tells whether every job but 0 has a spawn noted
--   Counted k l p     == the first k actions keep the rules of their own joins, and the array l holds how many of their joins enter
--                        each action: at most 8
--   JoinAt k plan l p, JoinsFrom plan l p == so it is before action k of p, which sends a join, and before the first one of all
--   JoinTold k r l p  == the answer r tells whether the first k actions keep those rules, or the join rules are broken
--   LastsIn plan p    == the arrays have the jobs and actions of p, and their number of jobs is its
--   LastsTold plan r  == the answer r tells whether the last action of every job but 0 sends a join
use Rattle.std.specs.Prelude.{ℕ, suc, ◌+◌, ◌-◌, ◌≤◌, ◌<◌, ◌≡◌, Bool, List, length, get_or, take, T, eqb}
use Rattle.plan.specs.declared.sheet.Sheet.{Sheet}
use Rattle.plan.specs.Test.{count}
use Rattle.plan.specs.Told.{Told}
use Rattle.plan.specs.Plan.{Plan, Placed, size, total, placed, no_placed, parent, spawn_at, enters}
use Rattle.plan.specs.Rules.{spawn_fits, spawn_rules, join_fits, join_rules}
use Rattle.plan.specs.Sheet.{child_at, target_at, first_of, parent_of, spawn_of, Laid, Parented}

abbrev pub spawning : ℕ → Placed → Bool
spawning c a = eqb a.spawn (suc c)

pub record Recorded (k : ℕ) (plan : Sheet) (p : Plan) : Type 0 where
  pub jobs : plan.jobs ≡ length p
  pub actions : plan.actions ≡ total p
  pub laid : Laid plan p
  pub fits : (i : ℕ) → i < k → T (spawn_fits (length p) (get_or (placed p) i no_placed))
  pub none : (c : ℕ) → c < length p → spawn_of plan c ≡ 0 → count (spawning c) (take k (placed p)) ≡ 0
  pub once : (c : ℕ) → c < length p → (spawn_of plan c ≡ 0 → ⊥)
      → (count (spawning c) (take k (placed p)) ≡ 1) × (parent_of plan c ≡ parent p c) × (spawn_of plan c ≡ suc (spawn_at p c))

pub record SpawnAt (k : ℕ) (plan : Sheet) (p : Plan) : Type 0 where
  pub here : k < total p
  pub spawns : child_at plan k ≡ 0 → ⊥
  pub recorded : Recorded k plan p

abbrev pub SpawnTold : ℕ → Bool → Sheet → Plan → Type 0
SpawnTold k r plan p = Told r (Recorded k plan p) (T (spawn_rules p) → ⊥)

abbrev pub AllTold : Sheet → Bool → Type 0
AllTold plan r =
    Told r ((c : ℕ) → 1 ≤ c → c < plan.jobs → spawn_of plan c ≡ 0 → ⊥) ((c : ℕ) × (1 ≤ c) × (c < plan.jobs) × (spawn_of plan c ≡ 0))

pub record Counted (k : ℕ) (l : List ℕ) (p : Plan) : Type 0 where
  pub long : length l ≡ 2048
  pub fits : (i : ℕ) → i < k → T (join_fits p (get_or (placed p) i no_placed))
  pub counts : (q t : ℕ) → q < length p → t < size p q → get_or l (total (take q p) + t) 0 ≡ count (enters p q t) (take k (placed p))
  pub few : (q t : ℕ) → q < length p → t < size p q → get_or l (total (take q p) + t) 0 ≤ 8

pub record JoinAt (k : ℕ) (plan : Sheet) (l : List ℕ) (p : Plan) : Type 0 where
  pub given : Parented plan p
  pub here : k < total p
  pub sends : target_at plan k ≡ 0 → ⊥
  pub counted : Counted k l p

pub record JoinsFrom (plan : Sheet) (l : List ℕ) (p : Plan) : Type 0 where
  pub given : Parented plan p
  pub all : plan.actions ≡ total p
  pub counted : Counted 0 l p

abbrev pub JoinTold : ℕ → Bool → List ℕ → Plan → Type 0
JoinTold k r l p = Told r (Counted k l p) (T (join_rules p) → ⊥)

pub record LastsIn (plan : Sheet) (p : Plan) : Type 0 where
  pub count : plan.jobs ≡ length p
  pub laid : Laid plan p

abbrev pub LastsTold : Sheet → Bool → Type 0
LastsTold plan r =
    Told r ((j : ℕ) → 1 ≤ j → j < plan.jobs → target_at plan (first_of plan (j + 1) - 1) ≡ 0 → ⊥)
    ((j : ℕ) × (1 ≤ j) × (j < plan.jobs) × (target_at plan (first_of plan (j + 1) - 1) ≡ 0))
