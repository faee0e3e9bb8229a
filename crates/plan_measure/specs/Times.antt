-- What functions that are no entries are given, and what they leave. No public entry cites these.
--   at l k            == what stands at place k of an array
--   PlanOf plan p     == the arrays `plan` hold the plan p, and their number of jobs is its
--   ActionsOf plan p  == the same, and their number of actions is its
--   ends p j i        == when action i of job j is done at the earliest: the largest cost of a chain that ends in it
--   begins p j        == when the spawn of job j is done; 0 for the root
--   place_of p j       == the place of job j's first action
--   JobOf             == a job of a plan
--   TimedFrom p j ..  == the times of jobs j and up are known, from the spawn of each, and nothing told of when joins came
--                        is too late
--   JobGiven base end .. == the arrays `plan` hold the plan, with the job's actions at these places, and the jobs above the job
--                        are timed
--   JobTimed r ..     == the job is timed too, and r is the time of its last action
--   SendGiven, Sent   == what sending the joins of the actions at a row of places is given, and what it tells
--   PassGiven, Passed == the same for the joins of the child that the action at place k spawns, if it spawns one
use Rattle.std.specs.Prelude.{ℕ, suc, ◌+◌, ◌-◌, ◌≤◌, ◌<◌, ◌≡◌, ◌⊎◌, true, false, List, eqb, length, get_or, take}
use Rattle.plan.specs.declared.sheet.Sheet.{Sheet}
use Rattle.plan.specs.Plan.{Plan, size, action, total, parent, spawn_at}
use Rattle.plan.specs.Sheet.{child_at, target_at, first_of, Planned}
use Rattle.plan_measure.specs.Measure.{after}

abbrev pub at : List ℕ → ℕ → ℕ
at l k = get_or l k 0

pub record PlanOf (plan : Sheet) (p : Plan) : Type 0 where
  pub count : plan.jobs ≡ length p
  pub planned : Planned plan p

pub record ActionsOf (plan : Sheet) (p : Plan) : Type 0 where
  pub all : plan.actions ≡ total p
  pub planned : Planned plan p

unfoldable pub ends : Plan → ℕ → ℕ → ℕ
unfolding after
ends p j i =
    after p (total p) (record { job = j; position = i; spawn = (action p j i).spawn; join = (action p j i).join; cost = (action p j i).cost })

unfoldable pub begins : Plan → ℕ → ℕ
unfolding ends parent spawn_at
begins p j = elim (eqb j 0) [ true ↦ 0 | false ↦ ends p (parent p j) (spawn_at p j) ]

abbrev pub place_of : Plan → ℕ → ℕ
place_of p j = total (take j p)

pub record TimedFrom (p : Plan) (j : ℕ) (time late : ℕ → ℕ) : Type 0 where
  pub times : (c a : ℕ) → j ≤ c → c < length p → a < size p c → time (place_of p c + a) + begins p c ≡ ends p c a
  pub lates : (q t : ℕ) → q < length p → t < size p q → late (place_of p q + t) + begins p q + (action p q t).cost ≤ ends p q t

pub record JobOf : Type 0 where
  pub plan : Plan
  pub job : ℕ

pub record JobGiven (base end : ℕ) (plan : Sheet) (time late : List ℕ) (of : JobOf) : Type 0 where
  pub planned : Planned plan of.plan
  pub known : of.job < length of.plan
  pub start : base ≡ place_of of.plan of.job
  pub past : end ≡ place_of of.plan (suc of.job)
  pub long : (length time ≡ 2048) × (length late ≡ 2048)
  pub above : TimedFrom of.plan (suc of.job) (at time) (at late)

pub record JobTimed (r : ℕ) (time late : List ℕ) (of : JobOf) : Type 0 where
  pub long : (length time ≡ 2048) × (length late ≡ 2048)
  pub timed : TimedFrom of.plan of.job (at time) (at late)
  pub last : r + begins of.plan of.job ≡ ends of.plan of.job (size of.plan of.job - 1)

pub record SendGiven (from end base spawned : ℕ) (target time : ℕ → ℕ) : Type 0 where
  pub order : from ≤ end
  pub fits : end ≤ 2048
  pub targets : (k t : ℕ) → from ≤ k → k < end → target k ≡ suc t → base + t < 2048
  pub sums : (k : ℕ) → from ≤ k → k < end → spawned + time k < 65536

pub record Sent (from end base spawned : ℕ) (target time late late' : ℕ → ℕ) : Type 0 where
  pub kept : (m : ℕ) → late m ≤ late' m
  pub came : (k t : ℕ) → from ≤ k → k < end → target k ≡ suc t → spawned + time k ≤ late' (base + t)
  pub source : (m : ℕ) → (late' m ≡ late m)
      ⊎ ((k : ℕ) × (t : ℕ) × (from ≤ k) × (k < end) × (target k ≡ suc t) × (m ≡ base + t) × (late' m ≡ spawned + time k))

pub record PassGiven (k base spawned : ℕ) (plan : Sheet) (time : ℕ → ℕ) : Type 0 where
  pub fits : k < 2048
  pub child : (c : ℕ) → child_at plan k ≡ suc c
      → (c < 256) × SendGiven (first_of plan c) (first_of plan (suc c)) base spawned (target_at plan) time

pub record Passed (k base spawned : ℕ) (plan : Sheet) (time late late' : ℕ → ℕ) : Type 0 where
  pub none : child_at plan k ≡ 0 → (m : ℕ) → late' m ≡ late m
  pub child : (c : ℕ) → child_at plan k ≡ suc c
      → Sent (first_of plan c) (first_of plan (suc c)) base spawned (target_at plan) time late late'
