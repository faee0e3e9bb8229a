-- A plan as it was read, its numbers each kind in an array of its own, and what it is for the arrays to hold a plan.
--   child_at plan k    == the number of the job that the action at place k in plan order spawns, plus 1, or 0
--   target_at plan k   == the position in its job's parent that it sends its join to, plus 1, or 0
--   job_at plan k      == its job; cost_at plan k == its cost
--   frame_of plan j    == the frame of job j
--   first_of plan j    == the place of its first action, or that of the end where j is the number of jobs
--   parent_of plan j   == its parent
--   spawn_of plan j  == the position of its spawn there, plus 1, or 0 where none is noted
--   with_action plan k j child target cost == the arrays with such an action of job j at place k
--   with_frame plan j weight, with_first plan j k, with_spawner plan c q x == the arrays with a frame of job j; a first place; the
--                        parent q of job c, with the position plus 1 of its spawn there
--   with_counts plan form jobs actions == the arrays, said to be a plan of that form with so many jobs and actions
--   blank             == what is read into: zeros; Blank plan == it is that
--   Sized plan        == each array has its length
--   Laid plan p       == the arrays have the jobs and actions of the plan p, whose numbers are in range
--   Spawned plan p    == they have the parent of each job but 0, and the position of its spawn
--   Parented plan p   == they have all that, and the plan keeps the spawn rules
--   Planned plan p    == they hold the plan p: they have all that, and the plan keeps all rules
--   LaidIn plan p     == the counts are those of the plan p; the arrays have its jobs and actions, and no spawn is noted
--   SpawnedIn plan p  == the counts are so, the arrays have the parents too, and the plan keeps the spawn rules
--   RuledIn plan p    == the counts are so, the arrays have the jobs and actions, and the plan keeps all rules; parents need not be noted
--   PlanIn plan p     == the counts are so, and the arrays hold the plan
use Rattle.std.specs.Prelude.{ℕ, suc, ◌≤◌, ◌<◌, ◌≡◌, length, get_or, take, set, replicate, T}
use Rattle.plan.specs.declared.sheet.Sheet.{Sheet}
use Rattle.plan.specs.Plan.{Plan, job, total, placed, no_placed, parent, spawn_at}
use Rattle.plan.specs.Rules.{in_range, spawn_rules, Accepted}

abbrev pub child_at : Sheet → ℕ → ℕ
child_at plan k = get_or plan.children k 0

abbrev pub target_at : Sheet → ℕ → ℕ
target_at plan k = get_or plan.targets k 0

abbrev pub frame_of : Sheet → ℕ → ℕ
frame_of plan j = get_or plan.frames j 0

abbrev pub first_of : Sheet → ℕ → ℕ
first_of plan j = get_or plan.firsts j 0

abbrev pub parent_of : Sheet → ℕ → ℕ
parent_of plan j = get_or plan.parents j 0

abbrev pub spawn_of : Sheet → ℕ → ℕ
spawn_of plan j = get_or plan.spawns j 0

abbrev pub job_at : Sheet → ℕ → ℕ
job_at plan k = get_or plan.owners k 0

abbrev pub cost_at : Sheet → ℕ → ℕ
cost_at plan k = get_or plan.costs k 0

abbrev pub with_action : Sheet → (k j child target cost : ℕ) → Sheet
with_action plan k j child target cost =
    record plan {
      children = set plan.children k child;
      targets = set plan.targets k target;
      owners = set plan.owners k j;
      costs = set plan.costs k cost;
    }

abbrev pub with_frame : Sheet → (j weight : ℕ) → Sheet
with_frame plan j weight = record plan { frames = set plan.frames j weight }

abbrev pub with_first : Sheet → (j k : ℕ) → Sheet
with_first plan j k = record plan { firsts = set plan.firsts j k }

abbrev pub with_spawner : Sheet → (c q x : ℕ) → Sheet
with_spawner plan c q x = record plan { parents = set plan.parents c q; spawns = set plan.spawns c x }

abbrev pub with_counts : Sheet → (form jobs actions : ℕ) → Sheet
with_counts plan form jobs actions = record plan { form = form; jobs = jobs; actions = actions }

abbrev pub blank : Sheet
blank =
    record {
      form = 0;
      jobs = 0;
      actions = 0;
      children = replicate 2048 0;
      targets = replicate 2048 0;
      owners = replicate 2048 0;
      costs = replicate 2048 0;
      frames = replicate 256 0;
      firsts = replicate 257 0;
      parents = replicate 256 0;
      spawns = replicate 256 0;
    }

abbrev pub Blank : Sheet → Type 0
Blank plan = plan ≡ blank

pub record Sized (plan : Sheet) : Type 0 where
  pub children : length plan.children ≡ 2048
  pub targets : length plan.targets ≡ 2048
  pub owners : length plan.owners ≡ 2048
  pub costs : length plan.costs ≡ 2048
  pub frames : length plan.frames ≡ 256
  pub firsts : length plan.firsts ≡ 257
  pub parents : length plan.parents ≡ 256
  pub spawns : length plan.spawns ≡ 256

pub record Laid (plan : Sheet) (p : Plan) : Type 0 where
  pub sized : Sized plan
  pub range : T (in_range p)
  pub frames : (j : ℕ) → j < length p → frame_of plan j ≡ (job p j).frame
  pub firsts : (j : ℕ) → j ≤ length p → first_of plan j ≡ total (take j p)
  pub owners : (k : ℕ) → k < total p → job_at plan k ≡ (get_or (placed p) k no_placed).job
  pub children : (k : ℕ) → k < total p → child_at plan k ≡ (get_or (placed p) k no_placed).spawn
  pub targets : (k : ℕ) → k < total p → target_at plan k ≡ (get_or (placed p) k no_placed).join
  pub costs : (k : ℕ) → k < total p → cost_at plan k ≡ (get_or (placed p) k no_placed).cost

pub record Spawned (plan : Sheet) (p : Plan) : Type 0 where
  pub parents : (c : ℕ) → 1 ≤ c → c < length p → parent_of plan c ≡ parent p c
  pub spawns : (c : ℕ) → 1 ≤ c → c < length p → spawn_of plan c ≡ suc (spawn_at p c)

pub record Parented (plan : Sheet) (p : Plan) : Type 0 where
  pub laid : Laid plan p
  pub rules : T (spawn_rules p)
  pub spawned : Spawned plan p

pub record Planned (plan : Sheet) (p : Plan) : Type 0 where
  pub rules : Accepted p
  pub laid : Laid plan p
  pub spawned : Spawned plan p

pub record LaidIn (plan : Sheet) (p : Plan) : Type 0 where
  pub count : plan.jobs ≡ length p
  pub all : plan.actions ≡ total p
  pub laid : Laid plan p
  pub unspawned : (c : ℕ) → c < length p → spawn_of plan c ≡ 0

pub record SpawnedIn (plan : Sheet) (p : Plan) : Type 0 where
  pub count : plan.jobs ≡ length p
  pub all : plan.actions ≡ total p
  pub parented : Parented plan p

pub record RuledIn (plan : Sheet) (p : Plan) : Type 0 where
  pub count : plan.jobs ≡ length p
  pub all : plan.actions ≡ total p
  pub rules : Accepted p
  pub laid : Laid plan p

pub record PlanIn (plan : Sheet) (p : Plan) : Type 0 where
  pub count : plan.jobs ≡ length p
  pub all : plan.actions ≡ total p
  pub planned : Planned plan p
