-- What the reader writes into a plan's arrays: job by job and action by action, and the arrays then have the plan that was read.
use Prim.Native.Nat.{ℕ, zero, suc, ◌+◌, ◌-◌, ◌≤◌, ◌<◌}
use native.Mathlib.Nat.{add-zero, le_of_suc-le-suc, not-suc-le-zero}
use native.Mathlib.Decide.{dec_lt}
use native.Mathlib.Omega.{arith}
use mathlib.Core.Path.{◌≡◌, refl, ap, sym, ◌∙◌}
use mathlib.Core.Logic.{◌≢◌}
use mathlib.Core.List.{List, [], ◌∷◌, ◌++◌, append-nil, append_assoc}
use lib.Dec.{T}
use lib.ListN.{length, get_or, take, set, length-append, length-set, length-replicate, get_or-append, get_or-replicate}
use lib.Seq.{get_or-append-add, get_or-set_same, get_or-set_other, take-append-le, take_all}
use Rattle.plan.specs.declared.sheet.Sheet.{Sheet}
use Rattle.plan.specs.Plan.{Action, Job, Plan, Placed, job, total, placed, placed_in, no_action, no_job, no_placed}
use Rattle.plan.specs.Rules.{in_range, join_rules}
use Rattle.plan.specs.Sheet.{
  child_at,
  target_at,
  frame_of,
  first_of,
  spawn_of,
  job_at,
  cost_at,
  with_action,
  with_frame,
  with_counts,
  blank,
  Blank,
  Sized,
  LaidIn,
  SpawnedIn,
  PlanIn,
}
use Rattle.plan.specs.Progress.{with_actions, with_job, with_jobs}
use Rattle.plan.proofs.Laws.Spawning.{jobs_in_range, total_in_range}
use Rattle.plan.proofs.Laws.Placed.{placed_length, placed_in_at, placed_from_append, total_append}

-- one action or job more, and jobs behind others
pub actions_one_more : (plan : Sheet) (k j : ℕ) (l : List Action) (x : Action)
    → with_actions plan k j (l ++ (x ∷ [])) ≡ with_action (with_actions plan k j l) (k + length l) j x.spawn x.join x.cost
actions_one_more plan k j [] x = rw add-zero
actions_one_more plan k j (y ∷ l) x =
    let e : suc k + length l ≡ k + length (y ∷ l) = omega arith in
    rw (actions_one_more (with_action plan k j y.spawn y.join y.cost) (suc k) j l x, e)

pub jobs_append : (plan : Sheet) (k j : ℕ) (l m : List Job)
    → with_jobs plan k j (l ++ m) ≡ with_jobs (with_jobs plan k j l) (k + total l) (j + length l) m
jobs_append plan k j [] m =
    let e : k + 0 ≡ k = omega arith in
    let f : j + 0 ≡ j = omega arith in
    rw (e, f)
jobs_append plan k j (y ∷ l) m =
    let e : suc j + length l ≡ j + length (y ∷ l) = omega arith in
    let f : k + length y.actions + total l ≡ k + total (y ∷ l) = omega arith in
    rw (jobs_append (with_job plan k j y) (k + length y.actions) (suc j) l m, e, f)

pub jobs_one_more : (plan : Sheet) (k j : ℕ) (l : List Job) (x : Job)
    → with_jobs plan k j (l ++ (x ∷ [])) ≡ with_job (with_jobs plan k j l) (k + total l) (j + length l) x
jobs_one_more plan k j l x = jobs_append plan k j l (x ∷ [])

-- an action leaves the jobs' arrays, and those of actions as long as they were
record Beside (plan plan' : Sheet) : Type 0 where
  frames : plan'.frames ≡ plan.frames
  firsts : plan'.firsts ≡ plan.firsts
  spawns : plan'.spawns ≡ plan.spawns

actions_beside : (plan : Sheet) (k j : ℕ) (l : List Action) → Beside plan (with_actions plan k j l)
actions_beside plan k j [] = record { frames = refl; firsts = refl; spawns = refl }
actions_beside plan k j (x ∷ l) =
    let b = actions_beside (with_action plan k j x.spawn x.join x.cost) (suc k) j l in
    record { frames = b.frames; firsts = b.firsts; spawns = b.spawns }

pub action_sized : (plan : Sheet) (k j child target cost : ℕ) → Sized plan → Sized (with_action plan k j child target cost)
action_sized plan k j child target cost s =
    record {
      children = length-set plan.children k child ∙ s.children;
      targets = length-set plan.targets k target ∙ s.targets;
      owners = length-set plan.owners k j ∙ s.owners;
      costs = length-set plan.costs k cost ∙ s.costs;
      frames = s.frames;
      firsts = s.firsts;
      parents = s.parents;
      spawns = s.spawns;
    }

actions_sized : (plan : Sheet) (k j : ℕ) (l : List Action) → Sized plan → Sized (with_actions plan k j l)
actions_sized plan k j [] s = s
actions_sized plan k j (x ∷ l) s =
    actions_sized (with_action plan k j x.spawn x.join x.cost) (suc k) j l (action_sized plan k j x.spawn x.join x.cost s)

-- what stands at place k of the actions' arrays
abbrev pub At : Sheet → (k child target owner cost : ℕ) → Type 0
At plan k child target owner cost =
    (child_at plan k ≡ child) × (target_at plan k ≡ target) × (job_at plan k ≡ owner) × (cost_at plan k ≡ cost)

-- an action leaves the other places as they were
pub action_kept : (plan : Sheet) (k j child target cost m : ℕ) → m ≢ k
    → At (with_action plan k j child target cost) m (child_at plan m) (target_at plan m) (job_at plan m) (cost_at plan m)
action_kept plan k j child target cost m n = (
  get_or-set_other plan.children k m child 0 n,
  get_or-set_other plan.targets k m target 0 n,
  get_or-set_other plan.owners k m j 0 n,
  get_or-set_other plan.costs k m cost 0 n,
)

actions_kept : (plan : Sheet) (k j : ℕ) (l : List Action) (m : ℕ) → ((i : ℕ) → i < length l → m ≢ k + i)
    → At (with_actions plan k j l) m (child_at plan m) (target_at plan m) (job_at plan m) (cost_at plan m)
actions_kept plan k j [] m h = (refl, refl, refl, refl)
actions_kept plan k j (x ∷ l) m h =
    let a = action_kept plan k j x.spawn x.join x.cost m (λ e. h 0 (omega arith) (omega arith)) in
    let b = actions_kept (with_action plan k j x.spawn x.join x.cost) (suc k) j l m (λ i c e. h (suc i) (omega arith) (omega arith)) in
    (b.0 ∙ a.0, b.1 ∙ a.1, b.2 ∙ a.2, b.3 ∙ a.3)

-- what was written at place k
pub action_there : (plan : Sheet) (k j child target cost : ℕ) → Sized plan → k < 2048
    → At (with_action plan k j child target cost) k child target j cost
action_there plan k j child target cost s h = (
  get_or-set_same plan.children k child 0 (omega (arith, s.children)),
  get_or-set_same plan.targets k target 0 (omega (arith, s.targets)),
  get_or-set_same plan.owners k j 0 (omega (arith, s.owners)),
  get_or-set_same plan.costs k cost 0 (omega (arith, s.costs)),
)

actions_there : (plan : Sheet) (k j : ℕ) (l : List Action) (i : ℕ) → Sized plan → k + length l ≤ 2048 → i < length l
    → let a = get_or l i no_action in
    At (with_actions plan k j l) (k + i) a.spawn a.join j a.cost
actions_there plan k j [] i s h b = absurd (not-suc-le-zero b)
actions_there plan k j (x ∷ l) zero s h b =
    let next = with_action plan k j x.spawn x.join x.cost in
    let z = action_there plan k j x.spawn x.join x.cost s (omega arith) in
    let y = actions_kept next (suc k) j l k (λ i d e. omega arith) in
    rw add-zero (y.0 ∙ z.0, y.1 ∙ z.1, y.2 ∙ z.2, y.3 ∙ z.3)
actions_there plan k j (x ∷ l) (suc i) s h b =
    let e : k + suc i ≡ suc k + i = omega arith in
    rw e
    (actions_there (with_action plan k j x.spawn x.join x.cost) (suc k) j l i
    (action_sized plan k j x.spawn x.join x.cost s) (omega arith) (le_of_suc-le-suc b))

-- the arrays have the jobs p, and no spawn is noted
record Begun (plan : Sheet) (p : Plan) : Type 0 where
  sized : Sized plan
  frames : (j : ℕ) → j < length p → frame_of plan j ≡ (job p j).frame
  firsts : (j : ℕ) → j ≤ length p → first_of plan j ≡ total (take j p)
  owners : (k : ℕ) → k < total p → job_at plan k ≡ (get_or (placed p) k no_placed).job
  children : (k : ℕ) → k < total p → child_at plan k ≡ (get_or (placed p) k no_placed).spawn
  targets : (k : ℕ) → k < total p → target_at plan k ≡ (get_or (placed p) k no_placed).join
  costs : (k : ℕ) → k < total p → cost_at plan k ≡ (get_or (placed p) k no_placed).cost
  unspawned : (c : ℕ) → c < 256 → spawn_of plan c ≡ 0

pub blank_sized : (plan : Sheet) → Blank plan → Sized plan
blank_sized plan e = rw e (record {
  children = length-replicate {A = ℕ} 2048 0;
  targets = length-replicate {A = ℕ} 2048 0;
  owners = length-replicate {A = ℕ} 2048 0;
  costs = length-replicate {A = ℕ} 2048 0;
  frames = length-replicate {A = ℕ} 256 0;
  firsts = length-replicate {A = ℕ} 257 0;
  parents = length-replicate {A = ℕ} 256 0;
  spawns = length-replicate {A = ℕ} 256 0;
})

begun_none : (plan : Sheet) → Blank plan → Begun plan []
begun_none plan e = rw e (record {
  sized = blank_sized blank refl;
  frames = λ j h. absurd (not-suc-le-zero h);
  firsts = λ j h. get_or-replicate 257 j 0 0 (omega arith) ∙ first j h;
  owners = λ k h. absurd (not-suc-le-zero h);
  children = λ k h. absurd (not-suc-le-zero h);
  targets = λ k h. absurd (not-suc-le-zero h);
  costs = λ k h. absurd (not-suc-le-zero h);
  unspawned = λ c h. get_or-replicate 256 c 0 0 h;
})
  where
    first : (j : ℕ) → j ≤ 0 → 0 ≡ total (take j [])
    first zero h = refl
    first (suc j) h = absurd (not-suc-le-zero h)

-- one job more
module _ (plan : Sheet) (p : Plan) (x : Job) (h : Begun plan p) (few : length p < 256) (room : total p + length x.actions ≤ 2048) where
  framed : Sheet
  framed = with_frame plan (length p) x.frame

  rows : Sheet
  rows = with_actions framed (total p) (length p) x.actions

  new : Sheet
  new = with_job plan (total p) (length p) x

  framed_sized : Sized framed
  unfolding framed
  framed_sized =
      record {
        children = h.sized.children;
        targets = h.sized.targets;
        owners = h.sized.owners;
        costs = h.sized.costs;
        frames = length-set plan.frames (length p) x.frame ∙ h.sized.frames;
        firsts = h.sized.firsts;
        parents = h.sized.parents;
        spawns = h.sized.spawns;
      }

  rows_sized : Sized rows
  unfolding rows
  rows_sized = actions_sized framed (total p) (length p) x.actions framed_sized

  beside : Beside framed rows
  unfolding rows
  beside = actions_beside framed (total p) (length p) x.actions

  frames' : (j : ℕ) → j < length (p ++ (x ∷ [])) → frame_of new j ≡ (job (p ++ (x ∷ [])) j).frame
  unfolding new rows framed
  frames' j b = ap (λ l. get_or l j 0) beside.frames ∙ go (dec_lt j (length p))
    where
      go : Dec (j < length p) → get_or (set plan.frames (length p) x.frame) j 0 ≡ (job (p ++ (x ∷ [])) j).frame
      go (yes l) =
          get_or-set_other plan.frames (length p) j x.frame 0 (omega arith)
          ∙ h.frames j l ∙ ap (λ b. b.frame) (sym (get_or-append p (x ∷ []) no_job j l))
      go (no n) =
          let e : j ≡ length p + 0 = omega (arith, length-append p (x ∷ [])) in
          let f : job (p ++ (x ∷ [])) j ≡ x = ap (λ i. job (p ++ (x ∷ [])) i) e ∙ get_or-append-add p (x ∷ []) 0 no_job in
          let d : j ≡ length p = omega arith in
          rw (f, d) (get_or-set_same plan.frames (length p) x.frame 0 (omega (arith, h.sized.frames)))

  firsts' : (j : ℕ) → j ≤ length (p ++ (x ∷ [])) → first_of new j ≡ total (take j (p ++ (x ∷ [])))
  unfolding new rows framed
  firsts' j b = go (dec_lt (length p) j)
    where
      go : Dec (length p < j) → first_of new j ≡ total (take j (p ++ (x ∷ [])))
      go (yes l) =
          let e : j ≡ length p + 1 = omega (arith, length-append p (x ∷ [])) in
          let f : take j (p ++ (x ∷ [])) ≡ p ++ (x ∷ []) = take_all j (p ++ (x ∷ [])) (omega (arith, length-append p (x ∷ []))) in
          rw (f, e) (get_or-set_same rows.firsts (length p + 1) (total p + length x.actions) 0 (omega (arith, rows_sized.firsts)) ∙ omega (arith, total_append p (x ∷ [])))
      go (no n) =
          get_or-set_other rows.firsts (length p + 1) j (total p + length x.actions) 0 (omega arith)
          ∙ ap (λ l. get_or l j 0) beside.firsts
          ∙ h.firsts j (omega arith) ∙ ap total (sym (take-append-le j p (x ∷ []) (omega arith)))

  -- the action at place k
  abbrev Row : ℕ → Placed → Type 0
  Row k a = At rows k a.spawn a.join a.job a.cost

  row : (k : ℕ) → k < total (p ++ (x ∷ [])) → Row k (get_or (placed (p ++ (x ∷ []))) k no_placed)
  unfolding rows framed
  row k b = go (dec_lt k (total p))
    where
      all : placed (p ++ (x ∷ [])) ≡ placed p ++ placed_in (length p) 0 x.actions
      all = placed_from_append 0 p (x ∷ []) ∙ (let z : 0 + length p ≡ length p = omega arith in rw (z, append-nil))

      added : (i : ℕ) → i < length x.actions → k ≡ total p + i → Row k (get_or (placed (p ++ (x ∷ []))) k no_placed)
      added i small here =
          let e : get_or (placed (p ++ (x ∷ []))) k no_placed ≡ get_or (placed_in (length p) 0 x.actions) i no_placed
          = ap (λ q. get_or q k no_placed) all ∙ ap (λ m. get_or (placed p ++ placed_in (length p) 0 x.actions) m no_placed) (omega (arith, placed_length p))
          ∙ get_or-append-add (placed p) (placed_in (length p) 0 x.actions) i no_placed in
          let f = placed_in_at (length p) 0 x.actions i i small (omega arith) in
          rw (e, f, here) (actions_there framed (total p) (length p) x.actions i framed_sized room small)

      go : Dec (k < total p) → Row k (get_or (placed (p ++ (x ∷ []))) k no_placed)
      go (yes l) =
          let e : get_or (placed (p ++ (x ∷ []))) k no_placed ≡ get_or (placed p) k no_placed
          = ap (λ q. get_or q k no_placed) all ∙ get_or-append (placed p) (placed_in (length p) 0 x.actions) no_placed k (omega (arith, placed_length p)) in
          let z = actions_kept framed (total p) (length p) x.actions k (λ i d f. omega arith) in
          rw e (z.0 ∙ h.children k l, z.1 ∙ h.targets k l, z.2 ∙ h.owners k l, z.3 ∙ h.costs k l)
      go (no n) = added (k - total p) (omega (arith, total_append p (x ∷ []))) (omega arith)

  begun_more : Begun (with_job plan (total p) (length p) x) (p ++ (x ∷ []))
  unfolding new rows framed
  begun_more = record {
    sized = record {
      children = rows_sized.children;
      targets = rows_sized.targets;
      owners = rows_sized.owners;
      costs = rows_sized.costs;
      frames = rows_sized.frames;
      firsts = length-set rows.firsts (length p + 1) (total p + length x.actions) ∙ rows_sized.firsts;
      parents = rows_sized.parents;
      spawns = rows_sized.spawns;
    };
    frames = frames';
    firsts = firsts';
    children = λ k b. (row k b).0;
    targets = λ k b. (row k b).1;
    owners = λ k b. (row k b).2;
    costs = λ k b. (row k b).3;
    unspawned = λ c b. ap (λ l. get_or l c 0) beside.spawns ∙ h.unspawned c b;
  }

-- all jobs
begun_all : (plan : Sheet) (p l : Plan) (k j : ℕ) → k ≡ total p → j ≡ length p → Begun plan p → j + length l ≤ 256 → k + total l ≤ 2048
    → Begun (with_jobs plan k j l) (p ++ l)
begun_all plan p [] k j e f h a b = rw append-nil h
begun_all plan p (x ∷ l) k j e f h a b =
    let z : (p ++ (x ∷ [])) ++ l ≡ p ++ (x ∷ l) = append_assoc p (x ∷ []) l in
    rw (← z)
    (begun_all (with_job plan k j x) (p ++ (x ∷ [])) l (k + length x.actions) (suc j)
    (omega (arith, total_append p (x ∷ []))) (omega (arith, length-append p (x ∷ [])))
    (rw (e, f) (begun_more plan p x h (omega arith) (omega arith))) (omega arith) (omega arith))

pub laid_all : (plan : Sheet) (p : Plan) (form : ℕ) → Blank plan → T (in_range p)
    → LaidIn (with_counts (with_jobs plan 0 0 p) form (length p) (total p)) p
laid_all plan p form blank r =
    let a = jobs_in_range p r in
    let h : Begun (with_jobs plan 0 0 p) p = begun_all plan [] p 0 0 refl refl (begun_none plan blank) (omega (arith, a)) (omega (arith, total_in_range p r)) in
    record {
      count = refl;
      all = refl;
      laid = record {
        sized = record {
          children = h.sized.children;
          targets = h.sized.targets;
          owners = h.sized.owners;
          costs = h.sized.costs;
          frames = h.sized.frames;
          firsts = h.sized.firsts;
          parents = h.sized.parents;
          spawns = h.sized.spawns;
        };
        range = r;
        frames = h.frames;
        firsts = h.firsts;
        owners = h.owners;
        children = h.children;
        targets = h.targets;
        costs = h.costs;
      };
      unspawned = λ c b. h.unspawned c (omega (arith, a));
    }

-- where the join rules hold too, the arrays hold the plan
pub planned_by : (plan : Sheet) (p : Plan) → SpawnedIn plan p → T (join_rules p) → PlanIn plan p
planned_by plan p h t =
    record {
      count = h.count;
      all = h.all;
      planned = record {
        rules = record { range = h.parented.laid.range; spawns = h.parented.rules; joins = t };
        laid = h.parented.laid;
        spawned = h.parented.spawned;
      };
    }
