-- The numbers of a plan in range, and the parents of a plan that keeps the spawn rules.
use Prim.Native.Nat.{ℕ, suc, ◌+◌, ◌≤◌, ◌<◌}
use mathlib.Core.Path.{◌≡◌, ap, sym, ◌∙◌}
use mathlib.Core.Bool.{Bool, true, false}
use mathlib.Core.List.{List, [], ◌∷◌}
use native.Mathlib.Omega.{arith}
use native.Mathlib.Nat.{not-suc-le-zero}
use lib.Dec.{T, leb, ltb, eqb, leb→le, ltb→lt, eqb→eq, eqb_refl}
use lib.ListN.{length, get_or}
use Rattle.plan.specs.Test.{both, either, all, count, below}
use Rattle.plan.specs.Plan.{Job, Plan, Placed, job, size, action, total, placed, no_action, no_job, no_placed, spawner_in, spawner, parent, spawn_at}
use Rattle.plan.specs.Rules.{cost_in_range, job_in_range, in_range, spawn_fits, spawned_once, spawn_rules}
use Rattle.plan.specs.Kept.{spawning}
use Rattle.plan.proofs.Laws.Lists.{both_left, both_right, true_of, false_of, all_at}
use Rattle.plan.proofs.Laws.Counts.{dec_t, count_miss, count_same, below_all}
use Rattle.plan.proofs.Laws.Placed.{start, placed_length, placed_at, place_below, placed_of}

-- a test of a range
range_test : (low high n : ℕ) → T (both (leb low n) (leb n high)) → (low ≤ n) × (n ≤ high)
range_test low high n t =
    (leb→le low n (both_left (leb low n) (leb n high) t), leb→le n high (both_right (leb low n) (leb n high) t))

pub job_in_range_lem : (b : Job) → T (job_in_range b) → (1 ≤ b.frame) × (b.frame ≤ 65535) × (1 ≤ length b.actions) × (length b.actions ≤ 255)
job_in_range_lem b t =
    let frames = both (leb 1 b.frame) (leb b.frame 65535) in
    let sizes = both (leb 1 (length b.actions)) (leb (length b.actions) 255) in
    let u = both_left (both frames sizes) (all cost_in_range b.actions) t in
    let f = range_test 1 65535 b.frame (both_left frames sizes u) in
    let s = range_test 1 255 (length b.actions) (both_right frames sizes u) in
    (f.0, f.1, s.0, s.1)

-- the costs of a job's actions
pub costs_in_range : (b : Job) → T (job_in_range b) → T (all cost_in_range b.actions)
costs_in_range b t =
    both_right (both (both (leb 1 b.frame) (leb b.frame 65535)) (both (leb 1 (length b.actions)) (leb (length b.actions) 255))) (all cost_in_range b.actions) t

module _ (p : Plan) (r : T (in_range p)) where
  rest_test : T (both (all job_in_range p) (leb (total p) 2048))
  unfolding in_range
  rest_test = both_right (both (leb 1 (length p)) (leb (length p) 256)) _ r

  pub jobs_in_range : (1 ≤ length p) × (length p ≤ 256)
  unfolding in_range
  jobs_in_range =
      range_test 1 256 (length p)
      (both_left (both (leb 1 (length p)) (leb (length p) 256)) (both (all job_in_range p) (leb (total p) 2048)) r)

  pub each_in_range : T (all job_in_range p)
  each_in_range = both_left (all job_in_range p) (leb (total p) 2048) rest_test

  module _ (j : ℕ) (h : j < length p) where
    job_test : T (job_in_range (job p j))
    job_test = all_at job_in_range p each_in_range no_job j h

    pub size_in_range : (1 ≤ size p j) × (size p j ≤ 255)
    size_in_range = let r = job_in_range_lem (job p j) job_test in (r.2, r.3)

    pub cost_in_range_lem : (i : ℕ) → i < size p j → (1 ≤ (action p j i).cost) × ((action p j i).cost ≤ 15)
    cost_in_range_lem i b = range_test 1 15 (action p j i).cost (all_at cost_in_range (job p j).actions (costs_in_range (job p j) job_test) no_action i b)

    pub frame_in_range : (1 ≤ (job p j).frame) × ((job p j).frame ≤ 65535)
    frame_in_range = let r = job_in_range_lem (job p j) job_test in (r.0, r.1)

  pub total_in_range : (1 ≤ total p) × (total p ≤ 2048)
  total_in_range =
      let some : 0 < length p = omega (arith, jobs_in_range) in
      let most : total p ≤ 2048 = leb→le (total p) 2048 (both_right (all job_in_range p) _ rest_test) in
      omega (arith, place_below p 0 0 some (omega (arith, size_in_range 0 some)))

-- the first action that spawns job c stands at a place
pub record First (c : ℕ) (l : List Placed) : Type 0 where
  pub place : ℕ
  pub within : place < length l
  pub spawns : T (spawning c (get_or l place no_placed))
  pub is : spawner_in c l ≡ get_or l place no_placed

pub spawner_hit : (c : ℕ) (a : Placed) (l : List Placed) → T (spawning c a) → spawner_in c (a ∷ l) ≡ a
spawner_hit c a l t = rw (spawner_in, true_of (spawning c a) t)

pub spawner_miss : (c : ℕ) (a : Placed) (l : List Placed) → (T (spawning c a) → ⊥) → spawner_in c (a ∷ l) ≡ spawner_in c l
spawner_miss c a l n = rw (spawner_in, false_of (spawning c a) n)

pub spawner_first : (c : ℕ) (l : List Placed) → 1 ≤ count (spawning c) l → First c l
spawner_first c [] h = absurd (not-suc-le-zero h)
spawner_first c (a ∷ l) h = go (dec_t (spawning c a)) (spawner_first c l)
  where
    go : Dec (T (spawning c a)) → (1 ≤ count (spawning c) l → First c l) → First c (a ∷ l)
    go (yes t) r = record { place = 0; within = omega arith; spawns = t; is = spawner_hit c a l t }
    go (no n) r =
        let f = r (rw (count_miss (spawning c) a l n) at h) in
        record {
          place = suc f.place;
          within = omega (arith, f.within);
          spawns = f.spawns;
          is = spawner_miss c a l n ∙ f.is;
        }

-- where one action spawns job c, it is the first that does
pub spawner_only : (c : ℕ) (l : List Placed) → count (spawning c) l ≡ 1 → (i : ℕ) → i < length l → T (spawning c (get_or l i no_placed))
    → spawner_in c l ≡ get_or l i no_placed
spawner_only c l e i h t =
    let f = spawner_first c l (omega arith) in
    f.is ∙ ap (λ n. get_or l n no_placed) (count_same (spawning c) l e no_placed f.place i f.within h f.spawns t)

-- what a spawn that is allowed is
pub spawn_fits_lem : (jobs : ℕ) (a : Placed) (c : ℕ) → T (spawn_fits jobs a) → a.spawn ≡ suc c → (1 ≤ c) × (c < jobs) × (a.job < c)
spawn_fits_lem jobs a c t e =
    let s : T (both (leb 1 c) (both (ltb c jobs) (ltb a.job c))) = rw e at t in
    let u : T (both (ltb c jobs) (ltb a.job c)) = both_right (leb 1 c) _ s in
    (leb→le 1 c (both_left (leb 1 c) _ s), ltb→lt c jobs (both_left (ltb c jobs) _ u), ltb→lt a.job c (both_right (ltb c jobs) _ u))

module _ (p : Plan) (s : T (spawn_rules p)) where
  pub spawn_allowed : (k : ℕ) → k < total p → T (spawn_fits (length p) (get_or (placed p) k no_placed))
  unfolding spawn_rules
  spawn_allowed k h =
      all_at (spawn_fits (length p)) (placed p)
      (both_left (all (spawn_fits (length p)) (placed p)) (all (spawned_once p) (below (length p))) s) no_placed k
      (omega (arith, placed_length p))

  pub spawn_count : (c : ℕ) → 1 ≤ c → c < length p → count (spawning c) (placed p) ≡ 1
  unfolding spawn_rules
  spawn_count c h b =
      eqb→eq (count (spawning c) (placed p)) 1
      (other (eqb c 0) (eqb (count (spawning c) (placed p)) 1) (λ t. omega (arith, eqb→eq c 0 t))
      (below_all (spawned_once p) (length p) (both_right (all (spawn_fits (length p)) (placed p)) _ s) c b))
    where
      other : (a b : Bool) → (T a → ⊥) → T (either a b) → T b
      other true b n t = absurd (n tt)
      other false b n t = t

  -- the spawn of job c: its place
  pub spawner_stands : (c : ℕ) → 1 ≤ c → c < length p → First c (placed p)
  spawner_stands c h b = spawner_first c (placed p) (omega (arith, spawn_count c h b))

  pub spawner_of : (c : ℕ) → 1 ≤ c → c < length p
      → (parent p c < c) × (spawn_at p c < size p (parent p c)) × ((action p (parent p c) (spawn_at p c)).spawn ≡ suc c)
  unfolding parent spawn_at
  spawner_of c h b =
      let f = spawner_stands c h b in
      let k : f.place < total p = omega (arith, f.within, placed_length p) in
      let a = get_or (placed p) f.place no_placed in
      let st = placed_of p f.place k in
      let e : a.spawn ≡ suc c = eqb→eq a.spawn (suc c) f.spawns in
      rw (parent, spawn_at, f.is) ((spawn_fits_lem (length p) a c (spawn_allowed f.place k) e).2, st.within, sym st.spawn ∙ e)

  pub spawner_once : (q i c : ℕ) → q < length p → i < size p q → (action p q i).spawn ≡ suc c
      → (1 ≤ c) × (c < length p) × (parent p c ≡ q) × (spawn_at p c ≡ i)
  unfolding parent spawn_at
  spawner_once q i c h b e =
      let k : start p q + i < total p = place_below p q i h b in
      let here : (get_or (placed p) (start p q + i) no_placed).spawn ≡ suc c = rw (placed_at p q i h b) e in
      let fits = spawn_fits_lem (length p) (get_or (placed p) (start p q + i) no_placed) c (spawn_allowed (start p q + i) k) here in
      let is : spawner p c ≡ record { job = q; position = i; spawn = (action p q i).spawn; join = (action p q i).join; cost = (action p q i).cost } =
      spawner_only c (placed p) (spawn_count c fits.0 fits.1) (start p q + i) (omega (arith, placed_length p))
      (rw here (eqb_refl (suc c))) ∙ placed_at p q i h b in
      (fits.0, fits.1, ap (λ a. a.job) is, ap (λ a. a.position) is)
