-- What one more action does to the record of what the first k actions spawn, and what the whole record says of the spawn rules.
use Prim.Native.Nat.{ℕ, zero, suc, ◌+◌, ◌-◌, ◌≤◌, ◌<◌}
use mathlib.Core.Path.{◌≡◌, refl, ap, sym, ◌∙◌}
use mathlib.Core.Logic.{◌≢◌}
use mathlib.Core.Bool.{Bool, true, false}
use mathlib.Core.List.{List, [], ◌∷◌}
use native.Mathlib.Omega.{arith}
use borrow.Author.Count.{below_more}
use native.Mathlib.Decide.{ℕ_discrete}
use native.Mathlib.Nat.{le_of_suc-le-suc, not-suc-le-zero}
use lib.Dec.{T, leb, ltb, eqb, eqb→eq, eqb_refl, le→leb, lt→ltb}
use lib.ListN.{length, get_or, take}
use lib.Seq.{take_all}
use Rattle.plan.specs.declared.sheet.Sheet.{Sheet}
use Rattle.plan.specs.Test.{both, all, count, below}
use Rattle.plan.specs.Plan.{Plan, Placed, total, placed, no_placed, spawner_in, parent, spawn_at}
use Rattle.plan.specs.Rules.{spawn_fits, spawned_once, spawn_rules}
use Rattle.plan.specs.Sheet.{child_at, first_of, job_at, parent_of, spawn_of, with_spawner, Laid, LaidIn, SpawnedIn}
use Rattle.plan.specs.Listed.{upto, Listed}
use Rattle.plan.specs.Kept.{spawning, Recorded, SpawnAt, SpawnTold, AllTold}
use Rattle.plan.proofs.Laws.Lists.{both_intro, all_by, told_yes, told_no}
use Rattle.plan.proofs.Laws.Counts.{either_right, equal_tests, count_none, count_miss, count_take, count_one_more, count_no_more, below_by}
use Rattle.plan.proofs.Laws.Listing.{to_next, to_end}
use Rattle.plan.proofs.Laws.Noting.{noted_parent, noted_spawn, noted_other, noted_laid}
use Rattle.plan.proofs.Laws.Placed.{start, placed_length, placed_of}
use Rattle.plan.proofs.Laws.Spawning.{jobs_in_range, size_in_range, spawner_hit, spawner_miss, spawn_fits_lem, spawn_allowed, spawn_count}

-- where none of the first k actions spawns job c, and the next does, that is the first that does
spawner_at : (c : ℕ) (l : List Placed) (k : ℕ) → k < length l → count (spawning c) (take k l) ≡ 0 → T (spawning c (get_or l k no_placed))
    → spawner_in c l ≡ get_or l k no_placed
spawner_at c [] k h e t = absurd (not-suc-le-zero h)
spawner_at c (a ∷ l) zero h e t = spawner_hit c a l t
spawner_at c (a ∷ l) (suc k) h e t =
    let n : T (spawning c a) → ⊥ = count_none (spawning c) (a ∷ take k l) e no_placed 0 (omega arith) in
    spawner_miss c a l n ∙ spawner_at c l k (le_of_suc-le-suc h) (sym (count_miss (spawning c) a (take k l) n) ∙ e) t

-- the action at place k
abbrev pub here : Plan → ℕ → Placed
here p k = get_or (placed p) k no_placed

-- a spawn that is allowed passes the test
fits_by : (jobs : ℕ) (a : Placed) (c : ℕ) → a.spawn ≡ suc c → c < jobs → a.job < c → T (spawn_fits jobs a)
fits_by jobs a c e h b =
    rw e (both_intro (leb 1 c) (both (ltb c jobs) (ltb a.job c)) (le→leb 1 c (omega arith))
    (both_intro (ltb c jobs) (ltb a.job c) (lt→ltb c jobs h) (lt→ltb a.job c b)))

fits_none : (jobs : ℕ) (a : Placed) → a.spawn ≡ 0 → T (spawn_fits jobs a)
fits_none jobs a e = rw e tt

-- one more action
module _ (k : ℕ) (plan : Sheet) (p : Plan) (r : Recorded k plan p) (h : k < total p) where
  fits_more : T (spawn_fits (length p) (here p k)) → (i : ℕ) → i < suc k → T (spawn_fits (length p) (here p i))
  fits_more t i b = below_more (λ i. T (spawn_fits (length p) (here p i))) k r.fits t i (omega arith)

  same_count : (c : ℕ) → (here p k).spawn ≢ suc c → count (spawning c) (take (suc k) (placed p)) ≡ count (spawning c) (take k (placed p))
  same_count c n =
      count_no_more (spawning c) (placed p) k no_placed (omega (arith, placed_length p)) (λ t. n (eqb→eq (here p k).spawn (suc c) t))

  more_count : (c : ℕ) → (here p k).spawn ≡ suc c → count (spawning c) (take (suc k) (placed p)) ≡ suc (count (spawning c) (take k (placed p)))
  more_count c e =
      count_one_more (spawning c) (placed p) k no_placed (omega (arith, placed_length p)) (rw e (eqb_refl (suc c)))

  -- the action spawns none
  recorded_none : (here p k).spawn ≡ 0 → Recorded (suc k) plan p
  recorded_none z =
      record {
        jobs = r.jobs;
        actions = r.actions;
        laid = r.laid;
        fits = fits_more (fits_none (length p) (here p k) z);
        none = λ c b n. same_count c (omega arith) ∙ r.none c b n;
        once = λ c b n. let o = r.once c b n in (same_count c (omega arith) ∙ o.0, o.1, o.2);
      }

module _ (p : Plan) (k : ℕ) (plan : Sheet) (g : SpawnAt k plan p) where
  lies : Laid plan p
  lies = g.recorded.laid

  -- the action's job is one, and its position is its place less its job's first
  pub position_here : (q w : ℕ) → q ≡ job_at plan k → w ≡ first_of plan q → (q < 256) × (w ≤ k) × (k - w ≡ (here p k).position) × (k - w < 255)
  position_here q w e f =
      let s = placed_of p k g.here in
      let own : q ≡ (here p k).job = e ∙ lies.owners k g.here in
      let at : w ≡ start p (here p k).job = f ∙ ap (first_of plan) own ∙ lies.firsts (here p k).job (omega (arith, s.known)) in
      omega (arith, s.place, s.known, s.within, size_in_range p lies.range (here p k).job s.known, jobs_in_range p lies.range)

  module _ (s : ℕ) (e : s ≡ child_at plan k) where
    pub some_child : 1 ≤ s
    some_child = let n : s ≢ 0 = λ z. g.spawns (sym e ∙ z) in omega arith

    spawn_here : (here p k).spawn ≡ suc (s - 1)
    spawn_here = omega (arith, e, lies.children k g.here, some_child)

    allowed : T (spawn_rules p) → (1 ≤ s - 1) × (s - 1 < length p) × ((here p k).job < s - 1)
    allowed t = spawn_fits_lem (length p) (here p k) (s - 1) (spawn_allowed p t k g.here) spawn_here

    -- the child is no job
    pub refused_many : {after : Sheet} → plan.jobs ≤ s - 1 → SpawnTold (suc k) false after p
    refused_many m = told_no (λ t. omega (arith, allowed t, g.recorded.jobs))

    -- the child is not above its parent
    pub refused_older : {after : Sheet} (q : ℕ) → q ≡ job_at plan k → s - 1 ≤ q → SpawnTold (suc k) false after p
    refused_older q o m = told_no (λ t. omega (arith, allowed t, lies.owners k g.here))

    module _ (b : s - 1 < plan.jobs) where
      known : s - 1 < length p
      known = omega (arith, g.recorded.jobs)

      -- the child was spawned before
      pub refused_twice : {after : Sheet} (d : ℕ) → d ≡ spawn_of plan (s - 1) → d ≢ 0 → SpawnTold (suc k) false after p
      refused_twice d i m =
          told_no
          (λ t. omega (
            arith,
            (g.recorded.once (s - 1) known (λ z. m (i ∙ z))).0,
            more_count k plan p g.recorded g.here (s - 1) spawn_here,
            count_take (spawning (s - 1)) (suc k) (placed p),
            spawn_count p t (s - 1) (allowed t).0 (allowed t).1,
          ))

      -- the child is recorded
      pub recorded_new : (q w d : ℕ) → q ≡ job_at plan k → w ≡ first_of plan q → q < s - 1 → d ≡ spawn_of plan (s - 1) → d ≡ 0
          → (after : Sheet) → after ≡ with_spawner plan (s - 1) q (k - w + 1) → SpawnTold (suc k) true after p
      unfolding parent spawn_at
      recorded_new q w d o f l i m after is =
          rw is
          (told_yes
          (record {
            jobs = g.recorded.jobs;
            actions = g.recorded.actions;
            laid = noted_laid plan p lies (s - 1) q (k - w + 1) known;
            fits = fits_more k plan p g.recorded g.here (fits_by (length p) (here p k) (s - 1) spawn_here known (omega (arith, lies.owners k g.here)));
            none = λ c v z. none_of c v z (ℕ_discrete c (s - 1));
            once = λ c v z. once_of c v z (ℕ_discrete c (s - 1));
          }))
        where
          new : Sheet
          new = with_spawner plan (s - 1) q (k - w + 1)

          before : count (spawning (s - 1)) (take k (placed p)) ≡ 0
          before = g.recorded.none (s - 1) known (sym i ∙ m)

          spawner_here : spawner_in (s - 1) (placed p) ≡ here p k
          spawner_here =
              spawner_at (s - 1) (placed p) k (omega (arith, placed_length p, g.here)) before (rw spawn_here (eqb_refl (suc (s - 1))))

          none_of : (c : ℕ) → c < length p → spawn_of new c ≡ 0 → Dec (c ≡ s - 1) → count (spawning c) (take (suc k) (placed p)) ≡ 0
          none_of c v z (yes y) =
              let x : spawn_of new c ≡ k - w + 1 = rw y (noted_spawn plan p lies (s - 1) q (k - w + 1) known) in
              absurd (omega arith)
          none_of c v z (no y) =
              same_count k plan p g.recorded g.here c (omega (arith, spawn_here)) ∙ g.recorded.none c v (sym (noted_other plan p lies (s - 1) q (k - w + 1) known c y).1 ∙ z)

          once_of : (c : ℕ) → c < length p → (spawn_of new c ≡ 0 → ⊥) → Dec (c ≡ s - 1)
              → (count (spawning c) (take (suc k) (placed p)) ≡ 1) × (parent_of new c ≡ parent p c) × (spawn_of new c ≡ suc (spawn_at p c))
          once_of c v z (yes y) =
              rw y (
                omega (arith, more_count k plan p g.recorded g.here (s - 1) spawn_here, before),
                noted_parent plan p lies (s - 1) q (k - w + 1) known ∙ o ∙ lies.owners k g.here ∙ sym (ap (λ a. a.job) spawner_here),
                noted_spawn plan p lies (s - 1) q (k - w + 1) known
                    ∙ omega (arith, position_here q w o f, ap (λ a. a.position) spawner_here),
              )
          once_of c v z (no y) =
              let same = noted_other plan p lies (s - 1) q (k - w + 1) known c y in
              let u = g.recorded.once c v (λ x. z (same.1 ∙ x)) in
              (same_count k plan p g.recorded g.here c (omega (arith, spawn_here)) ∙ u.0, same.0 ∙ u.1, same.1 ∙ u.2)

-- before the first action
pub recorded_start : (plan : Sheet) (p : Plan) → LaidIn plan p → Recorded 0 plan p
recorded_start plan p g =
    record {
      jobs = g.count;
      actions = g.all;
      laid = g.laid;
      fits = λ i b. absurd (not-suc-le-zero b);
      none = λ c b z. refl;
      once = λ c b z. absurd (z (g.unspawned c b));
    }

-- the actions that spawn are listed: the next of them, and past the last one the end
module _ (many : ℕ) (first : Sheet) (l : List ℕ) (p : Plan) (g : LaidIn first p) (f : Listed (child_at first) first.actions many l) (plan : Sheet) where
  over_none : (i : ℕ) → i < first.actions → child_at first i ≡ 0 → Recorded i plan p → Recorded (suc i) plan p
  over_none i b z r =
      let h : i < total p = omega (arith, g.all) in recorded_none i plan p r h (sym (g.laid.children i h) ∙ z)

  pub spawn_next : (m k : ℕ) → m < many → k ≡ get_or l m 0 → Recorded (upto l m) plan p → SpawnAt k plan p
  spawn_next m k b e r =
      let next : Recorded (get_or l m 0) plan p = to_next (child_at first) first.actions many l f (λ i. Recorded i plan p) over_none m b r in
      let h : get_or l m 0 < total p = omega (arith, g.all, f.below m b) in
      rw e
      (record {
        here = h;
        spawns = λ z. f.some m b (g.laid.children (get_or l m 0) h ∙ sym (next.laid.children (get_or l m 0) h) ∙ z);
        recorded = next;
      })

  pub spawns_all : Recorded (upto l many) plan p → Recorded (total p) plan p
  spawns_all r =
      rw g.all at (to_end (child_at first) first.actions many l f (λ i. Recorded i plan p) over_none r)

-- what the record of every action says of the spawn rules, with whether every job but 0 is in it
module _ (p : Plan) (plan : Sheet) (r : Recorded (total p) plan p) (told : Bool) (t : AllTold plan told) where
  all_counted : (c : ℕ) → count (spawning c) (take (total p) (placed p)) ≡ count (spawning c) (placed p)
  all_counted c = ap (count (spawning c)) (take_all (total p) (placed p) (omega (arith, placed_length p)))

  kept_here : T told → T (spawn_rules p)
  unfolding spawn_rules
  kept_here y =
      both_intro (all (spawn_fits (length p)) (placed p)) (all (spawned_once p) (below (length p)))
      (all_by (spawn_fits (length p)) (placed p) no_placed (λ i b. r.fits i (omega (arith, placed_length p))))
      (below_by (spawned_once p) (length p) once)
    where
      once : (c : ℕ) → c < length p → T (spawned_once p c)
      once zero b = tt
      once (suc c) b =
          either_right (eqb (suc c) 0) (eqb (count (spawning (suc c)) (placed p)) 1)
          (rw (sym (all_counted (suc c)) ∙ (r.once (suc c) b (t.kept y (suc c) (omega arith) (omega (arith, r.jobs)))).0) (eqb_refl 1))

  pub spawns_told : (told ≡ spawn_rules p) × (T told → SpawnedIn plan p)
  spawns_told = (equal_tests told (spawn_rules p) kept_here broken, held)
    where
      broken : (T told → ⊥) → T (spawn_rules p) → ⊥
      broken f y =
          let u = t.broken f in
          omega (arith, r.none u.0 (omega (arith, u.2, r.jobs)) u.3, all_counted u.0, spawn_count p y u.0 u.1 (omega (arith, u.2, r.jobs)))

      held : T told → SpawnedIn plan p
      held y =
          record {
            count = r.jobs;
            all = r.actions;
            parented = record {
              laid = r.laid;
              rules = kept_here y;
              spawned = record {
                parents = λ c h b. (r.once c b (t.kept y c h (omega (arith, r.jobs)))).1;
                spawns = λ c h b. (r.once c b (t.kept y c h (omega (arith, r.jobs)))).2;
              };
            };
          }
