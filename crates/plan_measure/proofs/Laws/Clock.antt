-- The times of one job's actions, found one after the other: what is known midway, and that each step keeps it.
use Prim.Native.Nat.{ℕ, zero, suc, ◌+◌, ◌-◌, ◌≤◌, ◌<◌, max}
use mathlib.Core.Path.{◌≡◌, refl, ap, sym, ◌∙◌}
use mathlib.Core.Logic.{◌⊎◌, inl, inr}
use mathlib.Core.List.{List}
use native.Mathlib.Omega.{arith}
use native.Mathlib.Nat.{not-suc-le-zero}
use native.Mathlib.Decide.{dec_lt}
use lib.ListN.{length}
use Rattle.plan.specs.declared.sheet.Sheet.{Sheet}
use Rattle.plan.specs.Plan.{Plan, size, action, parent, spawn_at}
use Rattle.plan_measure.specs.Measure.{longest}
use Rattle.plan_measure.specs.Times.{at, PlanOf, ends, begins, JobOf, JobGiven, JobTimed, TimedFrom, SendGiven, Sent, PassGiven, Passed}
use Rattle.plan.specs.Sheet.{target_at, cost_at, first_of, Laid}
use Rattle.plan.proofs.Laws.Laid.{laid_child, laid_target, laid_cost}
use Rattle.plan.proofs.Laws.Placed.{start, start_suc, start_below, place_below, place_once}
use Rattle.plan.specs.Rules.{Accepted}
use Rattle.plan.proofs.Laws.Valid.{older, spawned_there, spawned_once_lem, join_target, size_range, jobs_range, total_range}
use Rattle.plan_measure.proofs.Laws.Times.{longest_ends, ends_small, begins_spawn, ends_next, begins_first, begins_before, ends_sent, ends_within}

-- what is known of a row of times before position i of job j: `done` is when the action before it was done, from the job's spawn
pub record Midway (p : Plan) (j i done : ℕ) (time late : ℕ → ℕ) : Type 0 where
  pub within : i ≤ size p j
  pub later : (c a : ℕ) → j < c → c < length p → a < size p c → time (start p c + a) + begins p c ≡ ends p c a
  pub own : (a : ℕ) → a < i → time (start p j + a) + begins p j ≡ ends p j a
  pub lates : (q t : ℕ) → q < length p → t < size p q → late (start p q + t) + begins p q + (action p q t).cost ≤ ends p q t
  pub came : (c a t : ℕ) → 1 ≤ c → c < length p → parent p c ≡ j → spawn_at p c < i → a < size p c → (action p c a).join ≡ suc t
      → ends p c a ≤ begins p j + late (start p j + t)
  pub none : i ≡ 0 → done ≡ 0
  pub last : (a : ℕ) → i ≡ suc a → done + begins p j ≡ ends p j a

module _ (p : Plan) (ok : Accepted p) where
  -- nothing is known of when joins came
  pub timed_none : (j : ℕ) (time late : ℕ → ℕ) → j ≡ length p → ((k : ℕ) → late k ≡ 0) → TimedFrom p j time late
  timed_none j time late e zeros = record {
    times = λ c a h b l. absurd (omega arith);
    lates = λ q t h b. omega (arith, zeros (start p q + t), begins_before p ok q t h b);
  }

  midway_first : (j : ℕ) (time late : ℕ → ℕ) → TimedFrom p (suc j) time late → Midway p j 0 0 time late
  midway_first j time late f = record {
    within = omega arith;
    later = λ c a h b l. f.times c a h b l;
    own = λ a h. absurd (not-suc-le-zero h);
    lates = f.lates;
    came = λ c a t h b e l. absurd (not-suc-le-zero l);
    none = λ e. refl;
    last = λ a e. absurd (omega arith);
  }

  midway_last : (j i done : ℕ) (time late : ℕ → ℕ) → j < length p → i ≡ size p j → Midway p j i done time late
      → TimedFrom p j time late × (done + begins p j ≡ ends p j (size p j - 1))
  midway_last j i done time late h e m = (
    record { times = λ c a l b u. by c a l b u (dec_lt j c); lates = m.lates },
    m.last (size p j - 1) (omega (arith, size_range p ok j h)),
  )
    where
      by : (c a : ℕ) → j ≤ c → c < length p → a < size p c → Dec (j < c) → time (start p c + a) + begins p c ≡ ends p c a
      by c a l b u (yes n) = m.later c a n b u
      by c a l b u (no n) = let s : c ≡ j = omega arith in rw s (m.own a (rw (s, ← e) at u))

  module _ (j i done : ℕ) (time late : ℕ → ℕ) (known : j < length p) (within : i < size p j) (m : Midway p j i done time late) where
    done_before : (a : ℕ) → i ≡ a → done + begins p j + (action p j i).cost ≤ ends p j i
    done_before zero e = rw e (omega (arith, m.none e, begins_first p ok j known))
    done_before (suc a) e = rw e (omega (arith, m.last a e, ends_next p ok j a known (rw e at within)))

    -- the action is done by its cost later than the one before it or the last of the joins into it
    pub tick : max done (late (start p j + i)) + (action p j i).cost + begins p j ≡ ends p j i
    tick =
        let low = ends_within p ok j i (max done (late (start p j + i)) + begins p j) known within (omega arith)
        (λ k e. omega (arith, m.last k e))
        (λ c a h b q l e. omega (arith, m.came c a i h b q (join_target p ok c a i b l e).2 l e)) in
        omega (arith, done_before i refl, m.lates j i known within)

    tick_small : max done (late (start p j + i)) + (action p j i).cost ≤ 30720
    tick_small = omega (arith, tick, ends_small p ok j i known within)

    module _ (plan : Sheet) (laid : Laid plan p) (time' late' : ℕ → ℕ) (done' : ℕ)
        (is : done' + begins p j ≡ ends p j i) (new : time' (start p j + i) ≡ done')
        (same : (k : ℕ) → (k ≡ start p j + i → ⊥) → time' k ≡ time k) where
      later' : (c a : ℕ) → j < c → c < length p → a < size p c → time' (start p c + a) + begins p c ≡ ends p c a
      later' c a h b l =
          omega (
            arith,
            m.later c a h b l,
            same (start p c + a) (λ e. omega (arith, place_once p c a j i b l known within e)),
          )

      own' : (a : ℕ) → Dec (a < i) → a < suc i → time' (start p j + a) + begins p j ≡ ends p j a
      own' a (yes l) h = omega (arith, m.own a l, same (start p j + a) (λ e. omega arith))
      own' a (no l) h = let e : a ≡ i = omega arith in rw e (omega arith)

      next_midway : ((k : ℕ) → late k ≤ late' k)
          → ((q t : ℕ) → q < length p → t < size p q → late' (start p q + t) + begins p q + (action p q t).cost ≤ ends p q t)
          → ((c a t : ℕ) → 1 ≤ c → c < length p → parent p c ≡ j → spawn_at p c ≡ i → a < size p c → (action p c a).join ≡ suc t
          → ends p c a ≤ begins p j + late' (start p j + t))
          → Midway p j (suc i) done' time' late'
      next_midway kept lates came = record {
        within = within;
        later = later';
        own = λ a h. own' a (dec_lt a i) h;
        lates = lates;
        came = λ c a t h b q l u e. by c a t h b q l u e (dec_lt (spawn_at p c) i);
        none = λ e. absurd (omega arith);
        last = λ a e. let s : a ≡ i = omega arith in rw s is;
      }
        where
          by : (c a t : ℕ) → 1 ≤ c → c < length p → parent p c ≡ j → spawn_at p c < suc i → a < size p c → (action p c a).join ≡ suc t
              → Dec (spawn_at p c < i) → ends p c a ≤ begins p j + late' (start p j + t)
          by c a t h b q l u e (yes n) = omega (arith, m.came c a t h b q n u e, kept (start p j + t))
          by c a t h b q l u e (no n) = came c a t h b q (omega arith) u e

      -- a child's times from the job's spawn
      child_time : (c a : ℕ) → 1 ≤ c → c < length p → parent p c ≡ j → spawn_at p c ≡ i → a < size p c
          → done' + time' (start p c + a) + begins p j ≡ ends p c a
      child_time c a h b q s l =
          let o = older p ok c h b in
          let e : begins p c ≡ ends p j i = rw (begins_spawn p ok c h, q, s) in
          omega (arith, later' c a (omega arith) b l)

      module _ (c : ℕ) (e : (action p j i).spawn ≡ suc c) where
        once : (1 ≤ c) × (c < length p) × (parent p c ≡ j) × (spawn_at p c ≡ i)
        once = spawned_once_lem p ok j i c known within e

        -- an action of the child by its place
        child_at_lem : (k : ℕ) → first_of plan c ≤ k → k < first_of plan (suc c) → (k ≡ start p c + (k - start p c)) × (k - start p c < size p c)
        child_at_lem k l u =
            let o = once in
            omega (arith, laid.firsts c (omega arith), laid.firsts (suc c) (omega arith), start_suc p c o.1)

        sends : (k t : ℕ) → first_of plan c ≤ k → k < first_of plan (suc c) → target_at plan k ≡ suc t
            → (action p c (k - start p c)).join ≡ suc t
        sends k t l u f =
            let o = once in
            let (s, b) = child_at_lem k l u in
            sym (laid_target plan p laid c o.1 (k - start p c) b) ∙ ap (target_at plan) (sym s) ∙ f

        target : (k t : ℕ) → first_of plan c ≤ k → k < first_of plan (suc c) → target_at plan k ≡ suc t → t < size p j
        target k t l u f =
            let o = once in
            let g = join_target p ok c (k - start p c) t o.1 (child_at_lem k l u).1 (sends k t l u f) in
            rw o.2 at g.1

        at_time : (k : ℕ) → first_of plan c ≤ k → k < first_of plan (suc c) → done' + time' k + begins p j ≡ ends p c (k - start p c)
        at_time k l u =
            let o = once in
            let (s, b) = child_at_lem k l u in
            omega (arith, child_time c (k - start p c) o.0 o.1 o.2 o.3 b, ap time' s)

        child_given : SendGiven (first_of plan c) (first_of plan (suc c)) (start p j) done' (target_at plan) time'
        child_given =
            let o = once in
            let f = laid.firsts c (omega arith) in
            let g = laid.firsts (suc c) (omega arith) in
            record {
              order = omega (arith, start_suc p c o.1);
              fits = omega (arith, start_below p (suc c), total_range p ok);
              targets = λ k t l u e. omega (arith, place_below p j t known (target k t l u e), total_range p ok);
              sums = λ k l u. omega (arith, at_time k l u, ends_small p ok c (k - start p c) o.1 (child_at_lem k l u).1);
            }

        next_child : Sent (first_of plan c) (first_of plan (suc c)) (start p j) done' (target_at plan) time' late late' → Midway p j (suc i) done' time' late'
        next_child s = next_midway s.kept (λ q t h b. low q t h b (s.source (start p q + t))) came
          where
            low : (q t : ℕ) → q < length p → t < size p q
                → (late' (start p q + t) ≡ late (start p q + t))
                ⊎ ((k : ℕ) × (u : ℕ) × (first_of plan c ≤ k) × (k < first_of plan (suc c)) × (target_at plan k ≡ suc u) × (start p q + t ≡ start p j + u) × (late' (start p q + t) ≡ done' + time' k))
                → late' (start p q + t) + begins p q + (action p q t).cost ≤ ends p q t
            low q t h b (inl f) = omega (arith, m.lates q t h b)
            low q t h b (inr (k, u, l, r, g, w, f)) =
                let o = once in
                let (x, y) = place_once p q t j u h b known (target k u l r g) w in
                let z = ends_sent p ok c (k - start p c) u o.1 (child_at_lem k l r).1 (sends k u l r g) in
                let v : ends p c (k - start p c) + (action p j u).cost ≤ ends p j u = rw o.2 at z in
                rw (x, y) (omega (arith, at_time k l r, ap late' w))

            came : (d a t : ℕ) → 1 ≤ d → d < length p → parent p d ≡ j → spawn_at p d ≡ i → a < size p d → (action p d a).join ≡ suc t
                → ends p d a ≤ begins p j + late' (start p j + t)
            came d a t h b q r l g =
                let o = once in
                let w : (action p j i).spawn ≡ suc d = rw (q, r) at (spawned_there p ok d h b).1 in
                let n : d ≡ c = omega arith in
                let v = s.came (start p c + a) t (omega (arith, laid.firsts c (omega arith)))
                (omega (arith, laid.firsts (suc c) (omega arith), start_suc p c o.1, rw n at l)) (laid_target plan p laid c o.1 a (rw n at l) ∙ rw n at g) in
                rw n (omega (arith, child_time c a o.0 o.1 o.2 o.3 (rw n at l)))

      pass_given : PassGiven (start p j + i) (start p j) done' plan time'
      pass_given = record {
        fits = omega (arith, place_below p j i known within, total_range p ok);
        child = λ c e.
            let s : (action p j i).spawn ≡ suc c = sym (laid_child plan p laid j known i within) ∙ e in
            (omega (arith, once c s, jobs_range p ok), child_given c s);
      }

      pass_next : Passed (start p j + i) (start p j) done' plan time' late late' → Midway p j (suc i) done' time' late'
      pass_next r = by (action p j i).spawn refl
        where
          by : (v : ℕ) → (action p j i).spawn ≡ v → Midway p j (suc i) done' time' late'
          by (suc c) e = next_child c e (r.child c (laid_child plan p laid j known i within ∙ e))
          by zero e =
              let s = r.none (laid_child plan p laid j known i within ∙ e) in
              next_midway (λ k. omega (arith, s k)) (λ q t h b. omega (arith, s (start p q + t), m.lates q t h b))
              (λ d a t h b q w l g.
              let z : (action p j i).spawn ≡ suc d = rw (q, w) at (spawned_there p ok d h b).1 in
              absurd (omega arith))

-- the same by the action's place k
module _ (base end : ℕ) (plan : Sheet) (time₀ late₀ : List ℕ) (of : JobOf) (g : JobGiven base end plan time₀ late₀ of) where
  abbrev MidwayAt : ℕ → ℕ → (time late : ℕ → ℕ) → Type 0
  MidwayAt k = Midway of.plan of.job (k - base)

  rules : Accepted of.plan
  rules = g.planned.rules

  pub job_places : (end ≡ base + size of.plan of.job) × (end ≤ 2048)
  job_places =
      omega (arith, g.start, g.past, start_suc of.plan of.job g.known, start_below of.plan (suc of.job), total_range of.plan rules)

  pub place_first : MidwayAt base 0 (at time₀) (at late₀)
  place_first = let z : base - base ≡ 0 = omega arith in rw z (midway_first of.plan rules of.job _ _ g.above)

  pub place_last : (k done : ℕ) (time late : List ℕ) → k ≡ end → length time ≡ 2048 → length late ≡ 2048
      → MidwayAt k done (at time) (at late) → JobTimed done time late of
  place_last k done time late e l n m =
      let (t, r) = midway_last of.plan rules of.job (k - base) done _ _ g.known (omega (arith, job_places)) m in
      record { long = (l, n); timed = t; last = r }

  module _ (k done : ℕ) (time late : ℕ → ℕ) (low : base ≤ k) (high : k < end) (m : MidwayAt k done time late) where
    inside : k - base < size of.plan of.job
    inside = omega (arith, job_places)

    here : start of.plan of.job + (k - base) ≡ k
    here = omega (arith, g.start)

    cost_here : cost_at plan k ≡ (action of.plan of.job (k - base)).cost
    cost_here = rw here at (laid_cost plan of.plan g.planned.laid of.job g.known (k - base) inside)

    pub place_small : max done (late k) + cost_at plan k ≤ 30720
    place_small =
        omega (arith, cost_here, rw here at (tick_small of.plan rules of.job (k - base) done time late g.known inside m))

    module _ (now : ℕ) (e : now ≡ max done (late k) + cost_at plan k) (time' : ℕ → ℕ) (new : time' k ≡ now) (same : (n : ℕ) → (n ≡ k → ⊥) → time' n ≡ time n) where
      is : now + begins of.plan of.job ≡ ends of.plan of.job (k - base)
      is = omega (arith, cost_here, rw here at (tick of.plan rules of.job (k - base) done time late g.known inside m))

      pub place_given : PassGiven k base now plan time'
      place_given =
          rw (here, ← g.start) at (pass_given of.plan rules of.job (k - base) done time late g.known inside m plan g.planned.laid time' late
          now is (rw here new) (λ n f. same n (λ z. f (z ∙ sym here))))

      pub place_next : (late' : ℕ → ℕ) → Passed k base now plan time' late late' → MidwayAt (k + 1) now time' late'
      place_next late' r =
          let n : k + 1 - base ≡ suc (k - base) = omega arith in
          rw n (pass_next of.plan rules of.job (k - base) done time late g.known inside m plan g.planned.laid time' late'
          now is (rw here new) (λ n f. same n (λ z. f (z ∙ sym here)))
          (rw (here, ← g.start) r))

-- job j - 1 is given where the jobs from j on are timed
module _ (plan : Sheet) (p : Plan) (g : PlanOf plan p) (j from end : ℕ) (some : 0 < j) (known : j ≤ plan.jobs)
    (start : from ≡ first_of plan (j - 1)) (past : end ≡ first_of plan (j - 1 + 1)) where
  pub job_given : (time late : List ℕ) → length time ≡ 2048 → length late ≡ 2048 → TimedFrom p j (at time) (at late)
      → JobGiven from end plan time late (record { plan = p; job = j - 1 })
  job_given time late l n t =
      let e : suc (j - 1) ≡ j = omega arith in
      let f : j - 1 + 1 ≡ suc (j - 1) = omega arith in
      record {
        planned = g.planned;
        known = omega (arith, g.count);
        start = start ∙ g.planned.laid.firsts (j - 1) (omega (arith, g.count));
        past = past ∙ ap (first_of plan) f ∙ g.planned.laid.firsts (suc (j - 1)) (omega (arith, g.count));
        long = (l, n);
        above = rw e t;
      }

-- the root's time is T∞
pub root_longest : (p : Plan) → Accepted p → (most : ℕ) → most + begins p 0 ≡ ends p 0 (size p 0 - 1) → most ≡ longest p
unfolding begins
root_longest p ok most e = omega (arith, longest_ends p ok)
