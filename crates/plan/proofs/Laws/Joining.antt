-- What one more action does to the count of joins that enter each action, and what the whole count says of the join rules.
use Prim.Native.Nat.{ℕ, suc, ◌+◌, ◌-◌, ◌≤◌, ◌<◌}
use mathlib.Core.Path.{◌≡◌, refl, ap, sym, ◌∙◌}
use mathlib.Core.Logic.{◌≢◌}
use mathlib.Core.Bool.{Bool, true, false}
use mathlib.Core.List.{List}
use native.Mathlib.Omega.{arith}
use borrow.Author.Count.{below_more}
use native.Mathlib.Decide.{dec_lt, ℕ_discrete}
use native.Mathlib.Nat.{not-suc-le-zero}
use lib.Dec.{T, leb, ltb, eqb, eqb_refl, le→leb, lt→ltb}
use lib.ListN.{length, get_or, take, set, get_or-replicate, length-set, length-replicate}
use lib.Seq.{get_or-set_same, get_or-set_other, take_all}
use Rattle.plan.specs.declared.sheet.Sheet.{Sheet}
use Rattle.plan.specs.Test.{both, either, count}
use Rattle.plan.specs.Plan.{Plan, Placed, size, action, total, placed, no_placed, parent, spawn_at, enters, entering}
use Rattle.plan.specs.Rules.{in_range, join_fits, few_enter, last_sends, join_rules, Accepted}
use Rattle.plan.specs.Sheet.{child_at, target_at, first_of, job_at, parent_of, spawn_of, Laid, Parented, SpawnedIn}
use Rattle.plan.specs.Entering.{Unentered, Entered}
use Rattle.plan.specs.Listed.{upto, Listed}
use Rattle.plan.specs.Kept.{Counted, JoinAt, JoinsFrom, JoinTold, LastsTold}
use Rattle.plan.proofs.Laws.Lists.{both_intro, all_by, told_yes, told_no}
use Rattle.plan.proofs.Laws.Counts.{dec_t, either_left, either_right, equal_tests, count_take, count_one_more, count_no_more, array_by}
use Rattle.plan.proofs.Laws.Listing.{to_next, to_end}
use Rattle.plan.proofs.Laws.Enters.{enters_by, enters_is}
use Rattle.plan.proofs.Laws.Laid.{laid_end, laid_child, laid_target}
use Rattle.plan.proofs.Laws.Placed.{place_once, start, placed_length, place_below, placed_of}
use Rattle.plan.proofs.Laws.Spawning.{jobs_in_range, size_in_range, total_in_range, spawner_of}
use Rattle.plan.proofs.Laws.Valid.{join_target, few_enter_lem, last_sends_lem}
use Rattle.plan.proofs.Laws.Recording.{here}

-- a join that is allowed passes the test
fits_by : (p : Plan) (a : Placed) (t : ℕ) → a.join ≡ suc t → 1 ≤ a.job → t < size p (parent p a.job) → spawn_at p a.job < t
    → (action p (parent p a.job) (t - 1)).spawn ≡ 0 → T (join_fits p a)
fits_by p a t e h i l z =
    let q = parent p a.job in
    rw e
    (both_intro (leb 1 a.job) (both (ltb t (size p q)) (both (ltb (spawn_at p a.job) t) (eqb (action p q (t - 1)).spawn 0))) (le→leb 1 a.job h)
    (both_intro (ltb t (size p q)) (both (ltb (spawn_at p a.job) t) (eqb (action p q (t - 1)).spawn 0)) (lt→ltb t (size p q) i)
    (both_intro (ltb (spawn_at p a.job) t) (eqb (action p q (t - 1)).spawn 0) (lt→ltb (spawn_at p a.job) t l) (rw z (eqb_refl 0)))))

fits_none : (p : Plan) (a : Placed) → a.join ≡ 0 → T (join_fits p a)
fits_none p a e = rw e tt

-- what is known of a join that is sent, once its target is looked up: job j sends to position s - 1 of job q, whose actions are
-- at the places from w to z, and d is the position of j's spawn there, plus 1
pub record Target (plan : Sheet) (j s d q w z : ℕ) : Type 0 where
  pub child : j ≢ 0
  pub spawned : d ≡ spawn_of plan j
  pub late : d < s
  pub owner : q ≡ parent_of plan j
  pub begins : w ≡ first_of plan q
  pub ends : z ≡ first_of plan (q + 1)

module _ (p : Plan) (plan : Sheet) (g : Parented plan p) where
  accepted : T (join_rules p) → Accepted p
  accepted t = record { range = g.laid.range; spawns = g.rules; joins = t }

-- one more action
module _ (k : ℕ) (l : List ℕ) (p : Plan) (r : Counted k l p) (h : k < total p) where
  fits_more : T (join_fits p (here p k)) → (i : ℕ) → i < suc k → T (join_fits p (here p i))
  fits_more t i b = below_more (λ i. T (join_fits p (here p i))) k r.fits t i (omega arith)

  same_count : (q t : ℕ) → (T (enters p q t (here p k)) → ⊥) → count (enters p q t) (take (suc k) (placed p)) ≡ count (enters p q t) (take k (placed p))
  same_count q t n = count_no_more (enters p q t) (placed p) k no_placed (omega (arith, placed_length p)) n

  more_count : (q t : ℕ) → T (enters p q t (here p k)) → count (enters p q t) (take (suc k) (placed p)) ≡ suc (count (enters p q t) (take k (placed p)))
  more_count q t y = count_one_more (enters p q t) (placed p) k no_placed (omega (arith, placed_length p)) y

  -- the action sends none
  counted_none : (here p k).join ≡ 0 → Counted (suc k) l p
  counted_none z =
      record {
        long = r.long;
        fits = fits_more (fits_none p (here p k) z);
        counts = λ q t a b. r.counts q t a b ∙ sym (same_count q t (λ y. omega (arith, (enters_is p q t (here p k) y).2)));
        few = r.few;
      }

module _ (p : Plan) (k : ℕ) (plan : Sheet) (l : List ℕ) (g : JoinAt k plan l p) where
  lies : Laid plan p
  lies = g.given.laid

  module _ (s : ℕ) (e : s ≡ target_at plan k) where
    sends : 1 ≤ s
    sends = let n : s ≢ 0 = λ z. g.sends (sym e ∙ z) in omega arith

    sent : (here p k).join ≡ suc (s - 1)
    sent = omega (arith, e, lies.targets k g.here, sends)

    module _ (j : ℕ) (o : j ≡ job_at plan k) where
      own : (here p k).job ≡ j
      own = sym (o ∙ lies.owners k g.here)

      known : j < length p
      known = omega (arith, own, (placed_of p k g.here).known)

      pub sender_small : j < 256
      sender_small = omega (arith, known, jobs_in_range p lies.range)

      allowed : T (join_rules p) → (1 ≤ j) × (s - 1 < size p (parent p j)) × (spawn_at p j < s - 1) × ((action p (parent p j) (s - 1 - 1)).spawn ≡ 0)
      allowed t =
          let st = placed_of p k g.here in
          rw own at (join_target p (accepted p plan g.given t) (here p k).job (here p k).position (s - 1) st.known st.within (sym st.join ∙ sent))

      pub refused_root : j ≡ 0 → JoinTold (suc k) false l p
      refused_root z = told_no (λ t. omega (arith, (allowed t).0))

      -- the target is not after the spawn
      pub refused_early : j ≢ 0 → (d : ℕ) → d ≡ spawn_of plan j → s ≤ d → JoinTold (suc k) false l p
      refused_early m d f b =
          told_no (λ t. omega (arith, (allowed t).2, g.given.spawned.spawns j (omega arith) known))

      module _ (m : j ≢ 0) (q : ℕ) (f : q ≡ parent_of plan j) where
        from : q ≡ parent p j
        from = f ∙ g.given.spawned.parents j (omega arith) known

        there : q < length p
        there = omega (arith, from, (spawner_of p g.given.rules j (omega arith) known).0, known)

        pub parent_small : q < 256
        parent_small = omega (arith, there, jobs_in_range p lies.range)

      module _ (d q w z : ℕ) (x : Target plan j s d q w z) where
        parents : q ≡ parent p j
        parents = from x.child q x.owner

        in_plan : q < length p
        in_plan = there x.child q x.owner

        begins : w ≡ start p q
        begins = x.begins ∙ lies.firsts q (omega (arith, in_plan))

        ends : z ≡ start p q + size p q
        ends = x.ends ∙ laid_end plan p lies q in_plan

        -- the target is neither the spawn nor before it
        later : spawn_at p j < s - 1
        later = omega (arith, x.late, x.spawned, g.given.spawned.spawns j (omega (arith, x.child)) known)

        allowed_there : T (join_rules p) → (s - 1 < size p q) × ((action p q (s - 1 - 1)).spawn ≡ 0)
        allowed_there t = rw parents ((allowed t).1, (allowed t).3)

        -- the parent has no such action
        pub refused_outside : z ≤ w + (s - 1) → JoinTold (suc k) false l p
        refused_outside b = told_no (λ t. omega (arith, (allowed_there t).0, begins, ends))

        module _ (inside : w + (s - 1) < z) where
          within : s - 1 < size p q
          within = omega (arith, begins, ends)

          target_below : w + (s - 1) < total p
          target_below = omega (arith, begins, place_below p q (s - 1) in_plan within)

          pub target_small : (1 ≤ w + (s - 1)) × (w + (s - 1) < 2048)
          target_small = omega (arith, later, target_below, total_in_range p lies.range)

          spawn_before : child_at plan (w + (s - 1) - 1) ≡ (action p q (s - 1 - 1)).spawn
          spawn_before =
              let b : s - 1 - 1 < size p q = omega (arith, within) in
              let f : w + (s - 1) - 1 ≡ start p q + (s - 1 - 1) = omega (arith, begins, later) in
              rw f (laid_child plan p lies q in_plan (s - 1 - 1) b)

          -- the target is right after a spawn
          pub refused_after_spawn : (c : ℕ) → c ≡ child_at plan (w + (s - 1) - 1) → c ≢ 0 → JoinTold (suc k) false l p
          refused_after_spawn c i f = told_no (λ t. f (i ∙ spawn_before ∙ (allowed_there t).1))

          enters_here : T (enters p q (s - 1) (here p k))
          enters_here =
              enters_by p q (s - 1) (here p k) (omega (arith, own, x.child)) (ap (parent p) own ∙ sym parents) sent

          before : get_or l (w + (s - 1)) 0 ≡ count (enters p q (s - 1)) (take k (placed p))
          before = ap (λ n. get_or l (n + (s - 1)) 0) begins ∙ g.counted.counts q (s - 1) in_plan within

          -- eight enter the target
          pub refused_ninth : 8 ≤ get_or l (w + (s - 1)) 0 → JoinTold (suc k) false l p
          unfolding entering
          refused_ninth b =
              told_no
              (λ t. omega (
                arith,
                few_enter_lem p (accepted p plan g.given t) q (s - 1) in_plan within,
                before,
                more_count k l p g.counted g.here q (s - 1) enters_here,
                count_take (enters p q (s - 1)) (suc k) (placed p),
              ))

          pub counted_more : (c : ℕ) → c ≡ child_at plan (w + (s - 1) - 1) → c ≡ 0 → get_or l (w + (s - 1)) 0 < 8
              → JoinTold (suc k) true (set l (w + (s - 1)) (get_or l (w + (s - 1)) 0 + 1)) p
          counted_more c i f b =
              told_yes
              (record {
                long = rw length-set g.counted.long;
                fits = fits_more k l p g.counted g.here fits;
                counts = λ a t v u. (after a t v u (dec_t (enters p a t (here p k)))).0;
                few = λ a t v u. (after a t v u (dec_t (enters p a t (here p k)))).1;
              })
            where
              target : ℕ
              target = w + (s - 1)

              fits : T (join_fits p (here p k))
              fits =
                  fits_by p (here p k) (s - 1) sent (omega (arith, own, x.child)) (rw (own, ← parents) within)
                  (rw own later) (rw (own, ← parents) (sym (i ∙ spawn_before) ∙ f))

              after : (a t : ℕ) → a < length p → t < size p a → Dec (T (enters p a t (here p k)))
                  → (get_or (set l target (get_or l target 0 + 1)) (start p a + t) 0 ≡ count (enters p a t) (take (suc k) (placed p)))
                  × (get_or (set l target (get_or l target 0 + 1)) (start p a + t) 0 ≤ 8)
              after a t v u (yes y) =
                  let i = enters_is p a t (here p k) y in
                  let ea : a ≡ q = sym i.1 ∙ ap (parent p) own ∙ sym parents in
                  let et : t ≡ s - 1 = omega (arith, i.2, sent) in
                  let at : start p a + t ≡ target = rw (ea, et) (omega (arith, begins)) in
                  let now : get_or (set l target (get_or l target 0 + 1)) (start p a + t) 0 ≡ get_or l target 0 + 1 =
                  rw at (get_or-set_same l target (get_or l target 0 + 1) 0 (omega (arith, target_small, g.counted.long))) in
                  let one : count (enters p a t) (take (suc k) (placed p)) ≡ suc (count (enters p q (s - 1)) (take k (placed p))) =
                  rw (ea, et) (more_count k l p g.counted g.here q (s - 1) enters_here) in
                  (omega (arith, before), omega arith)
              after a t v u (no f) =
                  let apart : start p a + t ≢ target =
                  λ at. let i = place_once p a t q (s - 1) v u in_plan within (omega (arith, begins)) in f (rw (i.0, i.1) enters_here) in
                  let now : get_or (set l target (get_or l target 0 + 1)) (start p a + t) 0 ≡ get_or l (start p a + t) 0 =
                  get_or-set_other l target (start p a + t) (get_or l target 0 + 1) 0 apart in
                  (now ∙ g.counted.counts a t v u ∙ sym (same_count k l p g.counted g.here a t f), rw now (g.counted.few a t v u))

-- before the first action
counted_start : (p : Plan) → T (in_range p) → (l : List ℕ) → Unentered l → Counted 0 l p
counted_start p g l u =
    record {
      long = rw (u, length-replicate) refl;
      fits = λ i b. absurd (not-suc-le-zero b);
      counts = λ q t h b. zero_at q t h b;
      few = λ q t h b. rw (zero_at q t h b) (omega arith);
    }
  where
    zero_at : (q t : ℕ) → q < length p → t < size p q → get_or l (start p q + t) 0 ≡ 0
    zero_at q t h b = rw u (get_or-replicate 2048 (start p q + t) 0 0 (omega (arith, place_below p q t h b, total_in_range p g)))

pub joins_from : (plan : Sheet) (l : List ℕ) (p : Plan) → SpawnedIn plan p → Unentered l → JoinsFrom plan l p
joins_from plan l p g u =
    record { given = g.parented; all = g.all; counted = counted_start p g.parented.laid.range l u }

-- the actions that send a join are listed: the next of them, and past the last one the end
module _ (many : ℕ) (plan : Sheet) (first list : List ℕ) (p : Plan) (g : JoinsFrom plan first p) (f : Listed (target_at plan) plan.actions many list) (l : List ℕ) where
  over_none : (i : ℕ) → i < plan.actions → target_at plan i ≡ 0 → Counted i l p → Counted (suc i) l p
  over_none i b z r =
      let h : i < total p = omega (arith, g.all) in counted_none i l p r h (sym (g.given.laid.targets i h) ∙ z)

  pub join_next : (m k : ℕ) → m < many → k ≡ get_or list m 0 → Counted (upto list m) l p → JoinAt k plan l p
  join_next m k b e r =
      rw e
      (record {
        given = g.given;
        here = omega (arith, g.all, f.below m b);
        sends = f.some m b;
        counted = to_next (target_at plan) plan.actions many list f (λ i. Counted i l p) over_none m b r;
      })

  pub joins_all : Counted (upto list many) l p → Counted (total p) l p
  joins_all r =
      rw g.all at (to_end (target_at plan) plan.actions many list f (λ i. Counted i l p) over_none r)

-- the last actions
module _ (p : Plan) (plan : Sheet) (g : Laid plan p) (j : ℕ) (h : j < length p) where
  pub last_small : (1 ≤ first_of plan (j + 1)) × (first_of plan (j + 1) - 1 < 2048)
  last_small =
      let z = size_in_range p g.range j h in
      omega (arith, laid_end plan p g j h, z, place_below p j (size p j - 1) h (omega (arith, z)), total_in_range p g.range)

  last_at : target_at plan (first_of plan (j + 1) - 1) ≡ (action p j (size p j - 1)).join
  last_at =
      let z = size_in_range p g.range j h in
      let b : size p j - 1 < size p j = omega (arith, z) in
      let e : first_of plan (j + 1) - 1 ≡ start p j + (size p j - 1) = omega (arith, laid_end plan p g j h, z) in
      ap (target_at plan) e ∙ laid_target plan p g j h (size p j - 1) b

module _ (p : Plan) (plan : Sheet) (g : plan.jobs ≡ length p) (r : Parented plan p) (told : Bool) (t : LastsTold plan told) where
  pub lasts_broken : (T told → ⊥) → T (join_rules p) → ⊥
  lasts_broken f y =
      let u = t.broken f in
      let h : u.0 < length p = omega (arith, u.2) in
      omega (arith, last_sends_lem p (accepted p plan r y) u.0 u.1 h, last_at p plan r.laid u.0 h, u.3)

  pub lasts_kept : T told → (k : ℕ) → k < total p → T (last_sends p (here p k))
  lasts_kept y k h = go (ℕ_discrete (here p k).job 0) (dec_lt (suc (here p k).position) (size p (here p k).job))
    where
      more : Bool
      more = ltb (suc (here p k).position) (size p (here p k).job)

      go : Dec ((here p k).job ≡ 0) → Dec (suc (here p k).position < size p (here p k).job) → T (last_sends p (here p k))
      go (yes e) d = either_left (eqb (here p k).job 0) (either more (leb 1 (here p k).join)) (rw e (eqb_refl 0))
      go (no n) (yes b) =
          either_right (eqb (here p k).job 0) (either more (leb 1 (here p k).join))
          (either_left more (leb 1 (here p k).join) (lt→ltb (suc (here p k).position) (size p (here p k).job) b))
      go (no n) (no b) =
          let st = placed_of p k h in
          let i : (here p k).position ≡ size p (here p k).job - 1 = omega (arith, st.within) in
          let z : (here p k).join ≡ 0 → ⊥ =
          λ z. t.kept y (here p k).job (omega arith) (omega (arith, st.known))
          (last_at p plan r.laid (here p k).job st.known ∙ ap (λ n. (action p (here p k).job n).join) (sym i) ∙ sym st.join ∙ z) in
          either_right (eqb (here p k).job 0) (either more (leb 1 (here p k).join))
          (either_right more (leb 1 (here p k).join) (le→leb 1 (here p k).join (omega arith)))

-- what the count of every action, and that the last actions send, say of the join rules
module _ (p : Plan) (l : List ℕ) (few : T (in_range p)) (lasts : (k : ℕ) → k < total p → T (last_sends p (here p k))) where
  module _ (r : Counted (total p) l p) where
    entering_at : (i : ℕ) → i < total p → (get_or l i 0 ≡ entering p (here p i).job (here p i).position) × (get_or l i 0 ≤ 8)
    unfolding entering
    entering_at i h =
        let st = placed_of p i h in
        let at : get_or l i 0 ≡ get_or l (start p (here p i).job + (here p i).position) 0 = ap (λ n. get_or l n 0) st.place in (
          at ∙ r.counts (here p i).job (here p i).position st.known st.within
              ∙ ap (count (enters p (here p i).job (here p i).position)) (take_all (total p) (placed p) (omega (arith, placed_length p))),
          omega (arith, r.few (here p i).job (here p i).position st.known st.within),
        )

    rules_kept : T (join_rules p)
    unfolding join_rules
    rules_kept = all_by (λ a. both (join_fits p a) (both (few_enter p a) (last_sends p a))) (placed p) no_placed (λ i b. at i (omega (arith, placed_length p)))
      where
        at : (i : ℕ) → i < total p → T (both (join_fits p (here p i)) (both (few_enter p (here p i)) (last_sends p (here p i))))
        at i b =
            both_intro (join_fits p (here p i)) (both (few_enter p (here p i)) (last_sends p (here p i))) (r.fits i b)
            (both_intro (few_enter p (here p i)) (last_sends p (here p i))
            (le→leb (entering p (here p i).job (here p i).position) 8 (omega (arith, entering_at i b))) (lasts i b))

    all_entered : Entered p l
    all_entered =
        array_by (λ a. entering p a.job a.position) no_placed l (placed p) (total p) (placed_length p)
        (omega (arith, r.long, total_in_range p few)) (λ i b. (entering_at i b).0)

  pub joins_told : (told : Bool) → JoinTold (total p) told l p → (told ≡ join_rules p) × (T told → Entered p l × (length l ≡ 2048))
  joins_told told t =
      (equal_tests told (join_rules p) (λ y. rules_kept (t.kept y)) t.broken, λ y. (all_entered (t.kept y), (t.kept y).long))
