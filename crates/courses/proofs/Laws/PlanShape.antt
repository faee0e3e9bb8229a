-- An accepted plan in the theory of lines: its shape is valid, the tests of a turn say what that theory says, and so do its weights.
--   shape p     == the plan as the theory of lines has it
--   done p l k  == how many actions of job k are done, by the list l of these counts
--   X-is, X-by  == where the test X of the plan passes its meaning in the theory of lines holds, and the other way round
--   weight_held == the weight by the plan is the weight held in the theory of lines
--   path_same   == so is the weight of a path
use Prim.Native.Nat.{ℕ, zero, suc, ◌+◌, ◌≤◌, ◌<◌}
use mathlib.Core.Path.{◌≡◌, refl, ap, sym, ◌∙◌}
use mathlib.Core.Logic.{◌≢◌}
use mathlib.Core.Bool.{Bool, true, false, not}
use mathlib.Core.List.{List, [], ◌∷◌}
use native.Mathlib.Omega.{arith}
use native.Mathlib.Nat.{not-suc-le-zero}
use lib.Dec.{T, eqb, leb, ltb, le→leb, ltb→lt, lt→ltb, eqb→eq, eqb_refl, T_not}
use lib.ListN.{length, get_or}
use Rattle.plan.specs.Test.{either, below}
use Rattle.plan.specs.Plan.{Plan, Job, Placed, job, size, action, placed, no_job, no_placed, parent, spawn_at, enters}
use Rattle.plan_measure.specs.Measure.{path_over, path, heaviest}
use Rattle.plan_measure.proofs.Laws.Largest.{largest_above, member_below}
use Rattle.courses.specs.Ready.{spawned, ready, living, frames, weight}
use Rattle.lines.proofs.Laws.Shape.{Shape, Valid, Living, living?, Ready}
use Rattle.lines.proofs.Laws.Sum.{sum, sum_front, only, only_yes, only_no}
use Rattle.lines.proofs.Laws.Weight.{held, path_root, path_child}
use Rattle.lines.proofs.Laws.Weight
use Rattle.plan.proofs.Laws.Lists.{both_intro, both_left, both_right, true_of, false_of, all_at, all_by}
use Rattle.plan.proofs.Laws.Counts.{dec_t}
use Rattle.plan.proofs.Laws.Enters.{enters_by, enters_is}
use Rattle.plan.proofs.Laws.Placed.{start, placed_length, placed_at, place_below, placed_of}
use Rattle.plan.specs.Rules.{Accepted}
use Rattle.plan.proofs.Laws.Valid.{jobs_range, size_range, older, spawned_there, spawned_once_lem, join_target, last_sends_lem}

abbrev pub shape : Plan → Shape
shape p = record {
  jobs = length p;
  len = size p;
  parent = parent p;
  spawn_at = spawn_at p;
  frame = λ j. (job p j).frame;
  child = λ j i. (action p j i).spawn;
  join = λ j i. (action p j i).join;
}

pub shape_valid : (p : Plan) → Accepted p → Valid (shape p)
shape_valid p ok = record {
  some = (jobs_range p ok).0;
  long = λ j h. (size_range p ok j h).0;
  older = older p ok;
  spawns = λ j o h. (spawned_there p ok j o h).1;
  spawned = spawned_once_lem p ok;
  joins = join_target p ok;
  last = λ j o h e. omega (arith, last_sends_lem p ok j o h);
}

pub either_by : (a b : Bool) → ((T a → ⊥) → T b) → T (either a b)
either_by true b f = tt
either_by false b f = f (λ x. x)

pub either_other : (a b : Bool) → (T a → ⊥) → T (either a b) → T b
either_other true b n t = absurd (n tt)
either_other false b n t = t

pub not_not : (b : Bool) → (T (not b) → ⊥) → T b
not_not true f = tt
not_not false f = f tt

module _ (p : Plan) (next : List ℕ) where
  -- how many actions of a job are done
  abbrev pub done : ℕ → ℕ
  done k = get_or next k 0

  pub spawned_is : (j : ℕ) → T (spawned p next j) → 1 ≤ j → spawn_at p j < done (parent p j)
  unfolding spawned
  spawned_is j t o = ltb→lt (spawn_at p j) (done (parent p j)) (either_other (eqb j 0) _ (λ z. omega (arith, eqb→eq j 0 z)) t)

  pub spawned_by : (j : ℕ) → (1 ≤ j → spawn_at p j < done (parent p j)) → T (spawned p next j)
  unfolding spawned
  spawned_by j b =
      either_by (eqb j 0) _
      (λ n. let f : j ≢ 0 = λ e. n (rw e (eqb_refl 0)) in lt→ltb (spawn_at p j) (done (parent p j)) (b (omega arith)))

  pub living_is : (j : ℕ) → j < length p → T (living p next j) → Living (shape p) done j
  unfolding living
  living_is j h t = record {
    below = h;
    begun = spawned_is j (both_left (spawned p next j) _ t);
    left = ltb→lt (done j) (size p j) (both_right (spawned p next j) _ t);
  }

  pub living_by : (j : ℕ) → Living (shape p) done j → T (living p next j)
  unfolding living
  living_by j a = both_intro (spawned p next j) _ (spawned_by j a.begun) (lt→ltb (done j) (size p j) a.left)

  module _ (ok : Accepted p) where
    -- the joins into the next action of job j, among all actions
    sent : ℕ → Placed → Bool
    sent j a = either (not (enters p j (done j) a)) (ltb a.position (done a.job))

    pub ready_is : (j : ℕ) → T (ready p next j) → Ready (shape p) done j
    unfolding ready sent
    ready_is j t k b a h e i =
        let here : Placed = record { job = k; position = a; spawn = (action p k a).spawn; join = (action p k a).join; cost = (action p k a).cost } in
        let x : T (sent j here) = rw (placed_at p k a b h) at
        (all_at (sent j) (placed p) (both_right (either (leb 1 (done j)) (spawned p next j)) _ t) no_placed (start p k + a)
        (omega (arith, placed_length p, place_below p k a b h))) in
        ltb→lt a (done k) (either_other (not (enters p j (done j) here)) _
        (λ n. T_not (enters p j (done j) here) n (enters_by p j (done j) here (join_target p ok k a (done j) b h i).0 e i)) x)

    pub ready_by : (j : ℕ) → Ready (shape p) done j → (done j ≡ 0 → 1 ≤ j → spawn_at p j < done (parent p j)) → T (ready p next j)
    unfolding ready sent
    ready_by j r b =
        both_intro (either (leb 1 (done j)) (spawned p next j)) _
        (either_by (leb 1 (done j)) _ (λ n. spawned_by j (b (none n))))
        (all_by (sent j) (placed p) no_placed each)
      where
        none : (T (leb 1 (done j)) → ⊥) → done j ≡ 0
        none n = let f : ¬ (1 ≤ done j) = λ h. n (le→leb 1 (done j) h) in omega arith

        each : (k : ℕ) → k < length (placed p) → T (sent j (get_or (placed p) k no_placed))
        each k h =
            let a = get_or (placed p) k no_placed in
            let st = placed_of p k (omega (arith, placed_length p)) in
            either_by (not (enters p j (done j) a)) _ (λ n.
            let (o, e, i) = enters_is p j (done j) a (not_not (enters p j (done j) a) n) in
            lt→ltb a.position (done a.job) (r a.job st.known a.position st.within e (sym st.join ∙ i)))

frames_hit : (f : ℕ → Bool) (o : ℕ) (b : Job) (l : List Job) → T (f o) → frames f o (b ∷ l) ≡ b.frame + frames f (suc o) l
frames_hit f o b l t = rw (frames, true_of (f o) t)

frames_miss : (f : ℕ → Bool) (o : ℕ) (b : Job) (l : List Job) → (T (f o) → ⊥) → frames f o (b ∷ l) ≡ frames f (suc o) l
frames_miss f o b l n = rw (frames, false_of (f o) n)

-- the frames that a test picks, as a sum
frames_sum : (f : ℕ → Bool) (o : ℕ) (l : List Job) (g : ℕ → ℕ)
    → ((i n : ℕ) → i < length l → o + i ≡ n → T (f n) → g i ≡ (get_or l i no_job).frame)
    → ((i n : ℕ) → i < length l → o + i ≡ n → (T (f n) → ⊥) → g i ≡ 0) → frames f o l ≡ sum (length l) g
unfolding sum
frames_sum f o [] g hit miss = refl
frames_sum f o (b ∷ l) g hit miss =
    go (dec_t (f o))
    (frames_sum f (suc o) l (λ i. g (suc i)) (λ i n h e. hit (suc i) n (omega arith) (omega arith))
    (λ i n h e. miss (suc i) n (omega arith) (omega arith)))
  where
    go : Dec (T (f o)) → frames f (suc o) l ≡ sum (length l) (λ i. g (suc i)) → frames f o (b ∷ l) ≡ sum (suc (length l)) g
    go (yes t) r = omega (arith, frames_hit f o b l t, sum_front (length l) g, hit 0 o (omega arith) (omega arith) t)
    go (no n) r = omega (arith, frames_miss f o b l n, sum_front (length l) g, miss 0 o (omega arith) (omega arith) n)

pub weight_held : (p : Plan) (next : List ℕ) → weight p next ≡ held (shape p) (λ j. get_or next j 0)
unfolding weight held
weight_held p next =
    frames_sum (living p next) 0 p (λ j. only (living? (shape p) (done p next) j) (job p j).frame)
    (λ i n h e t. only_yes (living? (shape p) (done p next) i) (job p i).frame (living_is p next i h (rw (is i n e) t)))
    (λ i n h e f. only_no (living? (shape p) (done p next) i) (job p i).frame (λ a. f (rw (is i n e) at (living_by p next i a))))
  where
    is : (i n : ℕ) → 0 + i ≡ n → i ≡ n
    is i n e = omega arith

module _ (p : Plan) (ok : Accepted p) where
  over_root : (n j : ℕ) → j ≡ 0 → path_over p (suc n) j ≡ (job p j).frame
  unfolding path_over
  over_root n j e =
      let t : eqb j 0 ≡ true = true_of (eqb j 0) (rw e (eqb_refl 0)) in
      rw t (omega arith)

  over_child : (n j : ℕ) → j ≢ 0 → path_over p (suc n) j ≡ (job p j).frame + path_over p n (parent p j)
  unfolding path_over
  over_child n j f =
      let t : eqb j 0 ≡ false = false_of (eqb j 0) (λ z. f (eqb→eq j 0 z)) in
      rw t

  over_path : (n j : ℕ) → j < n → j < length p → path_over p n j ≡ Weight.path (shape p) j
  over_path zero j h b = absurd (not-suc-le-zero h)
  over_path (suc n) j h b = go (dec_t (eqb j 0)) (over_path n (parent p j))
    where
      go : Dec (T (eqb j 0)) → (parent p j < n → parent p j < length p → path_over p n (parent p j) ≡ Weight.path (shape p) (parent p j))
          → path_over p (suc n) j ≡ Weight.path (shape p) j
      go (yes t) r =
          let e : j ≡ 0 = eqb→eq j 0 t in
          over_root n j e ∙ rw e (sym (path_root (shape p) (shape_valid p ok)))
      go (no m) r =
          let f : j ≢ 0 = λ e. m (rw e (eqb_refl 0)) in
          let o = older p ok j (omega arith) b in
          over_child n j f ∙ ap (λ x. (job p j).frame + x) (r (omega arith) (omega arith))
          ∙ sym (path_child (shape p) (shape_valid p ok) j (omega arith) b)

  pub path_same : (j : ℕ) → j < length p → path p j ≡ Weight.path (shape p) j
  unfolding path
  path_same j h = over_path (length p) j h h

pub path_most : (p : Plan) (j : ℕ) → j < length p → path p j ≤ heaviest p
unfolding heaviest
path_most p j h = largest_above (path p) (below (length p)) j (member_below (length p) j h)
