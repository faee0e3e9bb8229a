-- That a plan keeps the rules, from each of them by job and position: what Valid tells of an accepted plan, the other way round.
--   ranged_by    == the ranges
--   each_by      == a test of every action
--   Spawner p c  == one action spawns job c, and no other does
--   spawning_by  == the spawn rules
--   joining_by   == the join rules
use Prim.Native.Nat.{ℕ, zero, suc, ◌+◌, ◌-◌, ◌≤◌, ◌<◌}
use mathlib.Core.Path.{◌≡◌, refl, sym, ◌∙◌}
use mathlib.Core.Bool.{Bool, true}
use native.Mathlib.Omega.{arith}
use native.Mathlib.Decide.{dec_lt}
use lib.Dec.{T, leb, ltb, eqb, le→leb, lt→ltb, eqb→eq, eqb_refl}
use lib.ListN.{length, get_or}
use Rattle.plan.specs.Test.{both, either, all}
use Rattle.plan.specs.Plan.{Job, Plan, Placed, job, size, action, total, placed, no_action, no_job, no_placed, parent, spawn_at, entering}
use Rattle.plan.specs.Rules.{cost_in_range, job_in_range, in_range, spawn_fits, spawned_once, spawn_rules, join_fits, few_enter, last_sends, join_rules}
use Rattle.plan.specs.Kept.{spawning}
use Rattle.plan.proofs.Laws.Lists.{both_intro, all_by}
use Rattle.plan.proofs.Laws.Counts.{count_only, below_by, either_left, either_right}
use Rattle.plan.proofs.Laws.Placed.{act, start, placed_length, placed_at, place_below, placed_of}

pub ranged_by : (p : Plan) → 1 ≤ length p → length p ≤ 256
    → ((j : ℕ) → j < length p → (1 ≤ (job p j).frame) × ((job p j).frame ≤ 65535) × (1 ≤ size p j) × (size p j ≤ 255))
    → ((j i : ℕ) → j < length p → i < size p j → (1 ≤ (action p j i).cost) × ((action p j i).cost ≤ 15)) → total p ≤ 2048 → T (in_range p)
unfolding in_range
ranged_by p some jobs each costs actions =
    both_intro (both (leb 1 (length p)) (leb (length p) 256)) (both (all job_in_range p) (leb (total p) 2048))
    (both_intro (leb 1 (length p)) (leb (length p) 256) (le→leb 1 (length p) some) (le→leb (length p) 256 jobs))
    (both_intro (all job_in_range p) (leb (total p) 2048) (all_by job_in_range p no_job (λ j h. one (job p j) (each j h) (λ i b. costs j i h b))) (le→leb (total p) 2048 actions))
  where
    one : (b : Job) → (1 ≤ b.frame) × (b.frame ≤ 65535) × (1 ≤ length b.actions) × (length b.actions ≤ 255)
        → ((i : ℕ) → i < length b.actions → (1 ≤ (get_or b.actions i no_action).cost) × ((get_or b.actions i no_action).cost ≤ 15)) → T (job_in_range b)
    one b t costs =
        let n = length b.actions in
        let frames = both (leb 1 b.frame) (leb b.frame 65535) in
        let sizes = both (leb 1 n) (leb n 255) in
        both_intro (both frames sizes) (all cost_in_range b.actions)
        (both_intro frames sizes
        (both_intro (leb 1 b.frame) (leb b.frame 65535) (le→leb 1 b.frame t.0) (le→leb b.frame 65535 t.1))
        (both_intro (leb 1 n) (leb n 255) (le→leb 1 n t.2) (le→leb n 255 t.3)))
        (all_by cost_in_range b.actions no_action (λ i h.
        let c = (get_or b.actions i no_action).cost in
        both_intro (leb 1 c) (leb c 15) (le→leb 1 c (costs i h).0) (le→leb c 15 (costs i h).1)))

pub record Spawner (p : Plan) (c : ℕ) : Type 0 where
  pub job : ℕ
  pub position : ℕ
  pub known : job < length p
  pub within : position < size p job
  pub spawns : (action p job position).spawn ≡ suc c
  pub only : (q i : ℕ) → q < length p → i < size p q → (action p q i).spawn ≡ suc c → (q ≡ job) × (i ≡ position)

module _ (p : Plan) where
  pub each_by : (f : Placed → Bool)
      → ((j i : ℕ) → j < length p → i < size p j → T (f (act p j i)))
      → T (all f (placed p))
  each_by f h = all_by f (placed p) no_placed (λ k b. at k (omega (arith, placed_length p)))
    where
      at : (k : ℕ) → k < total p → T (f (get_or (placed p) k no_placed))
      at k b =
          let s = placed_of p k b in
          let a = get_or (placed p) k no_placed in
          let e : get_or (placed p) k no_placed ≡ act p a.job a.position
          = λ i. record { job = a.job; position = a.position; spawn = s.spawn i; join = s.join i; cost = s.cost i } in
          rw e (h a.job a.position s.known s.within)

  once_by : (c : ℕ) → Spawner p c → T (spawned_once p c)
  once_by c s =
      let k = start p s.job + s.position in
      let b : k < length (placed p) = omega (arith, placed_length p, place_below p s.job s.position s.known s.within) in
      let here : (get_or (placed p) k no_placed).spawn ≡ suc c = rw (placed_at p s.job s.position s.known s.within) s.spawns in
      let one = count_only (spawning c) (placed p) no_placed k b (rw here (eqb_refl (suc c))) (λ m d t. other m (omega (arith, placed_length p)) (eqb→eq _ _ t)) in
      either_right (eqb c 0) _ (rw one tt)
    where
      other : (m : ℕ) → m < total p → (get_or (placed p) m no_placed).spawn ≡ suc c → m ≡ start p s.job + s.position
      other m d e =
          let o = placed_of p m d in
          let a = get_or (placed p) m no_placed in
          let (q, i) = s.only a.job a.position o.known o.within (sym o.spawn ∙ e) in
          o.place ∙ rw (q, i)

  pub spawning_by : ((j i c : ℕ) → j < length p → i < size p j → (action p j i).spawn ≡ suc c → (1 ≤ c) × (c < length p) × (j < c))
      → ((c : ℕ) → 1 ≤ c → c < length p → Spawner p c) → T (spawn_rules p)
  unfolding spawn_rules
  spawning_by fits once =
      both_intro (all (spawn_fits (length p)) (placed p)) _
      (each_by (spawn_fits (length p)) (λ j i h b. allowed j i h b (action p j i).spawn refl))
      (below_by (spawned_once p) (length p) (λ c b. by c b))
    where
      allowed : (j i : ℕ) → j < length p → i < size p j → (n : ℕ) → (action p j i).spawn ≡ n
          → T (elim n [ zero ↦ true | suc c ↦ both (leb 1 c) (both (ltb c (length p)) (ltb j c)) ])
      allowed j i h b zero e = tt
      allowed j i h b (suc c) e =
          let f = fits j i c h b e in
          both_intro (leb 1 c) _ (le→leb 1 c f.0) (both_intro (ltb c (length p)) _ (lt→ltb c (length p) f.1) (lt→ltb j c f.2))

      by : (c : ℕ) → c < length p → T (spawned_once p c)
      by zero b = tt
      by (suc c) b = once_by (suc c) (once (suc c) (omega arith) b)

  pub joining_by :
      ((j i t : ℕ) → j < length p → i < size p j → (action p j i).join ≡ suc t
      → (1 ≤ j) × (t < size p (parent p j)) × (spawn_at p j < t) × ((action p (parent p j) (t - 1)).spawn ≡ 0))
      → ((q t : ℕ) → q < length p → t < size p q → entering p q t ≤ 8)
      → ((j : ℕ) → 1 ≤ j → j < length p → 1 ≤ (action p j (size p j - 1)).join) → T (join_rules p)
  unfolding join_rules
  joining_by fits few last = each_by (λ a. both (join_fits p a) (both (few_enter p a) (last_sends p a))) at
    where
      allowed : (j i : ℕ) → j < length p → i < size p j → (n : ℕ) → (action p j i).join ≡ n
          → T (elim n [
            | zero ↦ true
            | suc t ↦ both (leb 1 j) (both (ltb t (size p (parent p j))) (both (ltb (spawn_at p j) t) (eqb (action p (parent p j) (t - 1)).spawn 0)))
          ])
      allowed j i h b zero e = tt
      allowed j i h b (suc t) e =
          let f = fits j i t h b e in
          both_intro (leb 1 j) _ (le→leb 1 j f.0)
          (both_intro (ltb t (size p (parent p j))) _ (lt→ltb t (size p (parent p j)) f.1)
          (both_intro (ltb (spawn_at p j) t) _ (lt→ltb (spawn_at p j) t f.2) (rw f.3 tt)))

      sends : (j i : ℕ) → j < length p → i < size p j → Dec (suc i < size p j)
          → T (either (eqb j 0) (either (ltb (suc i) (size p j)) (leb 1 (action p j i).join)))
      sends zero i h b d = tt
      sends (suc j) i h b (yes l) = either_right (eqb (suc j) 0) _ (either_left (ltb (suc i) (size p (suc j))) _ (lt→ltb (suc i) (size p (suc j)) l))
      sends (suc j) i h b (no n) =
          let e : i ≡ size p (suc j) - 1 = omega arith in
          either_right (eqb (suc j) 0) _
          (either_right (ltb (suc i) (size p (suc j))) _ (le→leb 1 (action p (suc j) i).join (rw e (last (suc j) (omega arith) h))))

      at : (j i : ℕ) → j < length p → i < size p j
          → T (both (join_fits p (act p j i)) (both (few_enter p (act p j i)) (last_sends p (act p j i))))
      at j i h b =
          both_intro (join_fits p (act p j i)) _ (allowed j i h b (action p j i).join refl)
          (both_intro (few_enter p (act p j i)) _ (le→leb (entering p j i) 8 (few j i h b))
          (sends j i h b (dec_lt (suc i) (size p j))))
