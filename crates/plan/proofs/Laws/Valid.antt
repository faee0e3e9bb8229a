-- What a plan that was accepted keeps, by its jobs and positions.
use Prim.Native.Nat.{ℕ, zero, suc, ◌+◌, ◌-◌, ◌≤◌, ◌<◌}
use mathlib.Core.Path.{◌≡◌, refl}
use mathlib.Core.Bool.{Bool, true, false}
use native.Mathlib.Omega.{arith}
use lib.Dec.{T, leb, ltb, eqb, leb→le, ltb→lt, eqb→eq}
use lib.ListN.{length}
use Rattle.plan.specs.Test.{both, either}
use Rattle.plan.specs.Plan.{Plan, Placed, job, size, action, total, placed, no_placed, parent, spawn_at, entering}
use Rattle.plan.specs.Rules.{join_fits, few_enter, last_sends, join_rules, Accepted}
use Rattle.plan.proofs.Laws.Lists.{both_left, both_right, all_at}
use Rattle.plan.proofs.Laws.Placed.{start, placed_length, placed_at, place_below}
use Rattle.plan.proofs.Laws.Spawning.{jobs_in_range, size_in_range, frame_in_range, total_in_range, spawner_of, spawner_once}

-- what a join that is allowed is
pub join_fits_lem : (p : Plan) (a : Placed) (t : ℕ) → T (join_fits p a) → a.join ≡ suc t
    → (1 ≤ a.job) × (t < size p (parent p a.job)) × (spawn_at p a.job < t) × ((action p (parent p a.job) (t - 1)).spawn ≡ 0)
join_fits_lem p a t x e =
    let q = parent p a.job in
    let s : T (both (leb 1 a.job) (both (ltb t (size p q)) (both (ltb (spawn_at p a.job) t) (eqb (action p q (t - 1)).spawn 0)))) = rw e at x in
    let u : T (both (ltb t (size p q)) (both (ltb (spawn_at p a.job) t) (eqb (action p q (t - 1)).spawn 0))) = both_right (leb 1 a.job) _ s in
    let v : T (both (ltb (spawn_at p a.job) t) (eqb (action p q (t - 1)).spawn 0)) = both_right (ltb t (size p q)) _ u in (
      leb→le 1 a.job (both_left (leb 1 a.job) _ s),
      ltb→lt t (size p q) (both_left (ltb t (size p q)) _ u),
      ltb→lt (spawn_at p a.job) t (both_left (ltb (spawn_at p a.job) t) _ v),
      eqb→eq (action p q (t - 1)).spawn 0 (both_right (ltb (spawn_at p a.job) t) _ v),
    )

last_fits : (p : Plan) (a : Placed) → T (last_sends p a) → 1 ≤ a.job → size p a.job ≤ suc a.position → 1 ≤ a.join
last_fits p a t h b = go (eqb a.job 0) (ltb (suc a.position) (size p a.job)) (eqb→eq a.job 0) (ltb→lt (suc a.position) (size p a.job)) t
  where
    go : (x y : Bool) → (T x → a.job ≡ 0) → (T y → suc a.position < size p a.job) → T (either x (either y (leb 1 a.join))) → 1 ≤ a.join
    go true y f g t = omega (arith, f tt)
    go false true f g t = omega (arith, g tt)
    go false false f g t = leb→le 1 a.join t

module _ (p : Plan) (ok : Accepted p) where
  pub jobs_range : (1 ≤ length p) × (length p ≤ 256)
  jobs_range = jobs_in_range p ok.range

  pub size_range : (j : ℕ) → j < length p → (1 ≤ size p j) × (size p j ≤ 255)
  size_range = size_in_range p ok.range

  pub frame_range : (j : ℕ) → j < length p → (1 ≤ (job p j).frame) × ((job p j).frame ≤ 65535)
  frame_range = frame_in_range p ok.range

  pub total_range : (1 ≤ total p) × (total p ≤ 2048)
  total_range = total_in_range p ok.range

  pub older : (c : ℕ) → 1 ≤ c → c < length p → parent p c < c
  older c h b = (spawner_of p ok.spawns c h b).0

  pub spawned_there : (c : ℕ) → 1 ≤ c → c < length p → (spawn_at p c < size p (parent p c)) × ((action p (parent p c) (spawn_at p c)).spawn ≡ suc c)
  spawned_there c h b = let s = spawner_of p ok.spawns c h b in (s.1, s.2)

  pub spawned_once_lem : (q i c : ℕ) → q < length p → i < size p q → (action p q i).spawn ≡ suc c
      → (1 ≤ c) × (c < length p) × (parent p c ≡ q) × (spawn_at p c ≡ i)
  spawned_once_lem = spawner_once p ok.spawns

  module _ (j i : ℕ) (h : j < length p) (b : i < size p j) where
    here : Placed
    here = record { job = j; position = i; spawn = (action p j i).spawn; join = (action p j i).join; cost = (action p j i).cost }

    rules_here : T (both (join_fits p here) (both (few_enter p here) (last_sends p here)))
    unfolding join_rules here
    rules_here =
        rw (placed_at p j i h b) at
        (all_at (λ a. both (join_fits p a) (both (few_enter p a) (last_sends p a))) (placed p) ok.joins no_placed (start p j + i)
        (omega (arith, placed_length p, place_below p j i h b)))

    join_here : (t : ℕ) → (action p j i).join ≡ suc t
        → (1 ≤ j) × (t < size p (parent p j)) × (spawn_at p j < t) × ((action p (parent p j) (t - 1)).spawn ≡ 0)
    unfolding here
    join_here t e = join_fits_lem p here t (both_left (join_fits p here) _ rules_here) e

    few_here : entering p j i ≤ 8
    unfolding here
    few_here = leb→le (entering p j i) 8 (both_left (few_enter p here) _ (both_right (join_fits p here) _ rules_here))

    last_here : 1 ≤ j → size p j ≤ suc i → 1 ≤ (action p j i).join
    unfolding here
    last_here = last_fits p here (both_right (few_enter p here) _ (both_right (join_fits p here) _ rules_here))

  pub join_target : (j i t : ℕ) → j < length p → i < size p j → (action p j i).join ≡ suc t
      → (1 ≤ j) × (t < size p (parent p j)) × (spawn_at p j < t) × ((action p (parent p j) (t - 1)).spawn ≡ 0)
  join_target j i t h b e = join_here j i h b t e

  pub few_enter_lem : (q t : ℕ) → q < length p → t < size p q → entering p q t ≤ 8
  few_enter_lem = few_here

  pub last_sends_lem : (j : ℕ) → 1 ≤ j → j < length p → 1 ≤ (action p j (size p j - 1)).join
  last_sends_lem j g h =
      let z = size_range j h in last_here j (size p j - 1) h (omega (arith, z)) g (omega arith)

  pub small_numbers : (j i : ℕ) → j < length p → i < size p j → ((action p j i).spawn ≤ 256) × ((action p j i).join ≤ 256)
  small_numbers j i h b = (spawns (action p j i).spawn refl, joins (action p j i).join refl)
    where
      spawns : (n : ℕ) → (action p j i).spawn ≡ n → (action p j i).spawn ≤ 256
      spawns zero e = omega arith
      spawns (suc c) e = omega (arith, jobs_range, spawned_once_lem j i c h b e)

      joins : (n : ℕ) → (action p j i).join ≡ n → (action p j i).join ≤ 256
      joins zero e = omega arith
      joins (suc t) e =
          let g = join_target j i t h b e in
          let q : parent p j < length p = omega (arith, older j g.0 h) in
          omega (arith, size_range (parent p j) q)
