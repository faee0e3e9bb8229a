-- The pair of two plans keeps the spawn rules, and who spawns each job there.
--   spawned_in   == one action spawns a job of the one plan, and no other does
--   pair_spawns  == the spawn rules
--   root_parent  == the old root's parent is the new root
--   part_parent  == any other job's parent is what it was
--   part_only    == who has a parent in the one plan is a job of that plan, and no root
--   top_only     == who has the new root as its parent is an old root
use Prim.Native.Nat.{ℕ, zero, suc, ◌+◌, ◌≤◌, ◌<◌}
use mathlib.Core.Path.{◌≡◌, refl, ap, sym, ◌∙◌}
use mathlib.Core.Logic.{◌⊎◌, inl, inr}
use native.Mathlib.Omega.{arith}
use native.Mathlib.Nat.{not-suc-le-zero}
use native.Mathlib.Decide.{ℕ_discrete}
use lib.Dec.{T}
use lib.ListN.{length}
use Rattle.plan.specs.Plan.{Plan, size, action, parent, spawn_at}
use Rattle.plan.specs.Rules.{spawn_rules, Accepted}
use Rattle.plan.proofs.Laws.Ruling.{Spawner, spawning_by}
use Rattle.plan.proofs.Laws.Spawning.{spawner_once}
use Rattle.plan.proofs.Laws.Valid.{jobs_range, older, spawned_there, spawned_once_lem}
use Rattle.plan_pair.proofs.Laws.Pairing.{Part, part_size, part_none, part_child, Whose, top, mine, theirs, Pairing, swapped}

-- a child in the one plan is a job of it, under its new number
module _ {d s : ℕ} {p r : Plan} (t : Part d s p r) (ok : Accepted p) where
  child_of : (j i c : ℕ) → j < length p → i < size p j → (action r (d + j) i).spawn ≡ suc c
      → (n : ℕ) × (c ≡ d + n) × (1 ≤ n) × (n < length p) × (parent p n ≡ j) × (spawn_at p n ≡ i)
  child_of j i c h b e = go (action p j i).spawn refl
    where
      go : (v : ℕ) → (action p j i).spawn ≡ v
          → (n : ℕ) × (c ≡ d + n) × (1 ≤ n) × (n < length p) × (parent p n ≡ j) × (spawn_at p n ≡ i)
      go zero f = absurd (omega (arith, part_none t j h i f))
      go (suc n) f =
          let o = spawned_once_lem p ok j i n h b f in
          (n, omega (arith, part_child t j h i n f), o.0, o.1, o.2, o.3)

module _ {d e s u : ℕ} {p q r : Plan} (t : Pairing d e s u p q r) (ok : Accepted p) (ok' : Accepted q) where
  -- what the new root spawns at a position
  top_spawns : (i c : ℕ) → (action r 0 i).spawn ≡ suc c → ((i ≡ s) × (c ≡ d)) ⊎ ((i ≡ u) × (c ≡ e))
  top_spawns i c f = go (ℕ_discrete i s) (ℕ_discrete i u)
    where
      go : Dec (i ≡ s) → Dec (i ≡ u) → ((i ≡ s) × (c ≡ d)) ⊎ ((i ≡ u) × (c ≡ e))
      go (yes x) y = inl (x, omega (arith, ap (λ n. (action r 0 n).spawn) x, t.one.born))
      go (no x) (yes y) = inr (y, omega (arith, ap (λ n. (action r 0 n).spawn) y, t.two.born))
      go (no x) (no y) = absurd (omega (arith, t.spawns_none i x y))

  -- whose action spawns job d + k, of which the spawner is at job w and position v
  module _ (k w v : ℕ) (h : k < length p)
      (from-top : (i : ℕ) → i ≡ s → d + k ≡ d → (0 ≡ w) × (i ≡ v))
      (from-mine : (j i : ℕ) → j < length p → parent p k ≡ j → spawn_at p k ≡ i → 1 ≤ k → (d + j ≡ w) × (i ≡ v)) where
    only_by : (j i : ℕ) → j < length r → i < size r j → (action r j i).spawn ≡ suc (d + k) → (j ≡ w) × (i ≡ v)
    only_by j i a b f = go (t.whose j a)
      where
        go : Whose d e p q j → (j ≡ w) × (i ≡ v)
        go (top x) = by (top_spawns i (d + k) (rw x at f))
          where
            by : ((i ≡ s) × (d + k ≡ d)) ⊎ ((i ≡ u) × (d + k ≡ e)) → (j ≡ w) × (i ≡ v)
            by (inl (y, z)) = rw x (from-top i y z)
            by (inr (y, z)) = absurd (t.apart k 0 h (jobs_range q ok').0 (omega arith))
        go (mine n l x) =
            let m : i < size p n = rw (x, part_size t.one n l) at b in
            let (c, g, o, c-known, is, at) = child_of t.one ok n i (d + k) l m (rw x at f) in
            let same : c ≡ k = omega arith in
            rw x (from-mine n i l (rw same at is) (rw same at at) (omega arith))
        go (theirs n l x) =
            let m : i < size q n = rw (x, part_size t.two n l) at b in
            let (c, g, o, c-known, is, at) = child_of t.two ok' n i (d + k) l m (rw x at f) in
            absurd (t.apart k c h c-known g)

  spawned_in : (k : ℕ) → k < length p → Spawner r (d + k)
  spawned_in zero h = record {
    job = 0;
    position = s;
    known = omega (arith, t.one.room);
    within = omega (arith, t.five, t.one.soon);
    spawns = t.one.born ∙ omega arith;
    only = only_by 0 0 s h (λ i x z. (refl, x)) (λ j i l x y o. absurd (not-suc-le-zero o));
  }
  spawned_in (suc k) h =
      let o = older p ok (suc k) (omega arith) h in
      let there = spawned_there p ok (suc k) (omega arith) h in
      let l : parent p (suc k) < length p = omega arith in
      record {
        job = d + parent p (suc k);
        position = spawn_at p (suc k);
        known = omega (arith, t.one.room);
        within = rw (part_size t.one (parent p (suc k)) l) there.0;
        spawns = part_child t.one (parent p (suc k)) l (spawn_at p (suc k)) (suc k) there.1;
        only = only_by (suc k) (d + parent p (suc k)) (spawn_at p (suc k)) h (λ i x z. absurd (omega arith)) (λ j i l x y o. (rw x, sym y));
      }

  -- a job of the one plan spawns a later one
  fits_in : (k i c : ℕ) → k < length p → i < size p k → (action r (d + k) i).spawn ≡ suc c → (1 ≤ c) × (c < length r) × (d + k < c)
  fits_in k i c h b f =
      let (n, g, o, known, is, at) = child_of t.one ok k i c h b f in
      omega (arith, older p ok n o known, t.one.room, t.one.some)

module _ {d e s u : ℕ} {p q r : Plan} (t : Pairing d e s u p q r) (ok : Accepted p) (ok' : Accepted q) where
  fits : (j i c : ℕ) → j < length r → i < size r j → (action r j i).spawn ≡ suc c → (1 ≤ c) × (c < length r) × (j < c)
  fits j i c h b f = go (t.whose j h)
    where
      go : Whose d e p q j → (1 ≤ c) × (c < length r) × (j < c)
      go (top x) = by (top_spawns t ok ok' i c (rw x at f))
        where
          by : ((i ≡ s) × (c ≡ d)) ⊎ ((i ≡ u) × (c ≡ e)) → (1 ≤ c) × (c < length r) × (j < c)
          by (inl (y, z)) = omega (arith, t.one.some, t.one.room, jobs_range p ok)
          by (inr (y, z)) = omega (arith, t.two.some, t.two.room, jobs_range q ok')
      go (mine k l x) =
          let m : i < size p k = rw (x, part_size t.one k l) at b in
          rw x (fits_in t ok ok' k i c l m (rw x at f))
      go (theirs k l x) =
          let m : i < size q k = rw (x, part_size t.two k l) at b in
          rw x (fits_in (swapped t) ok' ok k i c l m (rw x at f))

  pub pair_spawns : T (spawn_rules r)
  pair_spawns = spawning_by r fits (λ c o h. by c o (t.whose c h))
    where
      by : (c : ℕ) → 1 ≤ c → Whose d e p q c → Spawner r c
      by c o (top x) = absurd (omega arith)
      by c o (mine k h x) = rw x (spawned_in t ok ok' k h)
      by c o (theirs k h x) = rw x (spawned_in (swapped t) ok' ok k h)

  parent_of : (c : ℕ) (w : Spawner r c) → (parent r c ≡ w.job) × (spawn_at r c ≡ w.position)
  parent_of c w =
      let o = spawner_once r pair_spawns w.job w.position c w.known w.within w.spawns in
      (o.2, o.3)

  pub root_parent : (parent r (d + 0) ≡ 0) × (spawn_at r (d + 0) ≡ s)
  unfolding spawned_in
  root_parent = parent_of (d + 0) (spawned_in t ok ok' 0 (jobs_range p ok).0)

  pub part_parent : (c : ℕ) → 1 ≤ c → c < length p → (parent r (d + c) ≡ d + parent p c) × (spawn_at r (d + c) ≡ spawn_at p c)
  unfolding spawned_in
  part_parent zero o h = absurd (not-suc-le-zero o)
  part_parent (suc c) o h = parent_of (d + suc c) (spawned_in t ok ok' (suc c) h)

-- whose child a job is
data Kin (d e : ℕ) (p q r : Plan) (c : ℕ) : Type 0 where
  root_one : c ≡ d + 0 → parent r c ≡ 0 → Kin d e p q r c
  root_two : c ≡ e + 0 → parent r c ≡ 0 → Kin d e p q r c
  in_one : (n : ℕ) → 1 ≤ n → n < length p → c ≡ d + n → parent r c ≡ d + parent p n → Kin d e p q r c
  in_two : (n : ℕ) → 1 ≤ n → n < length q → c ≡ e + n → parent r c ≡ e + parent q n → Kin d e p q r c

module _ {d e s u : ℕ} {p q r : Plan} (t : Pairing d e s u p q r) (ok : Accepted p) (ok' : Accepted q) where
  kin_of : (c : ℕ) → 1 ≤ c → c < length r → Kin d e p q r c
  kin_of c o h = go (t.whose c h)
    where
      go : Whose d e p q c → Kin d e p q r c
      go (top x) = absurd (omega arith)
      go (mine zero l x) = root_one x (ap (parent r) x ∙ (root_parent t ok ok').0)
      go (mine (suc n) l x) = in_one (suc n) (omega arith) l x (ap (parent r) x ∙ (part_parent t ok ok' (suc n) (omega arith) l).0)
      go (theirs zero l x) = root_two x (ap (parent r) x ∙ (root_parent (swapped t) ok' ok).0)
      go (theirs (suc n) l x) =
          in_two (suc n) (omega arith) l x (ap (parent r) x ∙ (part_parent (swapped t) ok' ok (suc n) (omega arith) l).0)

  pub part_only : (c k : ℕ) → 1 ≤ c → c < length r → k < length p → parent r c ≡ d + k
      → (n : ℕ) × (c ≡ d + n) × (1 ≤ n) × (n < length p) × (parent p n ≡ k)
  part_only c k o h b f = go (kin_of c o h)
    where
      go : Kin d e p q r c → (n : ℕ) × (c ≡ d + n) × (1 ≤ n) × (n < length p) × (parent p n ≡ k)
      go (root_one x y) = absurd (omega (arith, t.one.some))
      go (root_two x y) = absurd (omega (arith, t.one.some))
      go (in_one n z l x y) = (n, x, z, l, omega arith)
      go (in_two n z l x y) = absurd (t.apart k (parent q n) b (omega (arith, older q ok' n z l)) (sym f ∙ y))

  pub top_only : (c : ℕ) → 1 ≤ c → c < length r → parent r c ≡ 0 → (c ≡ d + 0) ⊎ (c ≡ e + 0)
  top_only c o h f = go (kin_of c o h)
    where
      go : Kin d e p q r c → (c ≡ d + 0) ⊎ (c ≡ e + 0)
      go (root_one x y) = inl x
      go (root_two x y) = inr x
      go (in_one n z l x y) = absurd (omega (arith, t.one.some))
      go (in_two n z l x y) = absurd (omega (arith, t.two.some))
