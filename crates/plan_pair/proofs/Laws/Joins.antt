-- The pair of two plans keeps the join rules.
--   root_sends == the one join of an old root
--   sends_in   == what a join of a job of the one plan is
--   enters_in  == no more joins enter an action of the one plan than before
--   enters_top == at most one from each old root enters an action of the new root
--   pair_joins == the join rules
use Prim.Native.Nat.{ℕ, zero, suc, ◌+◌, ◌-◌, ◌≤◌, ◌<◌}
use mathlib.Core.Path.{◌≡◌, refl, ap, sym, ◌∙◌}
use native.Mathlib.Omega.{arith}
use native.Mathlib.Nat.{not-suc-le-zero}
use native.Mathlib.Decide.{dec_lt}
use lib.Dec.{T}
use lib.ListN.{length}
use Rattle.plan.specs.Test.{count}
use Rattle.plan.specs.Plan.{Plan, Placed, job, size, action, placed_from, parent, spawn_at, enters, entering}
use Rattle.plan.specs.Rules.{join_rules, Accepted}
use Rattle.plan.proofs.Laws.Enters.{enters_by, enters_is}
use Rattle.plan.proofs.Laws.Ruling.{joining_by}
use Rattle.plan.proofs.Laws.Valid.{jobs_range, size_range, older, join_target, few_enter_lem, last_sends_lem}
use Rattle.plan_pair.specs.Pair.{under}
use Rattle.plan_pair.proofs.Laws.Under.{under_length, under_size, under_join, under_other, under_last, under_total, under_start}
use Rattle.plan_pair.proofs.Laws.Pairing.{part_size, part_action, part_none, part_join, root_last, Whose, top, mine, theirs, Pairing, swapped}
use Rattle.plan_pair.proofs.Laws.Counting.{from, row_zero, from_zero, from_once, from_within}
use Rattle.plan_pair.proofs.Laws.Spawns.{root_parent, part_parent}
use Rattle.plan_measure.proofs.Laws.Follows.{act}

module _ (d : ℕ) (p : Plan) (ok : Accepted p) where
  pub root_sends : (i t : ℕ) → i < size p 0 → (action (under d p) 0 i).join ≡ suc t → (suc i ≡ size p 0) × (t ≡ 4)
  root_sends i t b e = go (dec_lt (suc i) (size p 0))
    where
      go : Dec (suc i < size p 0) → (suc i ≡ size p 0) × (t ≡ 4)
      go (yes l) =
          absurd (not-suc-le-zero (join_target p ok 0 i t (jobs_range p ok).0 b (sym (under_other d p i l) ∙ e)).0)
      go (no n) =
          let f : suc i ≡ size p 0 = omega arith in
          (f, omega (arith, under_last d p i f))

module _ {d e s u : ℕ} {p q r : Plan} (t : Pairing d e s u p q r) (ok : Accepted p) (ok' : Accepted q) where
  abbrev Sends : ℕ → ℕ → Type 0
  Sends j n = (1 ≤ j) × (n < size r (parent r j)) × (spawn_at r j < n) × ((action r (parent r j) (n - 1)).spawn ≡ 0)

  sends_in : (k i n : ℕ) → k < length p → i < size p k → (action r (d + k) i).join ≡ suc n → Sends (d + k) n
  sends_in zero i n h b f =
      let o = root_parent t ok ok' in
      let (l, four) = root_sends d p ok i n b (sym (ap (λ a. a.join) (part_action t.one 0 h i)) ∙ f) in
      rw (o.0, o.1, four) (
        omega (arith, t.one.some),
        omega (arith, t.five),
        omega (arith, t.one.soon),
        t.spawns_none 3 (omega (arith, t.one.soon)) (omega (arith, t.two.soon)),
      )
  sends_in (suc k) i n h b f =
      let o = part_parent t ok ok' (suc k) (omega arith) h in
      let (l, m, after, free) = join_target p ok (suc k) i n h b (sym (part_join t.one (suc k) h i (omega arith)) ∙ f) in
      let w : parent p (suc k) < length p = omega (arith, older p ok (suc k) l h) in
      rw (o.0, o.1) (
        omega (arith, t.one.some),
        omega (arith, part_size t.one (parent p (suc k)) w),
        after,
        part_none t.one (parent p (suc k)) w (n - 1) free,
      )

  -- the last action of each job of the one plan sends
  last_in : (k : ℕ) → k < length p → 1 ≤ (action r (d + k) (size r (d + k) - 1)).join
  last_in zero h =
      let z = size_range p ok 0 h in
      rw (part_size t.one 0 h) (omega (arith, root_last t.one h (size p 0 - 1) (omega arith)))
  last_in (suc k) h =
      rw (part_size t.one (suc k) h)
      (omega (arith, part_join t.one (suc k) h (size p (suc k) - 1) (omega arith), last_sends_lem p ok (suc k) (omega arith) h))

  -- the joins into an action of the one plan: none from the new root, no others than before from the plan, none from the other plan
  enters_in : (k n : ℕ) → k < length p → n < size p k → entering r (d + k) n ≤ 8
  unfolding entering
  enters_in k n h b =
      omega (
        arith,
        t.counts (enters r (d + k) n),
        row_zero (enters r (d + k) n) 0 0 (job r 0).actions none,
        from_within (enters r (d + k) n) d (under d p) (enters p k n) p (under_length d p) (under_size d p) (under_start d p) (under_total d p) same,
        from_zero (enters r (d + k) n) e (under e q) other,
        few_enter_lem p ok k n h b,
      )
    where
      none : (a : Placed) → a.job ≡ 0 → T (enters r (d + k) n a) → ⊥
      none a z x = omega (arith, (enters_is r (d + k) n a x).0)

      same : (j i : ℕ) → j < length p → i < size p j → T (enters r (d + k) n (from d (under d p) j i)) → T (enters p k n (act p j i))
      same zero i l m x = absurd (omega (arith, (enters_is r (d + k) n (from d (under d p) 0 i) x).1, (root_parent t ok ok').0, t.one.some))
      same (suc j) i l m x =
          let y = enters_is r (d + k) n (from d (under d p) (suc j) i) x in
          enters_by p k n (act p (suc j) i) (omega arith) (omega (arith, y.1, (part_parent t ok ok' (suc j) (omega arith) l).0))
          (sym (under_join d p (suc j) i (omega arith)) ∙ y.2)

      other : (j i : ℕ) → j < length (under e q) → i < size (under e q) j → T (enters r (d + k) n (from e (under e q) j i)) → ⊥
      other zero i l m x = omega (arith, (enters_is r (d + k) n (from e (under e q) 0 i) x).1, (root_parent (swapped t) ok' ok).0, t.one.some)
      other (suc j) i l m x =
          let g : suc j < length q = omega (arith, under_length e q) in
          t.apart k (parent q (suc j)) h (omega (arith, older q ok' (suc j) (omega arith) g))
          (sym (enters_is r (d + k) n (from e (under e q) (suc j) i) x).1 ∙ (part_parent (swapped t) ok' ok (suc j) (omega arith) g).0)

  -- of the one plan, its root's last action alone sends a join to the new root
  one_enters : (n : ℕ) → count (enters r 0 n) (placed_from d (under d p)) ≤ 1
  one_enters n = from_once (enters r 0 n) d (under d p) 0 (size p 0 - 1) only
    where
      only : (j i : ℕ) → j < length (under d p) → i < size (under d p) j → T (enters r 0 n (from d (under d p) j i))
          → (j ≡ 0) × (i ≡ size p 0 - 1)
      only zero i l m x =
          let z = root_sends d p ok i n (rw (under_size d p 0) at m) (enters_is r 0 n (from d (under d p) 0 i) x).2 in
          (refl, omega (arith, z))
      only (suc j) i l m x =
          absurd (omega (
            arith,
            (enters_is r 0 n (from d (under d p) (suc j) i) x).1,
            (part_parent t ok ok' (suc j) (omega arith) (omega (arith, under_length d p))).0,
            t.one.some,
          ))

module _ {d e s u : ℕ} {p q r : Plan} (t : Pairing d e s u p q r) (ok : Accepted p) (ok' : Accepted q) where
  enters_top : (n : ℕ) → entering r 0 n ≤ 8
  unfolding entering
  enters_top n =
      omega (
        arith,
        t.counts (enters r 0 n),
        row_zero (enters r 0 n) 0 0 (job r 0).actions (λ a z x. omega (arith, (enters_is r 0 n a x).0)),
        one_enters t ok ok' n,
        one_enters (swapped t) ok' ok n,
      )

  few : (j n : ℕ) → n < size r j → Whose d e p q j → entering r j n ≤ 8
  few j n b (top x) = rw x (enters_top n)
  few j n b (mine k h x) = rw x (enters_in t ok ok' k n h (rw (x, part_size t.one k h) at b))
  few j n b (theirs k h x) = rw x (enters_in (swapped t) ok' ok k n h (rw (x, part_size t.two k h) at b))

  sends : (j i n : ℕ) → i < size r j → (action r j i).join ≡ suc n → Whose d e p q j → Sends t ok ok' j n
  sends j i n b f (top x) = absurd (omega (arith, rw x at f, t.sends_none i))
  sends j i n b f (mine k h x) = rw x (sends_in t ok ok' k i n h (rw (x, part_size t.one k h) at b) (rw x at f))
  sends j i n b f (theirs k h x) = rw x (sends_in (swapped t) ok' ok k i n h (rw (x, part_size t.two k h) at b) (rw x at f))

  last : (j : ℕ) → 1 ≤ j → Whose d e p q j → 1 ≤ (action r j (size r j - 1)).join
  last j o (top x) = absurd (omega arith)
  last j o (mine k h x) = rw x (last_in t ok ok' k h)
  last j o (theirs k h x) = rw x (last_in (swapped t) ok' ok k h)

  pub pair_joins : T (join_rules r)
  pair_joins =
      joining_by r (λ j i n h b f. sends j i n b f (t.whose j h)) (λ j n h b. few j n b (t.whose j h)) (λ j o h. last j o (t.whose j h))
