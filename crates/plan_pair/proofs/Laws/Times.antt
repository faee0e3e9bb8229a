-- T∞ of the pair of two plans. An action of either is done as long after its root's spawn as it was after the start, so the whole
-- comes down to the new root's five actions.
--   top_ends   == the first four of these are done one after the other
--   part_ends  == an action of the one plan is done when it was, and the time of its root's spawn later
--   pair_chain == T∞
use Prim.Native.Nat.{ℕ, zero, suc, ◌+◌, ◌-◌, ◌≤◌, ◌<◌, max}
use mathlib.Core.Path.{◌≡◌, refl, ap, sym, ◌∙◌}
use mathlib.Core.Logic.{◌⊎◌, inl, inr}
use native.Mathlib.Omega.{arith}
use native.Mathlib.Nat.{not-suc-le-zero, le_antisymm}
use lib.ListN.{length}
use Rattle.plan.specs.Plan.{Plan, size, action, parent, spawn_at}
use Rattle.plan.specs.Rules.{Accepted}
use Rattle.plan_measure.specs.Measure.{longest}
use Rattle.plan_measure.specs.Times.{ends, begins}
use Rattle.plan.proofs.Laws.Valid.{jobs_range, size_range, older, spawned_there}
use Rattle.plan_measure.proofs.Laws.Follows.{act, rank, rank_falls, Acts, Follows, next, born, joined}
use Rattle.plan_measure.proofs.Laws.Times.{begins_spawn, ends_next, begins_first, begins_before, ends_sent, ends_within, longest_ends}
use Rattle.plan_pair.proofs.Laws.Pairing.{part_size, part_action, part_cost, part_join, root_last, Pairing, swapped}
use Rattle.plan_pair.proofs.Laws.Spawns.{root_parent, part_parent, part_only, top_only}
use Rattle.plan_pair.proofs.Laws.Joins.{root_sends}

begins_root : (p : Plan) → begins p 0 ≡ 0
unfolding begins
begins_root p = refl

module _ {d e s u : ℕ} {p q r : Plan} (t : Pairing d e s u p q r) (ok : Accepted p) (ok' : Accepted q) (all : Accepted r) where
  here : (p : Plan) (j i : ℕ) → j < length p → i < size p j → Acts p (act p j i)
  here p j i h b = record { known = h; within = b; is = refl }

  some : 0 < length r
  some = (jobs_range r all).0

  -- who sends a join to the new root sends it from an old root's last action, to position 4
  sent_by : (c a n : ℕ) → 1 ≤ c → c < length r → parent r c ≡ 0 → a < size r c → (action r c a).join ≡ suc n
      → (n ≡ 4) × (((c ≡ d + 0) × (suc a ≡ size p 0)) ⊎ ((c ≡ e + 0) × (suc a ≡ size q 0)))
  sent_by c a n o h f b g = go (top_only t ok ok' c o h f)
    where
      go : (c ≡ d + 0) ⊎ (c ≡ e + 0) → (n ≡ 4) × (((c ≡ d + 0) × (suc a ≡ size p 0)) ⊎ ((c ≡ e + 0) × (suc a ≡ size q 0)))
      go (inl x) =
          let k = (jobs_range p ok).0 in
          let z = root_sends d p ok a n (rw (x, part_size t.one 0 k) at b) (sym (ap (λ v. v.join) (part_action t.one 0 k a)) ∙ rw x at g) in
          (z.1, inl (x, z.0))
      go (inr x) =
          let k = (jobs_range q ok').0 in
          let z = root_sends e q ok' a n (rw (x, part_size t.two 0 k) at b) (sym (ap (λ v. v.join) (part_action t.two 0 k a)) ∙ rw x at g) in
          (z.1, inr (x, z.0))

  none_sent : (i n : ℕ) → i < 4 → (c a : ℕ) → 1 ≤ c → c < length r → parent r c ≡ 0 → a < size r c → (action r c a).join ≡ suc i
      → ends r c a ≤ n
  none_sent i n h c a o l f b g = absurd (omega (arith, (sent_by c a i o l f b g).0))

  pub top_ends : (i : ℕ) → i < 4 → ends r 0 i ≡ suc i
  top_ends zero h =
      let c = t.costs_one 0 (omega arith) in
      le_antisymm
      (omega (arith, ends_within r all 0 0 0 some (omega (arith, t.five)) (omega (arith, begins_root r)) (λ k x. absurd (omega arith)) (none_sent 0 0 h)))
      (omega (arith, begins_first r all 0 some, begins_root r))
  top_ends (suc i) h =
      let c = t.costs_one (suc i) (omega arith) in
      let before = top_ends i (omega arith) in
      le_antisymm
      (omega (
        arith,
        ends_within r all 0 (suc i) (suc i) some (omega (arith, t.five)) (omega (arith, begins_root r))
            (λ k x. let z : k ≡ i = omega arith in rw z (omega arith)) (none_sent (suc i) (suc i) h),
      ))
      (omega (arith, ends_next r all 0 i some (omega (arith, t.five))))

  -- the old root begins when it is spawned
  root_begins : begins r (d + 0) ≡ suc s
  root_begins =
      let (o, at) = root_parent t ok ok' in
      begins_spawn r all (d + 0) (omega (arith, t.one.some)) ∙ rw (o, at) (top_ends s (omega (arith, t.one.soon)))

  -- all actions of smaller rank are done when they were, and suc s later
  abbrev Done : ℕ → Type 0
  Done n = (k i : ℕ) → k < length p → i < size p k → rank p (act p k i) < n → ends r (d + k) i ≡ suc s + ends p k i

  module _ (n : ℕ) (done : Done n) (k i : ℕ) (h : k < length p) (b : i < size p k) (low : rank p (act p k i) ≤ n) where
    b' : i < size r (d + k)
    b' = rw (part_size t.one k h) b

    h' : d + k < length r
    h' = omega (arith, t.one.room)

    done_by_lem : (j m : ℕ) (l : j < length p) (w : m < size p j) → Follows p (act p k i) (act p j m) → ends r (d + j) m ≡ suc s + ends p j m
    done_by_lem j m l w f =
        done j m l w (omega (arith, rank_falls p ok (act p k i) (act p j m) (here p k i h b) (here p j m l w) f))

    -- the one before it
    before : (m : ℕ) → i ≡ suc m → ends r (d + k) m ≡ suc s + ends p k m
    before m x = done_by_lem k m h (omega arith) (next refl (sym x))

    -- a sender of a join into it
    sender : (c a : ℕ) → c < length p → a < size p c → 1 ≤ c → parent p c ≡ k → (action p c a).join ≡ suc i
        → ends r (d + c) a ≡ suc s + ends p c a
    sender c a l w o f g = done_by_lem c a l w (joined o f g)

    same_cost : (action r (d + k) i).cost ≡ (action p k i).cost
    same_cost = part_cost t.one k h i

    -- the job's spawn, where it is the first action
    starts : i ≡ 0 → begins r (d + k) ≡ suc s + begins p k
    starts x = go k h refl
      where
        go : (j : ℕ) (l : j < length p) → k ≡ j → begins r (d + j) ≡ suc s + begins p j
        go zero l y = omega (arith, root_begins, begins_root p)
        go (suc j) l y =
            let (o, at) = part_parent t ok ok' (suc j) (omega arith) l in
            let older = older p ok (suc j) (omega arith) l in
            let (w, is) = spawned_there p ok (suc j) (omega arith) l in
            let spawn = done_by_lem (parent p (suc j)) (spawn_at p (suc j)) (omega arith) w (born (omega arith) x (is ∙ ap suc (sym y))) in
            begins_spawn r all (d + suc j) (omega arith) ∙ rw (o, at) (spawn ∙ ap (λ n. suc s + n) (sym (begins_spawn p ok (suc j) (omega arith))))

    -- begun no later, and no sooner, than the one plan's
    first_most : begins r (d + k) + (action p k i).cost ≤ suc s + ends p k i
    first_most = go i refl
      where
        go : (m : ℕ) → i ≡ m → begins r (d + k) + (action p k i).cost ≤ suc s + ends p k i
        go zero x = omega (arith, starts x, begins_before p ok k i h b)
        go (suc m) x =
            let e = before m x in
            let f = begins_before r all (d + k) m h' (omega (arith, b')) in
            let g = ends_next p ok k m h (omega arith) in
            rw x (omega arith)

    first_least : suc s + begins p k + (action p k i).cost ≤ ends r (d + k) i
    first_least = go i refl
      where
        go : (m : ℕ) → i ≡ m → suc s + begins p k + (action p k i).cost ≤ ends r (d + k) i
        go zero x = omega (arith, starts x, begins_before r all (d + k) i h' b', same_cost)
        go (suc m) x =
            let e = before m x in
            let f = begins_before p ok k m h (omega arith) in
            let c : (action r (d + k) (suc m)).cost ≡ (action p k (suc m)).cost = part_cost t.one k h (suc m) in
            let g = ends_next r all (d + k) m h' (rw x at b') in
            rw x (omega arith)

    -- so it is done no later, since nothing else that it must follow is
    upper : ends r (d + k) i ≤ suc s + ends p k i
    upper =
        omega (
          arith,
          same_cost,
          first_most,
          ends_within r all (d + k) i (suc s + ends p k i - (action p k i).cost) h' b' (omega (arith, first_most)) earlier sent,
        )
      where
        earlier : (m : ℕ) → i ≡ suc m → ends r (d + k) m ≤ suc s + ends p k i - (action p k i).cost
        earlier m x =
            let e = before m x in
            let g = ends_next p ok k m h (omega arith) in
            rw x (omega arith)

        sent : (c a : ℕ) → 1 ≤ c → c < length r → parent r c ≡ d + k → a < size r c → (action r c a).join ≡ suc i
            → ends r c a ≤ suc s + ends p k i - (action p k i).cost
        sent c a o l f w g =
            let (m, x, z, known, is) = part_only t ok ok' c k o l h f in
            let w' : a < size p m = rw (x, part_size t.one m known) at w in
            let g' : (action p m a).join ≡ suc i = sym (part_join t.one m known a z) ∙ rw x at g in
            let e = sender m a known w' z is g' in
            let y = rw is at (ends_sent p ok m a i known w' g') in
            rw x (omega arith)

    -- and no sooner
    lower : suc s + ends p k i ≤ ends r (d + k) i
    lower =
        omega (
          arith,
          first_least,
          ends_within p ok k i (ends r (d + k) i - suc s - (action p k i).cost) h b (omega (arith, first_least)) earlier sent,
        )
      where
        earlier : (m : ℕ) → i ≡ suc m → ends p k m ≤ ends r (d + k) i - suc s - (action p k i).cost
        earlier m x =
            let e = before m x in
            let c : (action r (d + k) (suc m)).cost ≡ (action p k (suc m)).cost = part_cost t.one k h (suc m) in
            let g = ends_next r all (d + k) m h' (rw x at b') in
            rw x (omega arith)

        sent : (c a : ℕ) → 1 ≤ c → c < length p → parent p c ≡ k → a < size p c → (action p c a).join ≡ suc i
            → ends p c a ≤ ends r (d + k) i - suc s - (action p k i).cost
        sent c a o l f w g =
            let e = sender c a l w o f g in
            let to : parent r (d + c) ≡ d + k = (part_parent t ok ok' c o l).0 ∙ ap (λ n. d + n) f in
            let y = rw to at (ends_sent r all (d + c) a i (omega (arith, t.one.room)) (rw (part_size t.one c l) w) (part_join t.one c l a o ∙ g)) in
            omega (arith, same_cost)

  ends_ranked : (n : ℕ) → Done n
  ends_ranked zero k i h b l = absurd (not-suc-le-zero l)
  ends_ranked (suc n) k i h b l =
      let low : rank p (act p k i) ≤ n = omega arith in
      le_antisymm (upper n (ends_ranked n) k i h b low) (lower n (ends_ranked n) k i h b low)

  pub part_ends : (k i : ℕ) → k < length p → i < size p k → ends r (d + k) i ≡ suc s + ends p k i
  part_ends k i h b = ends_ranked (suc (rank p (act p k i))) k i h b (omega arith)

  -- the old root's last action, and the join that it sends
  root_ends : (a : ℕ) → suc a ≡ size p 0 → ends r (d + 0) a ≡ suc s + longest p
  root_ends a x =
      let h = (jobs_range p ok).0 in
      let z : a ≡ size p 0 - 1 = omega arith in
      part_ends 0 a h (omega arith) ∙ rw z (ap (λ n. suc s + n) (sym (longest_ends p ok)))

  root_joins : suc (suc s) + longest p ≤ ends r 0 4
  root_joins =
      let h = (jobs_range p ok).0 in
      let z = size_range p ok 0 h in
      let a : suc (size p 0 - 1) ≡ size p 0 = omega arith in
      let sent = ends_sent r all (d + 0) (size p 0 - 1) 4 (omega (arith, t.one.room)) (rw (part_size t.one 0 h) (omega arith)) (root_last t.one h (size p 0 - 1) a) in
      omega (arith, rw (root_parent t ok ok').0 at sent, t.costs_one 4 (omega arith), root_ends (size p 0 - 1) a)

module _ {d e s u : ℕ} {p q r : Plan} (t : Pairing d e s u p q r) (ok : Accepted p) (ok' : Accepted q) (all : Accepted r) where
  -- the latest of what the new root's last action must follow
  abbrev latest : ℕ
  latest = max 4 (max (suc s + longest p) (suc u + longest q))

  last_most : ends r 0 4 ≤ 1 + latest
  last_most =
      omega (
        arith,
        t.costs_one 4 (omega arith),
        ends_within r all 0 4 latest (jobs_range r all).0 (omega (arith, t.five)) (omega (arith, begins_root r)) before sent,
      )
    where
      before : (k : ℕ) → 4 ≡ suc k → ends r 0 k ≤ latest
      before k x = let z : k ≡ 3 = omega arith in rw z (omega (arith, top_ends t ok ok' all 3 (omega arith)))

      sent : (c a : ℕ) → 1 ≤ c → c < length r → parent r c ≡ 0 → a < size r c → (action r c a).join ≡ suc 4 → ends r c a ≤ latest
      sent c a o l f b g = by (sent_by t ok ok' all c a 4 o l f b g).1
        where
          by : ((c ≡ d + 0) × (suc a ≡ size p 0)) ⊎ ((c ≡ e + 0) × (suc a ≡ size q 0)) → ends r c a ≤ latest
          by (inl (x, y)) = rw x (omega (arith, root_ends t ok ok' all a y))
          by (inr (x, y)) = rw x (omega (arith, root_ends (swapped t) ok' ok all a y))

  pub pair_chain : 4 ≤ suc u + longest q → longest r ≡ max (suc (suc s) + longest p) (suc (suc u) + longest q)
  pair_chain late =
      let last : size r 0 - 1 ≡ 4 = omega (arith, t.five) in
      let most = last_most in
      let one = root_joins t ok ok' all in
      let two = root_joins (swapped t) ok' ok all in
      let e : longest r ≡ ends r 0 4 = longest_ends r all ∙ rw last in
      e ∙ le_antisymm (omega arith) (omega arith)
