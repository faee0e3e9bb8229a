-- When actions are done: each by its cost after all that it must follow, and by no more after the last of it.
use Prim.Native.Nat.{ℕ, zero, suc, ◌+◌, ◌-◌, ◌≤◌, ◌<◌}
use mathlib.Core.Path.{◌≡◌, refl, ap, sym, ◌∙◌}
use mathlib.Core.Bool.{Bool, true, false}
use native.Mathlib.Omega.{arith}
use native.Mathlib.Nat.{not-suc-le-zero, le_antisymm}
use native.Mathlib.Decide.{dec_le}
use lib.Dec.{eqb-suc-zero}
use lib.ListN.{length}
use Rattle.plan.specs.Plan.{Plan, Placed, size, action, total, placed, parent, spawn_at}
use Rattle.plan_measure.specs.Measure.{after, longest}
use Rattle.plan.specs.Test.{largest}
use Rattle.plan_measure.specs.Times.{ends, begins}
use Rattle.plan_measure.proofs.Laws.Largest.{largest_above, largest_within}
use Rattle.plan.specs.Rules.{Accepted}
use Rattle.plan.proofs.Laws.Valid.{older, spawned_there, spawned_once_lem, join_target, last_sends_lem, size_range, jobs_range, total_range}
use Rattle.plan_measure.proofs.Laws.Follows.{act, act_member, Acts, member_acts, Follows, next, born, joined, follows_of, of_follows}
use Rattle.plan_measure.proofs.Laws.Chains.{before_within, after_times, after_small, timing_rises}

module _ (p : Plan) (ok : Accepted p) where
  abbrev Here : ℕ → ℕ → Type 0
  Here j i = (j < length p) × (i < size p j)

  rises : (j i q k : ℕ) → Here j i → Here q k → Follows p (act p j i) (act p q k) → ends p q k + (action p j i).cost ≤ ends p j i
  unfolding ends
  rises j i q k h b f =
      timing_rises p ok (after p (total p)) (after_times p ok) (act p j i) (act p q k) (act_member p j i h.0 h.1) (act_member p q k b.0 b.1)
      (of_follows p (act p j i) (act p q k) f)

  -- no time is above 15 for each action
  pub ends_small : (j i : ℕ) → j < length p → i < size p j → ends p j i ≤ 30720
  unfolding ends
  ends_small j i h b =
      omega (arith, after_small p ok (total p) (act p j i) (act_member p j i h b), total_range p ok)

  pub begins_spawn : (c : ℕ) → 1 ≤ c → begins p c ≡ ends p (parent p c) (spawn_at p c)
  unfolding begins
  begins_spawn zero h = absurd (not-suc-le-zero h)
  begins_spawn (suc c) h =
      ap (λ (b : Bool). elim b [ true ↦ 0 | false ↦ ends p (parent p (suc c)) (spawn_at p (suc c)) ]) (eqb-suc-zero c)

  -- the actions of a job are done one after the other, the first after the job's spawn
  pub ends_next : (j i : ℕ) → j < length p → suc i < size p j → ends p j i + (action p j (suc i)).cost ≤ ends p j (suc i)
  ends_next j i h b = rises j (suc i) j i (h, b) (h, omega arith) (next refl refl)

  pub begins_first : (j : ℕ) → j < length p → begins p j + (action p j 0).cost ≤ ends p j 0
  unfolding begins ends
  begins_first zero h =
      omega (arith, after_times p ok (act p 0 0) (act_member p 0 0 h (size_range p ok 0 h).0))
  begins_first (suc c) h =
      let o = older p ok (suc c) (omega arith) h in
      let (w, s) = spawned_there p ok (suc c) (omega arith) h in
      omega (
        arith,
        begins_spawn (suc c) (omega arith),
        rises (suc c) 0 (parent p (suc c)) (spawn_at p (suc c)) (h, (size_range p ok (suc c) h).0) (omega arith, w) (born (omega arith) refl s),
      )

  pub ends_rise : (j i k : ℕ) → j < length p → i ≤ k → k < size p j → ends p j i ≤ ends p j k
  ends_rise j i zero h b l = let e : i ≡ 0 = omega arith in omega (arith, ap (ends p j) e)
  ends_rise j i (suc k) h b l = go (dec_le i k) (λ a. ends_rise j i k h a (omega arith))
    where
      go : Dec (i ≤ k) → (i ≤ k → ends p j i ≤ ends p j k) → ends p j i ≤ ends p j (suc k)
      go (yes a) r = omega (arith, r a, ends_next j k h l)
      go (no a) r = let e : i ≡ suc k = omega arith in omega (arith, ap (ends p j) e)

  pub begins_before : (j i : ℕ) → j < length p → i < size p j → begins p j + (action p j i).cost ≤ ends p j i
  begins_before j zero h b = begins_first j h
  begins_before j (suc i) h b =
      omega (arith, begins_first j h, ends_rise j 0 i h (omega arith) (omega arith), ends_next j i h b)

  -- an action is done its cost after each that sends a join into it
  pub ends_sent : (c a t : ℕ) → c < length p → a < size p c → (action p c a).join ≡ suc t
      → ends p c a + (action p (parent p c) t).cost ≤ ends p (parent p c) t
  ends_sent c a t h b e =
      let (l, w, s, n) = join_target p ok c a t h b e in
      let o = older p ok c l h in
      rises (parent p c) t c a (omega arith, w) (h, b) (joined l refl e)

  -- and just its cost after the last of what it must follow
  pub ends_within : (j i n : ℕ) → j < length p → i < size p j → begins p j ≤ n
      → ((k : ℕ) → i ≡ suc k → ends p j k ≤ n)
      → ((c a : ℕ) → 1 ≤ c → c < length p → parent p c ≡ j → a < size p c → (action p c a).join ≡ suc i → ends p c a ≤ n)
      → ends p j i ≤ (action p j i).cost + n
  unfolding ends
  ends_within j i n h b first before sent =
      omega (
        arith,
        after_times p ok (act p j i) (act_member p j i h b),
        before_within p (after p (total p)) (act p j i) n (λ y m t. by y (member_acts p y m) (follows_of p (act p j i) y t)),
      )
    where
      of : (y : Placed) → Acts p y → ends p y.job y.position ≤ n → after p (total p) y ≤ n
      of y s l = omega (arith, ap (after p (total p)) s.is)

      by : (y : Placed) → Acts p y → Follows p (act p j i) y → after p (total p) y ≤ n
      by y s (next q e) = of y s (rw q (before y.position (sym e)))
      by y s (born l z e) =
          let (a, d, q, k) = spawned_once_lem p ok y.job y.position j s.known s.within (sym (ap (λ z. z.spawn) s.is) ∙ e) in
          of y s (rw (← q, ← k) (rw (begins_spawn j l) at first))
      by y s (joined l q e) = of y s (sent y.job y.position l s.known q s.within (sym (ap (λ z. z.join) s.is) ∙ e))

  -- the root's last action is the last to be done
  ends_below : (n j i : ℕ) → j < n → j < length p → i < size p j → ends p j i ≤ ends p 0 (size p 0 - 1)
  ends_below zero j i l h b = absurd (not-suc-le-zero l)
  ends_below (suc n) zero i l h b = ends_rise 0 i (size p 0 - 1) h (omega arith) (omega arith)
  ends_below (suc n) (suc c) i l h b = go (action p (suc c) (size p (suc c) - 1)).join refl (ends_below n)
    where
      go : (v : ℕ) → (action p (suc c) (size p (suc c) - 1)).join ≡ v
          → ((j i : ℕ) → j < n → j < length p → i < size p j → ends p j i ≤ ends p 0 (size p 0 - 1)) → ends p (suc c) i ≤ ends p 0 (size p 0 - 1)
      go zero e r = absurd (omega (arith, last_sends_lem p ok (suc c) (omega arith) h))
      go (suc t) e r =
          let o = older p ok (suc c) (omega arith) h in
          let (a, w, s, k) = join_target p ok (suc c) (size p (suc c) - 1) t h (omega arith) e in
          omega (
            arith,
            ends_rise (suc c) i (size p (suc c) - 1) h (omega arith) (omega arith),
            ends_sent (suc c) (size p (suc c) - 1) t h (omega arith) e,
            r (parent p (suc c)) t (omega arith) (omega arith) w,
          )

  pub longest_ends : longest p ≡ ends p 0 (size p 0 - 1)
  unfolding ends longest
  longest_ends =
      let (h, k) = jobs_range p ok in
      let (s, r) = size_range p ok 0 h in
      let above : ends p 0 (size p 0 - 1) ≤ largest (after p (total p)) (placed p)
      = largest_above (after p (total p)) (placed p) (act p 0 (size p 0 - 1)) (act_member p 0 (size p 0 - 1) h (omega arith)) in
      let within : largest (after p (total p)) (placed p) ≤ ends p 0 (size p 0 - 1)
      = largest_within (after p (total p)) (placed p) (ends p 0 (size p 0 - 1)) (λ x m.
      of x (member_acts p x m)) in
      le_antisymm within above
    where
      of : (x : Placed) → Acts p x → after p (total p) x ≤ ends p 0 (size p 0 - 1)
      of x s = omega (arith, ap (after p (total p)) s.is, ends_below (suc x.job) x.job x.position (omega arith) s.known s.within)
