-- Sending one join, and what a part of a row and a child is given.
use Prim.Native.Nat.{ℕ, suc, ◌+◌, ◌-◌, ◌≤◌, ◌<◌, max}
use mathlib.Core.Path.{◌≡◌, ap, sym, ◌∙◌}
use mathlib.Core.Logic.{◌⊎◌, inl, inr}
use native.Mathlib.Omega.{arith}
use native.Mathlib.Decide.{dec_le, ℕ_discrete}
use Rattle.plan.specs.declared.sheet.Sheet.{Sheet}
use Rattle.plan.specs.Sheet.{child_at, target_at, first_of}
use Rattle.plan_measure.specs.Times.{SendGiven, Sent, PassGiven}

abbrev Source : (from end base spawned m : ℕ) (target time late late' : ℕ → ℕ) → Type 0
Source from end base spawned m target time late late' = (late' m ≡ late m)
    ⊎ ((k : ℕ) × (t : ℕ) × (from ≤ k) × (k < end) × (target k ≡ suc t) × (m ≡ base + t) × (late' m ≡ spawned + time k))

module _ (base spawned : ℕ) (target time : ℕ → ℕ) where
  pub target_below : (k sent : ℕ) → SendGiven k (suc k) base spawned target time → sent ≡ target k → (sent ≡ 0 → ⊥) → base + (sent - 1) < 2048
  target_below k sent g is some = g.targets k (sent - 1) (omega arith) (omega arith) (omega arith)

  pub sent_one : (k sent : ℕ) (late late' : ℕ → ℕ) → sent ≡ target k → (sent ≡ 0 → ⊥)
      → late' (base + (sent - 1)) ≡ max (late (base + (sent - 1))) (spawned + time k)
      → ((m : ℕ) → (m ≡ base + (sent - 1) → ⊥) → late' m ≡ late m)
      → Sent k (suc k) base spawned target time late late'
  sent_one k sent late late' is some new same = record {
    kept = λ m. by m (ℕ_discrete m (base + (sent - 1)));
    came = λ n t h b e. let s : n ≡ k = omega arith in
        let g : t ≡ sent - 1 = omega (arith, ap target s) in
        omega (arith, ap time s, ap (λ v. late' (base + v)) g);
    source = λ m. of m (ℕ_discrete m (base + (sent - 1))) (dec_le (spawned + time k) (late (base + (sent - 1))));
  }
    where
      by : (m : ℕ) → Dec (m ≡ base + (sent - 1)) → late m ≤ late' m
      by m (yes e) = omega (arith, ap late e, ap late' e)
      by m (no n) = omega (arith, same m n)

      of : (m : ℕ) → Dec (m ≡ base + (sent - 1)) → Dec (spawned + time k ≤ late (base + (sent - 1))) → Source k (suc k) base spawned m target time late late'
      of m (yes e) (yes a) = inl (omega (arith, ap late e, ap late' e))
      of m (yes e) (no a) = inr (k, sent - 1, omega arith, omega arith, omega arith, e, omega (arith, ap late' e))
      of m (no n) d = inl (same m n)

  -- a part of a row is given what the row is
  pub part_given : (from end k n : ℕ) → from ≤ k → k ≤ n → n ≤ end → SendGiven from end base spawned target time → SendGiven k n base spawned target time
  part_given from end k n h o b g = record {
    order = o;
    fits = omega (arith, g.fits);
    targets = λ m t l u. g.targets m t (omega arith) (omega arith);
    sums = λ m l u. g.sums m (omega arith) (omega arith);
  }

module _ (k base spawned : ℕ) (plan : Sheet) (time : ℕ → ℕ) where
  module _ (child from end : ℕ) (is : child ≡ child_at plan k) (some : child ≡ 0 → ⊥) (start : from ≡ first_of plan (child - 1)) (past : end ≡ first_of plan child) where
    number : child ≡ suc (child - 1)
    number = omega arith

    pub pass_send : PassGiven k base spawned plan time → (child < 257) × SendGiven from end base spawned (target_at plan) time
    pass_send g =
        let (h, s) = g.child (child - 1) (sym is ∙ number) in
        (omega arith, rw (start, past ∙ ap (first_of plan) number) s)
