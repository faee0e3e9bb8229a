-- A run goes on until its root has ended, and then every job has.
--   ends         == the last action of a job that has a parent sends a join, to a later action of the parent than the spawn
--   parent_lives == the parent of a living job lives
--   root_lives   == the root lives as long as any job
--   all_done     == when the root has ended, every action is done
use mathlib.Core.Path.{◌≡◌, sym}
use mathlib.Core.Logic.{⊎_elim}
use Prim.Native.Nat.{ℕ, suc, pred, ◌-◌, ◌≤◌, ◌<◌}
use native.Mathlib.Nat.{eq-zero-or-pos, suc-pred-eq_of_ne-zero, lt_of_not-le, le_antisymm, le_of_suc-le-suc}
use native.Mathlib.Omega.{arith}
use Rattle.lines.proofs.Laws.Bounded.{strong}
use Rattle.lines.proofs.Laws.Shape.{Shape, Valid, Living, Closed}

module _ (P : Shape) (ok : Valid P) where
  open P use {jobs, len, parent, spawn_at, join}

  -- the last action of a job joins with its parent
  pub ends : (j : ℕ) → 1 ≤ j → j < jobs
      → (t : ℕ) × (join j (len j - 1) ≡ suc t) × (len j - 1 < len j) × (t < len (parent j)) × (spawn_at j < t)
  ends j o b =
      let e = sym (suc-pred-eq_of_ne-zero (ok.last j o b)) in
      let l : len j - 1 < len j = omega (arith, ok.long j b) in
      let v = ok.joins j (len j - 1) (pred (join j (len j - 1))) b l e in
      (pred (join j (len j - 1)), e, l, v.1, v.2)

  module _ (next : ℕ → ℕ) (closed : Closed P next) where
    pub parent_lives : (x : ℕ) → 1 ≤ x → Living P next x → Living P next (parent x)
    parent_lives x o a =
        let (t, e, l, b, s) = ends x o a.below in
        let q = ok.older x o a.below in
        let h = a.begun o in
        let v = a.left in
        record {
          below = omega (arith, a.below);
          begun = λ i. closed.started (parent x) i (omega (arith, a.below)) (omega arith);
          left = lt_of_not-le (λ (g : len (parent x) ≤ next (parent x)).
              let z = closed.joined x (len x - 1) t a.below l e (omega arith) in omega arith);
        }

    -- the root lives as long as any job
    pub root_lives : (x : ℕ) → Living P next x → Living P next 0
    root_lives = strong (λ x. Living P next x → Living P next 0) (λ x rec a. ⊎_elim (λ e. rw e at a)
        (λ o. rec (parent x) (ok.older x o a.below) (parent_lives x o a)) (eq-zero-or-pos x))

    -- when it has ended, all have
    pub all_done : len 0 ≤ next 0 → (j : ℕ) → j < jobs → next j ≡ len j
    all_done h = strong (λ j. j < jobs → next j ≡ len j) step
      where
        step : (j : ℕ) → ((i : ℕ) → i < j → i < jobs → next i ≡ len i) → j < jobs → next j ≡ len j
        step j rec b = le_antisymm (closed.bound j b) (le_of_suc-le-suc (lt_of_not-le (λ (l : next j < len j).
            let begun : 1 ≤ j → spawn_at j < next (parent j) =
            λ o. let q = ok.older j o b in omega (arith, ends j o b, rec (parent j) q (omega arith)) in
            let z = (root_lives j (record { below = b; begun = begun; left = l })).left in
            omega arith)))
