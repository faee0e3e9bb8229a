-- The lines of senders: an action stands in the line of the one that its join enters, and only so.
--   line_none, line_some == the line of an action by what the array tells of it
--   action_room  == the place of an action, and its job, are in range
--   line_small   == the line of an action that sends a join is at most 2,048
--   enters_line  == whose join enters an action stands in its line
--   line_enters  == the join of one that stands in an action's line enters it
use Prim.Native.Nat.{ℕ, zero, suc, ◌+◌, ◌-◌, ◌%◌, ◌≤◌, ◌<◌}
use mathlib.Core.Path.{◌≡◌, refl, ap, sym, ◌∙◌}
use mathlib.Core.Logic.{◌≢◌}
use native.Mathlib.Omega.{arith}
use lib.Dec.{T}
use lib.ListN.{length, get_or}
use Rattle.plan.specs.declared.sheet.Sheet.{Sheet}
use Rattle.plan.specs.Plan.{Plan, Placed, total, placed, no_placed, parent, enters}
use Rattle.plan.specs.Sheet.{job_at, target_at, first_of, parent_of, Planned}
use Rattle.plan.proofs.Laws.Placed.{start, placed_at, placed_of, Stands, place_below}
use Rattle.plan.proofs.Laws.Valid.{jobs_range, total_range, older, join_target}
use Rattle.plan.proofs.Laws.Enters.{enters_by, enters_is}
use Rattle.checker.specs.Senders.{line_of}

-- the line of an action by what the array tells of it
module _ (plan : Sheet) (k n : ℕ) (sent : n ≡ target_at plan k) where
  pub line_none : n ≡ 0 → 2048 ≡ line_of plan k
  line_none z = rw (sym sent ∙ z)

  pub line_some : n ≢ 0 → (j q first : ℕ) → j ≡ job_at plan k → q ≡ parent_of plan j → first ≡ first_of plan (q % 256)
      → first + (n - 1) ≡ line_of plan k
  line_some some j q first e f g =
      let m : target_at plan k ≡ suc (n - 1) = omega arith in
      rw (m, ← e, ← f, ← g)

module _ (plan : Sheet) (p : Plan) (g : Planned plan p) where
  -- the place of a parent's first action
  parent_first : (c : ℕ) → 1 ≤ c → c < length p → first_of plan (parent_of plan c % 256) ≡ start p (parent p c)
  parent_first c o h =
      let l = older p g.rules c o h in
      let e : parent_of plan c % 256 ≡ parent p c = omega (arith, g.spawned.parents c o h, jobs_range p g.rules) in
      ap (first_of plan) e ∙ g.laid.firsts (parent p c) (omega arith)

  module _ (x : ℕ) (h : x < total p) where
    abbrev a : Placed
    a = get_or (placed p) x no_placed

    st : Stands p x a
    st = placed_of p x h

    pub action_room : (x < 2048) × (job_at plan x < 256)
    action_room = omega (arith, total_range p g.rules, jobs_range p g.rules, g.laid.owners x h, st.known)

    -- a join that is sent
    module _ (t : ℕ) (e : a.join ≡ suc t) where
      target : (1 ≤ a.job) × (start p (parent p a.job) + t < total p)
      target =
          let (o, b, u, v) = join_target p g.rules a.job a.position t st.known st.within (sym st.join ∙ e) in
          (o, place_below p (parent p a.job) t (omega (arith, older p g.rules a.job o st.known, st.known)) b)

      line_is : line_of plan x ≡ start p (parent p a.job) + t
      line_is =
          rw (g.laid.targets x h ∙ e, g.laid.owners x h) (ap (λ n. n + t) (parent_first a.job target.0 st.known))

    pub line_small : target_at plan x ≢ 0 → line_of plan x ≤ 2048
    line_small some = go a.join refl
      where
        go : (n : ℕ) → a.join ≡ n → line_of plan x ≤ 2048
        go zero e = absurd (some (g.laid.targets x h ∙ e))
        go (suc t) e = omega (arith, line_is t e, (target t e).1, total_range p g.rules)

    -- the action at place k
    module _ (k : ℕ) (l : k < total p) where
      abbrev b : Placed
      b = get_or (placed p) k no_placed

      pub enters_line : T (enters p b.job b.position a) → line_of plan x ≡ k
      enters_line s =
          let (o, e, i) = enters_is p b.job b.position a s in
          line_is b.position i ∙ ap (λ n. start p n + b.position) e ∙ sym (placed_of p k l).place

      pub line_enters : line_of plan x ≡ k → T (enters p b.job b.position a)
      line_enters s = go a.join refl
        where
          go : (n : ℕ) → a.join ≡ n → T (enters p b.job b.position a)
          go zero e =
              let m : line_of plan x ≡ 2048 = rw (g.laid.targets x h ∙ e) in
              let z : ⊥ = omega (arith, total_range p g.rules) in absurd z
          go (suc t) e =
              let (o, u, v, w) = join_target p g.rules a.job a.position t st.known st.within (sym st.join ∙ e) in
              let m : get_or (placed p) k no_placed ≡ _
              = ap (λ n. get_or (placed p) n no_placed) (sym s ∙ line_is t e)
              ∙ placed_at p (parent p a.job) t (omega (arith, older p g.rules a.job o st.known, st.known)) u in
              enters_by p b.job b.position a o (sym (ap (λ y. y.job) m)) (e ∙ ap suc (sym (ap (λ y. y.position) m)))
