-- Rows in buckets by the blocks of their last rounds: each row that meets another ends in one of the blocks from that of the other's first
-- round on, to that of the last round in which a row that meets it can end.
--   clear_first, clear_next == so it is before any block, and behind a block whose bucket was looked through
--   clear_all    == behind the lowest block no row is left that meets the one at hand
--   meet_of, of_meet == the span of a row by what was read of it
use Prim.Native.Nat.{ℕ, suc, ◌+◌, ◌-◌, ◌*◌, ◌/◌, ◌≤◌, ◌<◌}
use mathlib.Core.Path.{◌≡◌, ap, ap₂, sym, ◌∙◌}
use mathlib.Core.Logic.{by_cases}
use mathlib.Core.List.{List}
use native.Mathlib.Omega.{arith}
use native.Mathlib.Decide.{ℕ_discrete}
use lib.ListN.{get_or}
use lib.Dec.{T, eqb, eqb→eq}
use Rattle.plan.specs.declared.sheet.Sheet.{Sheet}
use Rattle.plan.specs.Plan.{Plan, total, placed, no_placed}
use Rattle.plan.specs.Rules.{costs_fit}
use Rattle.plan.specs.Sheet.{cost_at, Planned}
use Rattle.courses.specs.Schedule.{Span}
use Rattle.plan.proofs.Laws.Lists.{all_at}
use Rattle.plan.proofs.Laws.Steps.{bool_cases}
use Rattle.plan.proofs.Laws.Placed.{placed_of, placed_length}
use Rattle.plan.proofs.Laws.Spawning.{cost_in_range_lem}
use Rattle.checker.specs.Chains.{entry, Walk}
use Rattle.checker.specs.Rows.{span_from, span_at}
use Rattle.checker.specs.Given.{Task, RulesGiven}
use Rattle.checker.specs.Buckets.{more_of, block_of, bucket_of, key_of, Meet, Clear}

cost_reaches : (form : ℕ) (plan : Sheet) (p : Plan) → Planned plan p → T (costs_fit form p) → (k : ℕ) → k < total p
    → cost_at plan k ≤ suc (16 * more_of form)
unfolding costs_fit
cost_reaches form plan p g fits k h =
    let c = g.laid.costs k h in
    let st = placed_of p k h in
    bool_cases (eqb form 1)
    (λ e.
    let one = all_at (λ a. eqb a.cost 1) (placed p) (rw (costs_fit, e) at fits) no_placed k (omega (arith, placed_length p)) in
    rw (more_of, e) (omega (arith, eqb→eq (get_or (placed p) k no_placed).cost 1 one)))
    (λ e. rw (more_of, e) (omega (arith, st.cost, cost_in_range_lem p g.laid.range _ st.known _ st.within)))

module _ (more : ℕ) (most : more ≤ 1) where
  -- a later round is of no earlier block, and one of so many blocks behind is at most so many behind
  block_rises : (a b : ℕ) → a ≤ b → block_of more a ≤ block_of more b
  block_rises a b h = by_cases (ℕ_discrete more 0) (λ e. rw e (omega arith)) (λ d. let e : more ≡ 1 = omega arith in rw e (omega arith))

  block_near : (a b : ℕ) → a ≤ b + 16 * more → block_of more a ≤ block_of more b + more
  block_near a b h =
      by_cases (ℕ_discrete more 0) (λ e. rw e (omega arith)) (λ d. let e : more ≡ 1 = omega arith in rw e (omega arith))

  pub clear_first : {workers : ℕ} (words : List ℕ) (plan : Sheet) (t : Task) → RulesGiven workers words plan t → more ≡ more_of plan.form
      → (k row : ℕ) → k < plan.actions → row ≡ entry words k → Clear more (block_of more (row / 16) + more) k (span_at words plan)
  clear_first words plan t g is k row h e i l m =
      let short = cost_reaches plan.form plan t.plan g.tasked.planned g.fits i (omega (arith, g.count)) in
      block_near (span_at words plan i).last (row / 16) (omega (arith, m.1, short, is))

  module _ (k : ℕ) (span : ℕ → Span) (stride b w : ℕ) (is : w ≡ (span k).worker) (c : Clear more b k span)
      (walk : Walk k (λ i. key_of more stride (span i)) (bucket_of stride b w) (λ i. Meet (span i) (span k) → ⊥) 0) where
    -- none of the block is left
    none : (i : ℕ) → i < k → Meet (span i) (span k) → block_of more (span i).last ≡ b → ⊥
    none i h m q = walk.passed i (omega arith) h (ap₂ (bucket_of stride) q (m.0 ∙ sym is)) m

    pub clear_next : Clear more (b - 1) k span
    clear_next i h m = by_cases (ℕ_discrete (block_of more (span i).last) b) (λ q. absurd (none i h m q)) (λ q. omega (arith, c i h m))

    pub clear_all : {first : ℕ} → first ≡ (span k).first → b ≤ block_of more first → (i : ℕ) → i < k → Meet (span i) (span k) → ⊥
    clear_all begins low i h m =
        none i h m (omega (arith, c i h m, block_rises (span k).first (span i).last m.2, ap (block_of more) begins))

-- the span of row k by what was read of it
module _ (words : List ℕ) (plan : Sheet) (k row first : ℕ) (is : row ≡ entry words k) (begins : first ≡ (span_at words plan k).first) (a : Span) where
  pub meet_of : Meet a (span_from first row) → Meet a (span_at words plan k)
  meet_of m = (omega (arith, m.0), omega (arith, m.1), omega (arith, m.2))

  pub of_meet : Meet a (span_at words plan k) → Meet a (span_from first row)
  of_meet m = (omega (arith, m.0), omega (arith, m.1), omega (arith, m.2))
