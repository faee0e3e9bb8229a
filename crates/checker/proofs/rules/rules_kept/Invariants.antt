-- `checker::rules::rules_kept` meets its contract: before each row those before it keep the rules and lie in the buckets, their rounds
-- are in the sets, and the walk stands in a job (`Laws.Standing`); the way along an action's line meets all that send it a join, and each
-- earlier row whose span meets that of the row is met along the chains of the buckets (`Laws.Chains`, `Laws.Buckets`), if the sets do
-- not tell that there is none (`Laws.Busy`).
use Prim.Native.Nat.{◌+◌, ◌-◌, ◌*◌, ◌%◌, ◌≤◌}
use mathlib.Core.Path.{◌≡◌}
use mathlib.Core.Bool.{true}
use Rattle.checker.specs.Rows.{span_at}
use Rattle.checker.specs.Given.{Task, RulesGiven}
use Rattle.checker.specs.Chains.{entry, plus_one, Chains, Walk}
use Rattle.checker.specs.Buckets.{bucket_of, key_of, Meet, Clear}
use Rattle.checker.specs.Busy.{Noted}
use Rattle.checker.specs.Senders.{line_of}
use Rattle.checker.specs.Judging.{Later, Seen, Stood}
use Rattle.checker.proofs.rules.rules_kept.Given as goal

abbrev pub invariant-joins : goal.invariant-joins
invariant-joins l =
    (l.kept ≡ true) × (plus_one l.sender ≤ l.plan.actions)
    × Walk l.plan.actions (line_of l.plan) l.k (λ x. Later (span_at l.rows l.plan) x l.k) (plus_one l.sender)

abbrev pub decreases-joins : goal.decreases-joins
decreases-joins l = plus_one l.sender

abbrev pub invariant-clashes : goal.invariant-clashes
invariant-clashes l =
    (l.kept ≡ true) × (plus_one l.other ≤ l.k) × (l.block ≤ l.home + l.more)
    × Walk l.k (λ i. key_of l.more l.stride (span_at l.rows l.plan i)) (bucket_of l.stride l.block (l.row % 16)) (λ i. Meet (span_at l.rows l.plan i) (span_at l.rows l.plan l.k) → ⊥) (plus_one l.other)
    × Clear l.more l.block l.k (span_at l.rows l.plan)

-- what is left of the blocks, and of the chain
abbrev pub decreases-clashes : goal.decreases-clashes
decreases-clashes l =
    (l.block - l.low) * 2049 + plus_one l.other

abbrev pub invariant-actions : goal.invariant-actions
invariant-actions l =
    (l.kept ≡ true) × (l.plan.actions ≤ 2048)
    × Chains l.k (λ i. key_of l.more l.stride (span_at l.rows l.plan i)) (entry l.buckets.latest) (entry l.buckets.prior)
    × ((t : Task) → RulesGiven l.workers l.rows l.plan t → Seen t.plan l.workers l.k (span_at l.rows l.plan))
    × ((t : Task) → RulesGiven l.workers l.rows l.plan t → Stood t.plan (span_at l.rows l.plan) l.k l.standing)
    × Noted l.more l.stride l.k (span_at l.rows l.plan) l.busy
