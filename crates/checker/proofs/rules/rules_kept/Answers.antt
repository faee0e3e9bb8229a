-- `checker::rules::rules_kept` meets its contract: before each row those before it keep the rules and lie in the buckets, their rounds
-- are in the sets, and the walk stands in a job (`Laws.Standing`); the way along an action's line meets all that send it a join, and each
-- earlier row whose span meets that of the row is met along the chains of the buckets (`Laws.Chains`, `Laws.Buckets`), if the sets do
-- not tell that there is none (`Laws.Busy`).
use Prim.Native.Nat.{◌*◌, ◌/◌, ◌^◌, ◌≤◌}
use mathlib.Core.Path.{◌≡◌, refl, ap, ◌∙◌}
use mathlib.Core.Logic.{◌⊎◌, inl, inr}
use mathlib.Core.Bool.{true}
use native.Mathlib.Omega.{arith}
use native.Mathlib.Nat.{div-le_self}
use Rattle.std.specs.Prelude.{None}
use Rattle.plan.proofs.Laws.Laid.{laid_end}
use Rattle.plan.proofs.Laws.Lists.{of_true}
use Rattle.plan.proofs.Laws.Valid.{jobs_range, total_range}
use Rattle.checker.specs.Rows.{span_at}
use Rattle.checker.specs.Chains.{entry, plus_one}
use Rattle.checker.specs.Busy.{Taken}
use Rattle.checker.proofs.Laws.Keeping.{seen_none, seen_more, all_keep, not_kept, not_apart}
use Rattle.checker.proofs.Laws.Following.{joined_all, not_joined}
use Rattle.checker.proofs.Laws.Standing.{stood_first, stood_on, stand_given}
use Rattle.checker.proofs.Laws.Chains.{head_below, walk_first, walk_falls, walk_next}
use Rattle.checker.proofs.Laws.Buckets.{clear_first, clear_next, clear_all, meet_of, of_meet}
use Rattle.checker.proofs.Laws.Busy.{span_short, taken_read, noted_none, noted_more, noted_apart}
use Rattle.checker.proofs.rules.rules_kept.Goals as goal
use Rattle.checker.proofs.rules.rules_kept.Goals.{At-clashes, Left-clashes, then-clashes-test+in_default-other+then-block-low, else-clashes-test}

-- the loop was left: no row and no block is, or none of the row's rounds was in the sets
over : (x : Left-clashes) → ((x.clashes.other ≡ None) × (x.clashes.block ≤ x.in-Some.first / 2 ^ (4 * x.more_of-more.result))) ⊎ (x.take-free.result ≡ true)
over x =
    elim x.clashes-test.branch [
      | then-clashes-test+in_default-other+then-block-low w ↦ inl (w.in_default-other.is, w.if-block-low.true)
      | else-clashes-test w ↦ inr w.clashes-test.false
    ]

-- the row's rounds have come into the sets; `in-Some.ensures` says that its worker is one of the workers, and that its first round is
-- that of its span
took : (a : At-clashes) → Taken a.more_of-more.result (4096 / a.args.workers) (span_at a.args.rows.now a.args.plan.now a.actions.k)
    a.actions.busy a.take-free.new.busy a.take-free.result
took a =
    taken_read a.args.rows.now a.args.plan.now _ _ _ a.row_of-row.ensures.0 a.in-Some.ensures.2 a.take-free.ensures

pub actions-init : goal.actions-init
actions-init c =
    let (t, g) = c.requires in
    let few = total_range t.plan g.tasked.planned.rules in (
      refl,
      omega (arith, g.count),
      c.new-buckets.ensures _,
      λ t g. seen_none _ _ _,
      λ t g. stood_first _ g.tasked.planned.rules _ _
          (rw c.first_of.ensures.0 (laid_end _ _ g.tasked.planned.laid 0 (jobs_range t.plan g.tasked.planned.rules).0)),
      noted_none _ _ _,
    )

pub joins-init : goal.joins-init
joins-init c =
    let l = c.line_up-senders.ensures in
    (c.actions.invariant.0, head_below l _ _ c.latest_in-sender.ensures, walk_first _ _ _ _ _ _ _ l c.latest_in-sender.ensures)

pub joins-smaller : goal.joins-smaller
joins-smaller c =
    let w = rw c.in-Some-sender.is at c.joins.invariant.2 in
    omega (arith, walk_falls _ _ _ _ _ _ _ _ c.line_up-senders.ensures w (omega arith), c.back_from-sender.ensures, ap plus_one c.in-Some-sender.is)

pub joins-preserved : goal.joins-preserved
joins-preserved c =
    let l = c.line_up-senders.ensures in
    let w = rw c.in-Some-sender.is at c.joins.invariant.2 in
    let f = walk_falls _ _ _ _ _ _ _ _ l w (omega arith) in (
      c.joins.invariant.0,
      omega (arith, c.back_from-sender.ensures, ap plus_one c.in-Some-sender.is),
      rw (← c.back_from-sender.ensures) at (walk_next _ _ _ _ _ _ _ _ l w (omega arith)
          (omega (arith, c.if-first-row_of.false, c.row_of.ensures.0, c.in-Some.ensures.2))),
    )

pub take-free-requires : goal.take-free-requires
take-free-requires c =
    let (t, g) = c.requires in
    let s = span_short _ _ t g c.actions.k (omega arith) in
    let begun = c.in-Some.ensures.2 in
    (omega (arith, begun), omega (arith, begun), c.row_of-row.ensures.1, div-le_self 4096 c.args.workers, c.actions.invariant.5.long)

pub clashes-init : goal.clashes-init
clashes-init c =
    let (t, g) = c.requires in
    let m = c.more_of-more in
    let latest = c.latest_in-other.ensures ∙ ap (entry c.actions.buckets.latest) c.bucket_of.ensures.0 in (
      c.joins.invariant.0,
      head_below c.actions.invariant.2 _ _ latest,
      omega arith,
      walk_first _ _ _ _ _ _ _ c.actions.invariant.2 latest,
      clear_first _ m.ensures.1 _ _ t g m.ensures.0 _ _ (omega arith) c.row_of-row.ensures.0,
    )

pub clashes-smaller-in_default-other : goal.clashes-smaller-in_default-other
clashes-smaller-in_default-other c =
    omega (arith, c.if-block-low.false, head_below c.actions.invariant.2 _ _ c.latest_in-other-in_default-other.ensures)

pub clashes-preserved-in_default-other : goal.clashes-preserved-in_default-other
clashes-preserved-in_default-other c =
    let m = c.more_of-more in
    let i = c.clashes.invariant in
    let latest = c.latest_in-other-in_default-other.ensures ∙ ap (entry c.actions.buckets.latest) c.bucket_of-in_default-other.ensures.0 in (
      i.0,
      head_below c.actions.invariant.2 _ _ latest,
      omega (arith, i.2),
      walk_first _ _ _ _ _ _ _ c.actions.invariant.2 latest,
      clear_next _ m.ensures.1 _ _ _ _ _ (omega (arith, c.row_of-row.ensures.0)) i.4 (rw c.in_default-other.is at i.3),
    )

pub clashes-smaller : goal.clashes-smaller
clashes-smaller c =
    let w = rw c.in-Some-other.is at c.clashes.invariant.3 in
    omega (arith, walk_falls _ _ _ _ _ _ _ _ c.actions.invariant.2 w (omega arith), c.back_from-other.ensures, ap plus_one c.in-Some-other.is)

pub clashes-preserved : goal.clashes-preserved
clashes-preserved c =
    let i = c.clashes.invariant in
    let w = rw c.in-Some-other.is at i.3 in
    let f = walk_falls _ _ _ _ _ _ _ _ c.actions.invariant.2 w (omega arith) in (
      i.0,
      omega (arith, c.back_from-other.ensures, i.1, ap plus_one c.in-Some-other.is),
      i.2,
      rw c.back_from-other.ensures (walk_next _ _ _ _ _ _ _ _ c.actions.invariant.2 w (omega arith)
          (λ m. c.meets.ensures.broken (λ t. rw c.if-meets.false at t)
          (of_meet c.args.rows.now c.args.plan.now c.actions.k _ _ c.row_of-row.ensures.0 c.in-Some.ensures.2 _ m))),
      i.4,
    )

pub actions-preserved : goal.actions-preserved
actions-preserved c =
    let i = c.actions.invariant in
    let m = c.more_of-more in
    let row = c.row_of-row.ensures.0 in
    let (manned, some, begun) = c.in-Some.ensures in (
      c.clashes.invariant.0,
      i.1,
      c.enter.ensures.chains _ (rw row at c.bucket_of-in-actions.ensures.0) i.2,
      λ t g.
          let (l, here) = c.stand-here.ensures t (stand_given _ _ t _ g (omega arith) (i.4 t g)) in
          seen_more _ _ _ _ (i.3 t g) some manned
          ((here.told l).kept (omega (arith, c.if-first-here.false, begun))
          (joined_all _ _ t g.tasked _ (omega (arith, g.count))
          (λ x l z. c.joins.invariant.2.passed x (omega (arith, ap plus_one c.in_default-sender.is)) (omega (arith, g.count)) z)))
          (elim (over (goal.at.actions-preserved c).Left-clashes) [
            | inl u ↦ clear_all _ m.ensures.1 _ _ _ _ _ (omega (arith, row)) c.clashes.invariant.4 (rw u.0 at c.clashes.invariant.3) begun u.1
            | inr u ↦ noted_apart _ _ t g _ _ _ _ _ _ (omega arith) i.5 (took (goal.at.actions-preserved c).At-clashes) u
          ]),
      λ t g.
          let (l, here) = c.stand-here.ensures t (stand_given _ _ t _ g (omega arith) (i.4 t g)) in
          stood_on _ g.tasked.planned.rules (span_at c.args.rows.now c.args.plan.now) _ _ here l _ (omega (arith, row)),
      noted_more _ _ _ _ _ _ _ i.5 (took (goal.at.actions-preserved c).At-clashes),
    )

pub returns-after-actions : goal.returns-after-actions
returns-after-actions c = λ t g.
    let i = c.actions.invariant in
    rw i.0 (all_keep _ _ _ t g.tasked _ (omega (arith, g.count)) (i.3 t g))

pub returns-in_default : goal.returns-in_default
returns-in_default c = λ t g.
    not_kept _ _ _ t g.tasked c.actions.k (omega (arith, g.count)) (λ manned begun order. c.in_default.ensures manned begun)

pub returns-then-first-here : goal.returns-then-first-here
returns-then-first-here c = λ t g.
    let (l, here) = c.stand-here.ensures t (stand_given _ _ t _ g (omega arith) (c.actions.invariant.4 t g)) in
    not_kept _ _ _ t g.tasked c.actions.k (omega (arith, g.count)) (λ manned begun order.
    (here.told l).broken begun (omega (arith, c.if-first-here.true, c.in-Some.ensures.2)) order)

pub returns-then-first-row_of : goal.returns-then-first-row_of
returns-then-first-row_of c = λ t g.
    let w = rw c.in-Some-sender.is at c.joins.invariant.2 in
    let (l, e) = w.stands c.in-Some-sender.x refl in
    not_kept _ _ _ t g.tasked _ (omega (arith, g.count)) (λ _ _.
    not_joined _ _ t g.tasked _ (omega (arith, g.count)) _ (omega (arith, g.count)) e
    (omega (arith, c.if-first-row_of.true, c.row_of.ensures.0, c.in-Some.ensures.2)))

pub returns-then-meets : goal.returns-then-meets
returns-then-meets c = λ t g.
    not_apart _ _ _ t g.tasked c.actions.k (omega (arith, g.count)) c.in-Some-other.i
    (omega (arith, c.clashes.invariant.1, ap plus_one c.in-Some-other.is))
    (meet_of c.args.rows.now c.args.plan.now c.actions.k _ _ c.row_of-row.ensures.0 c.in-Some.ensures.2
    (span_at c.args.rows.now c.args.plan.now c.in-Some-other.i)
    (c.meets.ensures.kept (of_true _ c.if-meets.true)))
