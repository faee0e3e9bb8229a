-- `plan::rules::joins_kept` meets its contract. The loop's invariant: the array counts the joins of the actions up to the
-- last listed one passed.
use Prim.Native.Nat.{ℕ, ◌≤◌, ◌<◌}
use mathlib.Core.Path.{◌≡◌, ◌∙◌}
use Rattle.std.proofs.lemmas.List.{get_or-take, length-take}
use native.Mathlib.Omega.{arith}
use Rattle.plan.specs.Plan.{Plan}
use mathlib.Core.List.{List}
use Rattle.plan.specs.declared.sheet.Sheet.{Sheet}
use Rattle.plan.specs.Sheet.{target_at}
use Rattle.plan.specs.Listed.{entry, Listed}
use lib.ListN.{length, take}
use Rattle.plan.specs.Kept.{JoinAt, JoinsFrom}
use Rattle.plan.proofs.Laws.Lists.{told_yes, told_no}
use Rattle.plan.proofs.Laws.Counts.{passed, not_passed}
use Rattle.plan.proofs.Laws.Spawning.{total_in_range}
use Rattle.plan.proofs.Laws.Listing.{listed_front, upto_more, upto_take}
use Rattle.plan.proofs.Laws.Joining.{join_next, joins_all}
use Rattle.plan.proofs.rules.joins_kept.Goals as goal
use Rattle.plan.proofs.rules.joins_kept.Goals.{After-from}

-- the actions stand in the front of their array, and those listed are listed of the whole
module _ (plan : Sheet) (entering : List ℕ) (p : Plan) (g : JoinsFrom plan entering p) where
  few : plan.actions ≤ 2048
  few = omega (arith, g.all, total_in_range p g.given.laid.range)

  whole : length plan.targets ≡ 2048
  whole = g.given.laid.sized.targets

  front : length (take plan.actions plan.targets) ≡ plan.actions
  front = omega (arith, few, whole, length-take plan.actions plan.targets)

  module _ (many : ℕ) (l : List ℕ) (f : Listed (entry (take plan.actions plan.targets)) (length (take plan.actions plan.targets)) many l) where
    heard : Listed (target_at plan) plan.actions many l
    heard = listed_front plan.targets plan.actions many l (omega (arith, few, whole)) f

    held : many ≤ length l
    held = omega (arith, heard.few, heard.long, few)

pub shared_ref_as_front-row : goal.shared_ref_as_front-row
shared_ref_as_front-row c = let x = c.requires in omega (arith, few _ _ x.0 x.1, whole _ _ x.0 x.1)

pub note-count-requires : goal.note-count-requires
note-count-requires c = let x = c.requires in omega (arith, few _ _ x.0 x.1, front _ _ x.0 x.1)

pub slice_bounds-list-end : goal.slice_bounds-list-end
slice_bounds-list-end c = let x = c.requires in held _ _ x.0 x.1 _ _ c.note-count.ensures

pub slice_bounds-k-items-end : goal.slice_bounds-k-items-end
slice_bounds-k-items-end c =
    let x = c.requires in
    let l = c.note-count in
    omega (arith, length-take l.result l.new.list, held _ _ x.0 x.1 _ _ l.ensures)

pub loop-k-init : goal.loop-k-init
loop-k-init c p g = g.counted

-- the place is one of those listed
listed : (c : After-from) → c.loop-k.k-index < c.note-count.result
listed c =
    let l = c.note-count in
    omega (arith, c.loop-k-test.true, length-take l.result l.new.list)

-- the next action that sends a join is reached
next : (c : After-from) (p : Plan)
    → let a = c.args in
    JoinsFrom a.plan.now a.entering.now p → JoinAt c.from.result a.plan.now c.loop-k.entering p
next c p g =
    let l = c.note-count in
    join_next _ _ _ _ p g (heard _ _ p g _ _ l.ensures) _ _ _ (listed c) (c.from.ensures ∙ get_or-take l.result l.new.list c.loop-k.k-index 0 (listed c))
    (rw (upto_take l.new.list l.result c.loop-k.k-index (omega (arith, listed c))) at (c.loop-k.invariant p g))

pub join_rule-requires : goal.join_rule-requires
join_rule-requires c = let x = c.requires in (x.0, next (goal.at.join_rule-requires c).After-from x.0 x.1)

pub returns-then-not-join_rule : goal.returns-then-not-join_rule
returns-then-not-join_rule c = λ p g.
    told_no ((c.join_rule.ensures p (next (goal.at.returns-then-not-join_rule c).After-from p g)).broken (not_passed c.join_rule.result c.if-not-join_rule.true))

pub loop-k-preserved : goal.loop-k-preserved
loop-k-preserved c p g =
    rw (← upto_more _ _ _ c.from.ensures)
    ((c.join_rule.ensures p (next (goal.at.loop-k-preserved c).After-from p g)).kept (passed c.join_rule.result c.if-not-join_rule.false))

pub returns : goal.returns
returns c = λ p g.
    let l = c.note-count in
    let e : c.loop-k.k-index ≡ l.result = omega (arith, length-take l.result l.new.list, held _ _ p g _ _ l.ensures) in
    told_yes (joins_all _ _ _ _ p g (heard _ _ p g _ _ l.ensures) _ (rw (e, upto_take l.new.list l.result l.result (omega arith)) at (c.loop-k.invariant p g)))
