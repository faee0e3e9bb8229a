-- `plan::rules::spawns_kept` meets its contract. The loop's invariant: the array holds what the actions up to the last
-- listed one passed spawn.
use Prim.Native.Nat.{ℕ, ◌≤◌, ◌<◌}
use mathlib.Core.Path.{◌≡◌, refl, ◌∙◌}
use Rattle.std.proofs.lemmas.List.{get_or-take, length-take}
use native.Mathlib.Omega.{arith}
use Rattle.plan.specs.Plan.{Plan}
use mathlib.Core.List.{List}
use Rattle.plan.specs.declared.sheet.Sheet.{Sheet}
use Rattle.plan.specs.Sheet.{child_at}
use Rattle.plan.specs.Listed.{entry, Listed}
use lib.ListN.{length, take}
use Rattle.plan.specs.Sheet.{LaidIn}
use Rattle.plan.specs.Kept.{SpawnAt}
use Rattle.plan.proofs.Laws.Lists.{told_yes, told_no}
use Rattle.plan.proofs.Laws.Counts.{passed, not_passed}
use Rattle.plan.proofs.Laws.Spawning.{total_in_range}
use Rattle.plan.proofs.Laws.Listing.{listed_front, upto_more, upto_take}
use Rattle.plan.proofs.Laws.Recording.{recorded_start, spawn_next, spawns_all}
use Rattle.plan.proofs.rules.spawns_kept.Goals as goal
use Rattle.plan.proofs.rules.spawns_kept.Goals.{After-from}

-- the actions stand in the front of their array, and those listed are listed of the whole
module _ (plan : Sheet) (p : Plan) (g : LaidIn plan p) where
  few : plan.actions ≤ 2048
  few = omega (arith, g.all, total_in_range p g.laid.range)

  whole : length plan.children ≡ 2048
  whole = g.laid.sized.children

  front : length (take plan.actions plan.children) ≡ plan.actions
  front = omega (arith, few, whole, length-take plan.actions plan.children)

  module _ (many : ℕ) (l : List ℕ) (f : Listed (entry (take plan.actions plan.children)) (length (take plan.actions plan.children)) many l) where
    heard : Listed (child_at plan) plan.actions many l
    heard = listed_front plan.children plan.actions many l (omega (arith, few, whole)) f

    held : many ≤ length l
    held = omega (arith, heard.few, heard.long, few)

pub shared_ref_as_front-row : goal.shared_ref_as_front-row
shared_ref_as_front-row c = let x = c.requires in omega (arith, few _ x.0 x.1, whole _ x.0 x.1)

pub note-count-requires : goal.note-count-requires
note-count-requires c = let x = c.requires in omega (arith, few _ x.0 x.1, front _ x.0 x.1)

pub slice_bounds-list-end : goal.slice_bounds-list-end
slice_bounds-list-end c = let x = c.requires in held _ x.0 x.1 _ _ c.note-count.ensures

pub slice_bounds-k-items-end : goal.slice_bounds-k-items-end
slice_bounds-k-items-end c =
    let x = c.requires in
    let l = c.note-count in
    omega (arith, length-take l.result l.new.list, held _ x.0 x.1 _ _ l.ensures)

pub loop-k-init : goal.loop-k-init
loop-k-init c = (refl, λ p g. recorded_start _ p g, (refl, refl))

-- the place is one of those listed
listed : (c : After-from) → c.loop-k.k-index < c.note-count.result
listed c =
    let l = c.note-count in
    omega (arith, c.loop-k-test.true, length-take l.result l.new.list)

-- the next action that spawns is reached
next : (c : After-from) (p : Plan)
    → let a = c.args in
    LaidIn a.plan.now p → SpawnAt c.from.result c.loop-k.plan p
next c p g =
    let l = c.note-count in
    spawn_next _ _ _ p g (heard _ p g _ _ l.ensures) _ _ _ (listed c) (c.from.ensures ∙ get_or-take l.result l.new.list c.loop-k.k-index 0 (listed c))
    (rw (upto_take l.new.list l.result c.loop-k.k-index (omega (arith, listed c))) at (c.loop-k.invariant.1 p g))

pub spawn_rule-requires : goal.spawn_rule-requires
spawn_rule-requires c = let x = c.requires in (x.0, next (goal.at.spawn_rule-requires c).After-from x.0 x.1)

pub returns-then-not-spawn_rule : goal.returns-then-not-spawn_rule
returns-then-not-spawn_rule c = record {
  same_form = c.spawn_rule.ensures.same_form ∙ c.loop-k.invariant.0;
  same_counts = (c.spawn_rule.ensures.same_counts.0 ∙ c.loop-k.invariant.2.0, c.spawn_rule.ensures.same_counts.1 ∙ c.loop-k.invariant.2.1);
  told = λ p g.
      told_no ((c.spawn_rule.ensures.told p (next (goal.at.returns-then-not-spawn_rule c).After-from p g)).broken (not_passed c.spawn_rule.result c.if-not-spawn_rule.true));
}

pub loop-k-preserved : goal.loop-k-preserved
loop-k-preserved c = (
  c.spawn_rule.ensures.same_form ∙ c.loop-k.invariant.0,
  λ p g.
      rw (← upto_more _ _ _ c.from.ensures)
      ((c.spawn_rule.ensures.told p (next (goal.at.loop-k-preserved c).After-from p g)).kept (passed c.spawn_rule.result c.if-not-spawn_rule.false)),
  (c.spawn_rule.ensures.same_counts.0 ∙ c.loop-k.invariant.2.0, c.spawn_rule.ensures.same_counts.1 ∙ c.loop-k.invariant.2.1),
)

pub returns : goal.returns
returns c = record {
  same_form = c.loop-k.invariant.0;
  same_counts = c.loop-k.invariant.2;
  told = λ p g.
      let l = c.note-count in
      let e : c.loop-k.k-index ≡ l.result = omega (arith, length-take l.result l.new.list, held _ p g _ _ l.ensures) in
      told_yes (spawns_all _ _ _ p g (heard _ p g _ _ l.ensures) _ (rw (e, upto_take l.new.list l.result l.result (omega arith)) at (c.loop-k.invariant.1 p g)));
}
