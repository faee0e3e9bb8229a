-- `plan::rules::join_rule` meets its contract: each answer is a law of `Laws.Joining`.
use Prim.Native.Nat.{◌+◌, ◌-◌, ◌≤◌, ◌<◌}
use native.Mathlib.Omega.{arith}
use Rattle.plan.proofs.Laws.Spawning.{total_in_range}
use Rattle.plan.proofs.Laws.Joining.{sender_small, parent_small, refused_root, refused_early, refused_outside, refused_after_spawn, refused_ninth, counted_more, Target, target_small}
use Rattle.plan.proofs.rules.join_rule.Goals as goal
use Rattle.plan.proofs.rules.join_rule.Goals.{After-first_of-2, After-parent_of-q, Else-first_of-target, Else-j-eq0, Start}

-- the target is looked up
target : (c : After-first_of-2)
    → Target c.args.plan.now c.job_at-j.result c.target_at-t.result c.spawn_of.result c.parent_of-q.result c.first_of.result c.first_of-2.result
target c =
    record {
      child = c.if-j-eq0.false;
      spawned = c.spawn_of.ensures.0;
      late = c.if-t-spawn_of.false;
      owner = c.parent_of-q.ensures.0;
      begins = c.first_of.ensures.0;
      ends = c.first_of-2.ensures.0;
    }

-- it is the place of an action, and not the first
small : (c : Else-first_of-target)
    → Target c.args.plan.now c.job_at-j.result c.target_at-t.result c.spawn_of.result c.parent_of-q.result c.first_of.result c.first_of-2.result
    → let place = c.first_of.result + (c.target_at-t.result - 1) in
    (1 ≤ place) × (place < 2048)
small c t =
    let x = c.requires in
    target_small x.0 _ _ _ x.1 _ c.target_at-t.ensures.0 _ c.job_at-j.ensures.0 _ _ _ _ t c.if-first_of-target.false

pub target_at-t-requires : goal.target_at-t-requires
target_at-t-requires c = let x = c.requires in omega (arith, total_in_range x.0 x.1.given.laid.range, x.1.here)

pub job_at-j-requires : goal.job_at-j-requires
job_at-j-requires c = target_at-t-requires (goal.at.job_at-j-requires c).Start

pub returns-then-j-eq0 : goal.returns-then-j-eq0
returns-then-j-eq0 c = λ p s. refused_root p _ _ _ s _ c.target_at-t.ensures.0 _ c.job_at-j.ensures.0 c.if-j-eq0.true

pub spawn_of-requires : goal.spawn_of-requires
spawn_of-requires c =
    let x = c.requires in sender_small x.0 _ _ _ x.1 _ c.target_at-t.ensures.0 _ c.job_at-j.ensures.0

pub returns-then-t-spawn_of : goal.returns-then-t-spawn_of
returns-then-t-spawn_of c = λ p s.
    refused_early p _ _ _ s _ c.target_at-t.ensures.0 _ c.job_at-j.ensures.0 c.if-j-eq0.false _ c.spawn_of.ensures.0 c.if-t-spawn_of.true

pub parent_of-q-requires : goal.parent_of-q-requires
parent_of-q-requires c = spawn_of-requires (goal.at.parent_of-q-requires c).Else-j-eq0

-- the parent is a job
parent : (c : After-parent_of-q) → c.parent_of-q.result < 256
parent c =
    let x = c.requires in
    parent_small x.0 _ _ _ x.1 _ c.target_at-t.ensures.0 _ c.job_at-j.ensures.0 c.if-j-eq0.false _ c.parent_of-q.ensures.0

pub first_of-requires : goal.first_of-requires
first_of-requires c = omega (arith, parent c)

pub overflow_sub-target : goal.overflow_sub-target
overflow_sub-target c = omega arith

pub overflow_add-target : goal.overflow_add-target
overflow_add-target c = omega arith

pub overflow_add-q : goal.overflow_add-q
overflow_add-q c = omega (arith, parent (goal.at.overflow_add-q c).After-parent_of-q)

pub first_of-requires-2 : goal.first_of-requires-2
first_of-requires-2 c = omega (arith, parent (goal.at.first_of-requires-2 c).After-parent_of-q)

pub returns-then-first_of-target : goal.returns-then-first_of-target
returns-then-first_of-target c = λ p s.
    refused_outside p _ _ _ s _ c.target_at-t.ensures.0 _ c.job_at-j.ensures.0 _ _ _ _ (target (goal.at.returns-then-first_of-target c).After-first_of-2) c.if-first_of-target.true

pub overflow_sub-target-2 : goal.overflow_sub-target-2
overflow_sub-target-2 c = (small c (target (goal.at.overflow_sub-target-2 c).After-first_of-2)).0

pub child_at-requires : goal.child_at-requires
child_at-requires c = omega (arith, small c (target (goal.at.child_at-requires c).After-first_of-2))

pub returns-then-child_at-ne0 : goal.returns-then-child_at-ne0
returns-then-child_at-ne0 c = λ p s.
    refused_after_spawn p _ _ _ s _ c.target_at-t.ensures.0 _ c.job_at-j.ensures.0 _ _ _ _ (target (goal.at.returns-then-child_at-ne0 c).After-first_of-2) c.if-first_of-target.false
    _ c.child_at.ensures.0 c.if-child_at-ne0.true

pub bounds-entering-target : goal.bounds-entering-target
bounds-entering-target c = (small (goal.at.bounds-entering-target c).Else-first_of-target (target (goal.at.bounds-entering-target c).After-first_of-2)).1

pub returns-then-entering-target-ge8 : goal.returns-then-entering-target-ge8
returns-then-entering-target-ge8 c = λ p s.
    refused_ninth p _ _ _ s _ c.target_at-t.ensures.0 _ c.job_at-j.ensures.0 _ _ _ _ (target (goal.at.returns-then-entering-target-ge8 c).After-first_of-2) c.if-first_of-target.false c.if-entering-target-ge8.true

pub bounds-entering-target-2 : goal.bounds-entering-target-2
bounds-entering-target-2 c = (small (goal.at.bounds-entering-target-2 c).Else-first_of-target (target (goal.at.bounds-entering-target-2 c).After-first_of-2)).1

pub overflow_add-entering : goal.overflow_add-entering
overflow_add-entering c = omega arith

pub bounds-entering-target-3 : goal.bounds-entering-target-3
bounds-entering-target-3 c = (small (goal.at.bounds-entering-target-3 c).Else-first_of-target (target (goal.at.bounds-entering-target-3 c).After-first_of-2)).1

pub returns : goal.returns
returns c = λ p s.
    counted_more p _ _ _ s _ c.target_at-t.ensures.0 _ c.job_at-j.ensures.0 _ _ _ _ (target (goal.at.returns c).After-first_of-2) c.if-first_of-target.false
    _ c.child_at.ensures.0 c.if-child_at-ne0.false c.if-entering-target-ge8.false
