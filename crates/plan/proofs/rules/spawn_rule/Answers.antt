-- `plan::rules::spawn_rule` meets its contract: each answer is a law of `Laws.Recording`.
use Prim.Native.Nat.{◌≤◌, ◌<◌, ◌-◌}
use mathlib.Core.Path.{refl}
use native.Mathlib.Omega.{arith}
use Rattle.plan.proofs.Laws.Spawning.{jobs_in_range, total_in_range}
use Rattle.plan.proofs.Laws.Recording.{some_child, position_here, refused_many, refused_older, refused_twice, recorded_new}
use Rattle.plan.proofs.rules.spawn_rule.Goals as goal
use Rattle.plan.proofs.rules.spawn_rule.Goals.{After-first_of-first, Else-c-q}

pub child_at-c-requires : goal.child_at-c-requires
child_at-c-requires c =
    let x = c.requires in omega (arith, total_in_range x.0 x.1.recorded.laid.range, x.1.here)

pub overflow_sub-c : goal.overflow_sub-c
overflow_sub-c c = let x = c.requires in some_child x.0 _ _ x.1 _ c.child_at-c.ensures.0

pub returns-then-plan-c-clause-told : goal.returns-then-plan-c-clause-told
returns-then-plan-c-clause-told c = λ p s. refused_many p _ _ s _ c.child_at-c.ensures.0 c.if-plan-c.true

pub job_at-q-requires : goal.job_at-q-requires
job_at-q-requires c =
    let x = c.requires in omega (arith, total_in_range x.0 x.1.recorded.laid.range, x.1.here)

pub returns-then-c-q-clause-told : goal.returns-then-c-q-clause-told
returns-then-c-q-clause-told c = λ p s. refused_older p _ _ s _ c.child_at-c.ensures.0 _ c.job_at-q.ensures.0 c.if-c-q.true

pub spawn_of-requires : goal.spawn_of-requires
spawn_of-requires c =
    let x = c.requires in omega (arith, jobs_in_range x.0 x.1.recorded.laid.range, x.1.recorded.jobs)

pub returns-then-spawn_of-ne0-clause-told : goal.returns-then-spawn_of-ne0-clause-told
returns-then-spawn_of-ne0-clause-told c = λ p s.
    refused_twice p _ _ s _ c.child_at-c.ensures.0 c.if-plan-c.false _ c.spawn_of.ensures.0 c.if-spawn_of-ne0.true

pub first_of-first-requires : goal.first_of-first-requires
first_of-first-requires c =
    let x = c.requires in omega (arith, position_here x.0 _ _ x.1 _ _ c.job_at-q.ensures.0 refl)

-- the action's job and position
position : (c : After-first_of-first)
    → let q = c.job_at-q.result in
    let w = c.first_of-first.result in
    let k = c.args.k in
    (q < 256) × (w ≤ k) × (k - w < 255)
position c =
    let x = c.requires in
    let f = position_here x.0 _ _ x.1 _ _ c.job_at-q.ensures.0 c.first_of-first.ensures.0 in
    (f.0, f.1, f.3)

pub overflow_sub-k : goal.overflow_sub-k
overflow_sub-k c = (position (goal.at.overflow_sub-k c).After-first_of-first).1

pub overflow_add-k : goal.overflow_add-k
overflow_add-k c = omega (arith, position (goal.at.overflow_add-k c).After-first_of-first)

pub set_spawner-requires : goal.set_spawner-requires
set_spawner-requires c = (spawn_of-requires (goal.at.set_spawner-requires c).Else-c-q, (position (goal.at.set_spawner-requires c).After-first_of-first).0, omega (arith, position (goal.at.set_spawner-requires c).After-first_of-first))

pub returns-clause-told : goal.returns-clause-told
returns-clause-told c = λ p s.
    recorded_new p _ _ s _ c.child_at-c.ensures.0 c.if-plan-c.false _ _ _ c.job_at-q.ensures.0
    c.first_of-first.ensures.0 c.if-c-q.false c.spawn_of.ensures.0 c.if-spawn_of-ne0.false _ c.set_spawner.ensures
