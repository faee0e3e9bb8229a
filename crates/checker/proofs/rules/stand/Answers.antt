-- `checker::rules::stand` meets its contract: the walk goes on in its job, or past its end in the next (`Laws.Standing`).
use mathlib.Core.Path.{◌∙◌}
use native.Mathlib.Omega.{arith}
use Rattle.plan.proofs.Laws.Laid.{laid_end}
use Rattle.plan.proofs.Laws.Valid.{jobs_range}
use Rattle.checker.proofs.Laws.Standing.{next_known, stood_born}
use Rattle.checker.proofs.rules.stand.Goals as goal

pub overflow_add-job : goal.overflow_add-job
overflow_add-job c =
    let (t, g) = c.requires in
    omega (arith, g.stood.known, jobs_range t.plan g.tasked.planned.rules)

pub overflow_add-job-2 : goal.overflow_add-job-2
overflow_add-job-2 c =
    let (t, g) = c.requires in
    omega (arith, g.stood.known, jobs_range t.plan g.tasked.planned.rules)

pub first_of-end-requires : goal.first_of-end-requires
first_of-end-requires c =
    let (t, g) = c.requires in
    omega (arith, next_known t.plan g.tasked.planned.rules _ _ _ g.stood g.within c.if-k-s.false, jobs_range t.plan g.tasked.planned.rules)

pub spawn_round-round-requires : goal.spawn_round-round-requires
spawn_round-round-requires c =
    let (t, g) = c.requires in (
      t,
      record {
        later = omega arith;
        known = next_known _ g.tasked.planned.rules _ _ _ g.stood g.within c.if-k-s.false;
        tasked = g.tasked;
      },
    )

pub returns : goal.returns
returns c = λ t g.
    let known = next_known _ g.tasked.planned.rules _ _ _ g.stood g.within c.if-k-s.false in
    stood_born _ g.tasked.planned.rules _ _ _ g.stood g.within c.if-k-s.false _ _
    (c.first_of-end.ensures.0 ∙ laid_end _ _ g.tasked.planned.laid _ known)
    (c.spawn_round-round.ensures t (record { later = omega arith; known = known; tasked = g.tasked }))
