-- `checker::senders::line_of` meets its contract, by what the array tells of an action (`Laws.Senders`).
use mathlib.Core.Path.{◌∙◌}
use native.Mathlib.Omega.{arith}
use Rattle.checker.proofs.Laws.Senders.{line_some, action_room, line_small}
use Rattle.checker.proofs.senders.line_of.Goals as goal

pub job_at-requires : goal.job_at-requires
job_at-requires c =
    let (p, g) = c.requires in
    (action_room _ p g.planned _ g.within).0

pub parent_of-requires : goal.parent_of-requires
parent_of-requires c =
    let (p, g) = c.requires in
    omega (arith, action_room _ p g.planned _ g.within, c.job_at.ensures.0)

pub target_at-sent-requires : goal.target_at-sent-requires
target_at-sent-requires c =
    let (p, g) = c.requires in
    (action_room _ p g.planned _ g.within).0

pub returns-else-sent-eq0 : goal.returns-else-sent-eq0
returns-else-sent-eq0 c =
    let (p, g) = c.requires in
    let e = line_some c.args.plan.now c.args.k _ c.target_at-sent.ensures.0 c.if-sent-eq0.false _ _ _ c.job_at.ensures.0 c.parent_of.ensures.0 c.first_of-first.ensures.0 in
    (e, rw e (line_small _ p g.planned _ g.within (λ z. c.if-sent-eq0.false (c.target_at-sent.ensures.0 ∙ z))))
