-- `measure::longest` meets its contract: jobs are timed from the highest down, and the root's time is T∞.
use Prim.Native.Nat.{◌-◌}
use mathlib.Core.Path.{refl, ◌∙◌}
use native.Mathlib.Omega.{arith}
use Rattle.plan.specs.Plan.{Plan}
use Rattle.plan_measure.specs.Times.{PlanOf, JobTimed}
use Rattle.plan.proofs.Laws.Valid.{jobs_range}
use Rattle.plan.proofs.Laws.Lists.{zeros_at}
use Rattle.plan_measure.proofs.Laws.Clock.{timed_none, job_given, root_longest}
use Rattle.plan_measure.proofs.longest.Goals as goal
use Rattle.plan_measure.proofs.longest.Goals.{After-time_job-most}

pub loop-j-init : goal.loop-j-init
loop-j-init c =
    let (p, g) = c.requires in (
      omega (arith, g.count, jobs_range p g.planned.rules),
      refl,
      refl,
      λ p g.
          let ok = g.planned.rules in
          (timed_none p ok _ _ _ g.count (zeros_at 2048), λ z. absurd (omega (arith, g.count, jobs_range p ok))),
    )

pub time_job-most-requires : goal.time_job-most-requires
time_job-most-requires c =
    let (p, g) = c.requires in
    let i = c.loop-j.invariant in (
      record { plan = p; job = c.loop-j.j - 1 },
      job_given _ p g _ _ _ (omega arith) (omega arith) c.first_of.ensures.0 c.first_of-in-loop-j.ensures.0
          _ _ i.1 i.2 (i.3 p g).0,
    )

-- the job that was timed
timed : (c : After-time_job-most) (p : Plan)
    → PlanOf c.args.plan.now p
    → JobTimed c.time_job-most.result c.time_job-most.new.time c.time_job-most.new.late
    (record { plan = p; job = c.loop-j.j - 1 })
timed c p g =
    let i = c.loop-j.invariant in
    c.time_job-most.ensures _
    (job_given _ p g _ _ _ (omega arith) (omega arith) c.first_of.ensures.0 c.first_of-in-loop-j.ensures.0
    _ _ i.1 i.2 (i.3 p g).0)

pub loop-j-preserved : goal.loop-j-preserved
loop-j-preserved c =
    let (p, g) = c.requires in
    let n = (timed c p g).long in
    (c.loop-j.invariant.0, n.0, n.1, λ p g. let t = timed c p g in (t.timed, λ z. rw z at t.last))

pub returns : goal.returns
returns c = λ p g.
    let l = c.loop-j in
    c.from.ensures ∙ root_longest p g.planned.rules l.most ((l.invariant.3 p g).1 (omega arith))
