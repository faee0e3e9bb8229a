-- `plan_pair::lay_jobs` meets its contract. The loop's invariant: the jobs before job j are laid.
use Prim.Native.Nat.{◌<◌}
use mathlib.Core.Path.{sym, ◌∙◌}
use native.Mathlib.Numerals.{add-one}
use native.Mathlib.Omega.{arith}
use lib.ListN.{length}
use Rattle.plan_pair.proofs.Laws.Laying.{jobs_none, job_more, jobs_whole}
use Rattle.plan_pair.proofs.lay_jobs.Goals as goal

pub loop-j-init : goal.loop-j-init
loop-j-init c = λ p g. sym (jobs_none _ _ p _)

pub lay_job-requires : goal.lay_job-requires
lay_job-requires c =
    let (p, g) = c.requires in
    (p, record { lays = g; known = omega (arith, c.loop-j-test.true, g.count) })

pub loop-j-preserved : goal.loop-j-preserved
loop-j-preserved c p g =
    let known : c.loop-j.j < length p = omega (arith, c.loop-j-test.true, g.count) in
    rw add-one (job_more _ _ p _ _ known (c.loop-j.invariant p g) (c.lay_job.ensures p (record { lays = g; known = known })))

pub returns : goal.returns
returns c p g =
    c.loop-j.invariant p g ∙ jobs_whole _ _ p _ _ (omega (arith, c.loop-j-test.false, g.count))
