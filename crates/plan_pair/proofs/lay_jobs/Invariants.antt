-- `plan_pair::lay_jobs` meets its contract. The loop's invariant: the jobs before job j are laid.
use mathlib.Core.Path.{◌≡◌}
use Rattle.plan.specs.Plan.{Plan}
use Rattle.plan_pair.specs.Given.{Lays}
use Rattle.plan_pair.proofs.Laws.Laying.{first_jobs}
use Rattle.plan_pair.proofs.lay_jobs.Given as goal

abbrev pub invariant-loop-j : goal.invariant-loop-j
invariant-loop-j l =
    (p : Plan) → Lays l.d l.from l.plan p → l.sheet ≡ first_jobs l.d l.from p l.initial.sheet l.j
