-- `plan_pair::lay_job` meets its contract. The loop's invariant: the actions before place k are laid, behind the job's frame.
use Prim.Native.Nat.{ℕ, suc, ◌+◌, ◌<◌}
use mathlib.Core.Path.{◌≡◌, sym}
use native.Mathlib.Omega.{arith}
use Rattle.plan.specs.Plan.{Plan, size}
use Rattle.plan.proofs.Laws.Placed.{start}
use Rattle.plan_pair.specs.Given.{LaysJob}
use Rattle.plan_pair.proofs.Laws.Laying.{job_place, job_room, action_given, first_rows, rows_none, action_more, job_whole}
use Rattle.plan_pair.proofs.lay_job.Goals as goal
use Rattle.plan_pair.proofs.lay_job.Goals.{In-loop-k}

pub loop-k-init : goal.loop-k-init
loop-k-init c =
    λ p g. (0, omega (arith, c.first_of-k.ensures.0, job_place g), sym (rows_none g _))

-- the action at hand
here : (c : In-loop-k) → (p : Plan) (g : LaysJob c.args.d c.args.from c.args.j c.args.plan.now p)
    → (n : ℕ) × (c.loop-k.k ≡ start p c.args.j + n) × (n < size p c.args.j)
    × (c.loop-k.sheet ≡ first_rows g c.set_frame.new.self n)
here c p g =
    let (n, e, is) = c.loop-k.invariant p g in
    (n, e, omega (arith, c.loop-k-test.true, c.first_of-end.ensures.0, job_place g), is)

pub lay_action-requires : goal.lay_action-requires
lay_action-requires c =
    let (p, g) = c.requires in
    let (n, e, b, is) = here (goal.at.lay_action-requires c).In-loop-k p g in
    action_given g _ n e b

pub loop-k-preserved : goal.loop-k-preserved
loop-k-preserved c p g =
    let (n, e, b, is) = here (goal.at.loop-k-preserved c).In-loop-k p g in
    (suc n, omega arith, action_more g _ _ n e b is c.lay_action.ensures)

pub set_first-requires : goal.set_first-requires
set_first-requires c = omega (arith, job_room c.requires.1, c.first_of-end.ensures.0)

pub returns : goal.returns
returns c p g =
    let (n, e, is) = c.loop-k.invariant p g in
    let a = c.args in
    let whole : n ≡ size p a.j = omega (arith, c.loop-k-test.false, job_room g, c.first_of-k.ensures.0, c.first_of-end.ensures.0, job_place g) in
    job_whole g a.sheet.now n _ _ whole c.first_of-end.ensures.0 c.frame_of.ensures.0 c.set_frame.ensures is c.set_first.ensures
