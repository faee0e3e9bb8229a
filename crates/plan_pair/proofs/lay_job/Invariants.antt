-- `plan_pair::lay_job` meets its contract. The loop's invariant: the actions before place k are laid, behind the job's frame.
use Prim.Native.Nat.{ℕ, ◌+◌}
use mathlib.Core.Path.{◌≡◌}
use Rattle.plan.specs.Plan.{Plan}
use Rattle.plan.proofs.Laws.Placed.{start}
use Rattle.plan_pair.specs.Given.{LaysJob}
use Rattle.plan_pair.proofs.Laws.Laying.{first_rows}
use Rattle.plan_pair.proofs.lay_job.Given as goal

abbrev pub invariant-loop-k : goal.invariant-loop-k
invariant-loop-k l =
    (p : Plan) (g : LaysJob l.d l.from l.j l.plan p) → (n : ℕ) × (l.k ≡ start p l.j + n) × (l.sheet ≡ first_rows g l.initial.sheet n)
