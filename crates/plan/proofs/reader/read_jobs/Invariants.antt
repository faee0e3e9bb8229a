-- `reader::read_jobs` meets its contract. The loop's invariant: the jobs p are read and written, and what `jobs_at` gives is p and
-- then what it gives of the rest.
use Prim.Native.Nat.{ℕ, ◌+◌, ◌*◌, ◌-◌, ◌≤◌}
use mathlib.Core.Path.{◌≡◌}
use mathlib.Core.List.{List}
use lib.ListN.{length}
use Rattle.plan.specs.declared.sheet.Sheet.{Sheet}
use Rattle.plan.specs.Plan.{Plan, total}
use Rattle.plan.specs.Reader.{jobs_at}
use Rattle.plan.specs.Progress.{with_jobs}
use Rattle.plan.proofs.Laws.Steps.{after}
use Rattle.plan.proofs.reader.read_jobs.Given as goal

pub record Begun (form : ℕ) (s : List ℕ) (at jobs : ℕ) (plan₀ plan : Sheet) (place actions j : ℕ) : Type 0 where
  pub p : Plan
  pub rest : jobs_at form s jobs 0 at ≡ after p (jobs_at form s (jobs - j) actions place)
  pub count : j ≡ length p
  pub all : actions ≡ total p
  pub low : actions ≤ 2048
  pub near : place ≤ at + 24 * j + 22 * actions
  pub written : plan ≡ with_jobs plan₀ 0 0 p

abbrev pub invariant-loop-j : goal.invariant-loop-j
invariant-loop-j l = Begun l.form l.s l.at l.jobs l.initial.plan l.plan l.next l.actions l.j
