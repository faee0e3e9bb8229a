-- What private functions of this crate are given and leave. No public entry cites these.
--   target_under plan k   == where the action at place k of the arrays `plan` sends its join, plus 1, once its plan stands below the new
--                           root: the old root's last action, which stands before job 1, to position 4
--   Lays d from plan p   == the arrays have the plan p, which keeps the rules; from job d and place `from` on there is room for it
--   ActionAt plan k d at owner == what laying one action is given: its place and its new one, its new job, and that its child's
--                           new number is small
--   LaysJob d from j plan p == the same as Lays, and the plan has a job j
--   LaidBelow frame d from sheet sheet' p == within the limits, the second arrays are the first with the plan p below the new root, from
--                           job d and place `from` on
--   Took s form jobs actions Left == the bytes s hold a plan of that form, so many jobs and actions, of which `Left` holds
--   Taken s r Left       == the answer r is the refusal, or that this is so
use Rattle.std.specs.Prelude.{ℕ, ◌+◌, ◌≤◌, ◌<◌, ◌≡◌, true, false, List, length, T, eqb, Result, Ok, Err}
use Rattle.plan_pair.specs.declared.Laid.{Laid as Counted}
use Rattle.plan.specs.declared.sheet.Sheet.{Sheet}
use Rattle.plan.specs.declared.refusal.Refusal.{Refusal}
use Rattle.plan.specs.Refusal.{refused, accepted, number_of}
use Rattle.plan.specs.Plan.{Plan, total}
use Rattle.plan.specs.Progress.{with_jobs}
use Rattle.plan.specs.Rules.{Accepted}
use Rattle.plan.specs.Reader.{read_plan}
use Rattle.plan.specs.Sheet.{child_at, target_at, first_of, Laid}
use Rattle.plan_pair.specs.Pair.{under, in_limits}

unfoldable pub target_under : Sheet → ℕ → ℕ
target_under plan k = elim (eqb (k + 1) (first_of plan 1)) [ true ↦ 5 | false ↦ target_at plan k ]

pub record Lays (d from : ℕ) (plan : Sheet) (p : Plan) : Type 0 where
  pub rules : Accepted p
  pub count : plan.jobs ≡ length p
  pub laid : Laid plan p
  pub jobs : d + length p ≤ 256
  pub actions : from + total p ≤ 2048

pub record ActionAt (plan : Sheet) (k d at owner : ℕ) : Type 0 where
  pub place : k < 2048
  pub new : at < 2048
  pub job : owner < 256
  pub child : child_at plan k ≤ 256
  pub rise : d ≤ 256

pub record LaysJob (d from j : ℕ) (plan : Sheet) (p : Plan) : Type 0 where
  pub lays : Lays d from plan p
  pub known : j < length p

abbrev pub LaidBelow : (frame d from : ℕ) (sheet sheet' : Sheet) → Plan → Type 0
LaidBelow frame d from sheet sheet' p =
    T (in_limits frame (d + length p) (from + total p)) → sheet' ≡ with_jobs sheet from d (under d p)

pub record Took (s : List ℕ) (form jobs actions : ℕ) (Left : Plan → Type 0) : Type 0 where
  pub is : Plan
  pub read : read_plan s ≡ accepted (record { form = form; plan = is })
  pub count : jobs ≡ length is
  pub all : actions ≡ total is
  pub left : Left is

abbrev pub Taken : List ℕ → Result Counted Refusal → (Plan → Type 0) → Type 0
Taken s (Err cause) Left = read_plan s ≡ refused (number_of cause)
Taken s (Ok laid) Left = Took s laid.form laid.jobs laid.actions Left
