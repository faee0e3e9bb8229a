-- `reader::read_job` meets its contract: a header and its actions are a job, as `one_job_at` reads it.
use Prim.Native.Nat.{ℕ, ◌+◌, ◌≤◌}
use native.Mathlib.Omega.{arith}
use mathlib.Core.Path.{◌≡◌, ap, sym, ◌∙◌}
use mathlib.Core.List.{List}
use lib.ListN.{length}
use Rattle.plan.specs.Sheet.{with_frame, with_first}
use Rattle.std.specs.Prelude.{Ok}
use Rattle.std.proofs.lemmas.Result.{err_from_is_err_and}
use Rattle.plan.specs.declared.sheet.Sheet.{Sheet}
use Rattle.plan.specs.Plan.{Action}
use Rattle.fields.specs.Field.{stop, step}
use Rattle.plan.specs.Reader.{actions_at}
use Rattle.plan.specs.Progress.{with_actions, header_at, one_job_at, JobRead}
use Rattle.plan.proofs.Laws.Steps.{header_next, actions_next}
use Rattle.plan.proofs.reader.read_job.Goals as goal
use Rattle.plan.proofs.reader.read_job.Goals.{In_ok-header}

module _ (form : ℕ) (s : List ℕ) (k at weight size m : ℕ) (h : header_at s k at ≡ step (record { weight = weight; size = size }) m) where
  room : (size ≤ 255) × (k + size ≤ 2048) × (m ≡ at + 24)
  room = let r = header_next form s k at (record { weight = weight; size = size }) m h in (r.3, r.4, r.5)

  no_actions : (n : ℕ) → actions_at form s size m ≡ stop n → one_job_at form s k at ≡ stop n
  unfolding one_job_at
  no_actions n e = rw (h, e)

  read : (j n : ℕ) (l : List Action) (plan plan' plan'' last : Sheet) → plan' ≡ with_frame plan j weight → actions_at form s size m ≡ step l n
      → plan'' ≡ with_actions plan' k j l → last ≡ with_first plan'' (j + 1) (k + size)
      → JobRead form s at j k plan last (Ok (record { size = k + size; next = n }))
  unfolding one_job_at
  read j n l plan plan' plan'' last d e w f =
      let z : length l ≡ size = (actions_next form s size m l n e).0 in
      (record { frame = weight; actions = l }, rw (h, e), ap (λ n. k + n) (sym z), f ∙ rw (w, d, z))

roomy :
    (c : In_ok-header) → let h = c.in_ok-header.header in
    (h.size ≤ 255) × (c.args.earlier + h.size ≤ 2048) × (h.next ≡ c.args.at + 24)
roomy c = room c.args.form _ _ _ _ _ _ c.in_ok-header.ensures.1

pub returns-in_err-header : goal.returns-in_err-header
unfolding one_job_at
returns-in_err-header c =
    let p = err_from_is_err_and c.from_residual.result c.from_residual.ensures.1 in rw (p.1, p.2, c.in_err-header.ensures)

pub read_actions-requires : goal.read_actions-requires
read_actions-requires c =
    let p = c.requires in
    let r = roomy (goal.at.read_actions-requires c).In_ok-header in
    (omega (arith, r, p.0), p.1, r.1)

pub returns-in_err-next : goal.returns-in_err-next
returns-in_err-next c =
    let p = err_from_is_err_and c.from_residual-in_err-next.result c.from_residual-in_err-next.ensures.1 in
    rw (p.1, p.2) (no_actions _ _ _ _ _ _ _ c.in_ok-header.ensures.1 _ c.in_err-next.ensures)

pub overflow_add-size : goal.overflow_add-size
overflow_add-size c = omega (arith, roomy (goal.at.overflow_add-size c).In_ok-header)

pub set_first-requires : goal.set_first-requires
set_first-requires c =
    (omega (arith, c.requires), omega (arith, roomy (goal.at.set_first-requires c).In_ok-header))

pub returns : goal.returns
returns c =
    let e = c.in_ok-next.ensures in
    let h = c.in_ok-header.ensures in
    let a = c.args in
    read _ _ _ _ _ _ _ h.1 a.j _ e.0 a.plan.now _ _ _ h.2 e.1 e.2 c.set_first.ensures
