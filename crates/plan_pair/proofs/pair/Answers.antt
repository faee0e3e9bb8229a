-- `plan_pair::pair` meets its contract: each answer by what reading both plans, the limits and the writer tell.
use Prim.Native.Nat.{ℕ, ◌+◌}
use mathlib.Core.List.{List}
use Rattle.plan.specs.declared.sheet.Sheet.{Sheet}
use Rattle.plan.specs.Plan.{Plan}
use mathlib.Core.Path.{◌≡◌, sym, ◌∙◌}
use mathlib.Core.Bool.{true}
use native.Mathlib.Omega.{arith}
use Rattle.std.proofs.lemmas.Result.{err_from_is_err_and}
use Rattle.plan.specs.Sheet.{with_counts, RuledIn}
use Rattle.plan.proofs.Laws.Lists.{of_true}
use Rattle.plan.specs.Progress.{with_job}
use Rattle.plan_pair.specs.Pair.{paired, new_root, pair_fits, in_limits}
use Rattle.plan_pair.specs.Given.{Took}
use Rattle.plan_pair.proofs.Laws.Limits.{fits_limits, limits_told}
use Rattle.plan_pair.proofs.Laws.Taking.{took_kept, took_few, both_laid}
use Rattle.plan_pair.proofs.Laws.Answers.{first_down, second_down, limits_down, pair_written, pair_result}
use Rattle.plan_pair.proofs.pair.Goals as goal
use Rattle.plan_pair.proofs.pair.Goals.{Else-not-within}

pub overflow_add-one : goal.overflow_add-one
overflow_add-one c = omega (arith, took_few c.in_ok-one.ensures)

pub overflow_add-one-2 : goal.overflow_add-one-2
overflow_add-one-2 c = omega (arith, took_few c.in_ok-one.ensures)

pub lay-requires-2 : goal.lay-requires-2
lay-requires-2 c = omega (arith, took_few c.in_ok-one.ensures)

pub overflow_add-jobs : goal.overflow_add-jobs
overflow_add-jobs c = omega (arith, took_few c.in_ok-one.ensures)

pub overflow_add-jobs-2 : goal.overflow_add-jobs-2
overflow_add-jobs-2 c = omega (arith, took_few c.in_ok-one.ensures, took_few c.in_ok-two.ensures)

pub overflow_add-actions : goal.overflow_add-actions
overflow_add-actions c = omega (arith, took_few c.in_ok-one.ensures)

pub overflow_add-actions-2 : goal.overflow_add-actions-2
overflow_add-actions-2 c = omega (arith, took_few c.in_ok-one.ensures, took_few c.in_ok-two.ensures)

pub returns-in_err-one-clause-bytes_after : goal.returns-in_err-one-clause-bytes_after
returns-in_err-one-clause-bytes_after c =
    let p = err_from_is_err_and c.from_residual.result c.from_residual.ensures.1 in
    rw (p.1, p.2) (first_down _ _ _ _ _ c.in_err-one.ensures)

pub returns-in_err-two-clause-bytes_after : goal.returns-in_err-two-clause-bytes_after
returns-in_err-two-clause-bytes_after c =
    let p = err_from_is_err_and c.from_residual-in_err-two.result c.from_residual-in_err-two.ensures.1 in
    rw (p.1, p.2) (second_down _ _ _ _ _ c.in_ok-one.ensures.read _ c.in_err-two.ensures)

-- the limits, of the result
fits : {s t : List ℕ} {f g j k n m : ℕ} {L M : Plan → Type 0} (frame : ℕ) (a : Took s f j n L) (b : Took t g k m M)
    → in_limits frame (1 + j + k) (5 + n + m) ≡ pair_fits frame (paired frame a.is b.is)
fits frame a b = fits_limits frame a.is b.is _ _ (omega (arith, a.count, b.count)) (omega (arith, a.all, b.all))

pub returns-then-not-within-clause-bytes_after : goal.returns-then-not-within-clause-bytes_after
returns-then-not-within-clause-bytes_after c =
    let a = c.in_ok-one.ensures in
    let b = c.in_ok-two.ensures in
    limits_down _ _ _ _ _ a.read _ b.read (sym (c.within.ensures ∙ fits _ a b) ∙ c.if-not-within.true)

-- within the limits
passes : (c : Else-not-within) → pair_fits c.args.frame (paired c.args.frame c.in_ok-one.ensures.is c.in_ok-two.ensures.is) ≡ true
passes c = sym (c.within.ensures ∙ fits _ c.in_ok-one.ensures c.in_ok-two.ensures) ∙ c.if-not-within.false

pub overflow_cast-frame : goal.overflow_cast-frame
overflow_cast-frame c = omega (arith, limits_told _ _ _ (of_true _ (sym c.within.ensures ∙ c.if-not-within.false)))

pub lay_root-requires : goal.lay_root-requires
lay_root-requires c = omega (arith, took_few c.in_ok-one.ensures)

-- the array has the result
laid : (c : Else-not-within) (sheet : Sheet) → sheet ≡ with_job c.lay-2.new.sheet 0 0 (new_root c.args.frame c.in_ok-one.one.jobs)
    → (form : ℕ)
    → let one = c.in_ok-one.one in
    let two = c.in_ok-two.two in
    RuledIn (with_counts sheet form (1 + one.jobs + two.jobs) (5 + one.actions + two.actions))
    (paired c.args.frame c.in_ok-one.ensures.is c.in_ok-two.ensures.is)
laid c sheet root form =
    let a = c.in_ok-one.ensures in
    let b = c.in_ok-two.ensures in
    both_laid _ a.is b.is _ _ _ _ c.blank-sheet.ensures (took_kept a) (took_kept b) (of_true _ (passes c)) _ _ _ _ a.count a.all b.count b.all a.left b.left root form

pub encode-requires : goal.encode-requires
encode-requires c =
    (rw c.set_counts.ensures (_, laid (goal.at.encode-requires c).Else-not-within _ c.lay_root.ensures _), rw c.set_counts.ensures c.form_of.ensures.1)

pub returns : goal.returns
returns c =
    let a = c.in_ok-one.ensures in
    let b = c.in_ok-two.ensures in
    let l = (goal.at.returns c).Else-not-within in
    let w = rw (c.set_counts.ensures, c.form_of.ensures.0) at (c.encode.ensures (paired c.args.frame a.is b.is) (rw c.set_counts.ensures (laid l _ c.lay_root.ensures _))) in
    let p = passes l in
    record {
      bytes_after = w ∙ pair_written _ _ _ _ _ a.read _ b.read p;
      paired = pair_result _ _ _ _ _ a.read _ b.read (of_true _ p) _ _ w;
    }
