-- `plan_pair::lay` meets its contract: by what was read, and whether it is within the limits.
use mathlib.Core.Path.{sym, ◌∙◌}
use native.Mathlib.Omega.{arith}
use Rattle.plan_pair.proofs.Laws.Taking.{took_by, read_few, lays_by}
use Rattle.plan_pair.proofs.lay.Goals as goal

pub overflow_add-d : goal.overflow_add-d
overflow_add-d c = omega (arith, read_few c.in_ok-read_into.ensures)

pub overflow_add-from : goal.overflow_add-from
overflow_add-from c = omega (arith, read_few c.in_ok-read_into.ensures)

pub lay_jobs-requires : goal.lay_jobs-requires
lay_jobs-requires c =
    let r = c.in_ok-read_into.ensures in
    (r.is, lays_by r _ _ _ (sym c.within.ensures ∙ c.if-within.true))

pub returns-then-within : goal.returns-then-within
returns-then-within c =
    let r = c.in_ok-read_into.ensures in
    let lays = lays_by r _ _ _ (sym c.within.ensures ∙ c.if-within.true) in
    took_by r (λ _. c.lay_jobs.ensures r.is lays)
