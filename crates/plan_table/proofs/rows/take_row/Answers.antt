-- `plan_table::rows::take_row` meets its contract: a row that does not fit puts the plan out of range, and one that does is taken over.
use Prim.Native.Nat.{◌+◌, ◌*◌, ◌≤◌}
use mathlib.Core.Path.{◌≡◌, refl, ap, sym, ◌∙◌}
use mathlib.Core.Bool.{Bool, false}
use native.Mathlib.Omega.{arith}
use lib.Dec.{T}
use Rattle.plan.specs.Sheet.{first_of}
use Rattle.plan_table.specs.Table.{rows_of, plan_of}
use Rattle.plan_table.specs.GivenRows.{row_at, RowFits}
use Rattle.plan.proofs.Laws.Lists.{of_true}
use Rattle.plan.proofs.Laws.Placed.{start as place_of}
use Rattle.plan_table.proofs.Laws.RowsInRange.{table_refused}
use Rattle.plan_table.proofs.Laws.TakeRows.{row_begins, rows_more}
use Rattle.plan_table.proofs.rows.take_row.Goals as goal
use Rattle.plan_table.proofs.rows.take_row.Goals.{After-first_of, Else-k-first_of-ge255}

pub returns-then-weight-eq0 : goal.returns-then-weight-eq0
returns-then-weight-eq0 c =
    (refl, table_refused c.requires.1.kept c.args.form c.args.k c.requires.0 (λ f. omega (arith, f.some)))

-- a test that was not passed
failed : (b r : Bool) → r ≡ b → r ≡ false → T b → ⊥
failed b r e f t = rw (sym e ∙ f) at t

pub returns-then-not-cost_stands : goal.returns-then-not-cost_stands
returns-then-not-cost_stands c =
    let r = c.cost_stands in
    (refl, table_refused c.requires.1.kept c.args.form c.args.k c.requires.0 (λ f. failed _ r.result r.ensures c.if-not-cost_stands.true f.stands))

pub returns-then-number-ge256 : goal.returns-then-number-ge256
returns-then-number-ge256 c =
    (refl, table_refused c.requires.1.kept c.args.form c.args.k c.requires.0 (λ f. omega (arith, f.few)))

-- the place where the row's job begins
begins : (c : After-first_of) → let a = c.args in
    (c.first_of.result ≡ place_of (plan_of (rows_of a.table.now)) (row_at a.table.now (5 * a.k)).job) × (c.first_of.result ≤ a.k)
begins c =
    let b = row_begins c.requires.1 c.requires.0 in
    let e = ap (first_of c.args.plan.now) c.from-number.ensures in
    (omega (arith, b.0, e, c.first_of.ensures.0), omega (arith, b, e, c.first_of.ensures.0))

pub overflow_sub-k : goal.overflow_sub-k
overflow_sub-k c = (begins c).1

pub returns-then-k-first_of-ge255 : goal.returns-then-k-first_of-ge255
returns-then-k-first_of-ge255 c =
    (refl, table_refused c.requires.1.kept c.args.form c.args.k c.requires.0 (λ f. omega (arith, f.short, begins (goal.at.returns-then-k-first_of-ge255 c).After-first_of)))

-- the row fits, with what `begins` tells
fits : (c : Else-k-first_of-ge255) → let a = c.args in
    c.first_of.result ≡ place_of (plan_of (rows_of a.table.now)) (row_at a.table.now (5 * a.k)).job
    → RowFits a.form (plan_of (rows_of a.table.now)) (row_at a.table.now (5 * a.k)) a.k
fits c begins =
    let a = c.args in
    record {
      some = omega arith;
      word = omega (arith, c.type_inv.table (5 * a.k + 1));
      few = omega arith;
      short = omega (arith, begins);
      stands = of_true _ (sym c.cost_stands.ensures ∙ c.if-not-cost_stands.false);
    }

pub returns : goal.returns
returns c =
    rw (c.set_action.ensures, c.set_first.ensures, c.set_frame.ensures, c.from-number.ensures)
    (rows_more c.requires.1 c.requires.0 (fits (goal.at.returns c).Else-k-first_of-ge255 (begins (goal.at.returns c).After-first_of).0))
