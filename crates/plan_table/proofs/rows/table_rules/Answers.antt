-- `plan_table::rows::table_rules` meets its contract. The loop's invariant: the row rules of the table are what is left to test.
use Prim.Native.Nat.{◌+◌, ◌*◌, ◌%◌}
use mathlib.Core.Bool.{true, false}
use mathlib.Core.Path.{◌≡◌, sym, ◌∙◌}
use native.Mathlib.Omega.{arith}
use lib.ListN.{length}
use lib.Dec.{eqb}
use borrow.Author.Tests.{eq-eqb, eqb-true, eqb-false}
use Rattle.plan_table.specs.GivenRows.{fits_at}
use Rattle.plan_table.proofs.Laws.RowRules.{rules_step, rules_end, rules_empty}
use Rattle.plan_table.proofs.rows.table_rules.Goals as goal

pub returns-then-is_empty : goal.returns-then-is_empty
returns-then-is_empty c =
    let t = c.args.table.now in
    sym (rules_empty (eqb (length t % 5) 0) t (eqb-true (length t) 0 (sym c.is_empty.ensures ∙ c.if-is_empty.true)))

pub returns-then-not-row_goes_on : goal.returns-then-not-row_goes_on
returns-then-not-row_goes_on c =
    let t = c.args.table.now in
    let w : fits_at t (5 * c.loop-k.k) ≡ false = sym c.row_goes_on.ensures ∙ c.if-not-row_goes_on.true in
    rw (eq-eqb (length t % 5) 0 c.if-table-ne0.false, c.loop-k.invariant, rules_step t (5 * c.loop-k.k) (omega arith), w)

pub loop-k-preserved : goal.loop-k-preserved
loop-k-preserved c =
    let t = c.args.table.now in
    let k = c.loop-k.k in
    let w : fits_at t (5 * k) ≡ true = sym c.row_goes_on.ensures ∙ c.if-not-row_goes_on.false in
    let e : 5 * (k + 1) ≡ 5 * k + 5 = omega arith in
    rw e (c.loop-k.invariant ∙ rules_step t (5 * k) (omega arith) ∙ rw w)

pub returns : goal.returns
returns c =
    let t = c.args.table.now in
    let n : length t ≡ 0 → ⊥ = eqb-false (length t) 0 (sym c.is_empty.ensures ∙ c.if-is_empty.false) in
    rw (eq-eqb (length t % 5) 0 c.if-table-ne0.false, c.loop-k.invariant, rules_end t (5 * c.loop-k.k) (omega (arith, n)) (omega arith))
