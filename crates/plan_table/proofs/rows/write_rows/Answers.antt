-- `plan_table::rows::write_rows` meets its contract. The loop's invariant: the first k rows of the plan's table are written, and what is
-- behind them is as it was.
use Prim.Native.Nat.{◌+◌, ◌*◌}
use mathlib.Core.Path.{◌≡◌}
use native.Mathlib.Omega.{arith}
use lib.ListN.{length-set}
use lib.Seq.{take_all}
use Rattle.plan_table.specs.Table.{table_of}
use Rattle.plan.proofs.Laws.Spawning.{total_in_range}
use Rattle.plan_table.proofs.Laws.Rows.{row_given, table_length, written_row}
use Rattle.plan_table.proofs.rows.write_rows.Goals as goal

pub write_row-requires : goal.write_row-requires
write_row-requires c =
    let g = c.requires.0.1 in
    let r = row_given c.requires.0.0 c.args.plan.now g c.loop-k.k c.loop-k-test.true in
    (omega (arith, g.all, total_in_range c.requires.0.0 g.laid.range), r.0, omega (arith, c.requires.1, c.loop-k.invariant.0))

pub loop-k-preserved : goal.loop-k-preserved
loop-k-preserved c =
    let a = c.args in
    let k = c.loop-k.k in
    let e : 5 * (k + 1) ≡ 5 * k + 5 = omega arith in (
      rw c.write_row.ensures (simp length-set c.loop-k.invariant.0),
      λ p g.
          rw (e, c.write_row.ensures)
          (written_row (table_of p) a.rows.now c.loop-k.rows (5 * k) _ (omega (arith, table_length p, g.all)) (omega (arith, c.requires.1))
          (row_given p a.plan.now g k (omega arith)).1 (c.loop-k.invariant.1 p g)),
    )

pub returns : goal.returns
returns c p g =
    let n = c.args.plan.now.actions in
    let e : 5 * c.loop-k.k ≡ 5 * n = omega arith in
    rw (c.loop-k.invariant.1 p g, e, take_all (5 * n) (table_of p) (omega (arith, table_length p, g.all)))
