-- `plan_table::rows::write_row` meets its contract.
use Rattle.plan_table.proofs.rows.write_row.Goals as goal

pub returns : goal.returns
returns c =
    let j = c.job_at-j.ensures.0 in
    rw (c.cost_at.ensures.0, c.target_at.ensures.0, c.child_at.ensures.0, c.frame_of.ensures.0, j)
