-- `write::write_schedule` meets its contract.
use Prim.Native.Nat.{◌≤◌}
use lib.ListN.{length}
use Rattle.scheduler.proofs.Laws.Writing.{header_room, headed_long, rows_room, both_written}
use Rattle.scheduler.proofs.write.write_schedule.Goals as goal
use Rattle.scheduler.proofs.write.write_schedule.Goals.{After-write_header}

pub write_header-requires : goal.write_header-requires
write_header-requires c =
    let (form, n, k, long, words) = c.requires in
    (form, n, k, header_room c.args.form c.args.n c.args.actions c.args.schedule.now long)

-- the header was written
long : (c : After-write_header) → 4 ≤ length c.write_header.new.schedule
long c =
    headed_long c.args.form c.args.n c.args.actions c.args.schedule.now c.requires.3
    c.write_header.new.schedule c.write_header.ensures

pub write_rows-requires : goal.write_rows-requires
write_rows-requires c =
    let a = c.args in (
      c.requires.2,
      rows_room a.form a.n a.actions a.schedule.now c.requires.3 c.write_header.new.schedule c.write_header.ensures,
      c.requires.4,
    )

pub returns : goal.returns
returns c =
    let a = c.args in
    both_written a.form a.n a.actions a.schedule.now c.requires.3 c.write_header.new.schedule
    c.write_header.ensures _ _ c.write_rows.ensures
