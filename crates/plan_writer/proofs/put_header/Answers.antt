-- `plan_writer::put_header` meets its contract.
use Rattle.plan_writer.proofs.Laws.Numbers.{header_field}
use Rattle.plan_writer.proofs.put_header.Goals as goal

pub returns : goal.returns
returns c =
    rw (← header_field c.args.frame c.args.size c.requires.1 c.requires.2, ← c.from.ensures) c.put.ensures
