-- `fields::field::put` meets its contract.
use native.Mathlib.Omega.{arith}
use Rattle.fields.proofs.Laws.Sink.{put_loose, put_written}
use Rattle.fields.proofs.field.put.Goals as goal

pub overflow_mul-held : goal.overflow_mul-held
overflow_mul-held c =
    omega (arith, (put_loose c.args.out.now c.args.sink c.args.value c.args.width c.power.result c.requires.sound c.requires.width_bound c.power.ensures).small)

pub overflow_add-held : goal.overflow_add-held
overflow_add-held c =
    omega (arith, (put_loose c.args.out.now c.args.sink c.args.value c.args.width c.power.result c.requires.sound c.requires.width_bound c.power.ensures).small)

pub flush-requires : goal.flush-requires
flush-requires c =
    put_loose c.args.out.now c.args.sink c.args.value c.args.width c.power.result c.requires.sound c.requires.width_bound c.power.ensures

pub returns : goal.returns
returns c =
    put_written c.args.out.now c.args.sink c.args.value c.args.width c.power.result c.requires.sound c.requires.width_bound c.power.ensures _ _ c.flush.ensures
