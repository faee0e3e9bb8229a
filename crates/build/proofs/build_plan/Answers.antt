-- `build::build_plan` meets its contract: each answer by what reading the bytes tells.
use Rattle.std.proofs.lemmas.Result.{err_from_is_err_and}
use Rattle.build.proofs.Laws.Builds.{read_builds, ran_refused, ran_read}
use Rattle.build.proofs.build_plan.Goals as goal

pub returns-in_err-read_into : goal.returns-in_err-read_into
returns-in_err-read_into c =
    let p = err_from_is_err_and c.from_residual.result c.from_residual.ensures.1 in
    rw (p.1, p.2) (ran_refused _ _ _ _ c.in_err-read_into.ensures)

pub build_read-requires : goal.build_read-requires
build_read-requires c =
    let g = c.in_ok-read_into.ensures in
    (g.is, read_builds g)

pub returns : goal.returns
returns c =
    let g = c.in_ok-read_into.ensures in
    ran_read _ _ _ _ _ g.read (c.build_read.ensures g.is (read_builds g))
