-- `checker::rules::spawn_round` meets its contract: what is read leads to the place of the job's spawn (`Laws.Standing`).
use Rattle.checker.proofs.Laws.Standing.{row_within, job_small, parent_small, spawn_within, spawn_round_is}
use Rattle.checker.proofs.rules.spawn_round.Goals as goal

pub parent_of-requires : goal.parent_of-requires
parent_of-requires c =
    let (t, g) = c.requires in
    job_small _ _ t _ g

pub first_of-requires : goal.first_of-requires
first_of-requires c =
    let (t, g) = c.requires in
    parent_small _ _ t _ g _ c.parent_of.ensures.0

pub spawn_of-requires : goal.spawn_of-requires
spawn_of-requires c =
    let (t, g) = c.requires in
    job_small _ _ t _ g

pub row_of-requires : goal.row_of-requires
row_of-requires c =
    let (t, g) = c.requires in
    row_within _ _ t g.tasked _
    (spawn_within _ _ t _ g _ c.parent_of.ensures.0 _ c.first_of.ensures.0 _ c.spawn_of.ensures.0)

pub returns : goal.returns
returns c = λ t g.
    spawn_round_is _ _ t _ g _ c.parent_of.ensures.0 _ c.first_of.ensures.0 _ c.spawn_of.ensures.0
    _ c.row_of.ensures.0
