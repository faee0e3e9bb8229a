-- `plan::rules::spawn_rules` meets its contract, by what the two loops tell (`Laws.Recording`).
use native.Mathlib.Omega.{arith}
use mathlib.Core.Path.{sym}
use Rattle.plan.specs.Rules.{spawn_rules}
use Rattle.plan.proofs.Laws.Lists.{false_of}
use Rattle.plan.proofs.Laws.Counts.{passed, not_passed}
use Rattle.plan.proofs.Laws.Spawning.{jobs_in_range}
use Rattle.plan.proofs.Laws.Recording.{spawns_told}
use Rattle.plan.proofs.rules.spawn_rules.Goals as goal

pub returns-else-spawns_kept : goal.returns-else-spawns_kept
returns-else-spawns_kept c = record {
  same_form = c.spawns_kept.ensures.same_form;
  same_counts = c.spawns_kept.ensures.same_counts;
  told = λ p g.
      let k = c.spawns_kept in
      rw c.if-spawns_kept.false (sym (false_of (spawn_rules p) ((k.ensures.told p g).broken (not_passed k.result c.if-spawns_kept.false))), λ x. absurd x);
}

pub all_spawned-requires : goal.all_spawned-requires
all_spawned-requires c =
    let x = c.requires in
    let k = c.spawns_kept in
    let r = (k.ensures.told x.0 x.1).kept (passed k.result c.if-spawns_kept.true) in
    omega (arith, r.jobs, jobs_in_range x.0 x.1.laid.range)

pub returns-then-spawns_kept : goal.returns-then-spawns_kept
returns-then-spawns_kept c = record {
  same_form = c.spawns_kept.ensures.same_form;
  same_counts = c.spawns_kept.ensures.same_counts;
  told = λ p g.
      let k = c.spawns_kept in
      spawns_told p _ ((k.ensures.told p g).kept (passed k.result c.if-spawns_kept.true)) _ c.all_spawned.ensures;
}
