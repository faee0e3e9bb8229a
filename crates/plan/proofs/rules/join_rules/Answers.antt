-- `plan::rules::join_rules` meets its contract, by what the two loops tell (`Laws.Joining`).
use mathlib.Core.Path.{sym}
use Rattle.plan.specs.Rules.{join_rules}
use Rattle.plan.proofs.Laws.Lists.{false_of}
use Rattle.plan.proofs.Laws.Counts.{passed, not_passed}
use Rattle.plan.proofs.Laws.Joining.{joins_from, lasts_broken, lasts_kept, joins_told}
use Rattle.plan.proofs.rules.join_rules.Goals as goal

pub lasts_send-requires : goal.lasts_send-requires
lasts_send-requires c = let x = c.requires.0 in (x.0, record { count = x.1.count; laid = x.1.parented.laid })

pub returns-else-lasts_send : goal.returns-else-lasts_send
returns-else-lasts_send c = λ p g. rw c.if-lasts_send.false (
  sym
      (false_of (join_rules p)
      (lasts_broken p _ g.count g.parented _ c.lasts_send.ensures (not_passed c.lasts_send.result c.if-lasts_send.false))),
  λ x. absurd x,
)

pub joins_kept-requires : goal.joins_kept-requires
joins_kept-requires c = let x = c.requires in (x.0.0, joins_from _ _ x.0.0 x.0.1 x.1)

pub returns-then-lasts_send : goal.returns-then-lasts_send
returns-then-lasts_send c = λ p g.
    let k = c.lasts_send in
    joins_told p _ g.parented.laid.range (lasts_kept p _ g.count g.parented _ k.ensures (passed k.result c.if-lasts_send.true)) _
    (c.joins_kept.ensures p (joins_from _ _ p g c.requires.1))
