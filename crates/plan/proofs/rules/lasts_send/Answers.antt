-- `plan::rules::lasts_send` meets its contract. The loop's invariant: the last action of every job passed but 0 sends a join.
use Prim.Native.Nat.{◌+◌, ◌-◌}
use mathlib.Core.Path.{◌≡◌, ap, sym, ◌∙◌}
use native.Mathlib.Omega.{arith}
use borrow.Author.Count.{below_more}
use Rattle.plan.specs.Sheet.{target_at, first_of}
use Rattle.plan.proofs.Laws.Spawning.{jobs_in_range}
use Rattle.plan.proofs.Laws.Joining.{last_small}
use Rattle.plan.proofs.rules.lasts_send.Goals as goal
use Rattle.plan.proofs.rules.lasts_send.Goals.{After-target_at}

pub loop-j-init : goal.loop-j-init
loop-j-init c n b g e = omega arith

pub first_of-requires : goal.first_of-requires
first_of-requires c = let x = c.requires in omega (arith, jobs_in_range x.0 x.1.laid.range, x.1.count)

pub overflow_sub-first_of : goal.overflow_sub-first_of
overflow_sub-first_of c =
    let x = c.requires in omega (arith, c.first_of.ensures.0, last_small x.0 _ x.1.laid c.loop-j.j (omega (arith, x.1.count)))

pub target_at-requires : goal.target_at-requires
target_at-requires c =
    let x = c.requires in omega (arith, c.first_of.ensures.0, last_small x.0 _ x.1.laid c.loop-j.j (omega (arith, x.1.count)))

-- what was looked up
sent : (c : After-target_at)
    → c.target_at.result ≡ target_at c.args.plan.now (first_of c.args.plan.now (c.loop-j.j + 1) - 1)
sent c =
    c.target_at.ensures.0 ∙ ap (λ n. target_at c.args.plan.now (n - 1)) c.first_of.ensures.0

pub returns-then-target_at-eq0 : goal.returns-then-target_at-eq0
returns-then-target_at-eq0 c =
    record {
      kept = λ x. absurd x;
      broken = λ _. (c.loop-j.j, c.loop-j.auto.j, c.loop-j-test.true, sym (sent (goal.at.returns-then-target_at-eq0 c).After-target_at) ∙ c.if-target_at-eq0.true);
    }

pub loop-j-preserved : goal.loop-j-preserved
loop-j-preserved c =
    below_more _ _ c.loop-j.invariant (λ _ e. c.if-target_at-eq0.false (sent (goal.at.loop-j-preserved c).After-target_at ∙ e))

pub returns : goal.returns
returns c =
    record { kept = λ _ n g b. c.loop-j.invariant n (omega arith) g; broken = λ f. absurd (f tt) }
