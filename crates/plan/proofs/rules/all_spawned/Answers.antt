-- `plan::rules::all_spawned` meets its contract. The loop's invariant: every job passed but 0 has a spawn noted.
use mathlib.Core.Path.{sym, ◌∙◌}
use native.Mathlib.Omega.{arith}
use borrow.Author.Count.{below_more}
use Rattle.plan.proofs.rules.all_spawned.Goals as goal

pub loop-c-init : goal.loop-c-init
loop-c-init c = (c.requires, λ n b g e. omega arith)

pub returns-then-spawn_of-eq0 : goal.returns-then-spawn_of-eq0
returns-then-spawn_of-eq0 c =
    record {
      kept = λ x. absurd x;
      broken = λ _. (c.loop-c.c, c.loop-c.auto.c, c.loop-c-test.true, sym c.spawn_of.ensures.0 ∙ c.if-spawn_of-eq0.true);
    }

pub loop-c-preserved : goal.loop-c-preserved
loop-c-preserved c = (c.requires, below_more _ _ c.loop-c.invariant.1 (λ _ e. c.if-spawn_of-eq0.false (c.spawn_of.ensures.0 ∙ e)))

pub returns : goal.returns
returns c =
    record { kept = λ _ n g b. c.loop-c.invariant.1 n (omega arith) g; broken = λ f. absurd (f tt) }
