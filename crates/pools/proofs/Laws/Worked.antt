-- The worked examples hold of the meanings, by computing them.
use mathlib.Core.Path.{◌≡◌, refl}
use mathlib.Core.Bool.{true}
use Rattle.plan.specs.Test.{all}
use Rattle.plan.specs.Plan.{entering}
use Rattle.plan_measure.specs.Measure.{work}
use Rattle.pools.specs.Cases.{passes, pool_cases, slower_cases, meets, deadline_cases}

pub worked_examples : all passes pool_cases ≡ true
unfolding pool_cases passes entering work
worked_examples = refl

pub worked_deadlines : all meets deadline_cases ≡ true
unfolding deadline_cases meets entering work
worked_deadlines = refl

pub worked_slower : all passes slower_cases ≡ true
unfolding slower_cases passes entering work
worked_slower = refl
