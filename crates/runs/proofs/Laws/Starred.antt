-- The twelve starred cases of document 01 and the worked examples of document 02 hold of the meanings, by computing them.
use mathlib.Core.Path.{◌≡◌, refl}
use mathlib.Core.Bool.{true}
use Rattle.plan.specs.Test.{all}
use Rattle.plan.specs.Plan.{entering}
use Rattle.plan_measure.specs.Measure.{work}
use Rattle.runs.specs.Setting.{count_in}
use Rattle.runs.specs.Cases.{passes, starred, worked, costed}

pub starred_cases : all passes starred ≡ true
unfolding starred passes entering count_in work
starred_cases = refl

pub worked_examples : all passes worked ≡ true
unfolding worked passes entering count_in work
worked_examples = refl

pub costed_examples : all passes costed ≡ true
unfolding costed passes entering count_in work
costed_examples = refl
