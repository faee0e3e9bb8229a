-- `build::build` meets its contract: each answer by the input's length and its choice count.
use mathlib.Core.Path.{◌≡◌, ◌∙◌}
use native.Mathlib.Omega.{arith}
use Rattle.build.specs.Build.{build_of, built_of}
use Rattle.build.proofs.Laws.BuildClaim.{build_claimed}
use Rattle.build.proofs.Laws.Builds.{build_short, build_crowded, build_lacking, build_runs}
use Rattle.build.proofs.build.Goals as goal

pub returns-then-input-lt3-clause-result_value : goal.returns-then-input-lt3-clause-result_value
returns-then-input-lt3-clause-result_value c = build_short _ c.if-input-lt3.true

pub returns-then-count-gt4096-clause-result_value : goal.returns-then-count-gt4096-clause-result_value
returns-then-count-gt4096-clause-result_value c =
    build_crowded _ _ (omega (arith, c.from-count.ensures, c.from_be_bytes.ensures)) (omega arith) c.if-count-gt4096.true

pub returns-then-input-start-clause-result_value : goal.returns-then-input-start-clause-result_value
returns-then-input-start-clause-result_value c =
    build_lacking _ _ (omega (arith, c.from-count.ensures, c.from_be_bytes.ensures)) (omega arith) (omega arith) c.if-input-start.true

-- what was answered is the build's outcome, and so the claim holds of it
pub returns : goal.returns
returns c =
    let e : built_of c.build_plan.result ≡ build_of c.args.input.now =
    c.build_plan.ensures
    ∙ build_runs c.args.input.now c.from-count.result (omega (arith, c.from-count.ensures, c.from_be_bytes.ensures)) (omega arith) (omega arith) _
    c.from.ensures (omega arith) in
    record { result_value = e; claimed = build_claimed _ _ e }
