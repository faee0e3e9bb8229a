-- `plan_forms::to_form_2` meets its contract: each answer by what reading and the writer tell.
use mathlib.Core.Path.{◌∙◌}
use native.Mathlib.Omega.{arith}
use Rattle.std.proofs.lemmas.Result.{err_from_is_err_and}
use Rattle.plan.specs.Rules.{costs_fit}
use Rattle.plan.proofs.Laws.Found.{ruled_in}
use Rattle.plan_forms.proofs.Laws.Turned.{turns_down, turned, converted}
use Rattle.plan_forms.proofs.to_form_2.Goals as goal

-- `in_ok-read_as.ensures` is what was read
pub encode-requires : goal.encode-requires
encode-requires c = let r = c.in_ok-read_as.ensures in ((r.is, ruled_in r.held), omega arith)

pub returns-in_err-read_as-clause-bytes_after : goal.returns-in_err-read_as-clause-bytes_after
returns-in_err-read_as-clause-bytes_after c =
    let p = err_from_is_err_and c.from_residual.result c.from_residual.ensures.1 in
    rw (p.1, p.2) (turns_down _ _ _ c.in_err-read_as.ensures)

pub returns : goal.returns
unfolding costs_fit
returns c =
    let r = c.in_ok-read_as.ensures in
    let e = c.encode.ensures r.is (ruled_in r.held) in
    record {
      bytes_after = e ∙ turned _ _ _ r.told;
      converted = converted _ _ _ r.is r.read tt tt _ _ _ e;
    }
