-- `plan_forms::to_form_1` meets its contract: each answer by what reading, the costs and the writer tell.
use mathlib.Core.Path.{◌≡◌, sym, ◌∙◌}
use mathlib.Core.Bool.{true}
use native.Mathlib.Omega.{arith}
use Rattle.std.proofs.lemmas.Result.{err_from_is_err_and}
use Rattle.plan.specs.Rules.{costs_fit}
use Rattle.plan.proofs.Laws.Lists.{of_true}
use Rattle.plan.proofs.Laws.Found.{ruled_in}
use Rattle.plan_forms.proofs.Laws.Turned.{turns_back_down, costs_down, turned_back, converted}
use Rattle.plan_forms.proofs.to_form_1.Goals as goal

-- `in_ok-read_as.ensures` is what was read
pub costs_one-requires : goal.costs_one-requires
costs_one-requires c = let r = c.in_ok-read_as.ensures in (r.is, r.held)

pub returns-then-not-costs_one-clause-bytes_after : goal.returns-then-not-costs_one-clause-bytes_after
returns-then-not-costs_one-clause-bytes_after c =
    let r = c.in_ok-read_as.ensures in
    costs_down _ _ _ r.told (sym (c.costs_one.ensures r.is r.held) ∙ c.if-not-costs_one.true)

pub encode-requires : goal.encode-requires
encode-requires c = let r = c.in_ok-read_as.ensures in ((r.is, ruled_in r.held), omega arith)

pub returns-in_err-read_as-clause-bytes_after : goal.returns-in_err-read_as-clause-bytes_after
returns-in_err-read_as-clause-bytes_after c =
    let p = err_from_is_err_and c.from_residual.result c.from_residual.ensures.1 in
    rw (p.1, p.2) (turns_back_down _ _ _ c.in_err-read_as.ensures)

pub returns : goal.returns
returns c =
    let r = c.in_ok-read_as.ensures in
    let plain : costs_fit 1 r.is ≡ true = sym (c.costs_one.ensures r.is r.held) ∙ c.if-not-costs_one.false in
    let e = c.encode.ensures r.is (ruled_in r.held) in
    record {
      bytes_after = e ∙ turned_back _ _ _ r.told plain;
      converted = converted _ _ _ r.is r.read tt (of_true _ plain) _ _ _ e;
    }
