-- `forms::new_back` meets its contract: the bytes lie within what was lent, and hold the plan in the other form.
use native.Mathlib.Omega.{arith}
use lib.ListN.{length}
use Rattle.std.proofs.lemmas.Result.{err_from_is_err_and}
use Rattle.own.proofs.Laws.RoundTrip.{refused_back}
use Rattle.own.proofs.Laws.Forms.{new_room, new_back_lem}
use Rattle.own.proofs.forms.new_back.Goals as goal

pub slice_bounds-to_form_2-end : goal.slice_bounds-to_form_2-end
slice_bounds-to_form_2-end c = omega (arith, new_room _ _ _ _ _ c.in_ok-n.was c.to_form_1.ensures.bytes_after)

pub returns-in_err-n : goal.returns-in_err-n
returns-in_err-n c =
    let p = err_from_is_err_and c.from_residual.result c.from_residual.ensures.1 in
    let r = refused_back _ _ _ c.to_form_1.ensures.bytes_after _ c.in_err-n.was c.args.plan.now (length c.args.plan.now) c.args.out.now in
    record { out_after = rw (p.1, p.2) r.0; bytes_after = r.1 }

pub returns : goal.returns
returns c =
    let r = new_back_lem _ _ _ _ _ c.in_ok-n.was c.to_form_1.ensures.bytes_after (λ i. omega (arith, c.type_inv.plan i))
    _ _ c.to_form_2.ensures.bytes_after in
    record { out_after = r.0; bytes_after = r.1 }
