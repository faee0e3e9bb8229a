-- `reader::read_actions` meets its contract. The loop's invariant: the actions l are read and written, and what `actions_at` gives
-- is l and then what it gives of the rest.
use Prim.Native.Nat.{ℕ, suc, ◌+◌, ◌-◌, ◌<◌}
use native.Mathlib.Nat.{add-zero, sub-zero}
use native.Mathlib.Numerals.{add-one}
use native.Mathlib.Omega.{arith}
use mathlib.Core.Path.{◌≡◌, refl, sym, ◌∙◌}
use mathlib.Core.List.{List, [], ◌∷◌, ◌++◌, append-nil}
use lib.ListN.{length, length-append}
use Rattle.std.specs.Prelude.{Ok}
use Rattle.std.proofs.lemmas.Result.{err_from_is_err_and}
use Rattle.plan.specs.declared.sheet.Sheet.{Sheet}
use Rattle.plan.specs.Plan.{Action}
use Rattle.fields.specs.Field.{Step, stop, step}
use Rattle.plan.specs.Reader.{action_at, actions_at}
use Rattle.plan.specs.Action.{ActionRead}
use Rattle.plan.proofs.Laws.Steps.{after, action_next, actions_more, actions_out}
use Rattle.plan.proofs.Laws.Sheets.{actions_one_more}
use Rattle.plan.proofs.reader.read_actions.Goals as goal
use Rattle.plan.proofs.reader.read_actions.Invariants.{Begun}

begin : (form : ℕ) (s : List ℕ) (at j from count : ℕ) (plan : Sheet) → Begun form s at j from count plan plan at from
begin form s at j from count plan =
    record {
      l = [];
      rest = rw sub-zero (go (actions_at form s count at));
      here = sym (add-zero from);
      few = omega arith;
      near = omega arith;
      written = refl;
    }
  where
    go : (x : Step (List Action)) → x ≡ after [] x
    go (stop n) = refl
    go (step l n) = refl

module _ (form : ℕ) (s : List ℕ) (at j from count : ℕ) (plan₀ plan : Sheet) (place k : ℕ) (h : Begun form s at j from count plan₀ plan place k) (t : k < from + count) where
  left : count - length h.l ≡ suc (count - suc (length h.l))
  left = omega (arith, h.here)

  stopped : (n : ℕ) → action_at form s place ≡ stop n → actions_at form s count at ≡ stop n
  stopped n e = h.rest ∙ rw left (actions_out form s h.l (count - suc (length h.l)) place n e)

  went_on : (plan' : Sheet) (next : ℕ) → ActionRead form s place j k plan plan' (Ok next) → Begun form s at j from count plan₀ plan' next (suc k)
  went_on plan' next (x, e, w) =
      let n : length (h.l ++ (x ∷ [])) ≡ suc (length h.l) = omega (arith, length-append h.l (x ∷ [])) in
      record {
        l = h.l ++ (x ∷ []);
        rest = h.rest ∙ rw (left, n) (actions_more form s h.l x (count - suc (length h.l)) place next e);
        here = omega (arith, h.here);
        few = omega (arith, h.here);
        near = omega (arith, h.near, action_next form s place x next e);
        written = w ∙ rw (h.here, h.written) (sym (actions_one_more plan₀ from j h.l x));
      }

pub loop-k-init : goal.loop-k-init
loop-k-init c = begin _ _ _ _ _ _ _

pub read_action-requires : goal.read_action-requires
read_action-requires c =
    let h = c.loop-k.invariant in
    let p = c.requires in
    (omega (arith, h.near, h.here, p.0, c.loop-k-test.true), p.1, omega (arith, p.2, c.loop-k-test.true))

pub returns-in_err-place : goal.returns-in_err-place
returns-in_err-place c =
    let p = err_from_is_err_and c.from_residual.result c.from_residual.ensures.1 in
    rw (p.1, p.2) (stopped _ _ _ _ _ _ _ _ _ _ c.loop-k.invariant c.loop-k-test.true _ c.in_err-place.ensures)

pub loop-k-preserved : goal.loop-k-preserved
loop-k-preserved c =
    rw add-one (went_on _ _ _ _ _ _ _ _ _ _ c.loop-k.invariant c.loop-k-test.true _ _ c.in_ok-place.ensures)

pub returns : goal.returns
unfolding actions_at
returns c =
    let h = c.loop-k.invariant in
    let n : c.args.count - length h.l ≡ 0 = omega (arith, h.here, h.few, c.loop-k-test.false) in
    (h.l, h.rest ∙ rw (n, append-nil), h.written)
