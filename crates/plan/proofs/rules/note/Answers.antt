-- `plan::rules::note` meets its contract. The loop's invariant: those of the places passed whose numbers are not 0 are listed.
use mathlib.Core.Path.{◌≡◌, refl}
use lib.ListN.{length}
use native.Mathlib.Omega.{arith}
use Rattle.plan.proofs.Laws.Listing.{listed_start, listed_more}
use Rattle.plan.proofs.rules.note.Goals as goal

pub loop-k-init : goal.loop-k-init
loop-k-init c = listed_start _ _ c.told-list

pub loop-k-preserved : goal.loop-k-preserved
loop-k-preserved c = listed_more _ _ _ _ c.loop-k.invariant (omega arith) _ _ refl c.from-count.ensures

pub returns : goal.returns
returns c = let e : c.loop-k.k ≡ length c.args.row.now = omega arith in rw e at c.loop-k.invariant
