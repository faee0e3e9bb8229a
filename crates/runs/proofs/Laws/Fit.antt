-- A setting that is let through, and the number of workers in a round.
--   Fit S == its plan is accepted, and there are 1 to 16 workers; nothing is asked of the choices
--   count_some, count_most, count_within == in a round there are 1 to 16 workers, and no more than the setting has
--   count_is, count_next                 == the same number in every round; a law uses that by citing these, or by unfolding `count_in`
use Prim.Native.Nat.{ℕ, suc, ◌≤◌}
use mathlib.Core.Path.{◌≡◌, refl, sym, ◌∙◌}
use native.Mathlib.Nat.{le_refl}
use Rattle.plan.specs.Rules.{Accepted}
use Rattle.runs.specs.Setting.{Setting, count_in}

pub record Fit (S : Setting) : Type 0 where
  pub plan : Accepted S.plan
  pub some : 1 ≤ S.workers
  pub most : S.workers ≤ 16

pub count_some : {S : Setting} → Fit S → (r : ℕ) → 1 ≤ count_in S r
unfolding count_in
count_some fit r = fit.some

pub count_most : {S : Setting} → Fit S → (r : ℕ) → count_in S r ≤ 16
unfolding count_in
count_most fit r = fit.most

pub count_within : (S : Setting) (r : ℕ) → count_in S r ≤ S.workers
unfolding count_in
count_within S r = le_refl S.workers

pub count_is : (S : Setting) (r : ℕ) → count_in S r ≡ S.workers
unfolding count_in
count_is S r = refl

pub count_next : (S : Setting) (r : ℕ) → count_in S (suc r) ≡ count_in S r
count_next S r = count_is S (suc r) ∙ sym (count_is S r)
