-- The calendar with one worker noted in it.
--   noted_here == the worker comes into the set of the round in which its action ends
--   marks_none == the marks of an empty calendar; marks_here == those with that round marked
use Prim.Native.Nat.{ℕ, ◌+◌, ◌%◌, ◌≤◌, ◌<◌}
use mathlib.Core.Path.{◌≡◌, refl, ap, sym, ◌∙◌}
use mathlib.Core.Logic.{◌≢◌, by_cases}
use mathlib.Core.Bool.{true, true≢false, not}
use mathlib.Core.List.{List}
use native.Mathlib.Omega.{arith}
use native.Mathlib.Decide.{ℕ_discrete}
use borrow.Author.Tests.{eq-eqb, ne_eqb}
use lib.Dec.{eqb}
use lib.Pow.{pow_pos}
use lib.ListN.{length, get_or, set, replicate, length-set}
use lib.Seq.{get_or-set_same, get_or-set_other}
use Rattle.plan.specs.Test.{either}
use Rattle.plan.proofs.Laws.Lists.{zeros_at}
use Rattle.crew.specs.Crew.{member, whether, Marked}
use Rattle.crew.proofs.Laws.Members.{member_none}
use Rattle.pool_runner.specs.Rounds.{Noted, Marks}

module _ (round cost w : ℕ) (ends : List ℕ) (long : length ends ≡ 16) (some : cost ≢ 0) {at : ℕ} (is : at ≡ (round + cost) % 16) {x : ℕ}
    (m : Marked w true (get_or ends at 0) x) where
  low : at < length ends
  low = omega arith

  same : get_or (set ends at x) at 0 ≡ x
  same = get_or-set_same ends at x 0 low

  apart : (c : ℕ) → c ≢ at → get_or (set ends at x) c 0 ≡ get_or ends c 0
  apart c f = get_or-set_other ends at c x 0 f

  pub noted_here : Noted round cost w ends (set ends at x)
  noted_here = record {
    long = length-set ends at x ∙ long;
    small = λ k h all c. by_cases (ℕ_discrete c at) (λ e. rw (e, same) (m.small k h (all at))) (λ f. rw (apart c f) (all c));
    others = λ c u f. by_cases (ℕ_discrete c at)
        (λ e. rw e (ap (λ y. member y u) same ∙ m.each u ∙ ap (λ t. whether t true (member (get_or ends at 0) u)) (ne_eqb u w f)))
        (λ e. ap (λ y. member y u) (apart c e));
    none = λ z. absurd (some z);
    here = λ h c b. by_cases (ℕ_discrete c at)
        (λ e. rw e (ap (λ y. member y w) same ∙ m.each w ∙ ap (λ t. whether t true (member (get_or ends at 0) w)) (eq-eqb w w refl)
        ∙ sym (ap (λ t. either t (member (get_or ends at 0) w)) (eq-eqb at ((round + cost) % 16) is))))
        (λ e. ap (λ y. member y w) (apart c e)
        ∙ sym (ap (λ t. either t (member (get_or ends c 0) w)) (ne_eqb c ((round + cost) % 16) (λ z. e (z ∙ sym is)))));
  }

  -- the set of that round is not empty
  filled : x ≢ 0
  filled e =
      true≢false (sym (m.each w ∙ ap (λ t. whether t true (member (get_or ends at 0) w)) (eq-eqb w w refl)) ∙ ap (λ y. member y w) e ∙ member_none w)

  pub marks_here : {marks marks' : ℕ} → cost ≤ 15 → Marked cost true marks marks' → Marks round marks ends → Marks round marks' (set ends at x)
  marks_here {marks} {marks'} few k s = record {
    small = k.small 16 (omega arith) s.small;
    here = k.each 0 ∙ ap (λ t. whether t true (member marks 0)) (ne_eqb 0 cost (λ e. some (sym e))) ∙ s.here;
    each = λ d b. by_cases (ℕ_discrete d cost)
        (λ e. k.each d ∙ ap (λ t. whether t true (member marks d)) (eq-eqb d cost e)
        ∙ sym (ap (λ c. not (eqb (get_or (set ends at x) c 0) 0)) (ap (λ d. (round + d) % 16) e ∙ sym is)
        ∙ ap (λ y. not (eqb y 0)) same ∙ ap not (ne_eqb x 0 filled)))
        (λ f. k.each d ∙ ap (λ t. whether t true (member marks d)) (ne_eqb d cost f) ∙ s.each d b
        ∙ sym (ap (λ y. not (eqb y 0)) (apart ((round + d) % 16) (λ e. f (let z : d ≡ cost = omega arith in z)))));
  }

pub marks_none : Marks 0 0 (replicate 16 0)
marks_none = record {
  small = pow_pos 16;
  here = member_none 0;
  each = λ d b. member_none d ∙ sym (ap (λ y. not (eqb y 0)) (zeros_at 16 ((0 + d) % 16)));
}
