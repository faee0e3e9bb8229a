-- The costs of a plan that was read: in form 1 each is 1.
--   all_join       == a test that holds of two lists holds of both together
--   plan_costs     == so of what is read
--   accepted_costs == and of what is accepted
use Prim.Native.Nat.{ℕ, zero, suc, ◌+◌}
use mathlib.Core.Path.{◌≡◌, ap, sym, ◌∙◌}
use mathlib.Core.Bool.{Bool, true}
use mathlib.Core.List.{List, [], ◌∷◌, ◌++◌}
use lib.ListN.{length}
use lib.Dec.{T, eqb, ltb}
use borrow.Author.Tests.{eqb-true}
use Rattle.plan.specs.Refusal.{accepted}
use Rattle.plan.specs.Test.{either, all}
use Rattle.plan.specs.Plan.{Action, Job, Placed, placed_in, placed_from}
use Rattle.plan.specs.Rules.{costs_fit}
use Rattle.fields.specs.Field.{step, field_at}
use Rattle.plan.specs.Reader.{number_at, cost_in, action_at, actions_at, jobs_at, Read, plan_at, is_form, read_plan}
use Rattle.plan.specs.Progress.{header_at, one_job_at}
use Rattle.fields.proofs.Laws.Readings.{then_went_on, unless_went_on, when_went_on}
use Rattle.plan.proofs.Laws.Lists.{both_intro, both_left, both_right}
use Rattle.plan.proofs.Laws.Steps.{then_step, bool_cases, jobs_step}
use Rattle.plan.proofs.Laws.Accepted.{accepted_place}

abbrev one : Placed → Bool
one a = eqb a.cost 1

pub all_join : {A : Type 0} (f : A → Bool) (l r : List A) → T (all f l) → T (all f r) → T (all f (l ++ r))
all_join f [] r a b = b
all_join f (x ∷ l) r a b =
    both_intro (f x) (all f (l ++ r)) (both_left (f x) (all f l) a) (all_join f l r (both_right (f x) (all f l) a) b)

-- in form 1
module _ (s : List ℕ) where
  action_one : (at : ℕ) (a : Action) (n : ℕ) → action_at 1 s at ≡ step a n → a.cost ≡ 1
  unfolding action_at cost_in
  action_one at a n e =
      then_went_on (number_at s at) _ e λ spawn m r f. then_went_on (number_at s m) _ f λ join k r' g.
      let q : a ≡ record { spawn = spawn; join = join; cost = 1 } = cc in ap (λ a. a.cost) q

  actions_one : (k at j i : ℕ) (l : List Action) (n : ℕ) → actions_at 1 s k at ≡ step l n → T (all one (placed_in j i l))
  unfolding actions_at
  actions_one zero at j i l n e = let f : l ≡ [] = cc in rw f tt
  actions_one (suc k) at j i l n e =
      then_went_on (action_at 1 s at) _ e λ a m r f. then_went_on (actions_at 1 s k m) _ f λ rest m' r' g.
      let q : l ≡ a ∷ rest = cc in
      let c : eqb a.cost 1 ≡ true = rw (action_one at a m r) in
      rw (q, placed_in, c) (actions_one k m j (suc i) rest m' r')

  jobs_one : (c k at j : ℕ) (p : List Job) (n : ℕ) → jobs_at 1 s c k at ≡ step p n → T (all one (placed_from j p))
  unfolding jobs_at one_job_at
  jobs_one zero k at j p n e = let f : p ≡ [] = cc in rw f tt
  jobs_one (suc c) k at j p n e =
      then_went_on (one_job_at 1 s k at) _ (sym (jobs_step 1 s c k at) ∙ e) λ x m r f.
      then_went_on (jobs_at 1 s c (k + length x.actions) m) _ f λ bs m' r' g.
      then_went_on (header_at s k at) _ r λ h o u v. then_went_on (actions_at 1 s h.size o) _ v λ l o' y z.
      let q : p ≡ x ∷ bs = cc in
      let i : x.actions ≡ l = ap (λ x. x.actions) (let i : x ≡ record { frame = h.weight; actions = l } = cc in i) in
      rw (q, placed_from) (all_join one (placed_in j 0 x.actions) (placed_from (suc j) bs)
      (rw i (actions_one h.size o j 0 l o' y)) (jobs_one c (k + length x.actions) m (suc j) bs m' r'))

  jobs_plain : (form : ℕ) → form ≡ 1 → (c k at j : ℕ) (p : List Job) (n : ℕ) → jobs_at form s c k at ≡ step p n → T (all one (placed_from j p))
  jobs_plain form is c k at j p n e = jobs_one c k at j p n (rw is at e)

module _ (s : List ℕ) (x : Read) where
  pub plan_costs : (n : ℕ) → plan_at s ≡ step x n → T (costs_fit x.form x.plan)
  unfolding plan_at costs_fit
  plan_costs n e =
      then_went_on (field_at s 8 0) _ e λ form m r f. when_went_on (is_form form) 2 _ f λ g f₀.
      then_went_on (field_at s 9 m) _ f₀ λ jobs m₁ r₁ f₁.
      unless_went_on (either (eqb jobs 0) (ltb 256 jobs)) 3 _ f₁ λ _ f₂.
      let (p, m₂, r₂, f₃) = then_step (jobs_at form s jobs 0 m₁) _ x n f₂ in
      let q : record { form = form; plan = p } ≡ x = cc in
      rw (← q) (bool_cases (eqb form 1)
      (λ h. rw (h, costs_fit) (jobs_plain s form (eqb-true form 1 h) jobs 0 m₁ 0 p m₂ r₂))
      (λ h. rw (h, costs_fit) tt))

pub accepted_costs : (s : List ℕ) (x : Read) → read_plan s ≡ accepted x → T (costs_fit x.form x.plan)
unfolding read_plan
accepted_costs s x e = let a = accepted_place s x e in plan_costs s x a.0 a.1
