-- What reading gives at each outcome of its tests, and what an accepted plan satisfies.
use Prim.Native.Nat.{ℕ, ◌<◌}
use native.Mathlib.Omega.{arith}
use mathlib.Core.Path.{◌≡◌, ap}
use mathlib.Core.Bool.{Bool, true, false}
use mathlib.Core.List.{List}
use lib.Dec.{T, eqb, ltb, eqb→eq}
use borrow.Author.Tests.{eqb-true}
use Rattle.plan.specs.Refusal.{refused, accepted}
use Rattle.plan.specs.Test.{either}
use Rattle.plan.specs.Rules.{spawn_rules, join_rules, Accepted}
use Rattle.fields.specs.Field.{stop, step, field_at}
use Rattle.fields.proofs.Laws.Readings.{then_went_on, unless_went_on, when_went_on}
use Rattle.plan.specs.Reader.{Read, jobs_at, plan_at, fills, judged, is_form, read_plan}
use Rattle.plan.proofs.Laws.Steps.{bool_cases, step_cases, plan_next}

module _ (s : List ℕ) where
  pub read_stop : (n : ℕ) → plan_at s ≡ stop n → read_plan s ≡ refused n
  unfolding read_plan judged
  read_stop n e = rw e

  module _ (x : Read) (at : ℕ) (e : plan_at s ≡ step x at) where
    pub read_fill : fills s at ≡ false → read_plan s ≡ refused 6
    unfolding read_plan judged
    read_fill f = rw (e, f, judged)

    module _ (f : fills s at ≡ true) where
      pub read_spawn : spawn_rules x.plan ≡ false → read_plan s ≡ refused 4
      unfolding read_plan judged
      read_spawn g = rw (e, f, g, judged)

      module _ (g : spawn_rules x.plan ≡ true) where
        pub read_join : join_rules x.plan ≡ false → read_plan s ≡ refused 5
        unfolding read_plan judged
        read_join h = rw (e, f, g, h, judged)

        pub read_all : join_rules x.plan ≡ true → read_plan s ≡ accepted x
        unfolding read_plan judged
        read_all h = rw (e, f, g, h, judged)

T_true : (b : Bool) → b ≡ true → T b
T_true b e = rw e tt

module _ (s : List ℕ) (x : Read) (e : read_plan s ≡ accepted x) where
  clash : (n : ℕ) → read_plan s ≡ refused n → ⊥
  clash n f = let z : ◌≡◌ {A = ℕ} 0 1 = cc in omega arith

  accepted_all : (at : ℕ) × (plan_at s ≡ step x at) × T (fills s at) × T (spawn_rules x.plan) × T (join_rules x.plan)
  accepted_all =
      step_cases (plan_at s) (λ n f. absurd (clash n (read_stop s n f))) (λ q at f.
      bool_cases (fills s at) (λ g.
      bool_cases (spawn_rules q.plan) (λ h.
      bool_cases (join_rules q.plan) (λ i.
      let j : q ≡ x = cc (read_all s q at f g h i) in
      (at, rw (← j) f, T_true (fills s at) g, rw (← j) (T_true (spawn_rules q.plan) h), rw (← j) (T_true (join_rules q.plan) i)))
      (λ i. absurd (clash 5 (read_join s q at f g h i))))
      (λ h. absurd (clash 4 (read_spawn s q at f g h))))
      (λ g. absurd (clash 6 (read_fill s q at f g))))

  pub accepted_place : (at : ℕ) × (plan_at s ≡ step x at) × T (fills s at)
  accepted_place = let r = accepted_all in (r.0, r.1, r.2)

  pub accepted_as : Accepted x.plan × T (is_form x.form)
  accepted_as =
      let (at, e, fills, spawns, joins) = accepted_all in
      let r = plan_next s x at e in
      (record { range = r.0; spawns = spawns; joins = joins }, r.3)

-- the form is the first field
pub accepted_first : (s : List ℕ) (x : Read) → read_plan s ≡ accepted x → (at : ℕ) × (field_at s 8 0 ≡ step x.form at)
unfolding plan_at
accepted_first s x e =
    let (n, f, _) = accepted_place s x e in
    then_went_on (field_at s 8 0) _ f λ form m r f₀. when_went_on (is_form form) 2 _ f₀ λ _ f₁.
    then_went_on (field_at s 9 m) _ f₁ λ jobs m₁ r₁ f₂.
    unless_went_on (either (eqb jobs 0) (ltb 256 jobs)) 3 _ f₂ λ _ f₃.
    then_went_on (jobs_at form s jobs 0 m₁) _ f₃ λ p m₂ r₂ f₄.
    let q : form ≡ x.form = ap (λ x. x.form) (let z : record { form = form; plan = p } ≡ x = cc in z) in
    (m, rw (← q) r)

pub accepted_kept : (s : List ℕ) (x : Read) → read_plan s ≡ accepted x → Accepted x.plan
accepted_kept s x e = (accepted_as s x e).0

-- a form that is read fits its byte
pub form_small : (form : ℕ) → T (is_form form) → form < 256
form_small form t = bool_cases (eqb form 1) (λ e. omega (arith, eqb-true form 1 e)) (λ e. omega (arith, eqb→eq form 2 (rw (e, either) at t)))

pub accepted_form : (s : List ℕ) (x : Read) → read_plan s ≡ accepted x → x.form < 256
accepted_form s x e = form_small x.form (accepted_as s x e).1
