-- What the steps of the reader give: their bounds, and what was read of a list of actions or jobs in turn.
use Prim.Native.Nat.{ℕ, zero, suc, ◌+◌, ◌*◌, ◌^◌, ◌≤◌, ◌<◌}
use native.Mathlib.Omega.{arith}
use mathlib.Core.Path.{◌≡◌, refl, ap, sym, ◌∙◌}
use mathlib.Core.Bool.{Bool, true, false}
use mathlib.Core.Logic.{◌≢◌}
use mathlib.Core.List.{List, [], ◌∷◌, ◌++◌, append_assoc}
use borrow.Author.Tests.{eqb-false, ltb-false}
use lib.ListN.{length}
use lib.Dec.{T, eqb, ltb, leb, le→leb}
use Rattle.plan.specs.Test.{both, either, all}
use Rattle.plan.specs.Plan.{Action, Job, Plan, total}
use Rattle.plan.specs.Rules.{cost_in_range, job_in_range, in_range}
use Rattle.fields.specs.Field.{Step, stop, step, then, field_at}
use Rattle.plan.specs.Reader.{number_at, cost_in, action_at, actions_at, jobs_at, Read, is_form, plan_at}
use Rattle.plan.specs.Action.{cost_field}
use Rattle.plan.specs.Progress.{Head, header_at, one_job_at}
use Rattle.fields.proofs.Laws.Bits.{field_read}

module _ {A B : Type 0} where
  -- what comes after a step that stands had a first step that stands
  pub then_step : (x : Step A) (f : A → ℕ → Step B) (b : B) (n : ℕ) → then x f ≡ step b n → (a : A) × (m : ℕ) × (x ≡ step a m) × (f a m ≡ step b n)
  then_step (stop k) f b n e = absurd (let z : ◌≡◌ {A = ℕ} 0 1 = cc in omega arith)
  then_step (step a m) f b n e = (a, m, refl, e)

module _ {A : Type 0} where
  -- a step stands or it does not, with the equation that says so
  pub step_cases : {P : Type 0} (x : Step A) → ((k : ℕ) → x ≡ stop k → P) → ((a : A) (n : ℕ) → x ≡ step a n → P) → P
  step_cases (stop k) f g = f k refl
  step_cases (step a n) f g = g a n refl

  pub stop_no_step : (k : ℕ) (a : A) (n : ℕ) → ◌≡◌ {A = Step A} (stop k) (step a n) → ⊥
  stop_no_step k a n e = let z : ◌≡◌ {A = ℕ} 0 1 = cc in omega arith

pub bool_cases : {P : Type 0} (b : Bool) → (b ≡ true → P) → (b ≡ false → P) → P
bool_cases true f g = f refl
bool_cases false f g = g refl

pub either_false : (a b : Bool) → either a b ≡ false → (a ≡ false) × (b ≡ false)
either_false true b e = absurd (let z : ◌≡◌ {A = ℕ} 0 1 = cc in omega arith)
either_false false b e = (refl, e)

pub either_right : (a : Bool) → either a true ≡ true
either_right true = refl
either_right false = refl

pub T-both : (a b : Bool) → T a → T b → T (both a b)
T-both true b f g = g
T-both false b f g = f

pub T-four : (a b c d : Bool) → T a → T b → T c → T d → T (both (both a b) (both c d))
T-four a b c d f g h i = T-both (both a b) (both c d) (T-both a b f g) (T-both c d h i)

-- what is left to read, behind what is read
abbrev pub after : {A : Type 0} → List A → Step (List A) → Step (List A)
after l x = then x (λ rest n. step (l ++ rest) n)

module _ (s : List ℕ) where
  -- how far a number reaches
  pub number_next : (at v n : ℕ) → number_at s at ≡ step v n → (v ≤ 256) × (n ≤ at + 9) × (n ≤ 8 * length s)
  unfolding number_at
  number_next at v n e =
      let (there, m, is, e₁) = then_step (field_at s 1 at) _ v n e in
      go there m (field_read s 1 at there m is).1 (field_read s 1 at there m is).2 e₁
    where
      go : (there m : ℕ) → m ≡ at + 1 → m ≤ 8 * length s → elim there [ zero ↦ step 0 m | suc one ↦ then (field_at s 8 m) (λ v at. step (suc v) at) ] ≡ step v n → (v ≤ 256) × (n ≤ at + 9) × (n ≤ 8 * length s)
      go zero m h k e =
          let f : 0 ≡ v = cc in
          let g : m ≡ n = cc in
          omega arith
      go (suc one) m h k e =
          let (w, q, is, e₁) = then_step (field_at s 8 m) (λ v at. step (suc v) at) v n e in
          let f : suc w ≡ v = cc in
          let g : q ≡ n = cc in
          let r = field_read s 8 m w q is in
          omega arith

module _ (form : ℕ) (s : List ℕ) where
  -- what is written of a cost is small, and takes at most four bits
  pub cost_field_lem : (at v n : ℕ) → cost_field form s at ≡ step v n → (v ≤ 15) × (n ≤ at + 4) × (at ≤ 8 * length s → n ≤ 8 * length s)
  cost_field_lem at v n e = bool_cases (eqb form 1) (λ g. none (rw (g, cost_field) at e)) (λ g. some (rw (g, cost_field) at e))
    where
      Small : Type 0
      Small = (v ≤ 15) × (n ≤ at + 4) × (at ≤ 8 * length s → n ≤ 8 * length s)

      none : ◌≡◌ {A = Step ℕ} (step 1 at) (step v n) → Small
      none e =
          let f : 1 ≡ v = cc in
          let g : at ≡ n = cc in
          (omega arith, omega arith, λ h. omega arith)

      some : field_at s 4 at ≡ step v n → Small
      some e = let (a, b, c, d) = field_read s 4 at v n e in (omega arith, omega arith, λ h. c)

  -- a cost is what is written of it, if that is not 0
  pub cost_is : (at : ℕ) → cost_in form s at ≡ then (cost_field form s at) (λ cost at. elim (eqb cost 0) [ true ↦ stop 3 | false ↦ step cost at ])
  unfolding cost_in
  cost_is at = bool_cases (eqb form 1) (λ g. rw (g, cost_in, cost_field)) (λ g. rw (g, cost_in, cost_field))

  pub cost_next : (at v n : ℕ) → cost_in form s at ≡ step v n
      → (1 ≤ v) × (v ≤ 15) × (n ≤ at + 4) × (at ≤ 8 * length s → n ≤ 8 * length s)
  cost_next at v n e =
      let (cost, m, is, e₁) = then_step (cost_field form s at) _ v n (sym (cost_is at) ∙ e) in
      bool_cases (eqb cost 0) (λ g. absurd (stop_no_step 3 v n (rw g at e₁))) (λ g.
      let e₂ : ◌≡◌ {A = Step ℕ} (step cost m) (step v n) = rw g at e₁ in
      let f : cost ≡ v = cc in
      let k : m ≡ n = cc in
      let z : cost ≢ 0 = eqb-false cost 0 g in
      let r = cost_field_lem at cost m is in
      (omega arith, omega (arith, r.0), omega (arith, r.1), λ h. omega (arith, r.2 h)))

  pub action_next : (at : ℕ) (a : Action) (n : ℕ) → action_at form s at ≡ step a n
      → (n ≤ at + 22) × (n ≤ 8 * length s) × (1 ≤ a.cost) × (a.cost ≤ 15)
  unfolding action_at
  action_next at a n e =
      let (spawn, m, is, e₁) = then_step (number_at s at) _ a n e in
      let (join, q, is₁, e₂) = then_step (number_at s m) _ a n e₁ in
      let (cost, o, is₂, e₃) = then_step (cost_in form s q) _ a n e₂ in
      let g : o ≡ n = cc in
      let f : record { spawn = spawn; join = join; cost = cost } ≡ a = cc in
      let c : cost ≡ a.cost = ap (λ x. x.cost) f in
      let z = cost_next q cost o is₂ in
      let y = number_next s m join q is₁ in
      (omega (arith, number_next s at spawn m is), omega (arith, z.3 y.2), omega arith, omega arith)

  -- n actions are n, each of at most 22 bits and a cost in range, and end within the bytes where they begin there
  pub actions_next : (n at : ℕ) (l : List Action) (end : ℕ) → actions_at form s n at ≡ step l end
      → (length l ≡ n) × (end ≤ at + 22 * n) × (at ≤ 8 * length s → end ≤ 8 * length s) × T (all cost_in_range l)
  unfolding actions_at
  actions_next zero at l end e =
      let f : [] ≡ l = cc in
      let g : at ≡ end = cc in
      (sym (ap length f), omega arith, λ h. omega arith, rw (← f) tt)
  actions_next (suc n) at l end e =
      let (a, m, is, e₁) = then_step (action_at form s at) _ l end e in
      let (rest, q, is₁, e₂) = then_step (actions_at form s n m) _ l end e₁ in
      let f : a ∷ rest ≡ l = cc in
      let g : q ≡ end = cc in
      let h = action_next at a m is in
      let k = actions_next n m rest q is₁ in
      let j : length (a ∷ rest) ≡ length l = ap length f in
      let c : T (cost_in_range a) = T-both (leb 1 a.cost) (leb a.cost 15) (le→leb 1 a.cost h.2) (le→leb a.cost 15 h.3) in
      (omega arith, omega arith, λ _. omega (arith, k.2 h.1), rw (← f) (T-both (cost_in_range a) (all cost_in_range rest) c k.3))

  -- one action more is read behind the actions l
  pub actions_more : (l : List Action) (x : Action) (n at at' : ℕ) → action_at form s at ≡ step x at' → after l (actions_at form s (suc n) at) ≡ after (l ++ (x ∷ [])) (actions_at form s n at')
  unfolding actions_at
  actions_more l x n at at' e =
      rw e (step_cases (actions_at form s n at') (λ k f. rw f) (λ rest m f. rw (f, append_assoc)))

  pub actions_out : (l : List Action) (n at k : ℕ) → action_at form s at ≡ stop k → after l (actions_at form s (suc n) at) ≡ stop k
  unfolding actions_at
  actions_out l n at k e = rw e

  -- the jobs are a job and then the others
  pub jobs_step : (n k at : ℕ) → jobs_at form s (suc n) k at ≡ then (one_job_at form s k at) (λ x at. then (jobs_at form s n (k + length x.actions) at) (λ rest at. step (x ∷ rest) at))
  unfolding jobs_at one_job_at header_at
  jobs_step n k at =
      step_cases (field_at s 16 at) (λ q e. rw e) (λ weight m e.
      rw e (bool_cases (eqb weight 0) (λ f. rw (f, then)) (λ f.
      rw (f, then) (step_cases (field_at s 8 m) (λ q g. rw g) (λ size q g.
      rw g (bool_cases (either (eqb size 0) (ltb 2048 (k + size))) (λ h. rw (h, then)) (λ h.
      rw (h, then) (step_cases (actions_at form s size q) (λ r i. rw i) (λ l r i. rw (i, (actions_next size q l r i).0))))))))))

  -- one job more is read behind the jobs p
  pub jobs_more : (p : Plan) (x : Job) (n k at at' : ℕ) → one_job_at form s k at ≡ step x at' → after p (jobs_at form s (suc n) k at) ≡ after (p ++ (x ∷ [])) (jobs_at form s n (k + length x.actions) at')
  jobs_more p x n k at at' e =
      rw (jobs_step, e) (step_cases (jobs_at form s n (k + length x.actions) at') (λ q f. rw f) (λ rest m f. rw (f, append_assoc)))

  pub jobs_stop : (p : Plan) (m n k at : ℕ) → one_job_at form s k at ≡ stop m → after p (jobs_at form s (suc n) k at) ≡ stop m
  jobs_stop p m n k at e = rw (jobs_step, e)

  -- what is read is in range, and ends within the bytes
  pub header_next : (k at : ℕ) (h : Head) (n : ℕ) → header_at s k at ≡ step h n → (1 ≤ h.weight) × (h.weight ≤ 65535) × (1 ≤ h.size) × (h.size ≤ 255) × (k + h.size ≤ 2048) × (n ≡ at + 24) × (n ≤ 8 * length s)
  unfolding header_at
  header_next k at h n e =
      let (weight, m, is, e₁) = then_step (field_at s 16 at) _ h n e in
      bool_cases (eqb weight 0) (λ f. absurd (stop_no_step 3 h n (rw f at e₁))) (λ f.
      let (size, q, is₁, e₂) = then_step (field_at s 8 m) _ h n (rw f at e₁) in
      bool_cases (either (eqb size 0) (ltb 2048 (k + size))) (λ g. absurd (stop_no_step 3 h n (rw g at e₂))) (λ g.
      let e₃ : step (record { weight = weight; size = size }) q ≡ step h n = rw g at e₂ in
      let i : record { weight = weight; size = size } ≡ h = cc in
      let j : q ≡ n = cc in
      let w : weight ≡ h.weight = ap (λ h. h.weight) i in
      let z : size ≡ h.size = ap (λ h. h.size) i in
      let r = either_false (eqb size 0) (ltb 2048 (k + size)) g in
      let a : weight ≢ 0 = eqb-false weight 0 f in
      let b : size ≢ 0 = eqb-false size 0 r.0 in
      omega (arith, ltb-false 2048 (k + size) r.1, field_read s 16 at weight m is, field_read s 8 m size q is₁)))

  pub job_next : (k at : ℕ) (x : Job) (n : ℕ) → one_job_at form s k at ≡ step x n → T (job_in_range x) × (k + length x.actions ≤ 2048) × (n ≤ at + 24 + 22 * length x.actions) × (n ≤ 8 * length s)
  unfolding one_job_at
  job_next k at x n e =
      let (h, m, is, e₁) = then_step (header_at s k at) _ x n e in
      let (l, q, is₁, e₂) = then_step (actions_at form s h.size m) _ x n e₁ in
      let i : record { frame = h.weight; actions = l } ≡ x = cc in
      let j : q ≡ n = cc in
      let w : h.weight ≡ x.frame = ap (λ x. x.frame) i in
      let z : length l ≡ length x.actions = ap (λ x. length x.actions) i in
      let r = header_next k at h m is in
      let t = actions_next h.size m l q is₁ in (
        T-both (both (both (leb 1 x.frame) (leb x.frame 65535)) (both (leb 1 (length x.actions)) (leb (length x.actions) 255))) (all cost_in_range x.actions)
            (T-four (leb 1 x.frame) (leb x.frame 65535) (leb 1 (length x.actions)) (leb (length x.actions) 255)
            (le→leb 1 x.frame (omega arith)) (le→leb x.frame 65535 (omega arith)) (le→leb 1 (length x.actions) (omega arith)) (le→leb (length x.actions) 255 (omega arith)))
            (let y : l ≡ x.actions = ap (λ x. x.actions) i in rw (← y) t.3),
        omega arith,
        omega arith,
        omega (arith, t.2 r.6),
      )

  pub jobs_next : (n k at : ℕ) (p : Plan) (end : ℕ) → k ≤ 2048 → jobs_at form s n k at ≡ step p end → (length p ≡ n) × T (all job_in_range p) × (k + total p ≤ 2048) × (end ≤ at + 24 * n + 22 * total p) × (at ≤ 8 * length s → end ≤ 8 * length s)
  unfolding jobs_at
  jobs_next zero k at p end h e =
      let i : [] ≡ p = cc in
      let j : at ≡ end = cc in
      (ap length (sym i), rw (← i) tt, rw (← i) (omega arith), omega arith, λ b. omega arith)
  jobs_next (suc n) k at p end h e =
      let (x, m, is, e₁) = then_step (one_job_at form s k at) _ p end (rw jobs_step at e) in
      let (rest, q, is₁, e₂) = then_step (jobs_at form s n (k + length x.actions) m) _ p end e₁ in
      let i : x ∷ rest ≡ p = cc in
      let j : q ≡ end = cc in
      let r = job_next k at x m is in
      let t = jobs_next n (k + length x.actions) m rest q r.1 is₁ in
      let z : length (x ∷ rest) ≡ length p = ap length i in
      let w : total (x ∷ rest) ≡ total p = ap total i in
      (omega arith, rw (← i) (T-both (job_in_range x) (all job_in_range rest) r.0 t.1), omega arith, omega arith, λ _. omega (arith, t.4 r.3))

module _ (s : List ℕ) where
  pub plan_next : (x : Read) (end : ℕ) → plan_at s ≡ step x end
      → T (in_range x.plan) × (end < 2 ^ 16) × (end ≤ 8 * length s) × T (is_form x.form)
  unfolding plan_at in_range
  plan_next x end e =
      let (form, m, is, e₁) = then_step (field_at s 8 0) _ x end e in
      bool_cases (is_form form) (λ f.
      let (jobs, q, is₁, e₂) = then_step (field_at s 9 m) _ x end (rw f at e₁) in
      bool_cases (either (eqb jobs 0) (ltb 256 jobs)) (λ g. absurd (stop_no_step 3 x end (rw g at e₂))) (λ g.
      let (p, o, is₂, e₃) = then_step (jobs_at form s jobs 0 q) _ x end (rw g at e₂) in
      let i : record { form = form; plan = p } ≡ x = cc in
      let j : o ≡ end = cc in
      let r = either_false (eqb jobs 0) (ltb 256 jobs) g in
      let t = jobs_next form s jobs 0 q p o (omega arith) is₂ in
      let a : jobs ≢ 0 = eqb-false jobs 0 r.0 in
      let b : jobs ≤ 256 = ltb-false 256 jobs r.1 in (
        rw (← i) (T-four (leb 1 (length p)) (leb (length p) 256) (all job_in_range p) (leb (total p) 2048)
            (le→leb 1 (length p) (omega arith)) (le→leb (length p) 256 (omega arith)) t.1 (le→leb (total p) 2048 (omega arith))),
        omega (arith, (field_read s 8 0 form m is).1, (field_read s 9 m jobs q is₁).1),
        omega (arith, t.4 (field_read s 9 m jobs q is₁).2),
        rw (← i) (rw f tt),
      )))
      (λ f. absurd (stop_no_step 2 x end (rw f at e₁)))
