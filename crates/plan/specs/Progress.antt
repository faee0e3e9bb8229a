-- What the private functions of the reader answer, and what they leave in the array. Private functions alone cite these.
--   with_actions plan k j l == the array with the actions l of job j, from place k on
--   with_job plan k j x     == the array with the job x as job j, its actions from place k on
--   with_jobs plan k j l    == the array with the jobs l, the first as job j, their actions from place k on
--   Head                   == a job's frame and action count
--   header_at s k at        == these, where k actions were read before
--   one_job_at form s k at   == a job, where k actions were read before
--   formed form x          == what was read of a plan of that form, its jobs x
--   ActionsRead, HeaderRead, JobRead, PlanRead == the answer is that of the definition, and the array has what was read
use Rattle.std.specs.Prelude.{ℕ, suc, ◌+◌, ◌≡◌, true, false, List, [], ◌∷◌, length, eqb, ltb, Result, Ok, Err}
use Rattle.plan.specs.declared.reader.Header.{Header}
use Rattle.plan.specs.declared.sheet.Sheet.{Sheet}
use Rattle.plan.specs.declared.refusal.Refusal.{Refusal}
use Rattle.plan.specs.Refusal.{number_of}
use Rattle.plan.specs.Test.{either}
use Rattle.plan.specs.Plan.{Action, Job, Plan, total}
use Rattle.fields.specs.Field.{Step, stop, step, then, field_at}
use Rattle.plan.specs.Reader.{Read, actions_at}
use Rattle.plan.specs.Sheet.{with_action, with_frame, with_first, with_counts}

abbrev pub with_actions : Sheet → (k j : ℕ) → List Action → Sheet
with_actions plan k j [] = plan
with_actions plan k j (x ∷ l) = with_actions (with_action plan k j x.spawn x.join x.cost) (suc k) j l

abbrev pub with_job : Sheet → (k j : ℕ) → Job → Sheet
with_job plan k j x =
    with_first (with_actions (with_frame plan j x.frame) k j x.actions) (j + 1) (k + length x.actions)

abbrev pub with_jobs : Sheet → (k j : ℕ) → List Job → Sheet
with_jobs plan k j [] = plan
with_jobs plan k j (x ∷ l) = with_jobs (with_job plan k j x) (k + length x.actions) (suc j) l

abbrev pub ActionsRead : ℕ → List ℕ → (at j k n : ℕ) (plan plan' : Sheet) → Result ℕ Refusal → Type 0
ActionsRead form s at j k n plan plan' (Err cause) = actions_at form s n at ≡ stop (number_of cause)
ActionsRead form s at j k n plan plan' (Ok next) =
    (l : List Action) × (actions_at form s n at ≡ step l next) × (plan' ≡ with_actions plan k j l)

pub record Head : Type 0 where
  pub weight : ℕ
  pub size : ℕ

unfoldable pub header_at : List ℕ → ℕ → ℕ → Step Head
header_at s k at =
    then (field_at s 16 at) (λ weight at.
    elim (eqb weight 0) [
      | true ↦ stop 3
      | false ↦ then (field_at s 8 at) (λ size at.
          elim (either (eqb size 0) (ltb 2048 (k + size))) [
            | true ↦ stop 3
            | false ↦ step (record { weight = weight; size = size }) at
          ])
    ])

unfoldable pub one_job_at : ℕ → List ℕ → ℕ → ℕ → Step Job
unfolding header_at
one_job_at form s k at =
    then (header_at s k at) (λ h at. then (actions_at form s h.size at) (λ l at. step (record { frame = h.weight; actions = l }) at))

abbrev pub HeaderRead : List ℕ → (at j k : ℕ) (plan plan' : Sheet) → Result Header Refusal → Type 0
HeaderRead s at j k plan plan' (Err cause) = header_at s k at ≡ stop (number_of cause)
HeaderRead s at j k plan plan' (Ok h) =
    (weight : ℕ) × (header_at s k at ≡ step (record { weight = weight; size = h.size }) h.next) × (plan' ≡ with_frame plan j weight)

abbrev pub JobRead : ℕ → List ℕ → (at j k : ℕ) (plan plan' : Sheet) → Result Header Refusal → Type 0
JobRead form s at j k plan plan' (Err cause) = one_job_at form s k at ≡ stop (number_of cause)
JobRead form s at j k plan plan' (Ok h) =
    (x : Job) × (one_job_at form s k at ≡ step x h.next) × (h.size ≡ k + length x.actions) × (plan' ≡ with_job plan k j x)

-- the jobs that were read of a plan of that form
abbrev pub formed : ℕ → Step Plan → Step Read
formed form x = then x (λ p at. step (record { form = form; plan = p }) at)

abbrev pub PlanRead : Step Read → (plan plan' : Sheet) → Result ℕ Refusal → Type 0
PlanRead x plan plan' (Err cause) = x ≡ stop (number_of cause)
PlanRead x plan plan' (Ok next) =
    (form : ℕ) × (p : Plan) × (x ≡ step (record { form = form; plan = p }) next)
    × (plan' ≡ with_counts (with_jobs plan 0 0 p) form (length p) (total p))
