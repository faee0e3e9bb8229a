-- A plan in either form runs to the same tally and the same rows (document 02, L6).
--   One s t                 == plan bytes that hold one plan, in whatever forms
--   same_run, same_pool     == these run alike, by stealing and from a pool
--   equal_runs, equal_pools == so do a plan and what it is turned into
use Prim.Native.Nat.{ℕ}
use mathlib.Core.Path.{◌≡◌, sym, ap, ◌∙◌}
use mathlib.Core.List.{List}
use lib.ListN.{take}
use lib.Dec.{T}
use Rattle.plan.specs.Refusal.{accepted}
use Rattle.plan.specs.Plan.{Plan}
use Rattle.plan.specs.Rules.{costs_fit}
use Rattle.plan.specs.Reader.{Read, is_form, read_plan}
use Rattle.plan.proofs.Laws.Outcomes.{accepted_same}
use Rattle.plan_writer.specs.Writer.{plan_bytes}
use Rattle.plan_writer.proofs.Laws.Answers.{encoded_front}
use Rattle.plan_forms.specs.Forms.{read_as, plain, to_form2, to_form1}
use Rattle.plan_forms.proofs.Laws.Reading.{as_known}
use Rattle.plan_forms.proofs.Laws.Turned.{again_as}
use Rattle.plan_forms.proofs.Laws.RoundTrip.{plain_told}
use Rattle.plan_measure.specs.Measure.{measured, measures}
use Rattle.courses.specs.Schedule.{Written as Rows}
use Rattle.runs.specs.declared.tally.Tally.{Tally}
use Rattle.runs.specs.Run.{admitted, run_of}
use Rattle.pools.specs.Run.{admitted as pooled, pool_of}
use Rattle.scheduler.specs.Entry.{Result, Made}
use Rattle.own.specs.Forms.{ReadOff, SameRun, EqualRuns, SamePool, EqualPools}
use Rattle.own.proofs.Laws.Wrote.{Left, run_left, pool_left}

pub record One (s t : List ℕ) : Type 0 where
  pub from : ℕ
  pub to : ℕ
  pub plan : Plan
  pub read : read_plan s ≡ accepted (record { form = from; plan = plan })
  pub also : read_plan t ≡ accepted (record { form = to; plan = plan })

module _ {s t : List ℕ} (one : One s t) where
  -- what either kind of run tells and writes of them
  module _ {n : ℕ} {of : Plan → Made} {r q : Result} {x y : Tally} (left : Left s n of r x) (right : Left t n of q y) where
    one_plan : left.x.plan ≡ right.x.plan
    one_plan =
        let a = accepted_same left.x (record { form = one.from; plan = one.plan }) (sym left.read ∙ one.read) in
        let b = accepted_same right.x (record { form = one.to; plan = one.plan }) (sym right.read ∙ one.also) in
        ap (λ (x : Read). x.plan) a ∙ sym (ap (λ (x : Read). x.plan) b)

    alike : (x ≡ y) × ((w : Rows) × ReadOff s r.schedule w × ReadOff t q.schedule w)
    alike = (
      left.counted ∙ ap (λ p. (of p).tally) one_plan ∙ sym right.counted,
      (
        record { workers = n; rows = (of left.x.plan).rows },
        (left.x, left.read, left.rows),
        (right.x, right.read, right.rows ∙ ap (λ p. accepted (record { workers = n; rows = (of p).rows })) (sym one_plan)),
      ),
    )

  pub same_run : (n : ℕ) (choices : List ℕ) → SameRun s t n choices
  unfolding measures measured run_of admitted
  same_run n choices = record {
    measured = ap measured one.read ∙ sym (ap measured one.also);
    run = ap (λ o. admitted o n choices) one.read ∙ sym (ap (λ o. admitted o n choices) one.also);
    told = λ a b x y e f. alike (run_left s n choices a x e) (run_left t n choices b y f);
  }

  pub same_pool : (n : ℕ) → SamePool s t n
  unfolding pool_of pooled
  same_pool n = record {
    run = ap (λ o. pooled o n) one.read ∙ sym (ap (λ o. pooled o n) one.also);
    told = λ a b x y e f. alike (pool_left s n a x e) (pool_left t n b y f);
  }

-- what is written of a plan in a form is read as that plan
written_one : (s : List ℕ) (from to : ℕ) (p : Plan) → read_plan s ≡ accepted (record { form = from; plan = p }) → T (is_form to) → T (costs_fit to p)
    → (t : List ℕ) → t ≡ plan_bytes to p → One s t
written_one s from to p read known costs t e =
    record { from = from; to = to; plan = p; read = read; also = ap read_plan e ∙ again_as s from to p read known costs }

turned_one : (s bytes : List ℕ) (m : ℕ)
    → ((to_form2 s bytes).answer ≡ accepted m → One s (take m (to_form2 s bytes).buffer))
    × ((to_form1 s bytes).answer ≡ accepted m → One s (take m (to_form1 s bytes).buffer))
unfolding to_form2 to_form1 costs_fit
turned_one s bytes m = (
  λ e. encoded_front 2 (read_as 1 s) bytes m e λ p q out. written_one s 1 2 p (as_known 1 s p q) tt tt _ out,
  λ e. encoded_front 1 (plain (read_as 2 s)) bytes m e λ p q out.
      let (o, costs) = plain_told (read_as 2 s) p q in
      written_one s 2 1 p (as_known 2 s p o) tt costs _ out,
)

pub equal_runs : EqualRuns
equal_runs s bytes m n choices = let (new, old) = turned_one s bytes m in (λ e. same_run (new e) n choices, λ e. same_run (old e) n choices)

pub equal_pools : EqualPools
equal_pools s bytes m n = let (new, old) = turned_one s bytes m in (λ e. same_pool (new e) n, λ e. same_pool (old e) n)
