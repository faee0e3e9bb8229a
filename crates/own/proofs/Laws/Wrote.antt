-- What a run that was done wrote.
--   Wrote t      == a plan was read and run to the tally t, and its schedule written in front of what was lent
--   wrote        == so it is, where the answer is no refusal
--   wrote_fit    == that run's setting is fit
--   wrote_length, wrote_front == how long the schedule is, and that it stands in front
--   wrote_few    == no round of it is too large for its field
--   wrote_read   == what is read off it: the run's workers and rows
--   run_made, pool_made == what a run by stealing makes of a plan, and a run from a pool
--   Left         == of either: a plan was read, and its tally told and its rows read off what was written
--   run_left, pool_left == so it is, where the answer is no refusal
use Prim.Native.Nat.{ℕ, ◌≤◌, ◌<◌, ◌^◌}
use mathlib.Core.Path.{◌≡◌, refl, sym, ap, ◌∙◌}
use mathlib.Core.Logic.{◌⊎◌, inl, inr}
use mathlib.Core.Bool.{Bool, true, false}
use mathlib.Core.List.{List, ◌++◌}
use native.Mathlib.Omega.{arith}
use lib.ListN.{length, take, drop}
use lib.Seq.{take_at}
use lib.Dec.{leb}
use Rattle.plan.specs.Refusal.{Outcome, refused, accepted}
use Rattle.plan.specs.Plan.{Plan, total}
use Rattle.plan.specs.Reader.{Read, read_plan}
use Rattle.plan.proofs.Laws.Accepted.{accepted_kept, accepted_form}
use Rattle.plan.proofs.Laws.Costs.{accepted_costs}
use Rattle.plan.proofs.Laws.Lists.{of_true}
use Rattle.plan.proofs.Laws.Outcomes.{refused_accepted, accepted_same}
use Rattle.plan_measure.specs.Measure.{work}
use Rattle.courses.specs.Schedule.{round_bits, schedule_length, schedule_bytes, read_schedule}
use Rattle.courses.proofs.Laws.Price.{work_fits}
use Rattle.runs.specs.Setting.{setting}
use Rattle.runs.specs.declared.tally.Tally.{Tally}
use Rattle.runs.specs.Run.{run, workers_fit}
use Rattle.runs.proofs.Laws.Fit.{Fit}
use Rattle.runs.proofs.Laws.Admitted.{Stopped, Went, outcome, workers_range}
use Rattle.runs.proofs.Laws.OwnSchedule.{run_schedule}
use Rattle.runs.proofs.Laws.Whole.{run_trace}
use Rattle.runs.proofs.Laws.Coursed.{round_most}
use Rattle.pools.specs.Run.{pool, admitted as pooled}
use Rattle.pools.proofs.Laws.Coursed.{Fit as PoolFit}
use Rattle.pools.proofs.Laws.Claimed.{pool_read, pool_front}
use Rattle.scheduler.specs.Entry.{Result, Made, resulted, made, read_into, run_into}
use Rattle.scheduler.proofs.Laws.RunBytes.{run_fits}
use Rattle.pool_runner.specs.Entry.{made_of, read_into as read_from, pool_into}

-- what each kind of run makes of a plan
abbrev pub run_made : ℕ → List ℕ → Plan → Made
run_made n choices p = record { rows = (run (setting p n choices)).rows; tally = (run (setting p n choices)).tally }

abbrev pub pool_made : ℕ → Plan → Made
pool_made n p = record { rows = (pool p n).rows; tally = (pool p n).tally }

-- where there was room, what was made is told and stands in front of what was lent
put : (form n : ℕ) (m : Made) (schedule : List ℕ) (t : Tally) (r : Result) → r ≡ resulted form (accepted m) n schedule → r.answer ≡ accepted t
    → let bytes = schedule_bytes form n m.rows in (t ≡ m.tally) × (r.schedule ≡ bytes ++ drop (length bytes) schedule)
unfolding resulted
put form n m schedule t r e answer = by_room _ refl
  where
    by_room : (b : Bool) → leb (length (schedule_bytes form n m.rows)) (length schedule) ≡ b
        → let bytes = schedule_bytes form n m.rows in (t ≡ m.tally) × (r.schedule ≡ bytes ++ drop (length bytes) schedule)
    by_room false f =
        let short : r.answer ≡ refused 9 = ap (λ (r : Result). r.answer) e ∙ rw (resulted, f) in
        refused_accepted (sym short ∙ answer)
    by_room true f =
        let bytes = schedule_bytes form n m.rows in
        let whole : r ≡ record { answer = accepted m.tally; schedule = bytes ++ drop (length bytes) schedule } = e ∙ rw (resulted, f) in
        (accepted_same t m.tally (sym answer ∙ ap (λ (r : Result). r.answer) whole), ap (λ (r : Result). r.schedule) whole)

-- what was made of the plan that was read, and what is read off the schedule
pub record Left (plan : List ℕ) (n : ℕ) (of : Plan → Made) (r : Result) (t : Tally) : Type 0 where
  pub x : Read
  pub read : read_plan plan ≡ accepted x
  pub counted : t ≡ (of x.plan).tally
  pub rows : let k = total x.plan in
      read_schedule x.form (take (schedule_length x.form k) r.schedule) k ≡ accepted (record { workers = n; rows = (of x.plan).rows })

module _ (plan : List ℕ) (n : ℕ) (choices schedule : List ℕ) where
  abbrev result : Result
  result = run_into plan n choices schedule

  pub record Wrote (t : Tally) : Type 0 where
    pub x : Read
    pub read : read_plan plan ≡ accepted x
    pub some : 1 ≤ n
    pub most : n ≤ 16
    pub counted : t ≡ (run (setting x.plan n choices)).tally
    pub written : let bytes = schedule_bytes x.form n (run (setting x.plan n choices)).rows in
        result.schedule ≡ bytes ++ drop (length bytes) schedule

  module _ (t : Tally) (answer : result.answer ≡ accepted t) where
    refuses : {P : Type 0} (k : ℕ) → result.answer ≡ refused k → P
    refuses k e = refused_accepted (sym e ∙ answer)

    pub wrote : Wrote t
    unfolding run_into read_into resulted
    wrote = by_plan (read_plan plan) refl
      where
        by_run : (x : Read) → read_plan plan ≡ accepted x → Stopped x n choices ⊎ Went x n choices → Wrote t
        by_run x e (inl s) =
            refuses s.cause (ap (λ o. (read_into o n choices schedule).answer) e ∙ ap (λ o. (resulted x.form (made o) n schedule).answer) s.not_run)
        by_run x e (inr w) =
            let whole : result ≡ resulted x.form (accepted (run_made n choices x.plan)) n schedule =
            ap (λ o. read_into o n choices schedule) e ∙ ap (λ o. resulted x.form (made o) n schedule) w.ran in
            let (counted, written) = put x.form n (run_made n choices x.plan) schedule t result whole answer in
            record { x = x; read = e; some = w.some; most = w.most; counted = counted; written = written }

        by_plan : (o : Outcome Read) → read_plan plan ≡ o → Wrote t
        by_plan (refused k) e = refuses k (rw e)
        by_plan (accepted x) e = by_run x e (outcome x n choices)

  module _ (t : Tally) (w : Wrote t) where
    pub wrote_fit : Fit (setting w.x.plan n choices)
    wrote_fit = record { plan = accepted_kept plan w.x w.read; some = w.some; most = w.most }

    -- as many bytes as a schedule of the plan has
    pub wrote_length : length (schedule_bytes w.x.form n (run (setting w.x.plan n choices)).rows) ≡ schedule_length w.x.form (total w.x.plan)
    wrote_length =
        run_fits w.x.plan n choices wrote_fit w.x.form (accepted_form plan w.x w.read) (accepted_costs plan w.x w.read)

    pub wrote_front : (k : ℕ) → k ≡ schedule_length w.x.form (total w.x.plan)
        → take k result.schedule ≡ schedule_bytes w.x.form n (run (setting w.x.plan n choices)).rows
    wrote_front k e =
        let bytes = schedule_bytes w.x.form n (run (setting w.x.plan n choices)).rows in
        ap (take k) w.written ∙ take_at bytes (drop (length bytes) schedule) k (wrote_length ∙ sym e)

    pub wrote_few : (r : ℕ) → r ≤ work w.x.plan → r < 2 ^ round_bits w.x.form
    wrote_few r h =
        omega (arith, work_fits w.x.form w.x.plan (accepted_kept plan w.x w.read) (accepted_costs plan w.x w.read))

    pub wrote_read : let k = total w.x.plan in
        read_schedule w.x.form (take (schedule_length w.x.form k) result.schedule) k
        ≡ accepted (record { workers = n; rows = (run (setting w.x.plan n choices)).rows })
    wrote_read =
        let (r, b, trace, e, q) = run_trace wrote_fit in
        ap (λ l. read_schedule w.x.form l (total w.x.plan)) (wrote_front _ refl)
        ∙ run_schedule wrote_fit trace e w.x.form (accepted_form plan w.x w.read) (wrote_few r (round_most wrote_fit trace))

  pub run_left : (t : Tally) → result.answer ≡ accepted t → Left plan n (run_made n choices) result t
  run_left t e = let w = wrote t e in record { x = w.x; read = w.read; counted = w.counted; rows = wrote_read t w }

pub pool_left : (plan : List ℕ) (n : ℕ) (schedule : List ℕ) (t : Tally) → (pool_into plan n schedule).answer ≡ accepted t
    → Left plan n (pool_made n) (pool_into plan n schedule) t
unfolding pool_into read_from pooled resulted
pool_left plan n schedule t answer = by_plan (read_plan plan) refl
  where
    refuses : {P : Type 0} (k : ℕ) → (pool_into plan n schedule).answer ≡ refused k → P
    refuses k e = refused_accepted (sym e ∙ answer)

    by_workers : (x : Read) → read_plan plan ≡ accepted x → (b : Bool) → workers_fit n ≡ b → Left plan n (pool_made n) (pool_into plan n schedule) t
    by_workers x e false f =
        let no : pooled (accepted x) n ≡ refused 7 = rw (pooled, f) in
        refuses 7 (ap (λ o. (read_from o n schedule).answer) e ∙ ap (λ o. (resulted x.form (made_of o) n schedule).answer) no)
    by_workers x e true f =
        let ran : pooled (accepted x) n ≡ accepted (pool x.plan n) = rw (pooled, f) in
        let whole : pool_into plan n schedule ≡ resulted x.form (accepted (pool_made n x.plan)) n schedule =
        ap (λ o. read_from o n schedule) e ∙ ap (λ o. resulted x.form (made_of o) n schedule) ran in
        let (counted, written) = put x.form n (pool_made n x.plan) schedule t (pool_into plan n schedule) whole answer in
        let (some, most) = workers_range n (of_true _ f) in
        let fit : PoolFit x.plan n = record { plan = accepted_kept plan x e; some = some; most = most } in
        let known = accepted_form plan x e in
        let costs = accepted_costs plan x e in
        let k = total x.plan in record {
          x = x;
          read = e;
          counted = counted;
          rows =
              ap (λ l. read_schedule x.form (take (schedule_length x.form k) l) k) written
              ∙ ap (λ l. read_schedule x.form l k) (pool_front fit x.form known costs _)
              ∙ pool_read fit x.form known costs;
        }

    by_plan : (o : Outcome Read) → read_plan plan ≡ o → Left plan n (pool_made n) (pool_into plan n schedule) t
    by_plan (refused k) e = refuses k (rw e)
    by_plan (accepted x) e = by_workers x e (workers_fit n) refl
