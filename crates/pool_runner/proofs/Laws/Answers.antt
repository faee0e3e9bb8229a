-- What the entry `pool` answers, by what was read.
--   refuses_plan, answers_read == what is answered to bytes that hold no plan; to bytes that hold one, what its run answers
--   refuses_workers, refuses_short == the run is turned down, by the first test that fails
--   pool_asked, rows_asked, pool_answers == where none does: its parts are given what they need, and it answers so
use Prim.Native.Nat.{ℕ, ◌+◌, ◌≤◌, ◌<◌}
use mathlib.Core.Path.{◌≡◌, sym, ap, ◌∙◌}
use mathlib.Core.Bool.{true, false}
use mathlib.Core.List.{List, ◌++◌}
use native.Mathlib.Omega.{arith}
use lib.ListN.{length, take, drop}
use lib.Dec.{leb, leb→le, le→leb}
use borrow.Author.Tests.{le-leb, lt-leb}
use Rattle.plan.specs.declared.sheet.Sheet.{Sheet}
use Rattle.plan.specs.declared.refusal.Refusal.{Refusal}
use Rattle.plan.specs.Contract.{◌⇒◌}
use Rattle.plan.specs.Refusal.{refused, accepted, number_of}
use Rattle.plan.specs.Plan.{Plan, total}
use Rattle.plan.specs.Reader.{Read, read_plan}
use Rattle.plan.proofs.Laws.Lists.{both_intro, both_left, both_right, true_of, false_of}
use Rattle.plan.proofs.Laws.Valid.{total_range}
use Rattle.courses.specs.Schedule.{round_bits, schedule_length, schedule_bytes, checked}
use Rattle.courses.proofs.Laws.Price.{work_fits}
use Rattle.runs.specs.declared.tally.Tally.{Tally}
use Rattle.runs.specs.Run.{workers_fit}
use Rattle.std.specs.Prelude.{Result as Returned, Ok, Err}
use Rattle.scheduler.specs.Entry.{Result, resulted, ran_of}
use Rattle.scheduler.specs.RunRead.{RunsIn}
use Rattle.scheduler.specs.Written.{Words, ScheduleWritten}
use Rattle.scheduler.proofs.Laws.RunBytes.{Fitting, Told, rowed_told, made_fits, made_words, made_written}
use Rattle.rounds.proofs.Laws.Beginning.{in_few}
use Rattle.rounds.specs.Rounds.{RunIn}
use Rattle.pools.specs.Run.{pool as pool_of, admitted}
use Rattle.pools.proofs.Laws.Claimed.{pool_bounds, pool_long, pool_done, pool_front, pool_bounded, pool_checked}
use Rattle.pools.proofs.Laws.Coursed.{Fit}
use Rattle.pool_runner.specs.Entry.{read_into, pool_into, Claimed}
use Rattle.pool_runner.specs.Rounds.{PoolGiven, PoolLeft, Answered}

-- what is answered to the bytes; where there was no run the claim says nothing
abbrev Answers : List ℕ → ℕ → List ℕ → Returned Tally Refusal → List ℕ → Type 0
Answers bytes n before r after =
    (◌≡◌ {A = Result} (record { answer = ran_of r; schedule = after }) (pool_into bytes n before)) × Claimed bytes n r after

module _ (bytes : List ℕ) (n : ℕ) (schedule : List ℕ) where
  pub refuses_plan : (cause : Refusal) → read_plan bytes ≡ refused (number_of cause) → Answers bytes n schedule (Err cause) schedule
  unfolding pool_into read_into
  refuses_plan cause e = (rw e, λ t q. cc)

  pub answers_read : (form : ℕ) (p : Plan) (r : Returned Tally Refusal) (after : List ℕ) → read_plan bytes ≡ accepted (record { form = form; plan = p })
      → Answered form n schedule r after p → Answers bytes n schedule r after
  unfolding pool_into read_into
  answers_read form p r after e (a, claimed) = (
    a ∙ ap (λ o. read_into o n schedule) (sym e),
    λ t q. let (bounded, accepts) = claimed t q in (record { form = form; plan = p }, e, bounded, accepts bytes e),
  )

module _ {plan : Sheet} {entering : List ℕ} {p : Plan} (given : RunsIn plan entering p) where
  g : RunIn plan entering p
  g = given.runs

  abbrev x : Read
  x = record { form = plan.form; plan = p }

  module _ (n : ℕ) (schedule : List ℕ) where
    pub refuses_workers : (1 ≤ n → n ≤ 16 → ⊥) → Answered plan.form n schedule (Err Refusal.Workers) schedule p
    unfolding admitted workers_fit resulted
    refuses_workers never =
        let e : workers_fit n ≡ false = false_of (workers_fit n) (λ t.
        never (leb→le 1 n (both_left (leb 1 n) (leb n 16) t)) (leb→le n 16 (both_right (leb 1 n) (leb n 16) t))) in
        let no : admitted (accepted x) n ≡ refused 7 = rw (admitted, e) in
        (rw no, λ t q. cc)

    module _ (some : 1 ≤ n) (most : n ≤ 16) where
      fit : Fit p n
      fit = record { plan = g.planned.rules; some = some; most = most }

      ran : admitted (accepted x) n ≡ accepted (pool_of p n)
      unfolding admitted workers_fit
      ran =
          let e : workers_fit n ≡ true = true_of (workers_fit n) (both_intro (leb 1 n) (leb n 16) (le→leb 1 n some) (le→leb n 16 most)) in
          rw (admitted, e)

      fitting : Fitting plan.form n p (pool_of p n).rows
      fitting = record {
        byte = given.byte;
        few = most;
        small = (total_range p g.planned.rules).1;
        long = pool_long fit;
        narrow = λ k h.
            let b = pool_bounds fit in
            let d = b.done k h in
            (omega (arith, d.1, b.most_rounds, work_fits plan.form p g.planned.rules given.costs), omega (arith, d.2));
      }

      whole : length (schedule_bytes plan.form n (pool_of p n).rows) ≡ schedule_length plan.form plan.actions
      whole = made_fits fitting ∙ ap (schedule_length plan.form) (sym g.all)

      pub refuses_short : length schedule < schedule_length plan.form plan.actions → Answered plan.form n schedule (Err Refusal.Short) schedule p
      unfolding resulted
      refuses_short h =
          let l : length schedule < length (schedule_bytes plan.form n (pool_of p n).rows) = omega (arith, whole) in
          (rw (ran, resulted, lt-leb _ _ l), λ t q. cc)

      -- what all rounds are given
      pub pool_asked : PoolGiven n plan entering p
      pool_asked = record { given = g; some = some; most = most }

      -- all rounds leave the rows in words, which are then written
      module _ (long : schedule_length plan.form plan.actions ≤ length schedule) (t : Tally) (words : List ℕ)
          (told : PoolGiven n plan entering ⇒ PoolLeft n t words) where
        left : PoolLeft n t words p
        left = told p pool_asked

        words_are : Told p (pool_of p n).rows words
        words_are = rowed_told left.rowed (pool_done fit)

        -- what writing the schedule is given
        pub rows_asked : (plan.form < 256) × (n ≤ 16) × (plan.actions ≤ 2048) × (schedule_length plan.form plan.actions ≤ length schedule)
            × Words (round_bits plan.form + 4) plan.actions words
        rows_asked = (given.byte, most, in_few g, long, rw g.all (made_words fitting words words_are))

        pub pool_answers : (out : List ℕ) → ScheduleWritten plan.form n plan.actions words schedule out → Answered plan.form n schedule (Ok t) out p
        unfolding resulted
        pool_answers out w =
            let bytes = schedule_bytes plan.form n (pool_of p n).rows in
            let room : length bytes ≤ length schedule = omega (arith, whole) in
            let rest = drop (length bytes) schedule in
            let is : out ≡ bytes ++ rest = made_written fitting words words_are schedule out (rw g.all at w) in (
              rw (left.counts, is, ran, resulted, le-leb _ _ room),
              λ u v. let same : u ≡ (pool_of p n).tally = cc left.counts in (
                rw (same, is) (pool_bounded fit plan.form given.byte given.costs rest),
                λ source e.
                    ap (λ l. checked source (take (schedule_length plan.form (total p)) l)) is
                    ∙ ap (checked source) (pool_front fit plan.form given.byte given.costs rest)
                    ∙ pool_checked fit plan.form given.byte given.costs source e,
              ),
            )
