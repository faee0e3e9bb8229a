-- What the entry `run` answers, by what was read.
--   read_runs    == a plan that was read can be run
--   refuses_plan, answers_read == what is answered to bytes that hold no plan; to bytes that hold one, what its run answers
--   refuses_workers, refuses_choices, refuses_short == the run is turned down, by the first test that fails
--   run_asked, rows_asked, run_answers == where none does: its parts are given what they need, and it answers so
use Prim.Native.Nat.{ℕ, ◌+◌, ◌≤◌, ◌<◌}
use Rattle.std.specs.Prelude.{Result as Returned, Ok, Err}
use mathlib.Core.Path.{◌≡◌, sym, ap, ◌∙◌}
use mathlib.Core.Bool.{true, false}
use mathlib.Core.List.{List, ◌++◌}
use native.Mathlib.Omega.{arith}
use lib.ListN.{length, drop}
use lib.Dec.{leb, leb→le, le→leb}
use borrow.Author.Tests.{le-leb, lt-leb}
use Rattle.plan.specs.declared.sheet.Sheet.{Sheet}
use Rattle.plan.specs.declared.refusal.Refusal.{Refusal}
use Rattle.plan.specs.Contract.{◌⇒◌}
use Rattle.plan.specs.Refusal.{refused, accepted, number_of}
use Rattle.plan.specs.Plan.{Plan}
use Rattle.plan.specs.Reader.{Read, read_plan}
use Rattle.plan.specs.Found.{ReadPlan}
use Rattle.plan.proofs.Laws.Accepted.{accepted_form}
use Rattle.plan.proofs.Laws.Costs.{accepted_costs}
use Rattle.plan.proofs.Laws.Lists.{both_intro, both_left, both_right, true_of, false_of, of_true}
use Rattle.runs.specs.Setting.{setting}
use Rattle.runs.specs.declared.tally.Tally.{Tally}
use Rattle.runs.specs.State.{State}
use Rattle.runs.specs.Run.{run, workers_fit, choices_fit, admitted}
use Rattle.courses.specs.Schedule.{round_bits, schedule_length, schedule_bytes}
use Rattle.scheduler.specs.Entry.{Result, resulted, read_into, run_into, ran_of, Claimed}
use Rattle.rounds.specs.Rounds.{RunIn, RunGiven, RunLeft}
use Rattle.rounds.proofs.Laws.Beginning.{in_few}
use Rattle.scheduler.specs.RunRead.{RunsIn, Answered}
use Rattle.scheduler.specs.Written.{Words, ScheduleWritten}
use Rattle.runs.proofs.Laws.Fit.{Fit}
use Rattle.runs.proofs.Laws.Demand3.{run_bounded}
use Rattle.scheduler.proofs.Laws.RunBytes.{Fitting, run_fitting, Told, run_told, made_fits, made_words, made_written}

pub read_runs : (bytes : List ℕ) (plan : Sheet) (entering : List ℕ) (g : ReadPlan bytes plan entering) → RunsIn plan entering g.is
read_runs bytes plan entering g = record {
  runs = record { planned = g.held.planned; all = g.held.all; entered = g.entered; whole = g.whole };
  byte = accepted_form bytes (record { form = plan.form; plan = g.is }) g.read;
  costs = accepted_costs bytes (record { form = plan.form; plan = g.is }) g.read;
}

-- what is answered to the bytes; where there was no run the claim says nothing
abbrev Answers : List ℕ → ℕ → List ℕ → List ℕ → Returned Tally Refusal → List ℕ → Type 0
Answers bytes n choices before r after =
    (◌≡◌ {A = Result} (record { answer = ran_of r; schedule = after }) (run_into bytes n choices before)) × Claimed bytes n choices r after

module _ (bytes : List ℕ) (n : ℕ) (choices schedule : List ℕ) where
  pub refuses_plan : (cause : Refusal) → read_plan bytes ≡ refused (number_of cause)
      → Answers bytes n choices schedule (Err cause) schedule
  unfolding run_into read_into
  refuses_plan cause e = (rw e, λ t q. cc)

  pub answers_read : (form : ℕ) (p : Plan) (r : Returned Tally Refusal) (after : List ℕ) → read_plan bytes ≡ accepted (record { form = form; plan = p })
      → Answered form n choices schedule r after p → Answers bytes n choices schedule r after
  unfolding run_into read_into
  answers_read form p r after e (a, claimed) =
      (a ∙ ap (λ o. read_into o n choices schedule) (sym e), λ t q. (record { form = form; plan = p }, e, claimed t q))

module _ {plan : Sheet} {entering : List ℕ} {p : Plan} (given : RunsIn plan entering p) where
  g : RunIn plan entering p
  g = given.runs

  abbrev x : Read
  x = record { form = plan.form; plan = p }

  module _ (n : ℕ) (choices schedule : List ℕ) where
    refuses : (cause : Refusal) → admitted (accepted x) n choices ≡ refused (number_of cause)
        → Answered plan.form n choices schedule (Err cause) schedule p
    unfolding resulted
    refuses cause e = (rw e, λ t q. cc)

    pub refuses_workers : (1 ≤ n → n ≤ 16 → ⊥) → Answered plan.form n choices schedule (Err Refusal.Workers) schedule p
    unfolding admitted workers_fit
    refuses_workers never =
        let e : workers_fit n ≡ false = false_of (workers_fit n) (λ t.
        never (leb→le 1 n (both_left (leb 1 n) (leb n 16) t)) (leb→le n 16 (both_right (leb 1 n) (leb n 16) t))) in
        refuses Refusal.Workers (rw (admitted, e))

    module _ (some : 1 ≤ n) (most : n ≤ 16) where
      going : Fit (setting p n choices)
      going = record { plan = g.planned.rules; some = some; most = most }

      fits : workers_fit n ≡ true
      unfolding workers_fit
      fits = true_of (workers_fit n) (both_intro (leb 1 n) (leb n 16) (le→leb 1 n some) (le→leb n 16 most))

      pub refuses_choices : choices_fit n choices ≡ false → Answered plan.form n choices schedule (Err Refusal.Choices) schedule p
      unfolding admitted
      refuses_choices e = refuses Refusal.Choices (rw (admitted, fits, e))

      module _ (fit : choices_fit n choices ≡ true) where
        abbrev s : State
        s = run (setting p n choices)

        ran : admitted (accepted x) n choices ≡ accepted s
        unfolding admitted
        ran = rw (admitted, fits, fit)

        fitting : Fitting plan.form n p s.rows
        fitting = run_fitting going given.byte given.costs

        whole : length (schedule_bytes plan.form n s.rows) ≡ schedule_length plan.form plan.actions
        whole = made_fits fitting ∙ ap (schedule_length plan.form) (sym g.all)

        pub refuses_short : length schedule < schedule_length plan.form plan.actions → Answered plan.form n choices schedule (Err Refusal.Short) schedule p
        unfolding resulted
        refuses_short h =
            let l : length schedule < length (schedule_bytes plan.form n s.rows) = omega (arith, whole) in
            (rw (ran, resulted, lt-leb _ _ l), λ t q. cc)

        -- what all rounds are given
        pub run_asked : RunGiven n choices plan entering p
        run_asked =
            record {
              given = g;
              some = some;
              most = most;
              fit = of_true (choices_fit n choices) fit;
            }

        -- all rounds leave the rows in words, which are then written
        module _ (long : schedule_length plan.form plan.actions ≤ length schedule) (t : Tally) (words : List ℕ)
            (told : RunGiven n choices plan entering ⇒ RunLeft n choices t words) where
          left : RunLeft n choices t words p
          left = told p run_asked

          words_are : Told p s.rows words
          words_are = run_told going left.rowed

          -- what writing the schedule is given
          pub rows_asked : (plan.form < 256) × (n ≤ 16) × (plan.actions ≤ 2048) × (schedule_length plan.form plan.actions ≤ length schedule)
              × Words (round_bits plan.form + 4) plan.actions words
          rows_asked = (given.byte, most, in_few g, long, rw g.all (made_words fitting words words_are))

          pub run_answers : (out : List ℕ) → ScheduleWritten plan.form n plan.actions words schedule out
              → Answered plan.form n choices schedule (Ok t) out p
          unfolding resulted
          run_answers out w =
              let bytes = schedule_bytes plan.form n s.rows in
              let fit : length bytes ≤ length schedule = omega (arith, whole) in
              let is : out ≡ bytes ++ drop (length bytes) schedule = made_written fitting words words_are schedule out (rw g.all at w) in (
                rw (left.counts, is, ran, resulted, le-leb _ _ fit),
                λ u v. let same : u ≡ s.tally = cc left.counts in rw (same, is) (run_bounded going plan.form given.byte given.costs (drop (length bytes) schedule)),
              )
