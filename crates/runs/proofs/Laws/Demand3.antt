-- Demand 3, whole: the claim of specs/Claim.antt about every run, and about the schedule that it writes.
--   run_bounds  == the bounds hold of the rows and the tally of a run
--   run_bounded == and of the rows that are read off its schedule, whatever follows this
--   every_order == so of every plan that is accepted and every list of choices, however long
--   demand3     == and of all that is accepted
use Prim.Native.Nat.{ℕ, ◌≤◌, ◌^◌, ◌<◌}
use mathlib.Core.Path.{◌≡◌, sym, ap, ◌∙◌}
use mathlib.Core.List.{List, ◌++◌}
use native.Mathlib.Omega.{arith}
use lib.Dec.{T, ltb, leb→le}
use lib.ListN.{length}
use lib.Seq.{take_at}
use Rattle.plan.specs.Test.{all}
use Rattle.plan.specs.Plan.{size, total}
use Rattle.runs.specs.Setting.{Setting, setting}
use Rattle.runs.specs.State.{next_of}
use Rattle.runs.specs.Run.{run, choices_fit}
use Rattle.courses.specs.Schedule.{schedule_bytes, read_schedule, round_bits, schedule_length}
use Rattle.runs.specs.Claim.{Bounded, Claim, Demand3, EveryOrder}
use Rattle.plan_measure.specs.Measure.{longest}
use Rattle.plan.proofs.Laws.Accepted.{accepted_kept}
use Rattle.plan.proofs.Laws.Lists.{both_left, of_true}
use Rattle.plan_measure.proofs.Laws.Parallel.{quotient, spare_turns}
use Rattle.runs.proofs.Laws.Fit.{Fit}
use Rattle.runs.proofs.Laws.Admitted.{workers_range}
use Rattle.runs.proofs.Laws.Whole.{run_trace, rounds_most, run_actions, run_turns, run_requests, lone_rounds}
use Rattle.runs.proofs.Laws.Misses.{run_misses}
use Rattle.runs.proofs.Laws.Coursed.{rows_length_lem, run_row, round_most, job_0_ends, last_round_lem, least_rounds}
use Rattle.runs.proofs.Laws.Coursed.{run_space, run_peak, below_peak, lone_peak}
use Rattle.courses.proofs.Laws.ScheduleBytes.{schedule_length_lem}
use Rattle.runs.proofs.Laws.OwnSchedule.{run_schedule}
use Rattle.plan.specs.Rules.{costs_fit}
use Rattle.courses.proofs.Laws.Price.{work_fits}

pub run_bounds : {S : Setting} → Fit S → Claim S
run_bounds {S} fit =
    let (r, b, t, e, q) = run_trace fit in
    let least : longest S.plan ≤ (run S).tally.rounds = omega (arith, least_rounds fit t e) in
    record {
      done = λ k h. let d = run_row fit t e k h in (d.first, omega (arith, d.latest), d.known);
      over = leb→le (size S.plan 0) (next_of (run S) 0) (of_true _ e);
      ends = job_0_ends fit t e ∙ sym q;
      space = run_space fit t e;
      most_rounds = rounds_most fit;
      least_rounds = least;
      lone_peak = lone_peak fit t e;
      lone_rounds = lone_rounds fit;
      peak = run_peak fit t e;
      below_peak = below_peak fit t e;
      rounds = q ∙ sym (last_round_lem fit t e);
      actions = run_actions fit;
      turns = run_turns fit;
      spare = spare_turns S.workers _ (quotient S.plan fit.plan) least (rw (run_actions fit) at (run_turns fit));
      requests = run_requests fit;
      misses_split = run_misses S;
    }

pub run_bounded : {S : Setting} → Fit S → (form : ℕ) → form < 256 → T (costs_fit form S.plan) → (rest : List ℕ)
    → Bounded S form (schedule_bytes form S.workers (run S).rows ++ rest) (run S).tally
run_bounded {S} fit form known costs rest =
    let out = schedule_bytes form S.workers (run S).rows in
    let m = total S.plan in
    let (r, b, t, e, q) = run_trace fit in
    let few : r < 2 ^ round_bits form = omega (arith, round_most fit t, work_fits form S.plan fit.plan costs) in
    let long : length out ≡ schedule_length form m = schedule_length_lem form S.workers (run S).rows ∙ ap (schedule_length form) (rows_length_lem fit t) in
    record {
      rows = (run S).rows;
      read = ap (λ l. read_schedule form l m) (take_at out rest (schedule_length form m) long) ∙ run_schedule fit t e form known few;
      bounds = run_bounds fit;
    }

pub every_order : EveryOrder
every_order s x n choices a w c =
    run_bounds {S = setting x.plan n choices} (record { plan = accepted_kept s x a; some = (workers_range n w).0; most = (workers_range n w).1 })

pub demand3 : Demand3
unfolding choices_fit
demand3 s x n choices a w c = every_order s x n choices a w (both_left (all (λ c. ltb c n) choices) _ c)
