-- The schedule of a run is well formed and keeps the checker's rules.
--   run_schedule == it is read back as the rows of the run
--   run_checked  == the checker accepts it
use Prim.Native.Nat.{ℕ, ◌^◌, ◌<◌}
use mathlib.Core.Path.{◌≡◌, refl, ap, ◌∙◌}
use mathlib.Core.Bool.{Bool, true, false}
use mathlib.Core.List.{List}
use native.Mathlib.Omega.{arith}
use lib.ListN.{length}
use lib.Dec.{T}
use Rattle.runs.specs.declared.worker.Worker.{Worker}
use Rattle.plan.specs.Refusal.{Outcome, refused, accepted}
use Rattle.plan.specs.Plan.{total}
use Rattle.plan.specs.Reader.{read_plan}
use Rattle.runs.specs.State.{State}
use Rattle.runs.specs.Run.{ended}
use Rattle.runs.specs.Setting.{Setting, count_in}
use Rattle.courses.specs.Schedule.{schedule_bytes, keeps, read_schedule, ruled, judged_by, checked, round_bits}
use Rattle.plan.proofs.Laws.Valid.{total_range}
use Rattle.runs.specs.Trace.{turning, Trace}
use Rattle.runs.proofs.Laws.Fit.{Fit}
use Rattle.courses.proofs.Laws.ScheduleBytes.{Small, schedule_read}
use Rattle.runs.proofs.Laws.Coursed.{rows_length_lem, run_row, run_keeps}

unbroken : (c : Bool) → T c → ◌≡◌ {A = Outcome ℕ} (elim c [ false ↦ refused 12 | true ↦ accepted 0 ]) (accepted 0)
unbroken true h = refl
unbroken false h = absurd h

-- the end of a run, whose rounds have no more bits than a schedule of that form has for one
module _ {S : Setting} (fit : Fit S) {r : ℕ} {b : List Worker} {s : State}
    (t : Trace S r b (turning (count_in S r)) s) (e : ended S.plan s ≡ true) (form : ℕ) (known : form < 256) (few : r < 2 ^ round_bits form) where
  open S use {plan}

  pub run_schedule : read_schedule form (schedule_bytes form S.workers s.rows) (total plan)
      ≡ accepted (record { workers = S.workers; rows = s.rows })
  run_schedule =
      let long : length s.rows ≡ total plan = rows_length_lem fit t in
      let small : Small (round_bits form) s.rows = λ k l.
      let d = run_row fit t e k (omega arith) in
      (d.first, omega (arith, d.latest), omega (arith, d.known)) in
      rw (← long) (schedule_read form S.workers s.rows known fit.some fit.most (omega (arith, total_range plan fit.plan)) small)

  -- no rule is broken
  run_ruled : ruled plan (read_schedule form (schedule_bytes form S.workers s.rows) (total plan)) ≡ accepted 0
  unfolding ruled
  run_ruled = ap (ruled plan) run_schedule ∙ unbroken (keeps plan S.workers s.rows) (run_keeps fit t e)

  pub run_checked : (bytes : List ℕ) → read_plan bytes ≡ accepted (record { form = form; plan = plan })
      → checked bytes (schedule_bytes form S.workers s.rows) ≡ accepted 0
  unfolding checked judged_by
  run_checked bytes f = ap (λ o. judged_by o (schedule_bytes form S.workers s.rows)) f ∙ run_ruled
