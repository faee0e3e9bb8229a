-- What the runner has written is the schedule of the run, whatever kind of run it is.
--   Fitting form n p rows == rows of a plan p and n workers that a schedule of that form has room for
--   Told p rows words     == each word is that of a row; rowed_told == so it is once every action is done
--   run_fitting, run_told, run_fits == of a stealing run
--   made_fits    == the schedule's length
--   made_words   == the words of the rows have as many bits as the form gives them
--   made_written == the header, the words' bits and what stood behind them are the schedule and what stood behind it
use Prim.Native.Nat.{ℕ, ◌+◌, ◌*◌, ◌^◌, ◌≤◌, ◌<◌}
use mathlib.Core.Path.{◌≡◌, sym, ap, ap₂, ◌∙◌}
use mathlib.Core.List.{List, ◌++◌, append_assoc}
use native.Mathlib.Omega.{arith}
use native.Mathlib.Nat.{zero-add}
use lib.Pow.{pow-add}
use lib.ListN.{length, get_or, drop}
use lib.Dec.{T}
use Rattle.fields.specs.Field.{pack}
use Rattle.plan.specs.Plan.{Plan, size, total}
use Rattle.plan.specs.Rules.{costs_fit}
use Rattle.plan.proofs.Laws.Placed.{locate}
use Rattle.plan.proofs.Laws.Valid.{total_range}
use Rattle.courses.specs.Row.{Row, no_row}
use Rattle.courses.specs.Schedule.{round_bits, schedule_length, schedule_bytes}
use Rattle.courses.proofs.Laws.Price.{work_fits}
use Rattle.courses.proofs.Laws.ScheduleBytes.{schedule_length_lem}
use Rattle.runs.specs.Setting.{setting}
use Rattle.runs.specs.Run.{run}
use Rattle.turns.specs.Rows.{row_at, Rowed}
use Rattle.scheduler.specs.Written.{header_bytes, words_bits, rows_length, Words, ScheduleWritten}
use Rattle.runs.proofs.Laws.Fit.{Fit}
use Rattle.runs.proofs.Laws.Coursed.{rows_length_lem, round_most, run_row}
use Rattle.runs.proofs.Laws.Whole.{run_trace, run_done}
use Rattle.scheduler.proofs.Laws.ScheduleBytes.{rows_words, schedule_bytes_lem}

pub record Fitting (form n : ℕ) (p : Plan) (rows : List Row) : Type 0 where
  pub byte : form < 256
  pub few : n ≤ 16
  pub small : total p ≤ 2048
  pub long : length rows ≡ total p
  pub narrow : (k : ℕ) → k < total p → ((get_or rows k no_row).round < 2 ^ round_bits form) × ((get_or rows k no_row).worker < 16)

pub run_fitting : {p : Plan} {n : ℕ} {choices : List ℕ} → Fit (setting p n choices) → {form : ℕ} → form < 256 → T (costs_fit form p)
    → Fitting form n p (run (setting p n choices)).rows
run_fitting {p} fit {form} byte costs =
    let (r, b, t, e, q) = run_trace fit in
    record {
      byte = byte;
      few = fit.most;
      small = (total_range p fit.plan).1;
      long = rows_length_lem fit t;
      narrow = λ k h.
          let d = run_row fit t e k h in
          (omega (arith, d.latest, round_most fit t, work_fits form p fit.plan costs), omega (arith, d.known, fit.most));
    }

abbrev pub Told : Plan → List Row → List ℕ → Type 0
Told p rows words = (k : ℕ) → k < total p → row_at words k ≡ 16 * (get_or rows k no_row).round + (get_or rows k no_row).worker

-- every action is done, so each word is that of a row
pub rowed_told : {p : Plan} {done : List ℕ} {rows : List Row} {words : List ℕ} → Rowed p done rows words
    → ((j : ℕ) → j < length p → get_or done j 0 ≡ size p j) → Told p rows words
rowed_told {p} rowed all k h =
    let l = locate p k h in
    rw l.place (rowed.each l.job l.position l.known (omega (arith, all l.job l.known, l.within)))

pub run_told : {p : Plan} {n : ℕ} {choices words : List ℕ} → Fit (setting p n choices)
    → (let s = run (setting p n choices) in Rowed p s.next s.rows words) → Told p (run (setting p n choices)).rows words
run_told fit rowed = rowed_told rowed (run_done fit)

module _ {form n : ℕ} {p : Plan} {rows : List Row} (fit : Fitting form n p rows) where
  abbrev w : ℕ
  w = round_bits form + 4

  pub made_fits : length (schedule_bytes form n rows) ≡ schedule_length form (total p)
  made_fits = schedule_length_lem form n rows ∙ ap (schedule_length form) fit.long

  module _ (words : List ℕ) (told : Told p rows words) where
    pub made_words : Words w (total p) words
    made_words k h = rw (pow-add 2 (round_bits form) 4) (omega (arith, told k h, fit.narrow k h))

    -- the header, the rows, and what stood behind them
    pub made_written : (before after : List ℕ) → ScheduleWritten form n (total p) words before after
        → after ≡ schedule_bytes form n rows ++ drop (length (schedule_bytes form n rows)) before
    made_written before after written =
        let m = rows_length w (total p) in
        let bits = rows_words (round_bits form) rows words 0 (λ k h.
        let i : k < total p = omega (arith, fit.long) in
        let (r, v) = fit.narrow k i in
        (r, v, ap (row_at words) (zero-add k) ∙ told k i)) in
        let all : schedule_bytes form n rows ≡ header_bytes form n (total p) ++ pack m (words_bits w words 0 (total p)) =
        schedule_bytes_lem form n rows fit.byte fit.few (omega (arith, fit.long, fit.small))
        ∙ rw (bits, fit.long) in
        let rest = drop (schedule_length form (total p)) before in
        written
        ∙ (sym (append_assoc (header_bytes form n (total p)) (pack m (words_bits w words 0 (total p))) rest)
        ∙ ap₂ (λ (x y : List ℕ). x ++ y) (sym all) (ap (λ (k : ℕ). drop k before) (sym made_fits)))

pub run_fits : (p : Plan) (n : ℕ) (choices : List ℕ) → Fit (setting p n choices) → (form : ℕ) → form < 256 → T (costs_fit form p)
    → length (schedule_bytes form n (run (setting p n choices)).rows) ≡ schedule_length form (total p)
run_fits p n choices fit form byte costs = made_fits (run_fitting fit byte costs)
