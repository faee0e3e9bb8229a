-- What a run into a schedule of 5,124 bytes tells of the build: the schedule fits, so what was answered is the build's own
-- outcome. Then what the build's input asks for.
use Prim.Native.Nat.{ℕ, ◌+◌, ◌-◌, ◌≤◌, ◌<◌}
use mathlib.Core.Path.{◌≡◌, sym, ap, ap₂, ◌∙◌}
use mathlib.Core.Logic.{◌⊎◌, inl, inr}
use mathlib.Core.List.{List, ◌++◌}
use native.Mathlib.Omega.{arith}
use lib.ListN.{length, get_or, take, drop, length-drop}
use lib.Seq.{take_all}
use borrow.Author.Tests.{le-leb, lt-ltb, le-ltb}
use Rattle.plan.specs.declared.sheet.Sheet.{Sheet}
use Rattle.plan.specs.Refusal.{Outcome, refused, accepted}
use Rattle.plan.specs.Plan.{Plan, total}
use Rattle.plan.specs.Rules.{Accepted, costs_fit}
use Rattle.plan.specs.Reader.{read_plan, Read}
use Rattle.plan.specs.Found.{ReadPlan}
use Rattle.plan.proofs.Laws.Valid.{total_range}
use Rattle.plan_measure.specs.declared.Measures.{Measures}
use Rattle.plan_measure.specs.Measure.{measures_of}
use Rattle.runs.specs.Setting.{setting}
use Rattle.runs.specs.declared.tally.Tally.{Tally}
use Rattle.runs.specs.Run.{run, admitted, run_of}
use Rattle.courses.specs.Schedule.{schedule_bytes}
use Rattle.runs.proofs.Laws.Admitted.{Stopped, Went, outcome}
use Rattle.scheduler.specs.Entry.{Result, resulted, made}
use Rattle.build.specs.declared.Counts.{Counts}
use Rattle.build.specs.Build.{counts_of, ran_with, choice_count, build_of}
use Rattle.build.specs.Parts.{BuildIn}
use Rattle.scheduler.proofs.Laws.RunBytes.{run_fits}
use Rattle.scheduler.proofs.Laws.RunAnswers.{read_runs}
use lib.Dec.{T}
use Rattle.courses.proofs.Laws.ScheduleBytes.{length_most}

-- the counts that are printed, of a tally and of measures
abbrev pub counted : Tally → Measures → Counts
counted t m =
    record {
      rounds = t.rounds;
      actions = t.actions;
      longest = m.longest;
      path = m.path;
      parallel = m.parallel;
      rest = m.rest;
      peak = t.peak;
      idle = t.idle;
      requests = t.requests;
      steals = t.steals;
      bare = t.bare;
      idle_victim = t.idle_victim;
    }

-- a plan that was read can be built
pub read_builds : {bytes : List ℕ} {plan : Sheet} {entering : List ℕ} (g : ReadPlan bytes plan entering) → BuildIn plan entering g.is
read_builds g = record { held = g.held; runs = read_runs _ _ _ g }

module _ (form : ℕ) (p : Plan) (ok : Accepted p) (byte : form < 256) (costs : T (costs_fit form p)) (n : ℕ) (choices schedule : List ℕ)
    (long : 5124 ≤ length schedule) where
  abbrev x : Read
  x = record { form = form; plan = p }

  abbrev answer : Outcome Tally
  answer = (resulted form (made (admitted (accepted x) n choices)) n schedule).answer

  abbrev built : Outcome Counts
  built = counts_of (accepted x) (admitted (accepted x) n choices)

  -- the run is turned down, or its tally is answered
  stopped_answer : (s : Stopped x n choices) → answer ≡ refused s.cause
  unfolding resulted
  stopped_answer s = ap (λ o. (resulted form (made o) n schedule).answer) s.not_run

  went_answer : Went x n choices → answer ≡ accepted (run (setting p n choices)).tally
  unfolding resulted
  went_answer w =
      let fits : length (schedule_bytes form n (run (setting p n choices)).rows) ≤ length schedule =
      omega (
        arith,
        run_fits p n choices (record { plan = ok; some = w.some; most = w.most }) form byte costs,
        length_most form (total p) (total_range p ok).1,
      ) in
      let whole : resulted form (made (admitted (accepted x) n choices)) n schedule ≡ record {
        answer = accepted (run (setting p n choices)).tally;
        schedule = schedule_bytes form n (run (setting p n choices)).rows ++ drop (length (schedule_bytes form n (run (setting p n choices)).rows)) schedule;
      } = rw (w.ran, resulted, le-leb _ _ fits) in
      ap (λ (r : Result). r.answer) whole

  pub build_refused : (k : ℕ) → ◌≡◌ {A = Outcome Tally} (refused k) answer → ◌≡◌ {A = Outcome Counts} (refused k) built
  unfolding counts_of
  build_refused k e = go (outcome x n choices)
    where
      go : Stopped x n choices ⊎ Went x n choices → ◌≡◌ {A = Outcome Counts} (refused k) built
      go (inl s) =
          let y : ◌≡◌ {A = Outcome Tally} (refused k) (refused s.cause) = e ∙ stopped_answer s in
          let i : k ≡ s.cause = cc in
          ap (λ m. refused m) i ∙ sym (ap (counts_of (accepted x)) s.not_run)
      go (inr w) =
          let y : ◌≡◌ {A = Outcome Tally} (refused k) (accepted (run (setting p n choices)).tally) = e ∙ went_answer w in
          cc

  pub build_counted : (t : Tally) (m : Measures) → ◌≡◌ {A = Outcome Tally} (accepted t) answer
      → m ≡ measures_of p → accepted (counted t m) ≡ built
  unfolding counts_of measures_of
  build_counted t m e q = go (outcome x n choices)
    where
      go : Stopped x n choices ⊎ Went x n choices → accepted (counted t m) ≡ built
      go (inl s) =
          let y : ◌≡◌ {A = Outcome Tally} (accepted t) (refused s.cause) = e ∙ stopped_answer s in
          cc
      go (inr w) =
          let y : ◌≡◌ {A = Outcome Tally} (accepted t) (accepted (run (setting p n choices)).tally) = e ∙ went_answer w in
          let i : t ≡ (run (setting p n choices)).tally = cc in
          ap₂ (λ t m. accepted (counted t m)) i q ∙ sym (ap (counts_of (accepted x)) w.ran)

-- the build of bytes, by what reading them tells
module _ (bytes : List ℕ) (n : ℕ) (choices : List ℕ) where
  pub ran_refused : (k : ℕ) → read_plan bytes ≡ refused k → refused k ≡ ran_with bytes n choices
  unfolding ran_with counts_of
  ran_refused k e = rw e

  pub ran_read : (x : Read) (o : Outcome Counts) → read_plan bytes ≡ accepted x → o ≡ counts_of (accepted x) (admitted (accepted x) n choices)
      → o ≡ ran_with bytes n choices
  unfolding ran_with run_of
  ran_read x o e q = q ∙ sym (ap (λ r. counts_of r (admitted r n choices)) e)

-- what the input asks for, by its length and its choice count
module _ (input : List ℕ) where
  pub build_short : length input < 3 → refused 1 ≡ build_of input
  unfolding build_of
  build_short h = rw (build_of, lt-ltb _ _ h)

  module _ (count : ℕ) (e : count ≡ choice_count input) (headed : 3 ≤ length input) where
    pub build_crowded : 4096 < count → refused 8 ≡ build_of input
    unfolding build_of
    build_crowded h =
        let g : 4096 < choice_count input = rw e at h in
        rw (build_of, le-ltb _ _ headed, lt-ltb _ _ g)

    module _ (few : count ≤ 4096) where
      pub build_lacking : length input < 3 + count → refused 1 ≡ build_of input
      unfolding build_of
      build_lacking h =
          let f : choice_count input ≤ 4096 = rw e at few in
          let g : length input < 3 + choice_count input = rw e at h in
          rw (build_of, le-ltb _ _ headed, le-ltb _ _ f, lt-ltb _ _ g)

      -- the parts that are lent: the choices, and all that is behind them
      pub build_runs : (n : ℕ) → n ≡ get_or input 0 0 → 3 + count ≤ length input
          → ran_with (take (length input - (3 + count)) (drop (3 + count) input)) n (take (3 + count - 3) (drop 3 input)) ≡ build_of input
      unfolding build_of
      build_runs n u h =
          let f : choice_count input ≤ 4096 = rw e at few in
          let g : 3 + choice_count input ≤ length input = rw e at h in
          let rest = take_all (length input - (3 + count)) (drop (3 + count) input) (omega (arith, length-drop (3 + count) input)) in
          let long : 3 + count - 3 ≡ count = omega arith in
          ap₂ (λ (plan : List ℕ) (k : ℕ). ran_with plan n (take k (drop 3 input))) rest long
          ∙ (ap₂ (λ (k m : ℕ). ran_with (drop (3 + k) input) m (take k (drop 3 input))) e u
          ∙ rw (build_of, le-ltb _ _ headed, le-ltb _ _ f, le-ltb _ _ g))
