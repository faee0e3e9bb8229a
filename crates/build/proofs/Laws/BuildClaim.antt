-- The claim of a run and the quotient, of the counts that a build answers.
--   counts_bounded == they hold of the counts of a run
--   build_claimed  == so of what `build` answers, whatever its input
use Prim.Native.Nat.{ℕ, ◌+◌}
use mathlib.Core.Path.{◌≡◌, refl, sym, ap, ◌∙◌}
use mathlib.Core.Logic.{◌⊎◌, inl, inr}
use mathlib.Core.Bool.{Bool, true, false}
use mathlib.Core.List.{List}
use native.Mathlib.Omega.{arith}
use lib.ListN.{length, get_or}
use lib.Dec.{ltb}
use Rattle.std.specs.Prelude.{Result}
use Rattle.plan.specs.declared.refusal.Refusal.{Refusal}
use Rattle.plan.specs.Refusal.{Outcome, refused, accepted}
use Rattle.plan.specs.Reader.{read_plan, Read}
use Rattle.plan.proofs.Laws.Accepted.{accepted_kept}
use Rattle.plan.proofs.Laws.Outcomes.{refused_accepted}
use Rattle.plan_measure.specs.Measure.{measures_of}
use Rattle.plan_measure.proofs.Laws.Parallel.{quotient}
use Rattle.runs.specs.Setting.{Setting, setting}
use Rattle.runs.specs.Run.{run, admitted, run_of}
use Rattle.runs.proofs.Laws.Fit.{Fit}
use Rattle.runs.proofs.Laws.Admitted.{Stopped, Went, outcome}
use Rattle.runs.proofs.Laws.Whole.{run_trace}
use Rattle.runs.proofs.Laws.Coursed.{most_peak}
use Rattle.runs.proofs.Laws.Demand3.{run_bounds}
use Rattle.build.specs.declared.Counts.{Counts}
use Rattle.build.specs.Build.{counts_of, ran_with, choice_count, plan_in, choices_in, build_of, built_of, CountBounds, Claimed}
use Rattle.build.proofs.Laws.Builds.{counted}

counts_bounded : {S : Setting} → Fit S
    → CountBounds S (counted (run S).tally (measures_of S.plan))
unfolding measures_of
counts_bounded {S} fit =
    let b = run_bounds fit in
    let (r, began, t, e, q) = run_trace fit in
    record {
      actions = b.actions;
      longest_chain = refl;
      heaviest_path = refl;
      over = b.over;
      most_rounds = omega (arith, b.most_rounds, b.actions);
      least_rounds = b.least_rounds;
      space = most_peak fit t e;
      lone_peak = b.lone_peak;
      lone_rounds = λ l. b.lone_rounds l ∙ sym b.actions;
      turns = b.turns;
      requests = b.requests;
      misses_split = b.misses_split;
      quotient = rw b.actions (quotient S.plan fit.plan);
      spare = b.spare;
    }

module _ (plan : List ℕ) (n : ℕ) (choices : List ℕ) (c : Counts) where
  abbrev Holds : Type 0
  Holds = (x : Read) × (read_plan plan ≡ accepted x) × CountBounds (setting x.plan n choices) c

  ran_claimed : ran_with plan n choices ≡ accepted c → Holds
  unfolding ran_with counts_of run_of measures_of
  ran_claimed e = by_plan (read_plan plan) refl e
    where
      by_run : (x : Read) → read_plan plan ≡ accepted x → Stopped x n choices ⊎ Went x n choices
          → counts_of (accepted x) (admitted (accepted x) n choices) ≡ accepted c → Holds
      by_run x f (inl s) e = refused_accepted (sym (ap (counts_of (accepted x)) s.not_run) ∙ e)
      by_run x f (inr w) e =
          let S = setting x.plan n choices in
          let fit : Fit S = record { plan = accepted_kept plan x f; some = w.some; most = w.most } in
          let told : Counts = counted (run S).tally (measures_of x.plan) in
          let y : ◌≡◌ {A = Outcome Counts} (accepted told) (accepted c) = sym (ap (counts_of (accepted x)) w.ran) ∙ e in
          let same : told ≡ c = cc in
          (x, f, rw same at (counts_bounded fit))

      by_plan : (o : Outcome Read) → read_plan plan ≡ o → counts_of o (admitted o n choices) ≡ accepted c → Holds
      by_plan (refused k) f e = refused_accepted e
      by_plan (accepted x) f e = by_run x f (outcome x n choices) e

-- the first three tests turn the input down
tested : {A : Type 0} (a b c : Bool) (o : Outcome A) {x : A}
    → elim a [ true ↦ refused 1 | false ↦ elim b [ true ↦ refused 8 | false ↦ elim c [ true ↦ refused 1 | false ↦ o ] ] ] ≡ accepted x
    → o ≡ accepted x
tested true b c o e = refused_accepted e
tested false true c o e = refused_accepted e
tested false false true o e = refused_accepted e
tested false false false o e = e

pub build_claimed : (input : List ℕ) (r : Result Counts Refusal) → built_of r ≡ build_of input → Claimed input r
unfolding build_of
build_claimed input r e c f =
    ran_claimed (plan_in input) (get_or input 0 0) (choices_in input) c
    (tested (ltb (length input) 3) (ltb 4096 (choice_count input)) (ltb (length input) (3 + choice_count input))
    (ran_with (plan_in input) (get_or input 0 0) (choices_in input)) (sym e ∙ ap built_of f))
