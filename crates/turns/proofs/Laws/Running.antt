-- What a state of a run gives at a glance.
--   run_fit, run_sound               == its setting is let through, and it is sound
--   run_counts                       == the round and the counts are small
--   run_countable, run_restable      == so that each event, and sixteen idle turns, can be counted in 32 bits
--   run_choices, run_few, run_chosen == a worker that was idle as the round began can choose, among few choices, a worker that there is
--   run_at                           == the same run at another stage
--   run_turns, run_lays, run_serves  == its states after the turns, the requests and the services of the workers below k
use Prim.Native.Nat.{ℕ, ◌≤◌, ◌<◌}
use mathlib.Core.Path.{◌≡◌}
use mathlib.Core.List.{List}
use native.Mathlib.Omega.{arith}
use lib.ListN.{length, get_or}
use lib.Dec.{leb, ltb, leb→le, ltb→lt}
use Rattle.plan.specs.Test.{all}
use Rattle.plan.proofs.Laws.Lists.{both_left, both_right, all_at}
use Rattle.runs.specs.Setting.{Setting, count_in}
use Rattle.runs.specs.Run.{choices_fit}
use Rattle.runs.specs.declared.worker.Worker.{Worker}
use Rattle.runs.specs.declared.worker.Worker.TheVariants.{Idle}
use Rattle.runs.specs.declared.tally.Tally.{Tally}
use Rattle.runs.specs.State.{State}
use Rattle.runs.specs.Turn.{turns}
use Rattle.runs.specs.Steal.{lays, serves}
use Rattle.runs.specs.Trace.{Stage, turning, laying, serving, Trace}
use Rattle.turns.specs.Count.{Countable, Restable}
use Rattle.turns.specs.Moments.{InRun}
use Rattle.runs.proofs.Laws.Fit.{Fit}
use Rattle.runs.proofs.Laws.Lined.{Sound}
use Rattle.runs.proofs.Laws.Sound.{trace_sound}
use Rattle.runs.proofs.Laws.Began.{idle_unheld}
use Rattle.runs.proofs.Laws.Victims.{laid_choices}
use Rattle.runs.proofs.Laws.Whole.{counts_small, turns_trace, lays_trace, serves_trace}

module _ {S : Setting} {r : ℕ} {b : List Worker} {g : Stage} {s : State} (run : InRun S r b g s) where
  pub run_fit : Fit S
  run_fit = record { plan = run.accepted; some = run.some; most = run.most }

  pub run_sound : Sound S.plan S.workers s
  unfolding count_in
  run_sound = trace_sound run_fit run.trace

  pub run_counts : (r ≤ 30720) × (s.tally.rounds ≤ r) × (s.tally.actions ≤ 30720) × (s.tally.idle ≤ 491520)
      × (s.tally.requests ≤ 491520) × (s.tally.steals ≤ 491520) × (s.tally.bare ≤ 491520) × (s.tally.idle_victim ≤ 491520)
  run_counts = counts_small run_fit run.trace

  pub run_countable : {t : Tally} → t ≡ s.tally → Countable t
  run_countable e =
      let q = run_counts in
      rw e (record {
        actions = omega (arith, q.2);
        requests = omega (arith, q.4);
        steals = omega (arith, q.5);
        bare = omega (arith, q.6);
        idle_victim = omega (arith, q.7);
      })

  pub run_restable : {t : Tally} (k : ℕ) → k ≤ 16 → t ≡ s.tally → Restable t k
  run_restable k h e = rw e (omega (arith, run_counts.3))

  pub run_choices : (w : ℕ) → w < S.workers → get_or b w Idle ≡ Idle → 1 ≤ length S.choices
  unfolding count_in
  run_choices w h e = laid_choices run_fit run.fit run.trace w h (rw e idle_unheld)

  pub run_few : length S.choices ≤ 4096
  unfolding choices_fit
  run_few =
      leb→le (length S.choices) 4096
      (both_left (leb (length S.choices) 4096) _ (both_right (all (λ c. ltb c S.workers) S.choices) _ run.fit))

  -- every choice is a worker that there is
  pub run_chosen : (i : ℕ) → i < length S.choices → get_or S.choices i 0 < S.workers
  unfolding choices_fit
  run_chosen i h =
      ltb→lt (get_or S.choices i 0) S.workers
      (all_at (λ c. ltb c S.workers) S.choices (both_left (all (λ c. ltb c S.workers) S.choices) _ run.fit) 0 i h)

pub run_at : {S : Setting} {r r' : ℕ} {b b' : List Worker} {g g' : Stage} {s s' : State} → InRun S r b g s → Trace S r' b' g' s'
    → InRun S r' b' g' s'
run_at run t = record { accepted = run.accepted; some = run.some; most = run.most; fit = run.fit; trace = t }

module _ {S : Setting} {r : ℕ} {b : List Worker} {s : State} where
  pub run_turns : InRun S r b (turning 0) s → (k : ℕ) → k ≤ S.workers → InRun S r b (turning k) (turns S.plan r k b s)
  unfolding count_in
  run_turns run k h = run_at run (turns_trace run.trace k h)

  pub run_lays : InRun S r b (laying 0) s → (k : ℕ) → k ≤ S.workers → InRun S r b (laying k) (lays S r k b s)
  unfolding count_in
  run_lays run k h = run_at run (lays_trace run.trace k h)

  pub run_serves : InRun S r b (serving 0) s → (k : ℕ) → k ≤ S.workers → InRun S r b (serving k) (serves S r k s)
  unfolding count_in
  run_serves run k h = run_at run (serves_trace run.trace k h)
