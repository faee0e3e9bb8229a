-- The whole run: its fuel is enough, it ends in at most T1 rounds and has done every action, in T1 turns.
--   Finished S s == s is the state in which a run ends: all turns of a round are taken, and job 0 has ended
--   run_trace    == a run ends in such a state: T1 rounds are enough
--   rounds_most, run_done, run_actions, run_turns, run_requests, lone_rounds == so of its rounds, its actions and its counts
--   turns_trace, lays_trace, serves_trace, round_last, round_on, rounds_stop, rounds_on == its rounds and halves, as steps
use Prim.Native.Nat.{ℕ, zero, suc, ◌+◌, ◌*◌, ◌≤◌, ◌<◌}
use mathlib.Core.Path.{◌≡◌, refl, ap, sym, ◌∙◌}
use mathlib.Core.Bool.{Bool, true, false}
use mathlib.Core.List.{List}
use native.Mathlib.Nat.{le_refl, one-mul}
use native.Mathlib.Omega.{arith}
use lib.ListN.{length}
use Rattle.runs.specs.declared.worker.Worker.{Worker}
use Rattle.plan.specs.Plan.{size}
use Rattle.plan_measure.specs.Measure.{work}
use Rattle.runs.specs.Setting.{Setting, count_in}
use Rattle.runs.specs.State.{State, next_of, start}
use Rattle.runs.specs.Turn.{turns}
use Rattle.runs.specs.Steal.{lays, serves, waiting}
use Rattle.runs.specs.Run.{ended, round, rounds, run}
use Rattle.plan_measure.proofs.Laws.Work.{work_range}
use Rattle.runs.specs.Trace.{Stage, turning, laying, serving, Trace, begins, turned, goes_on, laid, all_laid, served, next_round}
use Rattle.runs.proofs.Laws.Fit.{Fit, count_some, count_is}
use Rattle.runs.proofs.Laws.Sound.{trace_sound, all_done}
use Rattle.runs.proofs.Laws.Rounds.{rounds_known, numbered_late, numbered_most, not_ended}
use Rattle.runs.proofs.Laws.Coursed.{round_most, actions_most, actions_all}
use Rattle.runs.proofs.Laws.Tallies.{counts_most, counts_same, turns_sum, turns_most, requests_most, lone_idle}
use Rattle.runs.proofs.Laws.Waiting.{requests_sum}

abbrev pub Finished : Setting → State → Type 0
Finished S s =
    (r : ℕ) × (b : List Worker) × Trace S r b (turning (count_in S r)) s × (ended S.plan s ≡ true) × (s.tally.rounds ≡ r)

module _ {S : Setting} where
  open S use {plan}

  pub turns_trace : {r : ℕ} {b : List Worker} {s : State} → Trace S r b (turning 0) s → (k : ℕ) → k ≤ count_in S r
      → Trace S r b (turning k) (turns plan r k b s)
  unfolding turns
  turns_trace t zero h = t
  turns_trace t (suc k) h = turned (turns_trace t k (omega arith)) h

  pub lays_trace : {r : ℕ} {b : List Worker} {s : State} → Trace S r b (laying 0) s → (k : ℕ) → k ≤ count_in S r
      → Trace S r b (laying k) (lays S r k b s)
  unfolding lays
  lays_trace t zero h = t
  lays_trace t (suc k) h = laid (lays_trace t k (omega arith)) h

  pub serves_trace : {r : ℕ} {b : List Worker} {s : State} → Trace S r b (serving 0) s → (k : ℕ) → k ≤ count_in S r
      → Trace S r b (serving k) (serves S r k s)
  unfolding serves
  serves_trace t zero h = t
  serves_trace t (suc k) h = served (serves_trace t k (omega arith)) h

module _ (S : Setting) where
  open S use {plan}

  -- a round with and without a second half
  module _ (r : ℕ) (s : State) (e : suc s.tally.rounds ≡ r) where
    pub round_last : ended plan (turns plan r (count_in S r) s.workers s) ≡ true → round S s ≡ turns plan r (count_in S r) s.workers s
    unfolding round
    round_last f =
        let g : ended plan (turns plan (suc s.tally.rounds) (count_in S (suc s.tally.rounds)) s.workers s) ≡ true = rw e f in
        rw (← e, round, g)

    pub round_on : ended plan (turns plan r (count_in S r) s.workers s) ≡ false
        → round S s ≡ serves S r (count_in S r) (lays S r (count_in S r) s.workers (turns plan r (count_in S r) s.workers s))
    unfolding round
    round_on f =
        let g : ended plan (turns plan (suc s.tally.rounds) (count_in S (suc s.tally.rounds)) s.workers s) ≡ false = rw e f in
        rw (← e, round, g)

  pub rounds_stop : (k : ℕ) (s : State) → ended plan s ≡ true → rounds k S s ≡ s
  unfolding rounds
  rounds_stop zero s e = refl
  rounds_stop (suc k) s e = rw (rounds, e)

  pub rounds_on : (k : ℕ) (s : State) → ended plan s ≡ false → rounds (suc k) S s ≡ rounds k S (round S s)
  unfolding rounds
  rounds_on k s e = rw (rounds, e)

module _ {S : Setting} (fit : Fit S) where
  open S use {plan}

  -- so every count but the peak stays small
  pub counts_small : {r : ℕ} {b : List Worker} {g : Stage} {s : State} → Trace S r b g s
      → (r ≤ 30720) × (s.tally.rounds ≤ r) × (s.tally.actions ≤ 30720) × (s.tally.idle ≤ 491520) × (s.tally.requests ≤ 491520)
      × (s.tally.steals ≤ 491520) × (s.tally.bare ≤ 491520) × (s.tally.idle_victim ≤ 491520)
  counts_small {r} {g = g} {s} t =
      let few : r ≤ 30720 = omega (arith, round_most fit t, work_range plan fit.plan) in
      let all = counts_most fit r in
      let requests : s.tally.requests ≤ 491520 = omega (arith, requests_most fit t) in
      let settled = requests_sum fit t in (
        few,
        numbered_most g (rounds_known fit t),
        omega (arith, actions_most fit t, work_range plan fit.plan),
        omega (arith, turns_most fit t),
        requests,
        omega arith,
        omega arith,
        omega arith,
      )

  -- fuel for the rounds that are left of T1 is enough
  rounds_finish : (k r : ℕ) (s : State) → Trace S r s.workers (turning 0) s → work plan < k + r → Finished S (rounds k S s)
  rounds_finish zero r s t h = absurd (omega (arith, round_most fit t))
  rounds_finish (suc k) r s t h = rw (rounds_on S k s (not_ended fit t)) (go (ended plan half) refl (rounds_finish k))
    where
      n : ℕ
      n = count_in S r

      half : State
      half = turns plan r n s.workers s

      known : suc s.tally.rounds ≡ r
      known = rounds_known fit t

      taken : Trace S r s.workers (turning n) half
      taken = turns_trace t n (le_refl n)

      go : (x : Bool) → ended plan half ≡ x
          → ((r : ℕ) (s : State) → Trace S r s.workers (turning 0) s → work plan < k + r → Finished S (rounds k S s))
          → Finished S (rounds k S (round S s))
      go true f rec =
          rw (round_last S r s known f, rounds_stop S k half f)
          (r, s.workers, taken, f, numbered_late (count_some fit r) (rounds_known fit taken))
      go false f rec =
          rw (round_on S r s known f)
          (rec (suc r) _ (next_round (serves_trace (all_laid (lays_trace (goes_on taken f) n (le_refl n))) n (le_refl n))) (omega arith))

  pub run_trace : Finished S (run S)
  unfolding run
  run_trace = rounds_finish (work plan) 1 (start plan) begins (omega arith)

  pub rounds_most : (run S).tally.rounds ≤ work plan
  rounds_most = let (r, b, t, e, q) = run_trace in omega (arith, round_most fit t)

  -- every action is done
  pub run_done : (j : ℕ) → j < length plan → next_of (run S) j ≡ size plan j
  run_done = let (r, b, t, e, q) = run_trace in all_done fit.plan (trace_sound fit t) e

  -- and the turns in which one was worked on are T1
  pub run_actions : (run S).tally.actions ≡ work plan
  run_actions =
      let (r, b, t, e, q) = run_trace in
      actions_all fit t e

  -- each worker has a turn in each round
  pub run_turns : S.workers * (run S).tally.rounds ≡ (run S).tally.actions + (run S).tally.idle
  run_turns = let (r, b, t, e, q) = run_trace in rw q (sym (counts_same S r) ∙ turns_sum fit t)

  -- each request was a steal or a miss, or its worker still waits
  pub run_requests : (run S).tally.requests
      ≡ (run S).tally.steals + (run S).tally.bare + (run S).tally.idle_victim + waiting S.workers (run S).workers
  run_requests =
      let (r, b, t, e, q) = run_trace in
      let u = (run S).tally in
      requests_sum fit t ∙ ap (λ k. u.steals + u.bare + u.idle_victim + waiting k (run S).workers) (count_is S r)

  -- a worker that is alone does one action in each round
  pub lone_rounds : S.workers ≡ 1 → (run S).tally.rounds ≡ work plan
  lone_rounds lone =
      let (r, b, t, e, q) = run_trace in
      let m = (run S).tally.rounds in
      omega (arith, run_turns, run_actions, ap (λ k. k * m) lone, one-mul m, lone_idle fit lone t)
