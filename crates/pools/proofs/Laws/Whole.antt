-- The whole run from a pool: its fuel is enough, it ends in at most T1 rounds, and its counts are small all the way.
--   Finished p n s == s is the state in which a run ends: all turns of a round are taken, and job 0 has ended
--   takes_trace, turns_trace, round_is, rounds_stop, rounds_on == its rounds and their parts, as steps
--   round_most     == no round comes after round T1; actions_most == nor more turns with an action
--   counts_small   == the round and the counts are small
--   run_trace      == a run ends in such a state: T1 rounds are enough
use Prim.Native.Nat.{ℕ, zero, suc, ◌+◌, ◌*◌, ◌≤◌, ◌<◌}
use mathlib.Core.Path.{◌≡◌, refl, ap}
use mathlib.Core.Bool.{Bool, true, false}
use mathlib.Core.List.{List}
use native.Mathlib.Nat.{le_refl, mul-le-mul}
use native.Mathlib.Omega.{arith}
use borrow.Author.Tests.{lt-leb}
use Rattle.plan.specs.Plan.{Plan, size}
use Rattle.plan.proofs.Laws.Spawning.{cost_in_range_lem}
use Rattle.plan_measure.specs.Measure.{work}
use Rattle.plan_measure.proofs.Laws.Work.{work_range}
use Rattle.courses.proofs.Laws.Pool.{terms}
use Rattle.courses.proofs.Laws.Worked.{turns_most, course_most}
use Rattle.courses.proofs.Laws.Price.{price_work}
use Rattle.runs.specs.declared.worker.Worker.{Worker}
use Rattle.pools.specs.State.{State, next_of, start}
use Rattle.pools.specs.Take.{takes}
use Rattle.pools.specs.Turn.{turns}
use Rattle.pools.specs.Run.{ended, round, rounds, pool}
use Rattle.pools.specs.Trace.{taking, turning, Trace}
use Rattle.pools.proofs.Laws.Coursed.{Fit, trace_course, taking_goes}
use Rattle.pools.proofs.Laws.Tallies.{trace_counted, numbered_late}

abbrev pub Finished : Plan → ℕ → State → Type 0
Finished p n s = (r : ℕ) × (b : List Worker) × Trace p n r b (turning n) s × (ended p s ≡ true) × (s.tally.rounds ≡ r)

module _ {p : Plan} {n : ℕ} where
  pub takes_trace : {r : ℕ} {b : List Worker} {s : State} → Trace p n r b (taking 0) s → (k : ℕ) → k ≤ n → Trace p n r b (taking k) (takes p k s)
  unfolding takes
  takes_trace t zero h = t
  takes_trace t (suc k) h = Trace.took (takes_trace t k (omega arith)) h

  pub turns_trace : {r : ℕ} {b : List Worker} {s : State} → Trace p n r b (turning 0) s → (k : ℕ) → k ≤ n
      → Trace p n r b (turning k) (turns p r k b s)
  unfolding turns
  turns_trace t zero h = t
  turns_trace t (suc k) h = Trace.turned (turns_trace t k (omega arith)) h

module _ (p : Plan) (n : ℕ) where
  pub round_is : (r : ℕ) (s : State) → suc s.tally.rounds ≡ r → round p n s ≡ turns p r n (takes p n s).workers (takes p n s)
  unfolding round
  round_is r s e = ap (λ r. turns p r n (takes p n s).workers (takes p n s)) e

  pub rounds_stop : (k : ℕ) (s : State) → ended p s ≡ true → rounds k p n s ≡ s
  unfolding rounds
  rounds_stop zero s e = refl
  rounds_stop (suc k) s e = rw (rounds, e)

  pub rounds_on : (k : ℕ) (s : State) → ended p s ≡ false → rounds (suc k) p n s ≡ rounds k p n (round p n s)
  unfolding rounds
  rounds_on k s e = rw (rounds, e)

module _ {p : Plan} {n : ℕ} (fit : Fit p n) where
  -- in each round that begins an action is worked on
  pub round_most : {r k : ℕ} {b : List Worker} {s : State} → Trace p n r b (turning k) s → r ≤ work p
  round_most t =
      omega (
        arith,
        price_work (terms p n),
        course_most (terms p n) fit.plan (λ j i h l. (cost_in_range_lem p fit.plan.range j h i l).0) (trace_course fit t),
      )

  pub actions_most : {r k : ℕ} {b : List Worker} {s : State} → Trace p n r b (turning k) s → s.tally.actions ≤ work p
  actions_most t = omega (arith, price_work (terms p n), turns_most (terms p n) fit.plan (trace_course fit t))

  -- so every count but the peak stays small
  pub counts_small : {r k : ℕ} {b : List Worker} {s : State} → Trace p n r b (turning k) s → k ≤ n
      → (r ≤ 30720) × (s.tally.actions ≤ 30720) × (s.tally.idle ≤ 491520)
  counts_small {r} t h =
      let w = work_range p fit.plan in
      let few : r ≤ 30720 = omega (arith, round_most t) in
      let all : n * r ≤ 16 * 30720 = mul-le-mul fit.most few in
      (few, omega (arith, actions_most t), omega (arith, (trace_counted fit.some t).turns))

  -- fuel for the rounds that are left of T1 is enough
  rounds_finish : (k r : ℕ) (s : State) → Trace p n r s.workers (taking 0) s → work p < k + r → Finished p n (rounds k p n s)
  rounds_finish zero r s t h = absurd (omega (arith, round_most (Trace.all_took (takes_trace t n (le_refl n)))))
  rounds_finish (suc k) r s t h =
      rw (rounds_on p n k s going, round_is p n r s (trace_counted fit.some t).rounds) (go (ended p over) refl (rounds_finish k))
    where
      going : ended p s ≡ false
      going = lt-leb (size p 0) (next_of s 0) (taking_goes fit t)

      over : State
      over = turns p r n (takes p n s).workers (takes p n s)

      taken : Trace p n r (takes p n s).workers (turning n) over
      taken = turns_trace (Trace.all_took (takes_trace t n (le_refl n))) n (le_refl n)

      go : (x : Bool) → ended p over ≡ x
          → ((r : ℕ) (s : State) → Trace p n r s.workers (taking 0) s → work p < k + r → Finished p n (rounds k p n s))
          → Finished p n (rounds k p n over)
      go true f rec = rw (rounds_stop p n k over f) (r, _, taken, f, numbered_late fit.some (trace_counted fit.some taken).rounds)
      go false f rec = rec (suc r) over (Trace.goes_on taken f) (omega arith)

  pub run_trace : Finished p n (pool p n)
  unfolding pool start
  run_trace = rounds_finish (work p) 1 (start p) Trace.begins (omega arith)
