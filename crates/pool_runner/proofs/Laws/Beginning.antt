-- A run from a pool begins: all objects as they are made stand for the state behind the first taking, in which worker 0 takes job 0.
--   first_taken   == what the first taking makes of the start
--   first_note    == job 0's first action and its cost
--   first_between == the objects as they are made: no round is done
use Prim.Native.Nat.{ℕ, zero, suc, ◌+◌, ◌-◌, ◌%◌, ◌^◌, ◌≤◌, ◌<◌}
use mathlib.Core.Path.{◌≡◌, refl, sym, ap, ap₂, ◌∙◌}
use mathlib.Core.Logic.{◌≢◌, by_cases}
use mathlib.Core.Bool.{false}
use mathlib.Core.List.{List}
use native.Mathlib.Nat.{le_refl}
use native.Mathlib.Omega.{arith}
use native.Mathlib.Decide.{ℕ_discrete}
use lib.Dec.{T, eqb}
use lib.Pow.{pow_pos}
use lib.ListN.{length, get_or, set, replicate}
use borrow.Author.Tests.{lt-leb, lt-ltb}
use Rattle.plan.specs.Plan.{Plan, size, action}
use Rattle.plan.specs.Rules.{Accepted}
use Rattle.plan.specs.declared.sheet.Sheet.{Sheet}
use Rattle.plan.specs.Sheet.{frame_of, cost_at}
use Rattle.plan.specs.Test.{both, either}
use Rattle.plan.proofs.Laws.Lists.{false_of, zeros_at}
use Rattle.plan.proofs.Laws.Laid.{laid_cost}
use Rattle.plan.proofs.Laws.Spawning.{cost_in_range_lem}
use Rattle.plan.proofs.Laws.Valid.{jobs_range, size_range}
use Rattle.plan_measure.specs.Measure.{work}
use Rattle.courses.proofs.Laws.Start.{none_weight}
use Rattle.runs.specs.declared.worker.Worker.TheVariants.{Idle, Holding}
use Rattle.runs.specs.State.{holds}
use Rattle.runs.proofs.Laws.Coursed.{hands_of}
use Rattle.pools.specs.State.{State, next_of, spent_of, worker_of, start}
use Rattle.pools.specs.Take.{waits, given, giving, take, takes}
use Rattle.pools.specs.Run.{rounds, pool as pool_of}
use Rattle.pools.specs.Trace.{taking, turning, Trace}
use Rattle.pools.proofs.Laws.Coursed.{Fit, none_done, none_spent, start_idle, start_begins, first_born, root_lives, root_ready, trace_stands, taking_goes}
use Rattle.pools.proofs.Laws.Lowest.{finds, finds_one}
use Rattle.pools.proofs.Laws.Tallies.{trace_counted}
use Rattle.pools.proofs.Laws.Tests.{waits_is, waits_by}
use Rattle.pools.proofs.Laws.Whole.{takes_trace, round_is, rounds_on, round_most}
use Rattle.crew.specs.Crew.{member}
use Rattle.crew.proofs.Laws.Crews.{crewed_others}
use Rattle.crew.proofs.Laws.Members.{member_none}
use Rattle.pool_set.specs.Pool.{no_pool}
use Rattle.pool_set.proofs.Laws.Start.{none_pooled, none_children}
use Rattle.turns.specs.Progress.{started}
use Rattle.rounds.specs.Account.{is_idle}
use Rattle.rounds.proofs.Laws.Beginning.{first_progressed}
use Rattle.pool_turns.specs.Pooled.{Pooled}
use Rattle.pool_runner.specs.Rounds.{PoolGiven, Noted}
use Rattle.pool_turns.proofs.Laws.Heirs.{heirs_none}
use Rattle.pool_runner.proofs.Laws.Standing.{rest_in, slot, Begun, Between, fitted}
use Rattle.pool_runner.proofs.Laws.Rounds.{begun_fit, either_false}
use Rattle.pool_runner.proofs.Laws.Takes.{take_lowest, hands_free}

replicate_idle : (k w : ℕ) → get_or (replicate k Idle) w Idle ≡ Idle
replicate_idle zero w = refl
replicate_idle (suc k) zero = refl
replicate_idle (suc k) (suc w) = replicate_idle k w

module _ {p : Plan} {n : ℕ} (fit : Fit p n) where
  ok : Accepted p
  ok = fit.plan

  abbrev s : State
  s = start p

  -- the state behind the first taking
  abbrev first : State
  first = given 0 0 s

  hand : hands_of first.workers 0 ≡ 1
  unfolding start given
  hand = refl

  others : (w : ℕ) → w ≢ 0 → worker_of first w ≡ Idle
  unfolding start given
  others zero f = absurd (f refl)
  others (suc w) f = replicate_idle 15 w

  -- no job waits then: job 0, which alone lives, is held
  none_waits : (x : ℕ) → x < length p → waits p first.next first.workers x ≡ false
  unfolding given
  none_waits x h = false_of _ (λ t.
      let y = waits_is p ok s.next first.workers x h t in
      y.unheld 0 (hand ∙ ap suc (sym (first_born fit s (start_begins p) x y.living))))

  root_waits : T (waits p s.next s.workers 0)
  root_waits = waits_by p ok s.next s.workers 0 (record {
    living = root_lives fit s (start_begins p);
    ready = root_ready fit s (start_begins p);
    unheld = λ w e. omega (arith, start_idle p w);
  })

  pub first_taken : (k : ℕ) → takes p (suc k) s ≡ first
  unfolding takes
  first_taken zero =
      take_lowest p 0 s (hands_free (worker_of s 0) (start_idle p 0))
      ∙ ap (λ x. giving 0 x s) (finds_one _ (length p) _ 1 (finds _ (length p)) (record {
        none = λ e. absurd (omega arith);
        some = λ j e. let q : j ≡ 0 = omega arith in rw q ((jobs_range p ok).0, root_waits, λ i l. absurd (omega arith));
      }))
  first_taken (suc k) =
      ap (take p (suc k)) (first_taken k)
      ∙ take_lowest p (suc k) first (ap holds (others (suc k) (λ e. omega arith)))
      ∙ ap (λ x. giving (suc k) x first) (finds_one _ (length p) _ 0 (finds _ (length p)) (record {
        none = λ e i l t. rw (none_waits i l) at t;
        some = λ j e. absurd (omega arith);
      }))

  all_first : takes p n s ≡ first
  all_first = let h = fit.some in ap (λ k. takes p k s) (let e : n ≡ suc (n - 1) = omega arith in e) ∙ first_taken (n - 1)

  began : Trace p n 1 s.workers (taking 0) s
  began = Trace.begins

  trace : Trace p n 1 (takes p n s).workers (turning 0) (takes p n s)
  trace = Trace.all_took (takes_trace began n (le_refl n))

  pool_is : pool_of p n ≡ rounds (work p) p n s
  unfolding pool_of
  pool_is = refl

  begins : Begun p n 1 first
  begins = rw (← all_first) (by (work p) refl)
    where
      taken : Trace p n 1 s.workers (taking n) (takes p n s)
      taken = takes_trace began n (le_refl n)

      by : (k : ℕ) → work p ≡ k → Begun p n 1 (takes p n s)
      by zero e = absurd (omega (arith, round_most fit trace))
      by (suc k) e = record {
        trace = trace;
        on = taking_goes fit taken;
        greedy = (trace_stands fit taken).0.greedy;
        fuel = k;
        left = pool_is ∙ ap (λ k. rounds k p n s) e ∙ rounds_on p n k s (lt-leb (size p 0) (next_of s 0) (taking_goes fit began))
            ∙ ap (rounds k p n) (round_is p n 1 s (trace_counted fit.some began).rounds);
        enough = omega arith;
      }

  first_pooled : Pooled p s.next first.workers no_pool
  unfolding given
  first_pooled = record {
    waiting = λ x h. none_pooled x ∙ sym (none_waits x h);
    past = λ x h b. none_pooled x;
    counts = λ q h. none_children q ∙ sym (heirs_none p s.next (none_done p) q);
  }

-- as a run begins; `weighs` is job 0's frame, and `ends` has when its first action ends
module _ {n : ℕ} {plan : Sheet} {entering : List ℕ} {p : Plan} (g : PoolGiven n plan entering p) where
  fit : Fit p n
  fit = begun_fit (fitted g)

  root : (0 < length p) × (0 < size p 0)
  root = let b = (jobs_range p fit.plan).0 in (b, (size_range p fit.plan 0 b).0)

  pub first_note : {cost : ℕ} → cost ≡ cost_at plan 0 → (cost ≡ (action p 0 0).cost) × (1 ≤ cost) × (cost ≤ 15)
  first_note e =
      let is = e ∙ laid_cost plan p g.given.planned.laid 0 root.0 0 root.1 in
      let range = cost_in_range_lem p fit.plan.range 0 root.0 0 root.1 in
      (is, omega arith, omega arith)

  pub first_between : {rows : List ℕ} → length rows ≡ 2048 → {cost : ℕ} → cost ≡ cost_at plan 0
      → {ends : List ℕ} → Noted 0 cost 0 (replicate 16 0) ends → {weighs : ℕ} → weighs ≡ frame_of plan 0
      → {idlers : ℕ} → idlers ≡ 2 ^ n - 2
      → Between p n 0 weighs weighs idlers (set (replicate 16 Idle) 0 (Holding 0)) ends (started entering) no_pool rows
  unfolding start given
  first_between long {cost} c {ends} noted e f =
      let frame = e ∙ g.given.planned.laid.frames 0 root.0 in
      record {
        state = given 0 0 (start p);
        begun = begins fit;
        timed = record {
          long = noted.long;
          small = noted.small n g.some (λ c. rw (zeros_at 16 c) (pow_pos n));
          each = λ w x h b. by_cases (ℕ_discrete w 0)
              (λ y. rw y (noted.here (first_note c).1 x b ∙ ap (either (eqb x ((0 + cost) % 16))) (nobody x 0) ∙ either_false _
              ∙ sym (ap (λ y. both y (eqb x ((0 + cost) % 16))) (lt-ltb 0 cost (first_note c).1)) ∙ ap (λ m. slot 0 m x) whole))
              (λ y. noted.others x w y ∙ nobody x w ∙ sym (ap (λ y. slot 0 (rest_in p (start p).next (start p).spent y) x) (others fit w y)));
        };
        manned = record {
          seated = refl;
          weighed = frame ∙ sym (none_weight p fit.plan (start p).next (none_done p));
          highest = frame;
          idle = rw f (crewed_others g.some refl (λ u h. ap is_idle (others fit (suc u) (λ z. omega arith))));
        };
        done = record {
          progressed = first_progressed g.given;
          rowed = record { long = long; each = λ j i h k. absurd (omega (arith, none_done p j)) };
          pooled = first_pooled fit;
        };
      }
    where
      nobody : (x w : ℕ) → member (get_or (replicate 16 0) x 0) w ≡ false
      nobody x w = ap (λ y. member y w) (zeros_at 16 x) ∙ member_none w

      whole : cost ≡ (action p 0 (next_of (start p) 0)).cost - spent_of (start p) 0
      whole = (first_note c).0 ∙ (let z : (action p 0 0).cost ≡ (action p 0 0).cost - 0 = omega arith in z) ∙ ap₂ (λ i y. (action p 0 i).cost - y) (sym (none_done p 0)) (sym (none_spent p 0))
