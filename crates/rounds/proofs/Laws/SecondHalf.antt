-- The second half of a round over the runner's objects: requests are laid by those who were idle as it began, and every victim that
-- has requests serves the oldest.
--   lays_countable == a request can be counted
--   lays_known     == the bounds of what the request of the lowest worker that is left reads
--   lays_line, lays_lining == the line that it joins, and what joining is given
--   lays_next      == it leaves the objects so
--   lays_serves    == nobody is left: victims serve
--   serves_line, serves_dequed, serves_serving == the line of the lowest victim that is left, its deque, and what its service is given
--   serves_next    == the service leaves the objects so
--   serves_round   == nobody is left: the next round begins
use Prim.Native.Nat.{ℕ, zero, suc, ◌+◌, ◌*◌, ◌%◌, ◌≤◌, ◌<◌}
use mathlib.Core.Path.{◌≡◌, refl, sym, ap, ◌∙◌}
use mathlib.Core.Bool.{false}
use mathlib.Core.List.{List, [], ◌∷◌}
use native.Mathlib.Nat.{le_refl, mod-lt}
use native.Mathlib.Omega.{arith}
use borrow.Author.Tests.{ltb-true, ltb-false, lt-ltb}
use lib.Dec.{ltb}
use lib.ListN.{length, get_or, set, length-append}
use Rattle.std.specs.Prelude.{Result}
use Rattle.runs.specs.declared.miss.Miss.{Miss}
use Rattle.runs.specs.declared.worker.Worker.{Worker}
use Rattle.runs.specs.declared.worker.Worker.TheVariants.{Idle, Waiting}
use Rattle.runs.specs.Setting.{Setting, count_in}
use Rattle.runs.specs.State.{State, worker_of, holds}
use Rattle.runs.specs.Steal.{laid, lay, lays, oldest, taken_from, thief, given, serve, serves, waits}
use Rattle.runs.specs.Run.{ended, rounds, run}
use Rattle.runs.specs.Trace.{turning, laying, serving, goes_on, all_laid, next_round}
use Rattle.runs.proofs.Laws.Least.{oldest_waits}
use Rattle.runs.proofs.Laws.Began.{laying_idle}
use Rattle.runs.proofs.Laws.Coursed.{round_most}
use Rattle.runs.proofs.Laws.Rounds.{rounds_known}
use Rattle.runs.proofs.Laws.Stores.{victim_of, served_calm}
use Rattle.runs.proofs.Laws.Tallies.{serve_requests}
use Rattle.runs.proofs.Laws.Whole.{round_on, rounds_on}
use Rattle.plan_measure.specs.Measure.{work}
use Rattle.crew.specs.Crew.{member, Lowest, Rest}
use Rattle.crew.specs.Line.{waiting_at, LiningUp, LinedUp, Leaving, Gone, Beside}
use Rattle.crew.proofs.Laws.Walks.{left_start, left_known, left_ahead, left_test, left_next}
use Rattle.crew.proofs.Laws.Folds.{fold_skip_to, fold_skip_next, fold_skip_end}
use Rattle.deques.specs.Dequed.{Dequed, TookTop}
use Rattle.turns.specs.Count.{Countable}
use Rattle.turns.specs.Moments.{InRun}
use Rattle.turns.proofs.Laws.Running.{run_fit, run_sound, run_counts, run_countable, run_choices, run_few, run_chosen}
use Rattle.turns.proofs.Laws.Running.{run_at, run_turns, run_lays, run_serves}
use Rattle.plan.specs.declared.sheet.Sheet.{Sheet}
use Rattle.crew.specs.declared.line.Lines.{Lines}
use Rattle.deques.specs.declared.Deque.{Deque}
use Rattle.turns.specs.declared.progress.Progress.{Progress}
use Rattle.rounds.specs.declared.account.Account.{Account}
use Rattle.rounds.specs.Account.{is_idle, LayNoted, Serving, ServiceNoted}
use Rattle.rounds.proofs.Laws.Standing.{Fitted, idle_in, asked_in, Asking, Begun, half, after_lays, after_serves}
use Rattle.rounds.proofs.Laws.Standing.{Between, InLays, InServes}
use Rattle.rounds.proofs.Laws.Halves.{lay_none, lays_deques, second_kept, done_kept}
use Rattle.rounds.proofs.Laws.Queues.{queue_room, queue_first, queue_none, queued_later, queued_push, queued_pop}
use Rattle.rounds.proofs.Laws.FirstHalf.{begun_run}
use Rattle.rounds.proofs.Laws.Stealing.{idle_is, laid_manned, asked_marked}
use Rattle.rounds.proofs.Laws.Stealing.{given_manned}

module _ {S : Setting} {plan : Sheet} (g : Fitted S plan) where
  -- the run at the stages of its second half
  module _ {r : ℕ} {s : State} (b : Begun S r s) (on : ended S.plan (half S r s) ≡ false) where
    run_begun : InRun S r s.workers (turning 0) s
    run_begun = begun_run g b

    run_laying : (k : ℕ) → k ≤ S.workers → InRun S r s.workers (laying k) (after_lays S r k s)
    unfolding count_in
    run_laying k h =
        let turned = run_turns run_begun S.workers (le_refl S.workers) in
        run_lays (run_at turned (goes_on turned.trace on)) k h

    run_serving : (k : ℕ) → k ≤ S.workers → InRun S r s.workers (serving k) (after_serves S r k s)
    unfolding count_in
    run_serving k h =
        let all = run_laying S.workers (le_refl S.workers) in
        run_serves (run_at all (all_laid all.trace)) k h

    -- where all have served, the next round begins
    begun_next : Begun S (suc r) (after_serves S r S.workers s)
    unfolding count_in
    begun_next = go b.fuel b.left b.enough
      where
        go : (k : ℕ) → run S ≡ rounds k S s → work S.plan < k + r → Begun S (suc r) (after_serves S r S.workers s)
        go zero q h = absurd (omega (arith, round_most (run_fit run_begun) b.trace))
        go (suc k) q h = record {
          on = rw (second_kept S r s.workers (half S r s) S.workers).0 on;
          trace = next_round (run_serving S.workers (le_refl S.workers)).trace;
          fuel = k;
          left = q ∙ rounds_on S k s b.on ∙ ap (rounds k S) (round_on S r s (rounds_known (run_fit run_begun) b.trace) on);
          enough = omega arith;
        }

  module _ {r left : ℕ} {a : Account} {workers : List Worker} {cursor : ℕ}
      {lines : Lines} {progress : Progress} {deques : List Deque} {rows : List ℕ}
      (z : InLays S r left a workers cursor lines progress deques rows) where
    -- the state before the request
    abbrev now_laid : State
    now_laid = after_lays S r z.past z.state

    lays_run : InRun S r z.state.workers (laying z.past) now_laid
    lays_run = run_laying z.begun z.on z.past z.ahead

    lays_sixteen : length now_laid.workers ≡ 16
    lays_sixteen = (run_sound lays_run).workers

    pub lays_countable : Countable a.tally
    lays_countable = run_countable lays_run z.manned.counts

    -- requests are laid one by one, by those that were idle
    abbrev step : ℕ → State → State
    step k s = lay S r k (get_or z.state.workers k Idle) s

    more : (k : ℕ) → after_lays S r (suc k) z.state ≡ step k (after_lays S r k z.state)
    unfolding lays
    more k = refl

    rests : (k : ℕ) → z.past ≤ k → k < S.workers → idle_in z.state.workers k ≡ false → after_lays S r k z.state ≡ now_laid
        → step k (after_lays S r k z.state) ≡ after_lays S r k z.state
    rests k h l t e = lay_none S r k (get_or z.state.workers k Idle) (after_lays S r k z.state) t

    -- at the lowest worker that is left
    module _ {w : ℕ} (low : Lowest left w) where
      lays_here : w < S.workers
      lays_here = left_known z.walk low

      was_idle : get_or z.state.workers w Idle ≡ Idle
      was_idle = idle_is (get_or z.state.workers w Idle) (left_test z.walk low)

      is_idle_lem : worker_of now_laid w ≡ Idle
      is_idle_lem = laying_idle lays_run.trace w (left_ahead z.walk low) was_idle

      lays_reached : after_lays S r (suc w) z.state ≡ laid S r w now_laid
      unfolding lay
      lays_reached =
          fold_skip_next (λ k. after_lays S r k z.state) step more z.walk rests low
          ∙ ap (λ x. lay S r w x now_laid) was_idle

      chosen_there : cursor < length S.choices
      chosen_there = rw z.asking.pointed (mod-lt now_laid.tally.requests (run_choices lays_run w lays_here was_idle))

      pub lays_known : (w < 16) × (cursor < length S.choices) × (length S.choices ≤ 4096) × (get_or S.choices cursor 0 < 16)
          × (r ≤ 30720)
      lays_known = (
        omega (arith, lays_here, g.most),
        chosen_there,
        run_few lays_run,
        omega (arith, run_chosen lays_run cursor chosen_there, g.most),
        (run_counts lays_run).0,
      )

      module _ {v : ℕ} (chosen : v ≡ get_or S.choices cursor 0) where
        there : v < S.workers
        there = rw chosen (run_chosen lays_run cursor chosen_there)

        there_16 : v < 16
        there_16 = omega (arith, there, g.most)

        -- the line that it joins
        pub lays_line : List ℕ
        lays_line = (z.asking.queued v there_16).line

        pub lays_lining : LiningUp v w lines lays_line
        unfolding lays_line
        lays_lining = record {
          line = (z.asking.queued v there_16).lined;
          room = queue_room (z.asking.queued v there_16) lays_sixteen w lays_known.0 (ap waits is_idle_lem);
          known = lays_known.0;
        }

        named : v ≡ victim_of S now_laid
        named = chosen ∙ ap (λ i. get_or S.choices i 0) z.asking.pointed

        laid_asking : {lines' : Lines} → LinedUp v w lines' lays_line → Beside v lines lines' → {a' : Account} → LayNoted a w v a'
            → {cursor' : ℕ} → ((k : ℕ) → cursor ≡ k % length S.choices → cursor' ≡ suc k % length S.choices)
            → Asking S.workers (r * 16 + suc w) a'.victims S.choices cursor' lines' (laid S r w now_laid)
        unfolding laid lays_line
        laid_asking {lines'} j b e k = record {
          pointed = k now_laid.tally.requests z.asking.pointed;
          queued = rw (← named)
              (queued_later
              (queued_push z.asking.queued lays_sixteen lays_known.0 there_16 b r (ap waits is_idle_lem)
              (omega (arith, left_ahead z.walk low)) j)
              (r * 16 + suc w) (omega arith));
          crewed = asked_marked b z.asking.crewed there e.victims
              (lt-ltb 0 (waiting_at lines' v) (omega (arith, j.lined.count, length-append lays_line (w ∷ []))));
        }

        pub lays_next : {lines' : Lines} → LinedUp v w lines' lays_line → Beside v lines lines' → {a' : Account} → LayNoted a w v a'
            → {cursor' : ℕ} → ((k : ℕ) → cursor ≡ k % length S.choices → cursor' ≡ suc k % length S.choices)
            → {left' : ℕ} → Rest left left'
            → InLays S r left' a' (set workers w (Waiting v r)) cursor' lines' progress deques rows
        lays_next j b e k l = record {
          state = z.state;
          begun = z.begun;
          on = z.on;
          past = suc w;
          ahead = lays_here;
          walk = left_next z.walk low l;
          manned = rw lays_reached (laid_manned z.manned lays_sixteen lays_here g.most S r is_idle_lem named e);
          asking = rw lays_reached (laid_asking j b e k);
          done = z.done;
          dequed = z.dequed;
        }

    -- nobody is left
    none_served : left ≡ 0 → after_serves S r 0 z.state ≡ now_laid
    unfolding serves
    none_served e = fold_skip_end (λ k. after_lays S r k z.state) step more z.walk rests z.ahead e

    pub lays_serves : left ≡ 0 → InServes S r a.victims a workers cursor lines progress deques rows
    lays_serves e = record {
      state = z.state;
      begun = z.begun;
      on = z.on;
      first = lines;
      past = 0;
      ahead = omega arith;
      walk = left_start z.asking.crewed;
      same = λ u h k. refl;
      manned = rw (none_served e) z.manned;
      asking = rw (none_served e) (record {
        pointed = z.asking.pointed;
        queued = queued_later z.asking.queued _ (omega (arith, z.ahead, g.most));
        crewed = z.asking.crewed;
      });
      done = z.done;
      dequed = rw (none_served e, lays_deques S r z.state.workers (half S r z.state) z.past) z.dequed;
    }

  module _ {r left : ℕ} {a : Account} {workers : List Worker} {cursor : ℕ}
      {lines : Lines} {progress : Progress} {deques : List Deque} {rows : List ℕ}
      (z : InServes S r left a workers cursor lines progress deques rows) where
    -- the state before the service
    abbrev now_served : State
    now_served = after_serves S r z.past z.state

    serves_run : InRun S r z.state.workers (serving z.past) now_served
    serves_run = run_serving z.begun z.on z.past z.ahead

    serves_sixteen : length now_served.workers ≡ 16
    serves_sixteen = (run_sound serves_run).workers

    -- a victim without a request serves none
    none_picked : (k : ℕ) → z.past ≤ k → k < S.workers → asked_in z.first k ≡ false
        → (oldest k S.workers now_served.workers).who ≡ 0
    none_picked k h l e =
        queue_none (z.asking.queued k (omega (arith, g.most))) S.workers g.most (run_sound serves_run).absent
        (omega (arith, z.same k h (omega (arith, g.most)), ltb-false 0 (waiting_at z.first k) e))

    -- victims serve one by one
    abbrev serves_step : ℕ → State → State
    serves_step k s = serve k (oldest k S.workers s.workers).who s

    serves_more : (k : ℕ) → after_serves S r (suc k) z.state ≡ serves_step k (after_serves S r k z.state)
    unfolding serves count_in
    serves_more k = refl

    serves_rests : (k : ℕ) → z.past ≤ k → k < S.workers → asked_in z.first k ≡ false → after_serves S r k z.state ≡ now_served
        → serves_step k (after_serves S r k z.state) ≡ after_serves S r k z.state
    unfolding serve
    serves_rests k h l t e = rw e (ap (λ x. serve k x now_served) (none_picked k h l t))

    -- at the lowest victim that is left
    module _ {v : ℕ} (low : Lowest left v) where
      serves_here : v < S.workers
      serves_here = left_known z.walk low

      serves_reached : after_serves S r v z.state ≡ now_served
      serves_reached = fold_skip_to (λ k. after_serves S r k z.state) serves_step serves_more z.walk serves_rests low

      serves_known : v < 16
      serves_known = omega (arith, serves_here, g.most)

      asked_some : 0 < waiting_at lines v
      asked_some =
          omega (arith, z.same v (left_ahead z.walk low) serves_known, ltb-true 0 (waiting_at z.first v) (left_test z.walk low))

      pub serves_line : List ℕ
      serves_line = (z.asking.queued v serves_known).line

      serves_leaving : Leaving v 0 lines serves_line
      unfolding serves_line
      serves_leaving =
          let line = (z.asking.queued v serves_known).lined in
          record { line = line; there = omega (arith, asked_some, line.lined.count) }

      pub serves_dequed : Dequed deques (after_serves S r v z.state).deques
      serves_dequed = rw serves_reached z.dequed

      -- its oldest request
      picked_first : (oldest v S.workers now_served.workers).who ≡ suc (get_or serves_line 0 0)
      unfolding serves_line
      picked_first =
          queue_first (z.asking.queued v serves_known) S.workers g.most (run_sound serves_run).absent serves_leaving.there

      pub serves_serving : Serving a v lines serves_line
      serves_serving =
          let (below, l, e) = oldest_waits v S.workers now_served.workers g.most picked_first in
          record {
            leaving = serves_leaving;
            servable = record {
              known = omega (arith, g.most);
              there = serves_known;
              countable = run_countable serves_run z.manned.counts;
              waits = (z.manned.holders.each _ below ∙ ap holds e, z.manned.idlers.each _ below ∙ ap is_idle e);
              victims = z.asking.crewed.each v serves_here ∙ lt-ltb 0 (waiting_at lines v) asked_some;
            };
          }

      module _ {w : ℕ} {lines' : Lines} (gone : Gone v 0 w lines' serves_line) (beside : Beside v lines lines') where
        picked : (oldest v S.workers now_served.workers).who ≡ suc w
        picked = picked_first ∙ ap suc (sym gone.who)

        waits_on : (w < S.workers) × (l : ℕ) × (worker_of now_served w ≡ Waiting v l)
        waits_on = oldest_waits v S.workers now_served.workers g.most picked

        -- what is taken for it
        abbrev top : Result ℕ Miss
        top = taken_from now_served v

        served : after_serves S r (suc v) z.state ≡ given v w top now_served
        unfolding serve
        served = serves_more v ∙ ap (serves_step v) serves_reached ∙ ap (λ x. serve v x now_served) picked

        served_asking : {more : ℕ} → more ≡ waiting_at lines' v → {x : Result ℕ Miss} {a' : Account} → ServiceNoted a v more w x a'
            → Asking S.workers (suc r * 16) a'.victims S.choices cursor lines' (given v w top now_served)
        unfolding serves_line serve given
        served_asking m e = record {
          pointed = rw (serve_requests v (suc w) now_served) z.asking.pointed;
          queued = queued_pop z.asking.queued serves_sixteen gone.known serves_known beside (thief top) (served_calm top)
              serves_leaving.there gone;
          crewed = asked_marked beside z.asking.crewed serves_here
              e.victims (ap (ltb 0) (sym m));
        }

        pub serves_next : {x : Result ℕ Miss} {deques' : List Deque}
            → TookTop v (member a.holders v) x deques' (after_serves S r v z.state).deques
            → {more : ℕ} → more ≡ waiting_at lines' v → {a' : Account} → ServiceNoted a v more w x a' → {left' : ℕ} → Rest left left'
            → InServes S r left' a' (set workers w (thief x)) cursor lines' progress deques' rows
        unfolding given
        serves_next t m e l =
            let (is, took) = rw (serves_reached, z.manned.holders.each v serves_here) at t in
            record {
              state = z.state;
              begun = z.begun;
              on = z.on;
              first = z.first;
              past = suc v;
              ahead = serves_here;
              walk = left_next z.walk low l;
              same = λ u h k. beside.lens u (λ i. omega arith) ∙ z.same u (omega (arith, left_ahead z.walk low)) k;
              manned = rw (served, is)
                  (given_manned z.manned serves_sixteen waits_on.0 g.most v _ top (rw is at e));
              asking = rw served (served_asking m e);
              done = z.done;
              dequed = rw served took;
            }

    -- nobody is left
    all_served : left ≡ 0 → after_serves S r S.workers z.state ≡ now_served
    all_served e = fold_skip_end (λ k. after_serves S r k z.state) serves_step serves_more z.walk serves_rests z.ahead e

    pub serves_round : left ≡ 0 → Between S r a workers cursor lines progress deques rows
    serves_round e = record {
      state = after_serves S r S.workers z.state;
      begun = begun_next z.begun z.on;
      manned = rw (all_served e) z.manned;
      asking = rw (all_served e) z.asking;
      done = done_kept z.done (second_kept S r z.state.workers (half S r z.state) S.workers);
      dequed = rw (all_served e) z.dequed;
    }
