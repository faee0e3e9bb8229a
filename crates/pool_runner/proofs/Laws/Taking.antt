-- The taking before a round over the runner's objects.
--   takes_found   == where the set is not empty, its lowest job is one that is free
--   takes_known   == the lowest worker that is left is one of those that have not taken
--   takes_having, takes_note == what is told of the job, which no round is spent on
--   takes_next    == it takes that job
--   takes_none    == the set is empty: nobody takes
--   takes_round   == nobody is left: the turns of the next round begin
use Prim.Native.Nat.{ℕ, zero, suc, ◌+◌, ◌-◌, ◌%◌, ◌≤◌, ◌<◌}
use mathlib.Core.Path.{◌≡◌, refl, sym, ap, ◌∙◌}
use mathlib.Core.Logic.{◌≢◌, by_cases}
use mathlib.Core.Bool.{Bool, true, false, true≢false}
use mathlib.Core.List.{List}
use native.Mathlib.Nat.{le_refl}
use native.Mathlib.Omega.{arith}
use native.Mathlib.Decide.{ℕ_discrete, dec_lt}
use borrow.Author.Tests.{lt-ltb}
use lib.Dec.{eqb}
use lib.Pow.{pow_pos}
use lib.ListN.{length, get_or, set}
use lib.Seq.{get_or-set_same, get_or-set_other}
use Rattle.plan.specs.Plan.{Plan, action}
use Rattle.plan.specs.Rules.{Accepted}
use Rattle.plan.specs.Test.{both, either, below}
use Rattle.plan.proofs.Laws.Counts.{equal_tests}
use Rattle.plan.proofs.Laws.Lists.{true_of, false_of, of_true}
use Rattle.plan.proofs.Laws.Valid.{jobs_range}
use Rattle.runs.specs.declared.worker.Worker.{Worker}
use Rattle.runs.specs.declared.worker.Worker.TheVariants.{Idle, Holding, Waiting}
use Rattle.runs.specs.State.{holds}
use Rattle.runs.proofs.Laws.Coursed.{hands_in, hands_of, hands_is}
use Rattle.plan.specs.declared.sheet.Sheet.{Sheet}
use Rattle.pool_set.specs.declared.Pool.{Pool}
use Rattle.turns.specs.declared.progress.Progress.{Progress}
use Rattle.pools.specs.State.{State, next_of, spent_of, worker_of}
use Rattle.pools.specs.Take.{lowest, waits, given, giving, take, takes}
use Rattle.pools.specs.Trace.{taking, Trace}
use Rattle.pools.proofs.Laws.Coursed.{trace_stands, taking_fresh}
use Rattle.pools.proofs.Laws.Lowest.{Finds, finds, finds_one}
use Rattle.pools.proofs.Laws.Taking.{Took}
use Rattle.pools.proofs.Laws.Tests.{Free, waits_is, waits_by}
use Rattle.pools.proofs.Laws.Whole.{takes_trace, turns_trace}
use Rattle.crew.specs.Crew.{Lowest, Rest, Marked, member}
use Rattle.crew.proofs.Laws.Crews.{crewed_mark}
use Rattle.crew.proofs.Laws.Folds.{fold_skip_next, fold_skip_end}
use Rattle.crew.proofs.Laws.Members.{member_none}
use Rattle.crew.proofs.Laws.Walks.{left_known, left_ahead, left_test, left_next}
use Rattle.std.specs.Prelude.{Some, None}
use Rattle.pool_set.specs.Pool.{First, Put}
use Rattle.rounds.specs.Account.{is_idle}
use Rattle.rounds.proofs.Laws.Standing.{idle_in}
use Rattle.pool_runner.specs.Rounds.{Noted}
use Rattle.pool_runner.proofs.Laws.Seats.{trace_quiet}
use Rattle.pool_runner.proofs.Laws.Takes.{take_holds, take_lowest, takes_more, not_idle, idle_is, held_hands, hands_free, lowest_none}
use Rattle.pool_runner.proofs.Laws.Rounds.{begun_fit, begun_early, begun_next, either_false}
use Rattle.turns.specs.Finish.{Deed}
use Rattle.pool_turns.specs.Moments.{Having}
use Rattle.plan.proofs.Laws.Spawning.{cost_in_range_lem}
use Rattle.pool_turns.proofs.Laws.Sending.{put_here, put_other}
use Rattle.pool_runner.proofs.Laws.Standing.{Fitted, rest_in, rest_of, slot, Between, InTakes, over}

module _ {p : Plan} {n : ℕ} {plan : Sheet} (g : Fitted p n plan) where
  ok : Accepted p
  ok = g.planned.rules

  module _ {r left weighs peak idlers : ℕ} {workers : List Worker} {ends : List ℕ} {progress : Progress} {pool : Pool} {rows : List ℕ}
      (z : InTakes p n r left weighs peak idlers workers ends progress pool rows) where
    abbrev ended_in : State
    ended_in = over p n r z.state

    abbrev at : ℕ → State
    at k = takes p k ended_in

    abbrev now : State
    now = at z.past

    -- the run from here on
    trace_over : Trace p n (suc r) ended_in.workers (taking 0) ended_in
    trace_over = Trace.goes_on (turns_trace z.begun.trace n (le_refl n)) z.on

    trace_to : (k : ℕ) → k ≤ n → Trace p n (suc r) ended_in.workers (taking k) (at k)
    trace_to k h = takes_trace trace_over k h

    took : (k : ℕ) → k ≤ n → Took p n k ended_in.workers (at k)
    took k h = (trace_stands (begun_fit g) (trace_to k h)).0

    -- a worker that was not idle as the taking began still holds its job
    holds_on : (k u : ℕ) → k ≤ n → is_idle (get_or ended_in.workers u Idle) ≡ false → holds (worker_of (at k) u) ≡ true
    holds_on k u h e =
        let (j, f) = held_hands (get_or ended_in.workers u Idle) (not_idle (get_or ended_in.workers u Idle) (trace_quiet trace_over u) e) in
        ap holds (hands_is (worker_of (at k) u) j ((took k h).keeps u j f))

    rests : (k : ℕ) → z.past ≤ k → k < n → idle_in ended_in.workers k ≡ false → at k ≡ now → take p k (at k) ≡ at k
    rests k l h t e = take_holds p k (at k) (holds_on k k (omega arith) t)

    small : {j : ℕ} → First pool (Some j) → j < length p
    small {j} f = by_cases (dec_lt j (length p)) (λ l. l)
        (λ l. absurd (true≢false (sym f.1 ∙ z.done.pooled.past j (omega arith) f.0)))

    -- the lowest job of the set
    module _ {j : ℕ} (f : First pool (Some j)) where
      pub takes_found : (j < length p) × (j < 256)
      takes_found = (small f, f.0)

      found : Finds (waits p now.next now.workers) (length p) (suc j)
      found = record {
        none = λ e. absurd (omega arith);
        some = λ i e. let q : i ≡ j = omega arith in rw q (
          takes_found.0,
          of_true _ (sym (z.done.pooled.waiting j takes_found.0) ∙ f.1),
          λ u l t.
              let b : u < length p = omega (arith, takes_found.0) in
              true≢false (sym (true_of _ t) ∙ sym (z.done.pooled.waiting u b) ∙ f.2 u l),
        );
      }

      lowest_is : lowest (waits p now.next now.workers) (below (length p)) ≡ suc j
      lowest_is = finds_one _ (length p) _ (suc j) (finds _ (length p)) found

      -- the lowest worker that is left
      module _ {w : ℕ} (low : Lowest left w) where
        pub takes_known : (w < n) × (w < 16)
        takes_known = let h = left_known z.walk low in (h, omega (arith, g.most))

        ahead : z.past ≤ w
        ahead = left_ahead z.walk low

        idle : (holds (worker_of now w) ≡ false) × (hands_of now.workers w ≡ 0)
        idle =
            let e = idle_is (get_or ended_in.workers w Idle) (left_test z.walk low) in
            let h : hands_of now.workers w ≡ 0 = (took z.past z.ahead).later w ahead ∙ e.1 in
            (hands_free (worker_of now w) h, h)

        takes_it : at (suc w) ≡ given w j now
        takes_it =
            fold_skip_next at (take p) (takes_more p ended_in) z.walk rests low
            ∙ take_lowest p w now idle.0 ∙ ap (λ x. giving w x now) lowest_is

        seat : w < length now.workers
        seat = omega (arith, (took z.past z.ahead).seats, takes_known.1)

        -- a job that is not taken waits as it did
        waits_on : (x : ℕ) → x < length p → x ≢ j → waits p now.next (set now.workers w (Holding j)) x ≡ waits p now.next now.workers x
        waits_on x h d = equal_tests _ _
            (λ t.
            let y = waits_is p ok now.next (set now.workers w (Holding j)) x h t in
            waits_by p ok now.next now.workers x (record {
              living = y.living;
              ready = y.ready;
              unheld = λ v e. by_cases (ℕ_discrete v w)
                  (λ q. omega (arith, idle.1, ap (hands_of now.workers) q))
                  (λ q. y.unheld v (ap hands_in (get_or-set_other now.workers w v (Holding j) Idle q) ∙ e));
            }))
            (λ m t. m (
            let y = waits_is p ok now.next now.workers x h t in
            waits_by p ok now.next (set now.workers w (Holding j)) x (record {
              living = y.living;
              ready = y.ready;
              unheld = λ v e. by_cases (ℕ_discrete v w)
                  (λ q. d (sym (let u : j ≡ x = omega (
                    arith,
                    sym (ap hands_in (get_or-set_same now.workers w (Holding j) Idle seat))
                        ∙ ap (hands_of (set now.workers w (Holding j))) (sym q) ∙ e,
                  ) in u)))
                  (λ q. y.unheld v (sym (ap hands_in (get_or-set_other now.workers w v (Holding j) Idle q)) ∙ e));
            })))

        out : waits p now.next (set now.workers w (Holding j)) j ≡ false
        out = false_of _ (λ t.
            (waits_is p ok now.next (set now.workers w (Holding j)) j takes_found.0 t).unheld w
            (ap hands_in (get_or-set_same now.workers w (Holding j) Idle seat)))

        abbrev deed : Deed
        deed = record { plan = p; next = now.next; spent = now.spent }

        free : Free p now.next now.workers j
        free = waits_is p ok now.next now.workers j takes_found.0
            (of_true _ (sym (z.done.pooled.waiting j takes_found.0) ∙ f.1))

        pub takes_having : Having j plan progress deed
        takes_having = record { planned = g.planned; known = takes_found.0; left = free.living.left; progressed = z.done.progressed }

        -- what is left of its action is all of it
        module _ {cost : ℕ} (is : cost ≡ (action p j (next_of now j)).cost) where
          rest_is : cost ≡ (action p j (next_of now j)).cost - spent_of now j
          rest_is = omega (arith, is, taking_fresh (begun_fit g) (trace_to z.past z.ahead) j free.unheld)

          cost_range : (1 ≤ cost) × (cost ≤ 15)
          cost_range = omega (arith, is, cost_in_range_lem p ok.range j takes_found.0 (next_of now j) free.living.left)

          pub takes_note : (r < 65536) × (cost ≤ 15) × (w < 16)
          takes_note = (omega (arith, begun_early g z.begun), cost_range.1, takes_known.1)

          pub takes_next : {pool' : Pool} → Put j false pool pool' → {idlers' : ℕ} → Marked w false idlers idlers' → {ends' : List ℕ}
              → Noted r cost w ends ends' → {left' : ℕ} → Rest left left' → {x : ℕ} → x ≡ j
              → InTakes p n r left' weighs peak idlers' (set workers w (Holding x)) ends' progress pool' rows
          unfolding given
          takes_next {pool'} put {idlers'} marked {ends'} noted l {x} e =
              let q = z.manned in
              let d = z.done in
              rw e (record {
                state = z.state;
                begun = z.begun;
                on = z.on;
                past = suc w;
                ahead = takes_known.0;
                walk = left_next z.walk low l;
                timed = rw takes_it (record {
                  long = noted.long;
                  small = noted.small n takes_known.0 z.timed.small;
                  each = λ u c h b. by_cases (ℕ_discrete u w) (λ v. rw v (own c b))
                      (λ v. noted.others c u v ∙ z.timed.each u c h b
                      ∙ ap (λ y. slot r (rest_in p now.next now.spent y) c) (sym (get_or-set_other now.workers w u (Holding j) Idle v)));
                });
                manned = rw takes_it (record {
                  seated = ap (λ ws. set ws w (Holding j)) q.seated;
                  weighed = q.weighed;
                  highest = q.highest;
                  idle = crewed_mark is_idle now.workers Idle (Holding j) q.idle seat marked takes_known.0;
                });
                done = rw takes_it (record {
                  progressed = d.progressed;
                  rowed = d.rowed;
                  pooled = record {
                    waiting = λ y h. by_cases (ℕ_discrete y j)
                        (λ u. rw u (put_here put takes_found.1 ∙ sym out))
                        (λ u. put_other put y (omega (arith, jobs_range p ok)) u ∙ d.pooled.waiting y h ∙ sym (waits_on y h u));
                    past = λ y h b. put_other put y b (λ u. omega (arith, takes_found.0)) ∙ d.pooled.past y h b;
                    counts = λ y h. put.same y ∙ d.pooled.counts y h;
                  };
                });
              })
            where
              -- an idle worker stood nowhere
              nowhere : (c : ℕ) → c < 16 → member (get_or ends c 0) w ≡ false
              nowhere c b = z.timed.each w c takes_known.1 b ∙ none (worker_of now w) idle.1
                where
                  none : (y : Worker) → hands_in y ≡ 0 → slot r (rest_in p now.next now.spent y) c ≡ false
                  none Idle e = refl
                  none (Holding i) e = absurd (omega arith)
                  none (Waiting v m) e = refl

              own : (c : ℕ) → c < 16 → member (get_or ends' c 0) w ≡ slot r (rest_of p (given w j now) w) c
              own c b =
                  let hand = get_or-set_same now.workers w (Holding j) Idle seat in
                  noted.here cost_range.0 c b ∙ ap (either (eqb c ((r + cost) % 16))) (nowhere c b) ∙ either_false (eqb c ((r + cost) % 16))
                  ∙ sym (ap (λ x. both x (eqb c ((r + cost) % 16))) (lt-ltb 0 cost cost_range.0))
                  ∙ ap (λ m. slot r m c) rest_is ∙ ap (λ y. slot r (rest_in p now.next now.spent y) c) (sym hand)

    -- the set is empty
    pub takes_none : First pool None → InTakes p n r 0 weighs peak idlers workers ends progress pool rows
    takes_none f = record {
      state = z.state;
      begun = z.begun;
      on = z.on;
      past = n;
      ahead = le_refl n;
      walk = record { small = pow_pos n; past = λ u h. member_none u; each = λ u l h. absurd (omega arith) };
      timed = rw same z.timed;
      manned = rw same z.manned;
      done = rw same z.done;
    }
      where
        none : (j : ℕ) → ¬ Free p now.next now.workers j
        none j free =
            let l = free.living.below in
            let few = jobs_range p ok in
            true≢false (sym (true_of _ (waits_by p ok now.next now.workers j free)) ∙ sym (z.done.pooled.waiting j l)
            ∙ f j (omega arith))

        takes_nothing : (k : ℕ) → take p k now ≡ now
        takes_nothing k = go (holds (worker_of now k)) refl
          where
            go : (b : Bool) → holds (worker_of now k) ≡ b → take p k now ≡ now
            go true e = take_holds p k now e
            go false e = take_lowest p k now e ∙ ap (λ x. giving k x now) (lowest_none p ok now none)

        from : (d : ℕ) → at (d + z.past) ≡ now
        from zero = ap at (omega arith)
        from (suc d) =
            ap at (let e : suc d + z.past ≡ suc (d + z.past) = omega arith in e)
            ∙ takes_more p ended_in (d + z.past) ∙ ap (take p (d + z.past)) (from d) ∙ takes_nothing (d + z.past)

        same : at n ≡ now
        same = let h = z.ahead in ap at (let e : n ≡ (n - z.past) + z.past = omega arith in e) ∙ from (n - z.past)

    -- nobody is left
    pub takes_round : left ≡ 0 → Between p n r weighs peak idlers workers ends progress pool rows
    takes_round none =
        let same : at n ≡ now = fold_skip_end at (take p) (takes_more p ended_in) (rw none at z.walk) rests z.ahead refl in
        record {
          state = at n;
          begun = begun_next g z.begun z.on;
          timed = rw same z.timed;
          manned = rw same z.manned;
          done = rw same z.done;
        }
