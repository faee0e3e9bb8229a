-- The turns of a round over the runner's objects: those in which an action ends, with the others as gaps between them.
--   begun_fit, begun_early == the run as its turns begin; a round is one of at most 30,720
--   waits_begin   == the next round comes
--   waits_on      == no action ends in it, and it is passed over
--   turns_begin   == actions end in it
--   turns_known   == the lowest worker that is left is one of those that have not had their turns
--   turns_moment, turns_turning == the moment of its turn, and what the turn is given
--   turns_left, turns_idle, turns_note == what is told of the worker after it
--   turns_next    == its turn leaves the objects so
--   turns_over, turns_takes == nobody is left, and the run ends, or those who are idle take
use Prim.Native.Nat.{ℕ, zero, suc, ◌+◌, ◌-◌, ◌*◌, ◌%◌, ◌≤◌, ◌<◌, max}
use mathlib.Core.Path.{◌≡◌, refl, sym, ap, ap₂, ◌∙◌}
use mathlib.Core.Logic.{◌≢◌, ⊎_elim, by_cases}
use mathlib.Core.Bool.{Bool, true, false}
use mathlib.Core.List.{List}
use native.Mathlib.Nat.{le_refl, zero-add, eq-zero-or-pos}
use native.Mathlib.Numerals.{add-one}
use native.Mathlib.Omega.{arith}
use native.Mathlib.Decide.{ℕ_discrete}
use borrow.Author.Tests.{le-leb, lt-leb, eqb-true, eqb-false, lt-ltb}
use lib.Dec.{eqb, ltb}
use lib.ListN.{length, get_or, set}
use lib.Seq.{get_or-set_same, set-get_or}
use Rattle.plan.specs.Plan.{Plan, size, action}
use Rattle.plan.specs.declared.sheet.Sheet.{Sheet}
use Rattle.plan.specs.Sheet.{first_of}
use Rattle.plan.specs.Test.{both, either}
use Rattle.plan.proofs.Laws.Laid.{laid_end}
use Rattle.plan.proofs.Laws.Valid.{jobs_range}
use Rattle.plan_measure.specs.Measure.{work}
use Rattle.courses.specs.Ready.{weight}
use Rattle.courses.proofs.Laws.Steps.{zero_set}
use Rattle.runs.specs.declared.tally.Tally.{Tally}
use Rattle.runs.specs.declared.worker.Worker.{Worker}
use Rattle.runs.specs.declared.worker.Worker.TheVariants.{Idle, Holding, Waiting}
use Rattle.runs.specs.State.{holds}
use Rattle.runs.proofs.Laws.Coursed.{hands_in, hands_of}
use Rattle.pools.specs.State.{State, next_of, spent_of, worker_of}
use Rattle.pools.specs.Take.{takes}
use Rattle.pools.specs.Turn.{turn_of, turns, finished}
use Rattle.pools.specs.Run.{ended, rounds, pool as pool_of}
use Rattle.pools.specs.Trace.{taking, turning, Trace}
use Rattle.pools.proofs.Laws.Claimed.{pool_bounds}
use Rattle.pools.proofs.Laws.Coursed.{Fit, trace_sized, trace_manned, trace_stands, taking_goes}
use Rattle.pools.proofs.Laws.Passing.{turn_finished}
use Rattle.pools.proofs.Laws.Tallies.{trace_counted, numbered_late}
use Rattle.pools.proofs.Laws.Whole.{takes_trace, turns_trace, round_is, rounds_on, rounds_stop, round_most, counts_small}
use Rattle.crew.specs.Crew.{Lowest, Rest, Marked, member}
use Rattle.crew.proofs.Laws.Crews.{crewed_mark}
use Rattle.crew.proofs.Laws.Members.{member_none}
use Rattle.crew.proofs.Laws.Walks.{Left, left_start, left_known, left_ahead, left_test, left_none, left_next, left_over}
use Rattle.pool_set.specs.declared.Pool.{Pool}
use Rattle.turns.specs.declared.progress.Progress.{Progress}
use Rattle.turns.specs.declared.turn.Turned.{Turned}
use Rattle.turns.specs.Finish.{Deed}
use Rattle.turns.specs.Progress.{done_of}
use Rattle.rounds.specs.Account.{is_idle}
use Rattle.pool_turns.specs.Moments.{Moment, After, Turning, TurnTaken, Leaving, cost_of}
use Rattle.pool_runner.specs.Rounds.{PoolLeft, Noted, tally_of}
use Rattle.pool_runner.proofs.Laws.Standing.{Fitted, rest_in, rest_of, slot, Timed, Manned, Done, Begun, Between, Waits, Passing, due_in}
use Rattle.pool_runner.proofs.Laws.Standing.{InTurns, InTakes, after_turns, over}
use Rattle.pool_runner.proofs.Laws.Takes.{takes_still}
use Rattle.pool_runner.proofs.Laws.Seats.{turns_later}
use Rattle.pool_runner.proofs.Laws.Timing.{Calm, calm_none, calm_on, rest_most, rest_others, turn_calm, slot_at}
use Rattle.pool_runner.proofs.Laws.Timing.{passing_none, passing_calm, passing_all}

pub either_false : (b : Bool) → either b false ≡ b
either_false true = refl
either_false false = refl

calm_done : {p : Plan} {progress : Progress} {pool : Pool} {rows : List ℕ} {s t : State} → Calm s t → Done p progress pool rows s → Done p progress pool rows t
calm_done q d = record {
  progressed = rw q.next d.progressed;
  rowed = rw (q.next, q.rows) d.rowed;
  pooled = rw (q.next, q.workers) d.pooled;
}

calm_manned : {p : Plan} {n weighs peak idlers : ℕ} {workers : List Worker} {s t : State} → Calm s t → Manned n weighs peak idlers workers p s
    → Manned n weighs peak idlers workers p t
calm_manned {p} q m = record {
  seated = m.seated ∙ sym q.workers;
  weighed = m.weighed ∙ ap (weight p) (sym q.next);
  highest = m.highest ∙ sym q.peak;
  idle = rw q.workers m.idle;
}

module _ {p : Plan} {n : ℕ} {plan : Sheet} (g : Fitted p n plan) where
  pub begun_fit : Fit p n
  begun_fit = record { plan = g.planned.rules; some = g.some; most = g.most }

  pub begun_early : {r : ℕ} {s : State} → Begun p n r s → r ≤ 30720
  begun_early b = (counts_small begun_fit b.trace (omega arith)).0

  -- the turns of a round, from those of the workers below k to those below k + d, in which no action ends; r rounds are done before it
  module _ {ρ : ℕ} {s : State} (b : Begun p n ρ s) (r : ℕ) where
    abbrev at : ℕ → State
    at k = after_turns p n ρ k s

    trace_to : (k : ℕ) → k ≤ n → Trace p n ρ s.workers (turning k) (at k)
    trace_to k h = turns_trace b.trace k h

    -- what is left of the actions of those whose turns have not come
    abbrev Same : ℕ → Type 0
    Same k = (w : ℕ) → k ≤ w → rest_of p (at k) w ≡ rest_of p s w

    pub gap : (k d : ℕ) → k + d ≤ n → ((u : ℕ) → k ≤ u → u < k + d → rest_of p s u ≢ 1) → {ends : List ℕ} → Same k → Passing p n r k ends (at k)
        → Calm (at k) (at (k + d)) × Same (k + d) × Passing p n r (k + d) ends (at (k + d))
    unfolding turns
    gap k zero h none same q =
        let e : k + 0 ≡ k = omega arith in
        rw e (calm_none (at k), same, q)
    gap k (suc d) h none {ends} same q =
        let (calm, same', q') = gap k d (omega arith) (λ u l m. none u l (omega arith)) same q in
        let j = k + d in
        let t = trace_to j (omega arith) in
        let x = get_or s.workers j Idle in
        let seat : worker_of (at j) j ≡ x = turns_later p ρ s.workers s j j (le_refl j) in
        let due : rest_of p (at j) j ≢ 1 = λ e. none j (omega arith) (omega arith) (sym (same' j (le_refl j)) ∙ e) in
        let (c, less) = turn_calm begun_fit t x seat due in
        let others = rest_others begun_fit t x seat in
        let e : k + suc d ≡ suc j = omega arith in
        rw e (
          calm_on calm c,
          λ w l. others w (λ z. omega arith) ∙ same' w (omega arith),
          passing_calm p n r (omega (arith, g.most)) q' due less others,
        )

    -- workers past the last one have nothing
    none_past : (k : ℕ) → k ≤ n → (w : ℕ) → n ≤ w → rest_of p (at k) w ≡ 0
    none_past k h w l = go (worker_of (at k) w) refl
      where
        go : (x : Worker) → worker_of (at k) w ≡ x → rest_of p (at k) w ≡ 0
        go Idle e = rw e refl
        go (Holding j) e = absurd (omega (arith, (trace_manned begun_fit (trace_to k h)).known w j (ap hands_in e)))
        go (Waiting v m) e = rw e refl

    few : (w : ℕ) → w < 16 → rest_of p s w ≤ 15
    few w h = rest_most begun_fit b.trace w

    -- who ends in this round stands in its set
    pub due_is : {ends : List ℕ} → Timed p n r ends s → (w : ℕ) → w < 16 → member (get_or ends (suc r % 16) 0) w ≡ due_in p n s w
    due_is t w h = t.each w (suc r % 16) h (omega arith) ∙ go (rest_of p s w) (few w h)
      where
        go : (m : ℕ) → m ≤ 15 → slot r m (suc r % 16) ≡ eqb m 1
        go zero l = refl
        go (suc m) l = slot_at r (suc m) (omega arith) l

  -- the turns of the next round begin, where job 0 has not ended
  pub begun_next : {r : ℕ} {s : State} → Begun p n r s → ended p (over p n r s) ≡ false → Begun p n (suc r) (takes p n (over p n r s))
  begun_next {r} {s} b on = by b.fuel refl
    where
      t : Trace p n (suc r) (over p n r s).workers (taking n) (takes p n (over p n r s))
      t = takes_trace (Trace.goes_on (turns_trace b.trace n (le_refl n)) on) n (le_refl n)

      u : Trace p n (suc r) (takes p n (over p n r s)).workers (turning 0) (takes p n (over p n r s))
      u = Trace.all_took t

      counts : suc (over p n r s).tally.rounds ≡ suc r
      counts = (trace_counted g.some (Trace.goes_on (turns_trace b.trace n (le_refl n)) on)).rounds

      by : (k : ℕ) → b.fuel ≡ k → Begun p n (suc r) (takes p n (over p n r s))
      by zero e = absurd (omega (arith, b.enough, round_most begun_fit u))
      by (suc k) e = record {
        trace = u;
        on = taking_goes begun_fit t;
        greedy = (trace_stands begun_fit t).0.greedy;
        fuel = k;
        left = b.left ∙ ap (λ k. rounds k p n (over p n r s)) e ∙ rounds_on p n k (over p n r s) on
            ∙ ap (rounds k p n) (round_is p n (suc r) (over p n r s) counts);
        enough = omega (arith, b.enough);
      }

  pub waits_begin : {r weighs peak idlers : ℕ} {workers : List Worker} {ends : List ℕ} {progress : Progress} {pool : Pool} {rows : List ℕ}
      → Between p n r weighs peak idlers workers ends progress pool rows → Waits p n (r + 1) weighs peak idlers workers ends progress pool rows
  waits_begin {r} z = record { past = r; is = add-one r; stands = z }

  module _ {r weighs peak idlers : ℕ} {workers : List Worker} {ends : List ℕ} {progress : Progress} {pool : Pool} {rows : List ℕ}
      (z : Waits p n r weighs peak idlers workers ends progress pool rows) where
    abbrev q : ℕ
    q = z.past

    abbrev y : Between p n q weighs peak idlers workers ends progress pool rows
    y = z.stands

    abbrev s : State
    s = y.state

    none_ends : get_or ends (r % 16) 0 ≡ 0 → (w : ℕ) → w < 16 → rest_of p s w ≢ 1
    none_ends none w h = eqb-false (rest_of p s w) 1
        (sym (due_is y.begun q y.timed w h) ∙ ap (λ c. member (get_or ends (c % 16) 0) w) (sym z.is) ∙ ap (λ x. member x w) none ∙ member_none w)

    -- nobody ends: the calendar stays, and so does all but the rounds spent
    pub waits_on : get_or ends (r % 16) 0 ≡ 0 → Waits p n (r + 1) weighs peak idlers workers ends progress pool rows
    unfolding turns
    waits_on none =
        let same : set ends (suc q % 16) 0 ≡ ends =
        ap (λ c. set ends (c % 16) 0) (sym z.is) ∙ ap (set ends (r % 16)) (sym none) ∙ set-get_or ends (r % 16) 0 in
        let start : Passing p n q 0 ends s = rw same at (passing_none p n q y.timed (few y.begun q)) in
        let (calm, rests, passing) = gap y.begun q 0 n (omega arith) (λ u l m. none_ends none u (omega (arith, g.most))) (λ w l. refl) start in
        let e : 0 + n ≡ n = omega arith in
        next (rw e at calm) (rw e at passing)
      where
        next : Calm s (over p n (suc q) s) → Passing p n q n ends (over p n (suc q) s)
            → Waits p n (r + 1) weighs peak idlers workers ends progress pool rows
        next calm passing =
            let on : ended p (over p n (suc q) s) ≡ false =
            lt-leb (size p 0) (next_of (over p n (suc q) s) 0) (rw calm.next y.begun.on) in
            let still : takes p n (over p n (suc q) s) ≡ over p n (suc q) s =
            takes_still p g.planned.rules n (over p n (suc q) s) (rw (calm.next, calm.workers) y.begun.greedy) n (le_refl n) in
            record {
              past = suc q;
              is = add-one r ∙ ap suc z.is;
              stands = record {
                state = over p n (suc q) s;
                begun = rw still at (begun_next y.begun on);
                timed = passing_all p n q passing (none_past y.begun q n (le_refl n));
                manned = calm_manned calm y.manned;
                done = calm_done calm y.done;
              };
            }

    -- actions end in this round
    pub turns_begin : InTurns p n r (get_or ends (r % 16) 0) weighs peak idlers workers (set ends (r % 16) 0) progress pool rows
    unfolding turns
    turns_begin =
        let first : Left (due_in p n s) n 0 (get_or ends (suc q % 16) 0) = record {
          small = y.timed.small (suc q % 16);
          past = λ u h. absurd (omega arith);
          each = λ u l h. due_is y.begun q y.timed u (omega (arith, g.most));
        } in
        rw z.is (record {
          round = q;
          is = refl;
          state = s;
          begun = y.begun;
          past = 0;
          ahead = omega arith;
          walk = first;
          rests = λ w l. refl;
          passing = passing_none p n q y.timed (few y.begun q);
          manned = y.manned;
          done = y.done;
        })

  module _ {r left weighs peak idlers : ℕ} {workers : List Worker} {ends : List ℕ} {progress : Progress} {pool : Pool} {rows : List ℕ}
      (z : InTurns p n r left weighs peak idlers workers ends progress pool rows) where
    abbrev s₀ : State
    s₀ = z.state

    abbrev q' : ℕ
    q' = z.round

    -- the state after the turns of the workers below k
    abbrev to : ℕ → State
    to k = after_turns p n r k s₀

    trace_at : (k : ℕ) → k ≤ n → Trace p n r s₀.workers (turning k) (to k)
    trace_at k h = turns_trace z.begun.trace k h

    pub turns_early : r ≤ 30720
    turns_early = begun_early z.begun

    -- over the turns in which no action ends, up to those of the workers below k
    over_gap : (k : ℕ) → z.past ≤ k → k ≤ n → ((u : ℕ) → z.past ≤ u → u < k → rest_of p s₀ u ≢ 1)
        → Calm (to z.past) (to k) × ((w : ℕ) → k ≤ w → rest_of p (to k) w ≡ rest_of p s₀ w) × Passing p n q' k ends (to k)
    over_gap k l h none =
        let e : z.past + (k - z.past) ≡ k = omega arith in
        rw e at (gap z.begun q' z.past (k - z.past) (omega arith) (λ u a b. none u a (omega arith)) z.rests z.passing)

    -- at the lowest worker that is left
    module _ {w : ℕ} (low : Lowest left w) where
      pub turns_known : (w < n) × (w < 16)
      turns_known = let h = left_known z.walk low in (h, omega (arith, g.most))

      passed : Calm (to z.past) (to w) × ((u : ℕ) → w ≤ u → rest_of p (to w) u ≡ rest_of p s₀ u) × Passing p n q' w ends (to w)
      passed =
          let h = turns_known.0 in
          over_gap w (left_ahead z.walk low) (omega arith) (λ u l m. eqb-false (rest_of p s₀ u) 1 (left_none z.walk low u l m))

      calm : Calm (to z.past) (to w)
      calm = passed.0

      trace : Trace p n r s₀.workers (turning w) (to w)
      trace = let h = turns_known.0 in trace_at w (omega arith)

      -- its action ends in this round
      due : rest_of p (to w) w ≡ 1
      due = passed.1 w (le_refl w) ∙ eqb-true (rest_of p s₀ w) 1 (left_test z.walk low)

      seat : get_or workers w Idle ≡ worker_of (to w) w
      seat = ap (λ (ws : List Worker). get_or ws w Idle) (z.manned.seated ∙ sym calm.workers)

      was : worker_of (to w) w ≡ get_or s₀.workers w Idle
      was = turns_later p r s₀.workers s₀ w w (le_refl w)

      -- so it holds a job
      holder : (j : ℕ) × (worker_of (to w) w ≡ Holding j)
      holder = go (worker_of (to w) w) refl
        where
          go : (x : Worker) → worker_of (to w) w ≡ x → (j : ℕ) × (worker_of (to w) w ≡ Holding j)
          go Idle e = absurd (omega (arith, due, ap (rest_in p (to w).next (to w).spent) e))
          go (Holding j) e = (j, e)
          go (Waiting v l) e = absurd (omega (arith, due, ap (rest_in p (to w).next (to w).spent) e))

      last : (j : ℕ) → get_or workers w Idle ≡ Holding j → (action p j (next_of (to w) j)).cost ≤ suc (spent_of (to w) j)
      last j e = omega (arith, due, ap (rest_in p (to w).next (to w).spent) (sym seat ∙ e))

      -- the moment of its turn
      abbrev pub turns_moment : Moment
      turns_moment = record { plan = p; workers = n; round = r; began = z.state.workers; state = after_turns p n r w z.state; worker = w }

      pub turns_turning : Turning (get_or workers w Idle) r w weighs plan progress pool rows turns_moment
      turns_turning =
          let d : Done p progress pool rows (to w) = calm_done calm z.done in
          let m = calm_manned calm z.manned in
          record {
            run = record { accepted = g.planned.rules; some = g.some; most = g.most; known = turns_known.0; trace = trace };
            now_in = refl;
            whose = refl;
            here = seat;
            holding = ap holds (seat ∙ holder.1);
            weighed = m.weighed;
            planned = g.planned;
            last = last;
            progressed = d.progressed;
            pooled = d.pooled;
            rowed = d.rowed;
          }

      turns_more : to (suc w) ≡ turn_of p r w (get_or workers w Idle) (to w)
      unfolding turns
      turns_more = ap (λ (x : Worker). turn_of p r w x (to w)) (sym was ∙ sym seat)

      trace_next : Trace p n r s₀.workers (turning (suc w)) (to (suc w))
      trace_next = trace_at (suc w) turns_known.0

      -- it is done
      finished_is : to (suc w) ≡ finished p r w holder.0 (to w)
      unfolding turn_of
      finished_is =
          turns_more ∙ ap (λ x. turn_of p r w x (to w)) (seat ∙ holder.1)
          ∙ turn_finished p r w holder.0 (to w) (last holder.0 (seat ∙ holder.1))

      -- no round is spent on what the worker has then
      fresh : (x : ℕ) → worker_of (to (suc w)) w ≡ Holding x → spent_of (to (suc w)) x ≡ 0
      unfolding finished
      fresh x e = ⊎_elim (λ y. y) (λ l.
          let o = trace_manned begun_fit trace_next in
          let (v, b, h) = o.begun x l in
          let same : v ≡ w = o.once v w x h (ap hands_in e) in
          let y : x ≡ holder.0 = omega (arith, b, ap (hands_of s₀.workers) same, ap hands_in (sym was ∙ holder.1)) in
          absurd (omega (arith, l, spent_none, ap (spent_of (to (suc w))) y))) (eq-zero-or-pos (spent_of (to (suc w)) x))
        where
          spent_none : spent_of (to (suc w)) holder.0 ≡ 0
          spent_none = rw finished_is (zero_set (to w).spent holder.0)

      rest_is : rest_of p (to (suc w)) w ≡ cost_of p (to (suc w)).next (worker_of (to (suc w)) w)
      rest_is = go (worker_of (to (suc w)) w) refl
        where
          go : (x : Worker) → worker_of (to (suc w)) w ≡ x → rest_in p (to (suc w)).next (to (suc w)).spent x ≡ cost_of p (to (suc w)).next x
          go Idle e = refl
          go (Holding x) e = omega (arith, fresh x e)
          go (Waiting v l) e = refl

      pub turns_idle : (w < 16) × (member idlers w ≡ false)
      turns_idle = (
        turns_known.1,
        (calm_manned calm z.manned).idle.each w turns_known.0 ∙ ap is_idle holder.1,
      )

      -- the turn was taken
      module _ {after : Turned} {progress' : Progress} {pool' : Pool} {rows' : List ℕ} (t : TurnTaken (get_or workers w Idle) after progress' pool' rows' turns_moment) where
        left_as : After w after progress' pool' p (to (suc w))
        left_as = rw turns_more t.left

        abbrev deed : Deed
        deed = record { plan = p; next = (to (suc w)).next; spent = (to (suc w)).spent }

        pub turns_left : Leaving after.worker plan progress' deed
        turns_left j e =
            let a = (trace_manned begun_fit trace_next).lives w j (ap hands_in (sym left_as.worker ∙ e)) in
            record { planned = g.planned; known = a.below; left = a.left; progressed = left_as.progressed }

        module _ {cost : ℕ} (is : cost ≡ cost_of p (to (suc w)).next after.worker) where
          cost_is : cost ≡ rest_of p (to (suc w)) w
          cost_is = is ∙ ap (cost_of p (to (suc w)).next) left_as.worker ∙ sym rest_is

          pub turns_note : (r < 65536) × (cost ≤ 15) × (w < 16)
          turns_note =
              (omega (arith, turns_early), omega (arith, cost_is, rest_most begun_fit trace_next w), turns_known.1)

          pub turns_next : {ends' : List ℕ} → Noted r cost w ends ends' → {idlers' : ℕ} → Marked w (is_idle after.worker) idlers idlers'
              → {peak' : ℕ} → peak' ≡ max peak after.weight → {left' : ℕ} → Rest left left'
              → InTurns p n r left' after.weight peak' idlers' (set workers w after.worker) ends' progress' pool' rows'
          unfolding finished
          turns_next {ends'} noted {idlers'} marked {peak'} top l = record {
            round = q';
            is = z.is;
            state = s₀;
            begun = z.begun;
            past = suc w;
            ahead = turns_known.0;
            walk = left_next z.walk low l;
            rests = λ u h. others u (λ e. omega arith) ∙ passed.1 u (omega arith);
            passing = record {
              long = noted.long;
              small = noted.small n turns_known.0 passed.2.small;
              had = λ u c h b. by_cases (ℕ_discrete u w)
                  (λ e. rw e (own c b))
                  (λ f. noted.others c u f ∙ passed.2.had u c (omega arith) b ∙ ap (λ m. slot (suc q') m c) (sym (others u f)));
              not_yet = λ u c h k b.
                  let f : u ≢ w = λ e. omega arith in
                  noted.others c u f ∙ passed.2.not_yet u c (omega arith) k b
                  ∙ ap (λ m. both (ltb 1 m) (eqb c ((q' + m) % 16))) (sym (others u f));
            };
            manned = record {
              seated = ap (λ ws. set ws w after.worker) m.seated ∙ seats;
              weighed = left_as.weighed;
              highest = top ∙ ap₂ max m.highest left_as.weighed ∙ sym peak_is;
              idle = rw (← seats) (crewed_mark is_idle (to w).workers Idle after.worker m.idle long marked turns_known.0);
            };
            done = record { progressed = left_as.progressed; rowed = rw turns_more t.rowed; pooled = left_as.pooled };
          }
            where
              m : Manned n weighs peak idlers workers p (to w)
              m = calm_manned calm z.manned

              long : w < length (to w).workers
              long = omega (arith, (trace_sized begun_fit trace).workers, turns_known.1)

              others : (u : ℕ) → u ≢ w → rest_of p (to (suc w)) u ≡ rest_of p (to w) u
              others u f = rw turns_more (rest_others begun_fit trace (get_or workers w Idle) (sym seat) u f)

              -- it stood nowhere else
              nowhere : (c : ℕ) → c < 16 → member (get_or ends c 0) w ≡ false
              nowhere c b = passed.2.not_yet w c (le_refl w) turns_known.1 b ∙ rw due refl

              own : (c : ℕ) → c < 16 → member (get_or ends' c 0) w ≡ slot (suc q') (rest_of p (to (suc w)) w) c
              own c b = ⊎_elim
                  (λ e. noted.none e c ∙ nowhere c b ∙ ap (λ m. slot (suc q') m c) (sym e ∙ cost_is))
                  (λ h. noted.here h c b ∙ ap (either (eqb c ((r + cost) % 16))) (nowhere c b) ∙ either_false (eqb c ((r + cost) % 16))
                  ∙ ap (λ r. eqb c ((r + cost) % 16)) z.is ∙ sym (ap (λ x. both x (eqb c ((suc q' + cost) % 16))) (lt-ltb 0 cost h))
                  ∙ ap (λ m. slot (suc q') m c) cost_is) (eq-zero-or-pos cost)

              seats : set (to w).workers w after.worker ≡ (to (suc w)).workers
              seats = ap (set (to w).workers w) left_as.worker ∙ rw finished_is
                  (ap (set (to w).workers w) (get_or-set_same (to w).workers w _ Idle long))

              peak_is : (to (suc w)).tally.peak ≡ max (to w).tally.peak (weight p (to (suc w)).next)
              peak_is = rw finished_is refl

    -- nobody is left
    module _ (none : left ≡ 0) where
      rest_over : Calm (to z.past) (to n) × ((w : ℕ) → n ≤ w → rest_of p (to n) w ≡ rest_of p s₀ w) × Passing p n q' n ends (to n)
      rest_over =
          over_gap n z.ahead (le_refl n) (λ u l m. eqb-false (rest_of p s₀ u) 1 (left_over (rw none at z.walk) u l m))

      all_manned : Manned n weighs peak idlers workers p (to n)
      all_manned = calm_manned rest_over.0 z.manned

      all_done : Done p progress pool rows (to n)
      all_done = calm_done rest_over.0 z.done

      -- job 0 has ended where its next place is the first of job 1
      last_place : (done_of progress 0 ≡ next_of (to n) 0) × (first_of plan 1 ≡ size p 0) × (next_of (to n) 0 ≤ size p 0)
      last_place =
          let some = (jobs_range p g.planned.rules).0 in (
            all_done.progressed.counts 0 some,
            laid_end plan p g.planned.laid 0 some ∙ zero-add (size p 0),
            (trace_manned begun_fit (trace_at n (le_refl n))).closed.bound 0 some,
          )

      -- the run ends
      module _ (e : done_of progress 0 ≡ first_of plan 1) where
        run_is : pool_of p n ≡ to n
        run_is =
            let (d, f, l) = last_place in
            z.begun.left ∙ rounds_stop p n z.begun.fuel (to n) (le-leb (size p 0) (next_of (to n) 0) (omega arith))

        in_all : (to n).tally.rounds ≡ r
        in_all = numbered_late g.some (trace_counted g.some (trace_at n (le_refl n))).rounds

        turns_sum : n * r ≡ work p + (pool_of p n).tally.idle
        turns_sum =
            let b = pool_bounds begun_fit in
            let k : (pool_of p n).tally.rounds ≡ r = rw run_is in_all in
            ap (λ r. n * r) (sym k) ∙ b.turns ∙ ap (λ a. a + (pool_of p n).tally.idle) b.actions

        pub turns_work : work p ≤ n * r
        turns_work = omega (arith, turns_sum)

        pub turns_over : {worked : ℕ} → worked ≡ work p → {t : Tally} → t ≡ tally_of n r worked peak → PoolLeft n t rows p
        turns_over is told = record { counts = told ∙ ap (λ a. tally_of n r a peak) is ∙ sym counts; rowed = rw run_is all_done.rowed }
          where
            counts : (pool_of p n).tally ≡ tally_of n r (work p) peak
            counts =
                let b = pool_bounds begun_fit in
                let (requests, steals, bare, missed) = b.none in
                let rounds : (pool_of p n).tally.rounds ≡ r = rw run_is in_all in
                let idle : (pool_of p n).tally.idle ≡ n * r - work p = omega (arith, turns_sum) in
                let top : (pool_of p n).tally.peak ≡ peak = rw run_is (sym all_manned.highest) in
                λ x. record {
                  rounds = rounds x;
                  actions = b.actions x;
                  idle = idle x;
                  requests = requests x;
                  steals = steals x;
                  bare = bare x;
                  idle_victim = missed x;
                  peak = top x;
                }

      pub turns_takes : done_of progress 0 ≢ first_of plan 1 → InTakes p n r idlers weighs peak idlers workers ends progress pool rows
      unfolding takes turns
      turns_takes e =
          let (d, f, l) = last_place in
          let ne : next_of (to n) 0 ≢ size p 0 = λ q. e (d ∙ q ∙ sym f) in
          record {
            state = s₀;
            begun = z.begun;
            on = lt-leb (size p 0) (next_of (to n) 0) (omega arith);
            past = 0;
            ahead = omega arith;
            walk = left_start all_manned.idle;
            timed = rw (← z.is) at (passing_all p n q' rest_over.2 (λ w l. rest_over.1 w l ∙ none_past z.begun q' 0 (omega arith) w l));
            manned = all_manned;
            done = all_done;
          }
