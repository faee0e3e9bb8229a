-- The first half of a round over the runner's objects: the turns of those who hold a job, with the idle turns as gaps between them.
--   begun_run     == the run as a round begins
--   turns_begin   == .. and the objects
--   between_early, turns_early == a round is one of at most 30,720
--   turns_known, turns_worker == the lowest worker that is left is one of those that have not had their turns; it is one of the sixteen
--   turns_moment, turns_turning, turns_notable == the moment of its turn, what the turn is given, and what noting it is given
--   turns_next    == its turn leaves the objects so
--   turns_restable == nobody is left: the idle turns behind the last one can be counted
--   turns_over, turns_lays == .. and the run ends, or requests are laid
use Prim.Native.Nat.{ℕ, zero, suc, ◌+◌, ◌-◌, ◌%◌, ◌≤◌, ◌<◌}
use mathlib.Core.Path.{◌≡◌, refl, sym, ap, ◌∙◌}
use mathlib.Core.Logic.{◌≢◌}
use mathlib.Core.Bool.{true}
use mathlib.Core.List.{List}
use native.Mathlib.Nat.{le_refl, zero-add, add-zero}
use native.Mathlib.Numerals.{add-one}
use native.Mathlib.Omega.{arith}
use lib.ListN.{length, get_or, set}
use borrow.Author.Tests.{le-leb, lt-leb}
use Rattle.plan.specs.Plan.{Plan, size}
use Rattle.plan.specs.Sheet.{first_of}
use Rattle.plan.proofs.Laws.Valid.{jobs_range}
use Rattle.plan.proofs.Laws.Laid.{laid_end}
use Rattle.plan_measure.specs.Measure.{work}
use Rattle.courses.specs.Ready.{weight}
use Rattle.runs.specs.declared.worker.Worker.{Worker}
use Rattle.runs.specs.declared.worker.Worker.TheVariants.{Idle}
use Rattle.runs.specs.Setting.{Setting, count_in}
use Rattle.runs.specs.State.{State, next_of, holds}
use Rattle.runs.specs.Turn.{turn_of, turns}
use Rattle.runs.specs.Steal.{lays}
use Rattle.runs.specs.Run.{ended, rounds, run}
use Rattle.runs.specs.Trace.{turning}
use Rattle.runs.proofs.Laws.Fit.{Fit}
use Rattle.runs.proofs.Laws.Began.{trace_began}
use Rattle.runs.proofs.Laws.Rounds.{rounds_known, numbered_late}
use Rattle.runs.proofs.Laws.Coursed.{round_most}
use Rattle.runs.proofs.Laws.Whole.{round_last, rounds_stop, rounds_on}
use Rattle.crew.specs.Crew.{Lowest, Rest}
use Rattle.crew.proofs.Laws.Walks.{left_start, left_known, left_ahead, left_test, left_next}
use Rattle.turns.specs.declared.turn.Turned.{Turned}
use Rattle.turns.specs.Count.{Restable}
use Rattle.turns.specs.Progress.{done_of}
use Rattle.turns.specs.Moments.{InRun, Moment, Turning, TurnTaken}
use Rattle.turns.proofs.Laws.Running.{run_fit, run_sound, run_counts, run_countable, run_restable, run_turns}
use Rattle.plan.specs.declared.sheet.Sheet.{Sheet}
use Rattle.crew.specs.declared.line.Lines.{Lines}
use Rattle.deques.specs.declared.Deque.{Deque}
use Rattle.turns.specs.declared.progress.Progress.{Progress}
use Rattle.rounds.specs.declared.account.Account.{Account}
use Rattle.rounds.specs.Account.{is_idle, rested, Turnable, TurnNoted}
use Rattle.rounds.specs.Rounds.{RunLeft}
use Rattle.rounds.proofs.Laws.Standing.{Fitted, Manned, Done, Begun, Between, InTurns, InLays, Throughout, after_turns, one_of}
use Rattle.rounds.proofs.Laws.Halves.{turns_requests, done_kept}
use Rattle.rounds.proofs.Laws.Idling.{Idled, turns_gap, turns_rest}
use Rattle.rounds.proofs.Laws.Queues.{turns_queued}
use Rattle.rounds.proofs.Laws.Manning.{held_busy, manned_turned, manned_rested}

module _ {S : Setting} {plan : Sheet} (g : Fitted S plan) where
  abbrev n : ℕ
  n = S.workers

  abbrev p : Plan
  p = S.plan

  -- a state as a round begins
  pub begun_run : {r : ℕ} {s : State} → Begun S r s → InRun S r s.workers (turning 0) s
  begun_run b = record { accepted = g.planned.rules; some = g.some; most = g.most; fit = g.fit; trace = b.trace }

  -- a round in which job 0 ends is the last one
  begun_last : {r : ℕ} {s : State} → Begun S r s → ended p (after_turns S r n s) ≡ true → run S ≡ after_turns S r n s
  unfolding count_in
  begun_last {r} {s} b over = b.left ∙ go b.fuel b.enough
    where
      fit : Fit S
      fit = run_fit (begun_run b)

      go : (k : ℕ) → work p < k + r → rounds k S s ≡ after_turns S r n s
      go zero h = absurd (omega (arith, round_most fit b.trace))
      go (suc k) h =
          rounds_on S k s b.on ∙ ap (rounds k S) (round_last S r s (rounds_known fit b.trace) over)
          ∙ rounds_stop S k (after_turns S r n s) over

  pub turns_begin : {r : ℕ} {a : Account} {workers : List Worker} {cursor : ℕ}
      {lines : Lines} {progress : Progress} {deques : List Deque} {rows : List ℕ}
      → Between S r a workers cursor lines progress deques rows
      → InTurns S (r + 1) a.idlers a.holders 0 a workers cursor lines progress deques rows
  unfolding turns
  turns_begin z =
      rw add-one
      (record {
        state = z.state;
        begun = z.begun;
        were_idle = z.manned.idlers;
        ahead = omega arith;
        walk = left_start z.manned.holders;
        manned = z.manned;
        asking = z.asking;
        done = z.done;
        dequed = z.dequed;
      })

  pub between_early : {r : ℕ} {a : Account} {workers : List Worker} {cursor : ℕ}
      {lines : Lines} {progress : Progress} {deques : List Deque} {rows : List ℕ}
      → Between S r a workers cursor lines progress deques rows → r < 30720
  between_early z = (run_counts (begun_run z.begun)).0

  module _ {r idle left past : ℕ} {a : Account} {workers : List Worker} {cursor : ℕ}
      {lines : Lines} {progress : Progress} {deques : List Deque} {rows : List ℕ}
      (z : InTurns S r idle left past a workers cursor lines progress deques rows) where
    pub turns_early : r ≤ 30720
    turns_early = (run_counts (begun_run z.begun)).0

    abbrev s : State
    s = z.state

    -- the state after the turns of the workers below k
    abbrev at : ℕ → State
    at k = after_turns S r k s

    run_to : (k : ℕ) → k ≤ n → InRun S r s.workers (turning k) (at k)
    run_to k h = run_turns (begun_run z.begun) k h

    run_now : InRun S r s.workers (turning past) (at past)
    run_now = run_to past z.ahead

    -- at the lowest worker that is left
    module _ {w : ℕ} (low : Lowest left w) where
      turns_known : (past ≤ w) × (w < n) × (w < 16)
      turns_known = let h = left_known z.walk low in (left_ahead z.walk low, h, omega (arith, g.most))

      gap : Idled (w - past) (at past) (at w)
      gap = turns_gap p r s.workers s z.walk low

      -- it is as the round began, and holds a job
      was : get_or workers w Idle ≡ get_or s.workers w Idle
      was = ap (λ (ws : List Worker). get_or ws w Idle) z.manned.seated ∙ trace_began run_now.trace w turns_known.0

      held : holds (get_or workers w Idle) ≡ true
      held = ap holds was ∙ left_test z.walk low

      turns_more : at (suc w) ≡ turn_of p r w (get_or workers w Idle) (at w)
      unfolding turns
      turns_more = ap (λ (x : Worker). turn_of p r w x (at w)) (sym was)

      -- the moment of its turn
      abbrev pub turns_moment : Moment
      turns_moment = record { setting = S; round = r; began = z.state.workers; state = after_turns S r w z.state }

      pub turns_turning : Turning (get_or workers w Idle) r w a.weight plan progress deques rows turns_moment
      turns_turning =
          let d : Done p progress rows (at w) = done_kept z.done (gap.next, gap.spent, gap.rows) in
          let (l, k, h) = turns_known in
          record {
            run = run_to w (omega arith);
            now_in = refl;
            known = k;
            here = ap (λ (ws : List Worker). get_or ws w Idle) (z.manned.seated ∙ sym gap.workers);
            holding = held;
            weighed = z.manned.weighs ∙ ap (weight p) (sym gap.next);
            planned = g.planned;
            progressed = d.progressed;
            dequed = rw gap.deques z.dequed;
            rowed = d.rowed;
          }

      pub turns_notable : Turnable a r w (w - past)
      turns_notable =
          let (l, k, h) = turns_known in
          let e : get_or (at past).workers w Idle ≡ get_or workers w Idle =
          ap (λ (ws : List Worker). get_or ws w Idle) (sym z.manned.seated) in
          record {
            known = h;
            early = omega (arith, turns_early);
            small = omega arith;
            countable = run_countable run_now z.manned.counts;
            restable = run_restable run_now (w - past) (omega arith) z.manned.counts;
            held = z.manned.holders.each w k ∙ ap holds e ∙ held;
            busy = z.manned.idlers.each w k ∙ ap is_idle e ∙ held_busy (get_or workers w Idle) held;
          }

      pub turns_next : {after : Turned} {progress' : Progress} {deques' : List Deque} {rows' : List ℕ}
          → TurnTaken (get_or workers w Idle) w after progress' deques' rows' turns_moment
          → {a' : Account} → TurnNoted a r w (w - past) after.worker after.weight a' → {left' : ℕ} → Rest left left'
          → InTurns S r idle left' (w + 1) a' (set workers w after.worker) cursor lines progress' deques' rows'
      turns_next t e l =
          let (ahead, k, h) = turns_known in
          let long : w < length (at past).workers = omega (arith, (run_sound run_now).workers) in
          rw add-one
          (record {
            state = s;
            begun = z.begun;
            were_idle = z.were_idle;
            ahead = k;
            walk = left_next z.walk low l;
            manned = rw turns_more (manned_turned gap z.manned r w (get_or workers w Idle) held long k t.left e);
            asking = rw e.victims z.asking;
            done = rw turns_more (record { progressed = t.left.progressed; rowed = t.rowed });
            dequed = rw turns_more t.left.dequed;
          })

    -- nobody is left
    module _ (none : left ≡ 0) where
      pub turns_restable : (past ≤ n) × (n - past ≤ 16) × Restable a.tally (n - past)
      turns_restable =
          let few : n - past ≤ 16 = omega (arith, g.most) in
          (z.ahead, few, run_restable run_now (n - past) few z.manned.counts)

      rest : Idled (n - past) (at past) (at n)
      rest = turns_rest p r s.workers s z.ahead (rw none at z.walk)

      run_all : InRun S r s.workers (turning n) (at n)
      run_all = run_to n (le_refl n)

      counted : (at n).tally.rounds ≡ r
      counted = numbered_late g.some (rounds_known (run_fit run_all) run_all.trace)

      all_manned : Manned n (rested a r (n - past)) workers p (at n)
      all_manned = manned_rested rest z.manned counted

      all_done : Done p progress rows (at n)
      all_done = done_kept z.done (rest.next, rest.spent, rest.rows)

      -- job 0 has ended where its next place is the first of job 1
      last_place : (done_of progress 0 ≡ next_of (at n) 0) × (first_of plan 1 ≡ size p 0) × (next_of (at n) 0 ≤ size p 0)
      last_place =
          let some = (jobs_range p g.planned.rules).0 in (
            all_done.progressed.counts 0 some,
            laid_end plan p g.planned.laid 0 some ∙ zero-add (size p 0),
            (run_sound run_all).good.closed.bound 0 some,
          )

      pub turns_over : done_of progress 0 ≡ first_of plan 1 → RunLeft n S.choices (rested a r (n - past)).tally rows S.plan
      turns_over e =
          let (d, f, l) = last_place in
          let over : ended p (at n) ≡ true = le-leb (size p 0) (next_of (at n) 0) (omega arith) in
          let last : run S ≡ at n = begun_last z.begun over in
          record { counts = rw last all_manned.counts; rowed = rw last all_done.rowed }

      pub turns_lays : done_of progress 0 ≢ first_of plan 1
          → InLays S r idle (rested a r (n - past)) workers cursor lines progress deques rows
      unfolding lays
      turns_lays e =
          let (d, f, l) = last_place in
          let ne : next_of (at n) 0 ≢ size p 0 = λ q. e (d ∙ q ∙ sym f) in
          record {
            state = s;
            begun = z.begun;
            on = lt-leb (size p 0) (next_of (at n) 0) (omega arith);
            past = 0;
            ahead = omega arith;
            walk = left_start z.were_idle;
            manned = all_manned;
            asking = record {
              pointed = z.asking.pointed ∙ ap (λ (k : ℕ). k % length S.choices) (sym (turns_requests p r n s.workers s));
              queued = rw add-zero (turns_queued (run_fit run_all) z.begun.trace z.asking.queued n (le_refl n));
              crewed = z.asking.crewed;
            };
            done = all_done;
            dequed = rw rest.deques z.dequed;
          }

pub turns_worker : {m r idle left past cursor w : ℕ} {choices : List ℕ} {plan : Sheet} {entering : List ℕ} {a : Account}
    {workers : List Worker} {lines : Lines} {progress : Progress} {deques : List Deque} {rows : List ℕ}
    → Throughout m choices plan entering (λ S. InTurns S r idle left past a workers cursor lines progress deques rows)
    → Lowest left w → w < 16
turns_worker t low = let (p, f, z) = one_of t in (turns_known f z low).2
