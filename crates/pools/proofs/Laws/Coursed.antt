-- A run from a pool is one of the pools that the theory of courses knows, so that all that holds of courses holds of its rows, its weights
-- and its peak.
--   Fit p n       == the plan is accepted, and there are 1 to 16 workers
--   none_done, none_spent, start_idle, start_begins == how a run begins
--   Sized p s     == the lists of a state are as long as they should be
--   first_born, root_lives, root_ready == where nothing is done, job 0 alone lives, and it is ready
--   Before, Stands == what holds before the taking of a round, and at each of its stages
--   trace_stands  == it holds in every state of a run
--   trace_manned, trace_course == what the theory knows of the hands among turns, and that they are those of a course
--   trace_unpaid  == a job that is held has rounds left; taking_goes == before a round job 0 has not ended;
--                   taking_fresh == and no round is spent on the action of a job that nobody has
use Prim.Native.Nat.{ℕ, zero, suc, ◌≤◌, ◌<◌}
use mathlib.Core.Path.{◌≡◌, refl, ap, sym, ◌∙◌}
use mathlib.Core.Logic.{◌≢◌, ⊎_elim, by_cases}
use mathlib.Core.List.{List}
use native.Mathlib.Omega.{arith}
use native.Mathlib.Nat.{le_refl, eq-zero-or-pos}
use native.Mathlib.Decide.{dec_lt}
use lib.Dec.{nleb→lt}
use lib.ListN.{length, get_or, replicate, length-replicate, length-set}
use Rattle.plan.specs.Plan.{Plan, size, total, parent}
use Rattle.plan.specs.Rules.{Accepted}
use Rattle.plan.proofs.Laws.Lists.{zeros_at}
use Rattle.plan.proofs.Laws.Spawning.{cost_in_range_lem}
use Rattle.plan.proofs.Laws.Valid.{jobs_range, size_range, join_target}
use Rattle.courses.specs.Row.{no_row}
use Rattle.courses.proofs.Laws.Course.{Core, next_in, Begins, Course}
use Rattle.courses.proofs.Laws.Steps.{worked_works, finished_ends}
use Rattle.courses.proofs.Laws.Kept.{course_kept}
use Rattle.courses.proofs.Laws.Weighs.{course_weighs}
use Rattle.courses.proofs.Laws.PlanShape.{shape}
use Rattle.courses.proofs.Laws.Pool.{Pool, starts, idles, works, passes, takes, terms, Manned, pool_manned, pool_course}
use Rattle.lines.proofs.Laws.Shape.{Living, Ready}
use Rattle.runs.specs.declared.worker.Worker.{Worker}
use Rattle.runs.specs.declared.worker.Worker.TheVariants.{Idle, Holding, Waiting}
use Rattle.runs.proofs.Laws.Coursed.{hands_in, hands_of}
use Rattle.pools.specs.State.{State, next_of, spent_of, start}
use Rattle.pools.specs.Take.{take}
use Rattle.pools.specs.Turn.{worked, finished, idled, turn_of}
use Rattle.pools.specs.Trace.{Stage, taking, turning, Trace}
use Rattle.pools.proofs.Laws.Taking.{core, same_core, take_keeps, Took, took_none, took_next, took_takes}
use Rattle.pools.proofs.Laws.Passing.{cost_of, turn_worked, turn_finished, turn_cases, hand_passes}

pub record Fit (p : Plan) (n : ℕ) : Type 0 where
  pub plan : Accepted p
  pub some : 1 ≤ n
  pub most : n ≤ 16

pub record Sized (p : Plan) (s : State) : Type 0 where
  pub nexts : length s.next ≡ length p
  pub spents : length s.spent ≡ length p
  pub workers : length s.workers ≡ 16
  pub rows : length s.rows ≡ total p

-- as a run begins
module _ (p : Plan) where
  pub none_done : (j : ℕ) → next_of (start p) j ≡ 0
  unfolding start
  none_done j = zeros_at (length p) j

  pub none_spent : (j : ℕ) → spent_of (start p) j ≡ 0
  unfolding start
  none_spent j = zeros_at (length p) j

  idle_at : (n w : ℕ) → hands_of (replicate n Idle) w ≡ 0
  idle_at zero w = refl
  idle_at (suc n) zero = refl
  idle_at (suc n) (suc w) = idle_at n w

  pub start_idle : (w : ℕ) → hands_of (start p).workers w ≡ 0
  unfolding start
  start_idle w = idle_at 16 w

  pub start_begins : Begins p (core (start p))
  unfolding start
  start_begins = record {
    none = none_done;
    fresh = none_spent;
    long = length-replicate (total p) no_row;
    turns = refl;
    peak = refl;
  }

  start_sized : Sized p (start p)
  unfolding start
  start_sized = record {
    nexts = length-replicate {A = ℕ} (length p) 0;
    spents = length-replicate {A = ℕ} (length p) 0;
    workers = refl;
    rows = length-replicate (total p) no_row;
  }

module _ (p : Plan) (n : ℕ) where
  -- before the first round, or after a round that was not the last
  pub data Before (r : ℕ) (b : ℕ → ℕ) (c : Core) : Type 0 where
    first : r ≡ 1 → Begins p c → ((w : ℕ) → b w ≡ 0) → Before r b c
    after : {r' : ℕ} {b' : ℕ → ℕ} → r ≡ suc r' → Pool p n r' n b' b c → next_in c 0 < size p 0 → Before r b c

  abbrev pub Stands : ℕ → List Worker → Stage → State → Type 0
  Stands r b (taking k) s = Took p n k b s × Before r (hands_of b) (core s)
  Stands r b (turning k) s = Pool p n r k (hands_of b) (hands_of s.workers) (core s)

module _ {p : Plan} {n : ℕ} (fit : Fit p n) where
  -- where nothing is done job 0, which is ready, is all that lives
  module _ (s : State) (z : Begins p (core s)) where
    pub first_born : (j : ℕ) → Living (shape p) (next_of s) j → j ≡ 0
    first_born zero a = refl
    first_born (suc j) a = absurd (omega (arith, a.begun (omega arith), z.none (parent p (suc j))))

    pub root_lives : Living (shape p) (next_of s) 0
    root_lives =
        let b = (jobs_range p fit.plan).0 in
        record { below = b; begun = λ o. absurd (omega arith); left = omega (arith, z.none 0, size_range p fit.plan 0 b) }

    pub root_ready : Ready (shape p) (next_of s) 0
    root_ready k b a h e i =
        let y : next_of s 0 ≡ 0 = z.none 0 in
        absurd (omega (arith, join_target p fit.plan k a (next_of s 0) b h i))

  -- the first taking gives it to worker 0
  module _ (b : List Worker) (s : State) (o : Took p n n b s) (z : Begins p (core s)) (idle : (w : ℕ) → hands_of b w ≡ 0) where
    taken_first : (w j : ℕ) → hands_of s.workers w ≡ suc j → j ≡ 0
    taken_first w j e = first_born s z j (o.free w j (idle w) e).1.0

    root_taken : (x : ℕ) → hands_of s.workers 0 ≡ x → x ≡ 1
    root_taken zero e = absurd (o.zeroth fit.some e 0 (root_lives s z) (root_ready s z) (λ w f. omega (arith, idle w)))
    root_taken (suc j) e = ap suc (taken_first 0 j e)

    others_idle : (w x : ℕ) → w ≢ 0 → hands_of s.workers w ≡ x → x ≡ 0
    others_idle w zero f e = refl
    others_idle w (suc j) f e =
        let q : hands_of s.workers 0 ≡ suc j = root_taken (hands_of s.workers 0) refl ∙ sym (ap suc (taken_first w j e)) in
        absurd (f (o.apart w 0 j (idle w) (idle 0) e q))

    first_taken : (hands_of s.workers 0 ≡ 1) × ((w : ℕ) → w ≢ 0 → hands_of s.workers w ≡ 0)
    first_taken = (root_taken (hands_of s.workers 0) refl, λ w f. others_idle w (hands_of s.workers w) f refl)

  all_taken : {r : ℕ} (b : List Worker) (s : State) → Took p n n b s → Before p n r (hands_of b) (core s)
      → Pool p n r 0 (hands_of s.workers) (hands_of s.workers) (core s)
  all_taken b s o (first e z idle) = let (root, others) = first_taken b s o z idle in rw e (starts z root others)
  all_taken b s o (after e t q) = rw e (takes t q (took_takes p n o))

  module _ {r k : ℕ} (b : List Worker) (s : State) (t : Pool p n r k (hands_of b) (hands_of s.workers) (core s)) where
    manned : Manned p n k (hands_of b) (hands_of s.workers) (core s)
    manned = pool_manned p n fit.plan fit.some t

    course : Course (terms p n) r 0 k (hands_of b) (core s)
    course = pool_course p n fit.plan fit.some t

    -- the next action of a job that is held has rounds left
    unpaid : (w j : ℕ) → hands_of s.workers w ≡ suc j → spent_of s j < cost_of p j s
    unpaid w j e =
        let a = manned.lives w j e in
        ⊎_elim (λ z. omega (arith, cost_in_range_lem p fit.plan.range j a.below (next_of s j) a.left))
        (λ z. ((course_kept (terms p n) fit.plan course).unpaid j z).1) (eq-zero-or-pos (spent_of s j))

    module _ (z : Sized p s) (h : k < n) (j : ℕ) (mine : hands_of b k ≡ suc j) where
      held : hands_of s.workers k ≡ suc j
      held = manned.ahead k (le_refl k) ∙ mine

      lives : Living (shape p) (next_of s) j
      lives = manned.lives k j held

      -- the weight of the living frames stays, so that the peak does
      goes : suc (spent_of s j) < cost_of p j s
          → Pool p n r (suc k) (hands_of b) (hands_of (worked p r j s).workers) (core (worked p r j s))
      unfolding worked
      goes l =
          let low = course_weighs (terms p n) fit.plan course in
          let w = worked_works p j (core s) (omega (arith, z.spents, lives.below)) in
          works {c' = core (worked p r j s)} t mine l (record { next = refl; rows = refl; turns = refl; peak = omega arith; spends = w.spends; others = w.others })

      ends : cost_of p j s ≤ suc (spent_of s j)
          → Pool p n r (suc k) (hands_of b) (hands_of (finished p r k j s).workers) (core (finished p r k j s))
      unfolding finished
      ends l =
          passes t mine (omega (arith, unpaid k j held))
          (finished_ends p r k j (core s) z.nexts z.rows lives.below lives.left)
          (hand_passes p fit.plan r k j s lives.below lives.left held (omega (arith, z.workers, fit.most)) z.nexts)

    turned_stands : Sized p s → k < n → (x : Worker) → get_or b k Idle ≡ x
        → Pool p n r (suc k) (hands_of b) (hands_of (turn_of p r k x s).workers) (core (turn_of p r k x s))
    unfolding turn_of idled
    turned_stands z h Idle e = idles t (ap hands_in e)
    turned_stands z h (Waiting v l) e = idles t (ap hands_in e)
    turned_stands z h (Holding j) e =
        by_cases (dec_lt (suc (spent_of s j)) (cost_of p j s))
        (λ l. rw (turn_worked p r k j s l) (goes z h j (ap hands_in e) l))
        (λ l. rw (turn_finished p r k j s (omega arith)) (ends z h j (ap hands_in e) (omega arith)))

-- the lists keep their lengths
take_sized : (p : Plan) (w : ℕ) (s : State) → length (take p w s).workers ≡ 16 → Sized p s → Sized p (take p w s)
take_sized p w s seats z =
    let q = take_keeps p w s in
    record {
      nexts = ap length q.next ∙ z.nexts;
      spents = ap length q.spent ∙ z.spents;
      workers = seats;
      rows = ap length q.rows ∙ z.rows;
    }

turn_sized : (p : Plan) (r w : ℕ) (x : Worker) (s : State) → Sized p s → Sized p (turn_of p r w x s)
unfolding turn_of idled worked finished
turn_sized p r w Idle s z = record { nexts = z.nexts; spents = z.spents; workers = z.workers; rows = z.rows }
turn_sized p r w (Waiting v l) s z = record { nexts = z.nexts; spents = z.spents; workers = z.workers; rows = z.rows }
turn_sized p r w (Holding j) s z = turn_cases p r w j s (Sized p)
    (λ l. record { nexts = z.nexts; spents = length-set s.spent j _ ∙ z.spents; workers = z.workers; rows = z.rows })
    (λ l. record {
      nexts = length-set s.next j _ ∙ z.nexts;
      spents = length-set s.spent j _ ∙ z.spents;
      workers = length-set s.workers w _ ∙ z.workers;
      rows = length-set s.rows _ _ ∙ z.rows;
    })

module _ {p : Plan} {n : ℕ} (fit : Fit p n) where
  stands : {r : ℕ} {b : List Worker} {g : Stage} {s : State} → Trace p n r b g s → Sized p s × Stands p n r b g s
  stands Trace.begins =
      (start_sized p, (took_none p n (start p) (start_sized p).workers, first refl (start_begins p) (start_idle p)))
  stands (Trace.took {k = k} {b} {s} t h) =
      let (z, (o, q)) = stands t in
      let o' = took_next p n fit.plan h fit.most o in
      (take_sized p k s o'.seats z, (o', rw (same_core (take_keeps p k s)) q))
  stands (Trace.all_took {b = b} {s} t) = let (z, (o, q)) = stands t in (z, all_taken fit b s o q)
  stands (Trace.turned {r} {k} {b} {s} t h) =
      let (z, q) = stands t in
      (turn_sized p r k (get_or b k Idle) s z, turned_stands fit b s q z h (get_or b k Idle) refl)
  stands (Trace.goes_on {s = s} t e) =
      let (z, q) = stands t in
      (z, (took_none p n s z.workers, after refl q (nleb→lt (size p 0) (next_of s 0) (rw e tt))))

  pub trace_sized : {r : ℕ} {b : List Worker} {g : Stage} {s : State} → Trace p n r b g s → Sized p s
  trace_sized t = (stands t).0

  pub trace_stands : {r : ℕ} {b : List Worker} {g : Stage} {s : State} → Trace p n r b g s → Stands p n r b g s
  trace_stands t = (stands t).1

  -- among turns
  module _ {r k : ℕ} {b : List Worker} {s : State} (t : Trace p n r b (turning k) s) where
    pub trace_manned : Manned p n k (hands_of b) (hands_of s.workers) (core s)
    trace_manned = manned fit b s (trace_stands t)

    pub trace_course : Course (terms p n) r 0 k (hands_of b) (core s)
    trace_course = course fit b s (trace_stands t)

    pub trace_unpaid : (w j : ℕ) → hands_of s.workers w ≡ suc j → spent_of s j < cost_of p j s
    trace_unpaid = unpaid fit b s (trace_stands t)

  -- before a round, and so as its turns begin, job 0 has not ended
  before_goes : {r : ℕ} {b : ℕ → ℕ} (s : State) → Before p n r b (core s) → next_of s 0 < size p 0
  before_goes s (first e z idle) = omega (arith, z.none 0, size_range p fit.plan 0 (jobs_range p fit.plan).0)
  before_goes s (after e t q) = q

  -- no round is spent on the next action of a job that nobody has
  before_fresh : {r : ℕ} (b : List Worker) (s : State) → ((w j : ℕ) → hands_of b w ≡ suc j → hands_of s.workers w ≡ suc j)
      → Before p n r (hands_of b) (core s) → (j : ℕ) → ((w : ℕ) → hands_of s.workers w ≢ suc j) → spent_of s j ≡ 0
  before_fresh b s keeps (first e z idle) j none = z.fresh j
  before_fresh b s keeps (after e t q) j none = ⊎_elim (λ z. z)
      (λ l. let (w, x, y) = (pool_manned p n fit.plan fit.some t).begun j l in absurd (none w (keeps w j y))) (eq-zero-or-pos (spent_of s j))

  pub taking_fresh : {r k : ℕ} {b : List Worker} {s : State} → Trace p n r b (taking k) s → (j : ℕ) → ((w : ℕ) → hands_of s.workers w ≢ suc j)
      → spent_of s j ≡ 0
  taking_fresh {b = b} {s} t = let (o, z) = trace_stands t in before_fresh b s o.keeps z

  pub taking_goes : {r k : ℕ} {b : List Worker} {s : State} → Trace p n r b (taking k) s → next_of s 0 < size p 0
  taking_goes {s = s} t = before_goes s (trace_stands t).1
