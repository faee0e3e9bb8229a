-- While a worker idles, every chain of what is left gets shorter: so a run from a pool has at most (P − 1) × T∞ idle turns.
--   Grows, Moved s t j == job j is as far in t as in s, or further; further
--   Slack p m s        == m rounds more fit before each action that is not done, by when it is done at the earliest
--   Loose              == that of a state as its taking or its turns began, and what the turns since then did; m counts the rounds so far in
--                         which a worker idled
--   slack_kept, slack_more == the slack after a round in which nobody idled, and after one in which somebody did
--   idle_most          == so of the idle turns of a run
use Prim.Native.Nat.{ℕ, zero, suc, ◌+◌, ◌-◌, ◌*◌, ◌≤◌, ◌<◌}
use mathlib.Core.Path.{◌≡◌, refl, ap, sym, ◌∙◌}
use mathlib.Core.Logic.{◌⊎◌, inl, inr, ◌≢◌, ⊎_elim, by_cases}
use mathlib.Core.List.{List}
use native.Mathlib.Omega.{arith}
use native.Mathlib.Nat.{le_refl, eq-zero-or-pos, mul-suc, mul-le-mul_left}
use native.Mathlib.Decide.{ℕ_discrete, dec_lt, dec_le}
use lib.ListN.{length, get_or}
use lib.Seq.{get_or-set_same, get_or-set_other}
use Rattle.plan.specs.Plan.{Plan, size, action, parent, spawn_at}
use Rattle.plan.specs.Rules.{Accepted}
use Rattle.plan.proofs.Laws.Spawning.{cost_in_range_lem}
use Rattle.plan.proofs.Laws.Valid.{jobs_range, older, spawned_there}
use Rattle.plan_measure.specs.Measure.{longest}
use Rattle.plan_measure.specs.Times.{ends}
use Rattle.plan_measure.proofs.Laws.Times.{begins_spawn, begins_first, begins_before, ends_next, ends_sent, longest_ends}
use Rattle.courses.proofs.Laws.Kept.{course_kept}
use Rattle.courses.proofs.Laws.Pool.{terms, pool_busy}
use Rattle.courses.proofs.Laws.PlanShape.{shape}
use Rattle.lines.proofs.Laws.Shape.{Living, Ready, Closed}
use Rattle.runs.specs.declared.worker.Worker.{Worker}
use Rattle.runs.specs.declared.worker.Worker.TheVariants.{Idle, Holding, Waiting}
use Rattle.runs.proofs.Laws.Coursed.{hands_in, hands_of}
use Rattle.pools.specs.State.{State, next_of, spent_of, start}
use Rattle.pools.specs.Turn.{worked, finished, turn, idled, turn_of}
use Rattle.pools.specs.Trace.{Stage, taking, turning, Trace}
use Rattle.pools.proofs.Laws.Tests.{Free, unheld_or}
use Rattle.pools.proofs.Laws.Taking.{take_keeps}
use Rattle.pools.proofs.Laws.Passing.{turn_cases}
use Rattle.pools.proofs.Laws.Coursed.{Fit, Sized, trace_sized, trace_stands, trace_manned, trace_course, taking_goes}
use Rattle.pools.proofs.Laws.Tallies.{vacant, idles, turn_took, idles_least, idles_most}

abbrev pub Grows : State → State → ℕ → Type 0
Grows s t j = (next_of s j < next_of t j) ⊎ ((next_of t j ≡ next_of s j) × (spent_of s j ≤ spent_of t j))

abbrev pub Moved : State → State → ℕ → Type 0
Moved s t j = (next_of s j < next_of t j) ⊎ ((next_of t j ≡ next_of s j) × (spent_of s j < spent_of t j))

abbrev cost_at : Plan → ℕ → ℕ → ℕ
cost_at p j i = (action p j i).cost

module _ (p : Plan) where
  pub record Slack (m : ℕ) (s : State) : Type 0 where
    -- a job's next action, on which rounds may have been spent, and the ones behind it
    pub next : (j : ℕ) → j < length p → next_of s j < size p j → m + cost_at p j (next_of s j) ≤ ends p j (next_of s j) + spent_of s j
    pub later : (j i : ℕ) → j < length p → next_of s j < i → i < size p j → m + cost_at p j i ≤ ends p j i

  -- a turn moves the job that it is taken with, and no other
  module _ (r w : ℕ) (s : State) (z : Sized p s) where
    still : (j i : ℕ) → i ≢ j → (next_of (turn p r w j s) i ≡ next_of s i) × (spent_of (turn p r w j s) i ≡ spent_of s i)
    unfolding worked finished
    still j i f = turn_cases p r w j s (λ t. (next_of t i ≡ next_of s i) × (spent_of t i ≡ spent_of s i))
        (λ l. (refl, get_or-set_other s.spent j i _ 0 f)) (λ l. (get_or-set_other s.next j i _ 0 f, get_or-set_other s.spent j i _ 0 f))

    moves : (j : ℕ) → j < length p → Moved s (turn p r w j s) j
    unfolding worked finished
    moves j h = turn_cases p r w j s (λ t. Moved s t j)
        (λ l. inr (refl, omega (arith, get_or-set_same s.spent j (suc (spent_of s j)) 0 (omega (arith, z.spents)))))
        (λ l. inl (omega (arith, get_or-set_same s.next j (suc (next_of s j)) 0 (omega (arith, z.nexts)))))

-- one after the other
grows_moved : (s t u : State) (j : ℕ) → Grows s t j → Moved t u j → Moved s u j
grows_moved s t u j (inl a) (inl b) = inl (omega arith)
grows_moved s t u j (inl a) (inr b) = inl (omega (arith, b.0))
grows_moved s t u j (inr a) (inl b) = inl (omega (arith, a.0))
grows_moved s t u j (inr a) (inr b) = inr (b.0 ∙ a.0, omega (arith, a.1, b.1))

moved_grows : (s t : State) (j : ℕ) → Moved s t j → Grows s t j
moved_grows s t j (inl a) = inl a
moved_grows s t j (inr a) = inr (a.0, omega (arith, a.1))

grows_same : (s t u : State) (j : ℕ) → next_of u j ≡ next_of t j → spent_of u j ≡ spent_of t j → Grows s t j → Grows s u j
grows_same s t u j e f (inl a) = inl (omega arith)
grows_same s t u j e f (inr a) = inr (e ∙ a.0, omega (arith, a.1))

moved_same : (s t u : State) (j : ℕ) → next_of u j ≡ next_of t j → spent_of u j ≡ spent_of t j → Moved s t j → Moved s u j
moved_same s t u j e f (inl a) = inl (omega arith)
moved_same s t u j e f (inr a) = inr (e ∙ a.0, omega (arith, a.1))

grown : (s t : State) (j : ℕ) → Grows s t j → next_of s j ≤ next_of t j
grown s t j (inl a) = omega arith
grown s t j (inr a) = omega (arith, a.0)

-- after a round in which nobody idled
module _ {p : Plan} {m : ℕ} {s : State} (slack : Slack p m s) (t : State) (grows : (j : ℕ) → Grows s t j) where
  pub slack_kept : Slack p m t
  slack_kept = record {
    next = λ j h l. ⊎_elim (λ a. omega (arith, slack.later j (next_of t j) h a l))
        (λ a. rw a.0 (omega (arith, slack.next j h (rw a.0 at l), a.1))) (grows j);
    later = λ j i h l b. slack.later j i h (omega (arith, grown s t j (grows j))) b;
  }

-- what is known of a state whose turns begin
module _ {p : Plan} (ok : Accepted p) {m : ℕ} {s : State} (slack : Slack p m s) (closed : Closed (shape p) (next_of s))
    (unpaid : (j : ℕ) → j < length p → next_of s j < size p j → spent_of s j < cost_at p j (next_of s j)) where
  -- an action that is not done is not done for one round more
  due : (j i : ℕ) → j < length p → next_of s j ≤ i → i < size p j → suc m ≤ ends p j i
  due j i h l b = by_cases (ℕ_discrete i (next_of s j))
      (λ e. rw e (omega (arith, slack.next j h (rw e at b), unpaid j h (rw e at b))))
      (λ f. omega (arith, slack.later j i h (omega arith) b, cost_in_range_lem p ok.range j h i b))

  -- nor are those behind it in its job
  behind : (j i : ℕ) → j < length p → next_of s j < i → i < size p j → suc m + cost_at p j i ≤ ends p j i
  behind j zero h l b = absurd (omega arith)
  behind j (suc i) h l b = omega (arith, due j i h (omega arith) (omega arith), ends_next p ok j i h b)

  -- a job that nobody has, where no such job is free: what it must follow is not done
  module _ (j : ℕ) (h : j < length p) (left : next_of s j < size p j) (stuck : Living (shape p) (next_of s) j → ¬ Ready (shape p) (next_of s) j) where
    abbrev i : ℕ
    i = next_of s j

    Later : Type 0
    Later = suc m + cost_at p j i ≤ ends p j i

    born : ¬ Later → 1 ≤ j → spawn_at p j < next_of s (parent p j)
    unfolding Later
    born f o = by_cases (dec_lt (spawn_at p j) (next_of s (parent p j))) (λ l. l) (λ l.
        let q = older p ok j o h in
        let early : ¬ (0 < i) = λ y. l (closed.started j o h y) in
        let e : i ≡ 0 = omega arith in
        let d = due (parent p j) (spawn_at p j) (omega arith) (omega arith) (spawned_there p ok j o h).0 in
        absurd (f (rw e (omega (arith, begins_first p ok j h, begins_spawn p ok j o)))))

    joined : ¬ Later → Ready (shape p) (next_of s) j
    unfolding Later
    joined f k b a l e g = by_cases (dec_lt a (next_of s k)) (λ y. y) (λ y.
        let d = due k a b (omega arith) l in
        absurd (f (omega (arith, rw e at (ends_sent p ok k a i b l g)))))

    waiting : suc m + cost_at p j i ≤ ends p j i
    unfolding Later
    waiting = by_cases (dec_le (suc m + cost_at p j i) (ends p j i)) (λ l. l)
        (λ f. absurd (stuck (record { below = h; begun = born f; left = left }) (joined f)))

  -- after a round in which somebody idled: those who had a job worked on it, and no other job was free
  pub slack_more : (t : State) → ((j : ℕ) → Grows s t j) → (ws : List Worker) → ((w j : ℕ) → hands_of ws w ≡ suc j → Moved s t j)
      → ((j : ℕ) → Living (shape p) (next_of s) j → Ready (shape p) (next_of s) j → ¬ ((w : ℕ) → hands_of ws w ≢ suc j))
      → Slack p (suc m) t
  slack_more t grows ws moved free = record {
    next = λ j h l. ⊎_elim (λ a. omega (arith, behind j (next_of t j) h a l)) (λ a. at j h a.0 (rw a.0 at l)) (grows j);
    later = λ j i h l b. behind j i h (omega (arith, grown s t j (grows j))) b;
  }
    where
      at : (j : ℕ) → j < length p → next_of t j ≡ next_of s j → next_of s j < size p j
          → suc m + cost_at p j (next_of t j) ≤ ends p j (next_of t j) + spent_of t j
      at j h e l = rw e (⊎_elim
          (λ none. omega (arith, waiting j h l (λ a r. free j a r none)))
          (λ (w, q). ⊎_elim (λ a. absurd (omega arith)) (λ a. omega (arith, slack.next j h l, a.1)) (moved w j q)) (unheld_or ws j))

module _ (p : Plan) (n : ℕ) where
  -- among the turns of a round, which began in the state `state` with the workers b
  pub record Loose (r k : ℕ) (b : List Worker) (m : ℕ) (s : State) : Type 0 where
    pub state : State
    pub began : Trace p n r b (turning 0) state
    pub seated : state.workers ≡ b
    pub goes : next_of state 0 < size p 0
    pub slack : Slack p m state
    pub greedy : (w : ℕ) → w < n → hands_of b w ≡ 0 → (j : ℕ) → ¬ Free p state.next state.workers j
    pub grows : (j : ℕ) → Grows state s j
    pub moved : (w j : ℕ) → w < k → hands_of b w ≡ suc j → Moved state s j
    pub idle : s.tally.idle ≤ (n - 1) * m + idles b k

  abbrev pub Slackened : ℕ → List Worker → Stage → State → Type 0
  Slackened r b (taking k) s = (m : ℕ) × Slack p m s × (s.tally.idle ≤ (n - 1) * m)
  Slackened r b (turning k) s = (m : ℕ) × Loose r k b m s

module _ {p : Plan} {n : ℕ} (fit : Fit p n) where
  start_slack : Slack p 0 (start p)
  start_slack = record {
    next = λ j h l. omega (arith, begins_before p fit.plan j (next_of (start p) j) h l);
    later = λ j i h l b. omega (arith, begins_before p fit.plan j i h b);
  }

  -- a slack is of what is done and spent
  slack_same : {m : ℕ} (s t : State) → t.next ≡ s.next → t.spent ≡ s.spent → Slack p m s → Slack p m t
  slack_same s t e f q = record { next = rw (e, f) q.next; later = rw e q.later }

  -- a turn: a job that it is not taken with stays
  module _ {r k : ℕ} {b : List Worker} {s : State} (t : Trace p n r b (turning k) s) (s₀ : State) where
    held_job : (i : ℕ) → get_or b k Idle ≡ Holding i → i < length p
    held_job i e = let o = trace_manned fit t in (o.lives k i (o.ahead k (le_refl k) ∙ ap hands_in e)).below

    mine : (x : Worker) → get_or b k Idle ≡ x → (j : ℕ) → hands_in x ≡ suc j → Grows s₀ s j → Moved s₀ (turn_of p r k x s) j
    unfolding turn_of
    mine Idle e j f g = absurd (omega arith)
    mine (Waiting v l) e j f g = absurd (omega arith)
    mine (Holding i) e j f g =
        let z : j ≡ i = omega arith in
        rw z (grows_moved s₀ s (turn p r k i s) i (rw z at g) (moves p r k s (trace_sized fit t) i (held_job i e)))

    grows_on : (x : Worker) → get_or b k Idle ≡ x → (j : ℕ) → Grows s₀ s j → Grows s₀ (turn_of p r k x s) j
    unfolding turn_of idled
    grows_on Idle e j g = g
    grows_on (Waiting v l) e j g = g
    grows_on (Holding i) e j g = by_cases (ℕ_discrete j i)
        (λ z. moved_grows s₀ (turn p r k i s) j (mine (Holding i) e j (ap suc (sym z)) g))
        (λ z. let (a, c) = still p r k s (trace_sized fit t) i j z in grows_same s₀ s (turn p r k i s) j a c g)

    moved_on : (x : Worker) → get_or b k Idle ≡ x → (j : ℕ) → Moved s₀ s j → Moved s₀ (turn_of p r k x s) j
    unfolding turn_of idled
    moved_on Idle e j g = g
    moved_on (Waiting v l) e j g = g
    moved_on (Holding i) e j g = by_cases (ℕ_discrete j i)
        (λ z. mine (Holding i) e j (ap suc (sym z)) (moved_grows s₀ s j g))
        (λ z. let (a, c) = still p r k s (trace_sized fit t) i j z in moved_same s₀ s (turn p r k i s) j a c g)

  loosened : {r k m : ℕ} {b : List Worker} {s : State} → Trace p n r b (turning k) s → k < n → Loose p n r k b m s → (x : Worker)
      → get_or b k Idle ≡ x → Loose p n r (suc k) b m (turn_of p r k x s)
  unfolding idles
  loosened {r} {k} {m} {b} {s} t h q x e = record {
    state = q.state;
    began = q.began;
    seated = q.seated;
    goes = q.goes;
    slack = q.slack;
    greedy = q.greedy;
    grows = λ j. grows_on t q.state x e j (q.grows j);
    moved = λ w j l f. by_cases (ℕ_discrete w k)
        (λ y. mine t q.state x e j (sym (ap hands_in e) ∙ ap (hands_of b) (sym y) ∙ f) (q.grows j))
        (λ y. moved_on t q.state x e j (q.moved w j (omega arith) f));
    idle = omega (arith, (turn_took p r k x s).idle, q.idle, ap vacant (ap hands_in e));
  }

  -- what is known as the turns of a round begin
  module _ {r k m : ℕ} {b : List Worker} {s : State} (q : Loose p n r k b m s) where
    began_unpaid : (j : ℕ) → j < length p → next_of q.state j < size p j → spent_of q.state j < cost_at p j (next_of q.state j)
    began_unpaid j h l =
        ⊎_elim (λ z. omega (arith, cost_in_range_lem p fit.plan.range j h (next_of q.state j) l))
        (λ z. ((course_kept (terms p n) fit.plan (trace_course fit q.began)).unpaid j z).1) (eq-zero-or-pos (spent_of q.state j))

    -- somebody has a job, so not all idle
    began_idles : suc (idles b n) ≤ n
    began_idles =
        let o = trace_manned fit q.began in
        let (w, j, e) = pool_busy p n fit.plan fit.some o q.goes in
        idles_most b n w j (o.known w j e) (sym (o.ahead w (omega arith)) ∙ e)

    -- before the root's last action is done there is one round more
    began_due : suc m ≤ longest p
    began_due =
        let h = (jobs_range p fit.plan).0 in
        let l = q.goes in
        rw (longest_ends p fit.plan) (due fit.plan q.slack (trace_manned fit q.began).closed began_unpaid 0 (size p 0 - 1) h
        (omega arith) (omega arith))

  round_over : {r m : ℕ} {b : List Worker} {s : State} → Loose p n r n b m s → (x : ℕ) → idles b n ≡ x
      → (m : ℕ) × Slack p m s × (s.tally.idle ≤ (n - 1) * m)
  round_over {m = m} {s = s} q zero e = (m, slack_kept q.slack s q.grows, omega (arith, q.idle))
  round_over {m = m} {b} {s} q (suc x) e =
      let (w, l, f) = idles_least b n (omega arith) in
      let o = trace_manned fit q.began in (
        suc m,
        slack_more fit.plan q.slack o.closed (began_unpaid q) s q.grows b
            (λ v j y. q.moved v j (o.known v j (rw q.seated y)) y)
            (λ j a c none. q.greedy w l f j (record { living = a; ready = c; unheld = rw q.seated none })),
        omega (arith, q.idle, began_idles q, mul-suc (n - 1) m),
      )

  slackened : {r : ℕ} {b : List Worker} {g : Stage} {s : State} → Trace p n r b g s → Slackened p n r b g s
  unfolding start idles
  slackened Trace.begins = (0, start_slack, omega arith)
  slackened (Trace.took {k = k} {s = s} t h) =
      let (m, q, l) = slackened t in
      let e = take_keeps p k s in
      (m, slack_same s _ e.next e.spent q, rw e.tally l)
  slackened (Trace.all_took {b = b} {s} t) =
      let (m, q, l) = slackened t in (
        m,
        record {
          state = s;
          began = Trace.all_took t;
          seated = refl;
          goes = taking_goes fit t;
          slack = q;
          greedy = (trace_stands fit t).0.greedy;
          grows = λ j. inr (refl, le_refl (spent_of s j));
          moved = λ w j h. absurd (omega arith);
          idle = omega arith;
        },
      )
  slackened (Trace.turned {k = k} {b = b} t h) = let (m, q) = slackened t in (m, loosened t h q (get_or b k Idle) refl)
  slackened (Trace.goes_on {b = b} t e) = let (m, q) = slackened t in round_over q (idles b n) refl

  pub idle_most : {r : ℕ} {b : List Worker} {s : State} → Trace p n r b (turning n) s → s.tally.idle ≤ (n - 1) * longest p
  idle_most t =
      let (m, q) = slackened t in
      omega (arith, q.idle, began_idles q, mul-suc (n - 1) m, mul-le-mul_left (n - 1) (began_due q))
