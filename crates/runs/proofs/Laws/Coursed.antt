-- A run is a course of turns, so that all that holds of courses holds of its rows and its peak.
--   core s       == the state as a course has it
--   hands_of b    == which job each worker has in a round that begins with the workers b: its number plus 1, or 0
--   hands_is     == who has a job holds it
--   terms S      == the plan, the workers and the bounds of a run's course, which is steady
--   passed S r g == how many workers have had their turns at stage g of round r
--   trace_course == every state of a run is one of a course
--   held_unpaid  == the next action of a job that is held has rounds left
--   run_row, run_keeps == so of the rows as a run ends: every action is done, and the rules of a schedule are kept
--   least_rounds, job_0_ends, last_round_lem == of its rounds
--   run_space, run_peak, below_peak, most_peak, lone_peak == of its weights
use Prim.Native.Nat.{ℕ, suc, ◌-◌, ◌*◌, ◌≤◌, ◌<◌}
use mathlib.Core.Path.{◌≡◌, refl, ap, sym, ◌∙◌}
use mathlib.Core.Logic.{inl, ⊎_elim, by_cases}
use mathlib.Core.Bool.{true}
use mathlib.Core.List.{List}
use native.Mathlib.Omega.{arith}
use native.Mathlib.Nat.{le_refl, le_trans, le_of_eq, mul-le-mul, eq-zero-or-pos}
use lib.Dec.{T, leb→le, nleb→lt}
use lib.ListN.{length, get_or}
use Rattle.runs.specs.declared.worker.Worker.{Worker}
use Rattle.runs.specs.declared.worker.Worker.TheVariants.{Idle, Holding, Waiting}
use Rattle.plan.specs.Plan.{Plan, job, size, total}
use Rattle.plan.specs.Rules.{Accepted}
use Rattle.plan_measure.specs.Measure.{work, longest, heaviest}
use Rattle.courses.specs.Row.{no_row, place}
use Rattle.runs.specs.Setting.{Setting, count_in}
use Rattle.runs.specs.State.{State, next_of, worker_of, start, spent_of}
use Rattle.courses.specs.Ready.{weight}
use Rattle.runs.specs.Turn.{turn_of, idled, worked, finished}
use Rattle.runs.specs.Run.{ended}
use Rattle.courses.specs.Schedule.{keeps}
use Rattle.courses.specs.Living.{weight_after, peak_of, last_round}
use Rattle.runs.specs.Trace.{Stage, turning, laying, serving, Trace}
use Rattle.courses.proofs.Laws.Course.{Core, Terms, Begins, Hands, Paced, Ends, Course, Works}
use Rattle.courses.proofs.Laws.Steps.{finished_ends, worked_works}
use Rattle.courses.proofs.Laws.Start.{none_weight}
use Rattle.courses.proofs.Laws.Kept.{Done, course_ended, course_kept}
use Rattle.courses.proofs.Laws.Worked.{price, turns_most, turns_all, course_most}
use Rattle.courses.proofs.Laws.Price.{price_work}
use Rattle.courses.proofs.Laws.Peak.{course_space, peak_above, course_peak, peak_least, peak_most}
use Rattle.courses.proofs.Laws.Order.{course_row, course_keeps, course_least, course_last}
use Rattle.runs.proofs.Laws.Fit.{Fit, count_some, count_within, count_is}
use Rattle.runs.proofs.Laws.Lined.{Sound, held_in, held_below, held_job, held_once}
use Rattle.runs.proofs.Laws.Began.{trace_began}
use Rattle.runs.proofs.Laws.Sound.{start_sound, trace_sound, space, busy}
use Rattle.runs.proofs.Laws.Rests.{Rests, laid_rests, served_rests}
use Rattle.runs.proofs.Laws.Start.{none_done, start_turns, start_peak, none_spent}
use Rattle.runs.proofs.Laws.Rounds.{not_ended, began_below}
use Rattle.courses.proofs.Laws.Weighs.{course_weighs}
use Rattle.plan.proofs.Laws.Spawning.{cost_in_range_lem}
use Rattle.runs.proofs.Laws.Turns.{cost_of, turn_worked, turn_finished}
use Rattle.runs.proofs.Laws.Steady.{begun_stays}
use native.Mathlib.Decide.{dec_lt}

abbrev pub core : State → Core
core s = record { next = s.next; spent = s.spent; rows = s.rows; turns = s.tally.actions; peak = s.tally.peak }

abbrev pub hands_in : Worker → ℕ
hands_in Idle = 0
hands_in (Holding j) = suc j
hands_in (Waiting v l) = 0

abbrev pub hands_of : List Worker → ℕ → ℕ
hands_of b w = hands_in (get_or b w Idle)

abbrev pub terms : Setting → Terms
terms S = record { plan = S.plan; workers = S.workers; bound = λ r. count_in S r * heaviest S.plan; steady = true }

abbrev pub passed : Setting → ℕ → Stage → ℕ
passed S r (turning k) = k
passed S r (laying k) = count_in S r
passed S r (serving k) = count_in S r

pub hands_is : (x : Worker) (j : ℕ) → hands_in x ≡ suc j → x ≡ Holding j
hands_is Idle j e = absurd (omega arith)
hands_is (Holding i) j e = ap Holding (omega arith)
hands_is (Waiting v l) j e = absurd (omega arith)

core_rests : {s t : State} → Rests s t → core t ≡ core s
core_rests q = λ i. record { next = q.next i; spent = q.spent i; rows = q.rows i; turns = q.actions i; peak = q.peak i }

pub start_weight : (p : Plan) → Accepted p → weight p (start p).next ≡ (job p 0).frame
start_weight p ok = none_weight p ok (start p).next (none_done p)

-- the turns of a worker that holds a job
module _ {p : Plan} {n : ℕ} {s : State} (sound : Sound p n s) (r k : ℕ) {j : ℕ} (e : worker_of s k ≡ Holding j) where
  pub turn_ends : Ends p r k j (core s) (core (finished p r k j s))
  unfolding finished
  turn_ends =
      let held = held_job sound k e in
      finished_ends p r k j (core s) sound.nexts sound.rows held.0 held.1

  -- the weight of the living frames stays, so that the peak does
  turn_works : weight p s.next ≤ s.tally.peak → Works p j (core s) (core (worked p r j s))
  unfolding worked
  turn_works low =
      let held = held_job sound k e in
      let w = worked_works p j (core s) (omega (arith, sound.spents, held.0)) in
      record { next = refl; rows = refl; turns = refl; peak = omega arith; spends = w.spends; others = w.others }

module _ {S : Setting} (fit : Fit S) where
  open S use {plan}

  start_begins : Begins plan (core (start plan))
  start_begins = record {
    none = none_done plan;
    fresh = none_spent plan;
    long = (start_sound fit.plan (count_some fit 1)).rows;
    turns = start_turns plan;
    peak = start_peak plan;
  }

  start_light : weight plan (start plan).next ≤ count_in S 0 * heaviest plan
  start_light = space fit.plan (start_sound fit.plan (count_some fit 0))

  -- the jobs that are held as a round begins
  held_hands : {r : ℕ} {b : List Worker} {s : State} → Trace S r b (turning 0) s → (k : ℕ) (hands : ℕ → ℕ)
      → ((w j : ℕ) → hands w ≡ suc j → w < k)
      → ((w j : ℕ) → worker_of s w ≡ Holding j → 1 ≤ spent_of s j → hands w ≡ suc j)
      → Hands (terms S) k hands (hands_of s.workers) (core s)
  held_hands {r} {s = s} t k hands over stays =
      let sound = trace_sound fit t in
      let held : (w j : ℕ) → hands_of s.workers w ≡ suc j → worker_of s w ≡ Holding j = λ w j q. hands_is (worker_of s w) j q in
      record {
        over = over;
        goes = nleb→lt (size plan 0) (next_of s 0) (rw (not_ended fit t) tt);
        known = λ w j q. omega (arith, held_below sound w (held w j q), count_within S r);
        lives = λ w j q. (sound.good.here w j (held_in s w (held w j q))).0;
        ready = λ w j q. (sound.good.here w j (held_in s w (held w j q))).1;
        once = λ v w j q i. held_once sound v w (held v j q) (held w j i);
        stays = λ z w j q l. stays w j (held w j q) l;
      }

  -- some worker holds a job as a round begins
  held_some : {r : ℕ} {b : List Worker} {s : State} → Trace S r b (turning 0) s → Paced 0 0 (hands_of s.workers)
  held_some t = let (w, j, l, q) = busy fit.plan (trace_sound fit t) (not_ended fit t) in inl (refl, (w, j, ap hands_in q))

  -- all actions take T1 turns
  all_turns : price (terms S) ≡ work plan
  all_turns = price_work (terms S)

  -- the next action of a job that is held has rounds left
  unpaid : {n r m k : ℕ} {b : ℕ → ℕ} {s : State} → Sound plan n s → (w : ℕ) {j : ℕ} → worker_of s w ≡ Holding j
      → Course (terms S) r m k b (core s) → spent_of s j < cost_of plan j s
  unpaid {s = s} sound w {j} held c =
      let here = held_job sound w held in
      ⊎_elim (λ z. omega (arith, cost_in_range_lem plan fit.plan.range j here.0 (next_of s j) here.1))
      (λ z. ((course_kept (terms S) fit.plan c).unpaid j z).1) (eq-zero-or-pos (spent_of s j))

  turned_course : {r k : ℕ} {b : List Worker} {s : State} → Trace S r b (turning k) s → (v : Worker) → get_or b k Idle ≡ v
      → Sound plan (count_in S r) (turn_of plan r k v s) → Course (terms S) r 0 k (hands_of b) (core s)
      → Course (terms S) r 0 (suc k) (hands_of b) (core (turn_of plan r k v s))
  unfolding turn_of idled
  turned_course t Idle e sound c = Course.rests c (ap hands_in e)
  turned_course t (Waiting v l) e sound c = Course.rests c (ap hands_in e)
  turned_course {r} {k} {b} {s} t (Holding j) e sound c =
      let was = trace_sound fit t in
      let held : worker_of s k ≡ Holding j = trace_began t k (le_refl k) ∙ e in
      let paid = unpaid was k held c in
      by_cases (dec_lt (suc (spent_of s j)) (cost_of plan j s))
      (λ h. rw (turn_worked plan r k j s h) (Course.works c (ap hands_in e) h (turn_works was r k held (course_weighs (terms S) fit.plan c))))
      (λ h.
      let q = turn_finished plan r k j s (omega arith) in
      rw q (Course.ends c (ap hands_in e) (omega arith) (turn_ends was r k held) (space fit.plan (rw q at sound))))

  -- every state of a run is one of a course
  pub trace_course : {r : ℕ} {b : List Worker} {g : Stage} {s : State} → Trace S r b g s
      → Course (terms S) r 0 (passed S r g) (hands_of b) (core s)
  trace_course Trace.begins =
      Course.next_round (Course.begins {b = λ w. 0} (λ w. refl) start_begins start_light)
      (held_hands Trace.begins 0 (λ w. 0) (λ w j q. absurd (omega arith)) (λ w j q l. absurd (omega (arith, none_spent plan j))))
      (held_some Trace.begins)
  trace_course (Trace.turned {k = k} {b = b} t h) =
      turned_course t (get_or b k Idle) refl (trace_sound fit (Trace.turned t h)) (trace_course t)
  trace_course (Trace.goes_on t e) = trace_course t
  trace_course (Trace.laid t h) = rw (core_rests (laid_rests t)) (trace_course t)
  trace_course (Trace.all_laid t) = trace_course t
  trace_course (Trace.served t h) = rw (core_rests (served_rests t)) (trace_course t)
  trace_course (Trace.next_round {r = r} {b = b} t) =
      let u = Trace.next_round t in
      Course.next_round (trace_course t)
      (held_hands u (count_in S r) (hands_of b) (λ w j q. began_below fit t w j (hands_is (get_or b w Idle) j q))
      (λ w j q l. ap hands_in (begun_stays fit t w q l))) (held_some u)

  pub held_unpaid : {r : ℕ} {b : List Worker} {g : Stage} {s : State} → Trace S r b g s → (w : ℕ) {j : ℕ} → worker_of s w ≡ Holding j
      → spent_of s j < cost_of plan j s
  held_unpaid t w held = unpaid (trace_sound fit t) w held (trace_course t)

  pub rows_length_lem : {r : ℕ} {b : List Worker} {g : Stage} {s : State} → Trace S r b g s → length s.rows ≡ total plan
  rows_length_lem t = (trace_sound fit t).rows

  -- no round comes after round T1, for in each that begins an action is worked on
  pub round_most : {r : ℕ} {b : List Worker} {g : Stage} {s : State} → Trace S r b g s → r ≤ work plan
  round_most t = omega (arith, all_turns, course_most (terms S) fit.plan (λ j i h l. (cost_in_range_lem plan fit.plan.range j h i l).0) (trace_course t))

  -- each turn of a worker that holds a job is one of an action's
  pub actions_most : {r : ℕ} {b : List Worker} {g : Stage} {s : State} → Trace S r b g s → s.tally.actions ≤ work plan
  actions_most t = omega (arith, all_turns, turns_most (terms S) fit.plan (trace_course t))

  -- the end of a run
  module _ {r : ℕ} {b : List Worker} {s : State} (t : Trace S r b (turning (count_in S r)) s) (e : ended plan s ≡ true) where
    over : size plan 0 ≤ next_of s 0
    over = leb→le (size plan 0) (next_of s 0) (rw e tt)

    grows : (r r' : ℕ) → r ≤ r' → count_in S r * heaviest plan ≤ count_in S r' * heaviest plan
    grows r r' h = le_of_eq (ap (λ k. k * heaviest plan) (count_is S r ∙ sym (count_is S r')))

    within : (r : ℕ) → count_in S r * heaviest plan ≤ S.workers * heaviest plan
    within r = mul-le-mul (count_within S r) (le_refl (heaviest plan))

    pub actions_all : s.tally.actions ≡ work plan
    actions_all = turns_all (terms S) fit.plan (trace_course t) over ∙ all_turns

    -- every row is of a round from 1 to r, and of one of the workers
    pub run_row : (k : ℕ) → k < total plan → Done S.workers r (count_in S r) (get_or s.rows k no_row)
    run_row = course_row (terms S) fit.plan (trace_course t) over

    -- the rows keep the rules of a schedule
    pub run_keeps : T (keeps plan S.workers s.rows)
    run_keeps = course_keeps (terms S) fit.plan (trace_course t) over tt

    -- the run has no fewer rounds than a chain costs
    pub least_rounds : longest plan ≤ r
    least_rounds = course_least (terms S) fit.plan (trace_course t) over

    -- job 0's last action is done in the last round
    pub job_0_ends : (get_or s.rows (place plan 0 (size plan 0 - 1)) no_row).round ≡ r
    job_0_ends = course_ended (terms S) fit.plan (trace_course t) over

    -- the last round is in the rows
    pub last_round_lem : last_round s.rows ≡ r
    last_round_lem = course_last (terms S) fit.plan (trace_course t) over

    pub run_space : (r' w' : ℕ) → weight_after plan s.rows r' w' ≤ S.workers * heaviest plan
    run_space r' w' = le_trans (course_space (terms S) fit.plan grows (trace_course t) over r' w') (within r')

    pub run_peak : s.tally.peak ≡ peak_of plan s.rows
    run_peak = course_peak (terms S) fit.plan grows (trace_course t) over

    pub below_peak : (r' w' : ℕ) → weight_after plan s.rows r' w' ≤ s.tally.peak
    below_peak = peak_above (terms S) fit.plan grows (trace_course t) over

    pub most_peak : s.tally.peak ≤ S.workers * heaviest plan
    most_peak = peak_most (terms S) fit.plan grows (trace_course t) over (S.workers * heaviest plan) within

    pub lone_peak : S.workers ≡ 1 → s.tally.peak ≡ heaviest plan
    lone_peak q =
        let z : S.workers * heaviest plan ≡ heaviest plan = rw q (omega arith) in
        omega (arith, peak_least (terms S) fit.plan grows (trace_course t) over, most_peak)
