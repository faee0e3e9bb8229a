-- The order of the rows of a course that has ended: each action comes so many rounds after all that it must follow as it takes turns, so
-- that no chain of actions takes more turns than there are rounds; and, where the course is steady, the rows keep the rules of a schedule.
--   course_later == an action's turns come after the rounds of all that it must follow
--   course_chain == there are no fewer rounds than a chain takes turns
--   course_apart == where the course is steady, no worker works on two actions at a time
--   course_keeps == .. and the rows keep the rules of a schedule
use Prim.Native.Nat.{ℕ, suc, ◌+◌, ◌-◌, ◌≤◌, ◌<◌}
use mathlib.Core.Path.{◌≡◌, ap, sym, ◌∙◌}
use mathlib.Core.Logic.{◌⊎◌, inl, inr, ⊎_elim, by_cases}
use mathlib.Core.Bool.{Bool, true, false, not}
use mathlib.Core.List.{List, [], ◌∷◌}
use native.Mathlib.Omega.{arith}
use native.Mathlib.Decide.{dec_le}
use lib.ListN.{length, get_or, take}
use lib.Dec.{T, eqb, leb, ltb, eqb→eq, leb→le, le→leb, lt→ltb, not_T}
use Rattle.plan.specs.Test.{both, either, all, largest}
use Rattle.plan.specs.Plan.{Plan, Placed, size, total, placed, no_placed}
use Rattle.plan.specs.Rules.{Accepted}
use Rattle.plan.proofs.Laws.Lists.{both_intro, both_left, both_right, all_by}
use Rattle.plan.proofs.Laws.Placed.{placed_length, placed_of, place_below, locate}
use Rattle.plan.proofs.Laws.Valid.{jobs_range, size_range}
use Rattle.plan_measure.specs.Measure.{must_follow, Member, Chain, costs, longest}
use Rattle.plan_measure.proofs.Laws.Largest.{member_at, largest_above}
use Rattle.plan_measure.proofs.Laws.Follows as F
use Rattle.plan_measure.proofs.Laws.Follows.{act, member_acts, Follows, next, born, joined, follows_of}
use Rattle.plan_measure.proofs.Laws.Chains.{longest_chain}
use Rattle.courses.specs.Row.{Row, no_row, place}
use Rattle.courses.specs.Schedule.{row_of, span_of, clash, alone, in_order, keeps}
use Rattle.courses.specs.Living.{last_round}
use Rattle.courses.proofs.Laws.Course.{Core, cost, next_in, row_in, Terms, Course}
use Rattle.courses.proofs.Laws.Kept.{Done, course_kept, course_all, course_ended}
use Rattle.courses.proofs.Laws.Apart.{course_calm}

-- no two actions of a list clash
pub alone_by : (p : Plan) (rows : List Row) (l : List Placed)
    → ((k h : ℕ) → k < h → h < length l → T (clash (span_of p rows (get_or l k no_placed)) (span_of p rows (get_or l h no_placed))) → ⊥)
    → T (alone p rows l)
alone_by p rows [] f = tt
alone_by p rows (x ∷ l) f =
    let rule : Placed → Bool = λ y. not (clash (span_of p rows x) (span_of p rows y)) in
    both_intro (all rule l) (alone p rows l)
    (all_by rule l no_placed (λ i b. not_T (clash (span_of p rows x) (span_of p rows (get_or l i no_placed))) (f 0 (suc i) (omega arith) (omega arith))))
    (alone_by p rows l (λ k h a b. f (suc k) (suc h) (omega arith) (omega arith)))

-- a test where another holds
pub unless : (a b : Bool) → (T a → T b) → T (either (not a) b)
unless true b f = f tt
unless false b f = tt

-- the first action of a chain is one of the plan's
chain_head : (p : Plan) (x : Placed) (l : List Placed) → Chain p (x ∷ l) → Member x (placed p)
chain_head p x [] c = c
chain_head p x (y ∷ l) c = c.0

-- what an action must follow, by jobs and positions
by_place : (p : Plan) (x y : Placed) → F.Acts p y → Follows p x y → Follows p (act p x.job x.position) (act p y.job y.position)
by_place p x y s (next a b) = next a b
by_place p x y s (born o z q) = born o z (sym (ap (λ z. z.spawn) s.is) ∙ q)
by_place p x y s (joined o a q) = joined o a (sym (ap (λ z. z.join) s.is) ∙ q)

module _ (e : Terms) (ok : Accepted e.plan) {r idle k : ℕ} {b : ℕ → ℕ} {c : Core} (t : Course e r idle k b c)
    (ended : size e.plan 0 ≤ next_in c 0) where
  open e use {plan, workers, steady}

  -- every action is done
  done : (j i : ℕ) → j < length plan → i < size plan j → i < next_in c j
  done = course_all e ok t ended

  -- every row is of a round from 1 to r, and of one of the workers
  pub course_row : (h : ℕ) → h < total plan → Done workers r k (get_or c.rows h no_row)
  course_row h l =
      let q = locate plan h l in
      rw q.place ((course_kept e ok t).done q.job q.position q.known (done q.job q.position q.known q.within))

  -- all that an action must follow is done before the rounds of its turns
  pub course_later : (x y : Placed) → Member x (placed plan) → Member y (placed plan) → T (must_follow plan x y)
      → (row_of plan c.rows y).round + cost x ≤ (row_of plan c.rows x).round
  course_later x y m n f =
      let u = member_acts plan x m in
      let v = member_acts plan y n in
      omega (
        arith,
        ap cost u.is,
        ((course_kept e ok t).later x.job x.position u.known (done x.job x.position u.known u.within)
            y.job y.position v.known v.within (by_place plan x y v (follows_of plan x y f))).1,
      )

  -- the turns of a chain come one after the other
  rises : (x : Placed) (l : List Placed) → Chain plan (x ∷ l) → (row_of plan c.rows x).round + costs l ≤ r
  rises x [] m =
      let u = member_acts plan x m in
      omega (arith, ((course_kept e ok t).done x.job x.position u.known (done x.job x.position u.known u.within)).latest)
  rises x (y ∷ l) m = omega (arith, rises y l m.2, course_later y x (chain_head plan y l m.2) m.0 m.1)

  -- so there are no fewer rounds than a chain takes turns
  pub course_chain : (l : List Placed) → Chain plan l → costs l ≤ r
  course_chain [] m = omega arith
  course_chain (x ∷ l) m =
      let u = member_acts plan x (chain_head plan x l m) in
      omega (
        arith,
        ap cost u.is,
        rises x l m,
        ((course_kept e ok t).worth x.job x.position u.known (done x.job x.position u.known u.within)).1,
      )

  -- the last round is in the rows
  pub course_last : last_round c.rows ≡ r
  unfolding last_round
  course_last =
      let z = (jobs_range plan ok).0 in
      let within : size plan 0 - 1 < size plan 0 = omega (arith, size_range plan ok 0 z) in
      let last = size plan 0 - 1 in
      let here : place plan 0 last < length c.rows = omega (arith, (course_kept e ok t).long, place_below plan 0 last z within) in
      omega (
        arith,
        rounds_most c.rows (λ h l. (course_row h (omega (arith, (course_kept e ok t).long))).latest),
        largest_above (λ a. a.round) c.rows (row_in plan c 0 last) (member_at c.rows no_row (place plan 0 last) here),
        course_ended e ok t ended,
      )
    where
      rounds_most : (l : List Row) → ((h : ℕ) → h < length l → (get_or l h no_row).round ≤ r) → largest (λ a. a.round) l ≤ r
      rounds_most [] f = omega arith
      rounds_most (x ∷ l) f = omega (arith, f 0 (omega arith), rounds_most l (λ h b. f (suc h) (omega arith)))

  module _ (calm : T steady) where
    -- of two actions of one worker the turns of one come after the round of the other
    pub course_apart : (x y : Placed) → Member x (placed plan) → Member y (placed plan)
        → (row_of plan c.rows x).worker ≡ (row_of plan c.rows y).worker → (row_of plan c.rows x).round ≤ (row_of plan c.rows y).round
        → ((x.job ≡ y.job) × (x.position ≡ y.position)) ⊎ ((row_of plan c.rows x).round + cost y ≤ (row_of plan c.rows y).round)
    course_apart x y m n f g =
        let u = member_acts plan x m in
        let v = member_acts plan y n in
        ⊎_elim inl (λ h. inr (omega (arith, ap cost v.is)))
        ((course_calm e ok calm t).apart x.job x.position y.job y.position
        u.known (done x.job x.position u.known u.within)
        v.known (done y.job y.position v.known v.within) f g)

  -- there are no fewer rounds than the chain of largest cost takes
  pub course_least : longest plan ≤ r
  course_least = let o = (longest_chain plan ok).one in omega (arith, course_chain o.0 o.1, o.2)

  module _ (calm : T steady) where
    -- the rows keep the rules of a schedule
    pub course_keeps : T (keeps plan workers c.rows)
    unfolding keeps in_order
    course_keeps =
        both_intro (all begins (placed plan)) (both (alone plan rows (placed plan)) (both (in_order plan rows) (all manned rows)))
        (all_by begins (placed plan) no_placed first)
        (both_intro (alone plan rows (placed plan)) (both (in_order plan rows) (all manned rows)) (alone_by plan rows (placed plan) none)
        (both_intro (in_order plan rows) (all manned rows)
        (all_by (λ x. all (λ y. rule x y) (placed plan)) (placed plan) no_placed
        (λ k l. all_by (rule (get_or (placed plan) k no_placed)) (placed plan) no_placed (λ h m. order k h l m)))
        (all_by manned rows no_row (λ k l. lt→ltb (get_or rows k no_row).worker workers (course_row k (omega (arith, (course_kept e ok t).long))).known))))
      where
        rows : List Row
        rows = c.rows

        begins : Placed → Bool
        begins x = leb 1 (span_of plan rows x).first

        manned : Row → Bool
        manned a = ltb a.worker workers

        rule : Placed → Placed → Bool
        rule x y = either (not (must_follow plan x y)) (ltb (span_of plan rows y).last (span_of plan rows x).first)

        member : (k : ℕ) → k < length (placed plan) → Member (get_or (placed plan) k no_placed) (placed plan)
        member k l = member_at (placed plan) no_placed k l

        first : (k : ℕ) → k < length (placed plan) → T (begins (get_or (placed plan) k no_placed))
        first k l =
            let x = get_or (placed plan) k no_placed in
            let u = member_acts plan x (member k l) in
            let w = (course_kept e ok t).worth x.job x.position u.known (done x.job x.position u.known u.within) in
            le→leb 1 (span_of plan rows x).first (omega (arith, ap cost u.is, w))

        -- no action stands at two places
        same : (k h : ℕ) → k < h → h < length (placed plan)
            → (get_or (placed plan) k no_placed).job ≡ (get_or (placed plan) h no_placed).job
            → (get_or (placed plan) k no_placed).position ≡ (get_or (placed plan) h no_placed).position → ⊥
        same k h l m q i =
            let n = placed_length plan in
            let u = placed_of plan k (omega arith) in
            let v = placed_of plan h (omega arith) in
            omega (arith, u.place, v.place, ap (λ j. total (take j plan)) q)

        none : (k h : ℕ) → k < h → h < length (placed plan)
            → T (clash (span_of plan rows (get_or (placed plan) k no_placed)) (span_of plan rows (get_or (placed plan) h no_placed))) → ⊥
        none k h l m z =
            let x = get_or (placed plan) k no_placed in
            let y = get_or (placed plan) h no_placed in
            let a = span_of plan rows x in
            let d = span_of plan rows y in
            let f = eqb→eq a.worker d.worker (both_left (eqb a.worker d.worker) _ z) in
            let g = both_right (eqb a.worker d.worker) _ z in
            let i = leb→le a.first d.last (both_left (leb a.first d.last) _ g) in
            let j = leb→le d.first a.last (both_right (leb a.first d.last) _ g) in
            by_cases (dec_le a.last d.last)
            (λ q. ⊎_elim (λ u. same k h l m u.0 u.1) (λ u. omega arith) (course_apart calm x y (member k (omega arith)) (member h m) f q))
            (λ q. ⊎_elim (λ u. same k h l m (sym u.0) (sym u.1)) (λ u. omega arith)
            (course_apart calm y x (member h m) (member k (omega arith)) (sym f) (omega arith)))

        order : (k h : ℕ) → k < length (placed plan) → h < length (placed plan)
            → T (rule (get_or (placed plan) k no_placed) (get_or (placed plan) h no_placed))
        order k h l m =
            let x = get_or (placed plan) k no_placed in
            let y = get_or (placed plan) h no_placed in
            unless (must_follow plan x y) _ (λ f. lt→ltb (span_of plan rows y).last (span_of plan rows x).first
            (omega (arith, course_later x y (member k l) (member h m) f)))
