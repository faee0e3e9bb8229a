-- The weights and the peak of a course that has ended, read off the plan and the rows alone.
--   course_space == no weight is above the bound of its round
--   peak_above   == no weight is above the peak
--   course_peak  == the peak is the largest weight that the rows tell
--   peak_least   == the peak is at least the weight of the heaviest path
--   peak_most    == the peak is at most what bounds the weight in every round
use Prim.Native.Nat.{ℕ, zero, suc, ◌+◌, ◌-◌, ◌≤◌, ◌<◌, max}
use mathlib.Core.Path.{◌≡◌, refl, ap, ◌∙◌}
use mathlib.Core.Logic.{inl, inr, by_cases}
use mathlib.Core.Bool.{Bool, true, false, not}
use mathlib.Core.List.{List, [], ◌∷◌}
use native.Mathlib.Omega.{arith}
use native.Mathlib.Nat.{le_trans}
use native.Mathlib.Decide.{dec_le}
use lib.Dec.{T, eqb, ltb, ltb→lt, lt→ltb, eqb_refl, T_not, not_T}
use lib.ListN.{length, get_or}
use Rattle.plan.specs.Test.{both, either, largest, below}
use Rattle.plan.specs.Plan.{Plan, Job, size, parent, spawn_at}
use Rattle.plan.specs.Rules.{Accepted}
use Rattle.plan.proofs.Laws.Counts.{equal_tests}
use Rattle.plan.proofs.Laws.Placed.{place_below}
use Rattle.plan.proofs.Laws.Valid.{size_range, older, spawned_there}
use Rattle.plan_measure.specs.Measure.{path, heaviest}
use Rattle.plan_measure.proofs.Laws.Largest.{member_at, largest_above, largest_within, below_member}
use Rattle.plan_measure.proofs.Laws.Follows.{born}
use Rattle.courses.specs.Row.{Row, no_row, place}
use Rattle.courses.specs.Ready.{frames, spawned, living, weight}
use Rattle.courses.specs.Living.{not_after, done_by, lives_after, weight_after, peak_of}
use Rattle.lines.proofs.Laws.Shape.{Closed}
use Rattle.lines.proofs.Laws.Weight
use Rattle.courses.proofs.Laws.PlanShape.{shape, shape_valid, weight_held, path_same}
use Rattle.courses.proofs.Laws.Course.{Core, next_in, row_in, Terms, Course}
use Rattle.courses.proofs.Laws.Kept.{course_kept, course_done, course_all}
use Rattle.courses.proofs.Laws.Past.{not_after_lem, by_then, Past, Moment, Peaked, history, peaked}

-- tests that pass for each other
same_test : (a b : Bool) → (T a → T b) → (T b → T a) → a ≡ b
same_test a b f g = equal_tests a b f (λ n t. n (g t))

-- tests that agree on the jobs of a list give the same frames
pub frames_same : (f g : ℕ → Bool) (j : ℕ) (l : List Job) → ((k : ℕ) → j ≤ k → k < j + length l → f k ≡ g k) → frames f j l ≡ frames g j l
frames_same f g j [] h = refl
frames_same f g j (b ∷ l) h =
    let e : f j ≡ g j = h j (omega arith) (omega arith) in
    let r : frames f (suc j) l ≡ frames g (suc j) l = frames_same f g (suc j) l (λ k m n. h k (omega arith) (omega arith)) in
    rw (frames, e) (chosen (g j) b.frame (frames f (suc j) l) (frames g (suc j) l) r)
  where
    chosen : (c : Bool) (m x y : ℕ) → x ≡ y → ◌≡◌ {A = ℕ} (elim c [ true ↦ m + x | false ↦ x ]) (elim c [ true ↦ m + y | false ↦ y ])
    chosen true m x y q = ap (λ z. m + z) q
    chosen false m x y q = q

-- the two tests of a living job
lives_same : (c x x' y z : Bool) → ((T c → ⊥) → x ≡ x') → not y ≡ z → both (either c x) (not y) ≡ both (either c x') z
lives_same true x x' y z f e = e
lives_same false x x' y z f e = rw (f (λ q. q), e)

-- the path of a living job is no heavier than all living frames
pub path_living : (p : Plan) → Accepted p → (l : List ℕ) → Closed (shape p) (λ j. get_or l j 0) → (j : ℕ) → j < length p
    → (1 ≤ j → spawn_at p j < get_or l (parent p j) 0) → get_or l j 0 < size p j → path p j ≤ weight p l
path_living p ok l closed j h b s =
    rw (weight_held p l, path_same p ok j h)
    (Weight.path_held (shape p) (shape_valid p ok) (λ j. get_or l j 0) closed j (record { below = h; begun = b; left = s }))

module _ (e : Terms) (ok : Accepted e.plan) (grows : (r r' : ℕ) → r ≤ r' → e.bound r ≤ e.bound r')
    {r idle k : ℕ} {b : ℕ → ℕ} {c : Core} (t : Course e r idle k b c) (ended : size e.plan 0 ≤ next_in c 0) where
  open e use {plan, bound}

  module _ {r' w' : ℕ} {u : List ℕ} (past : Past e c r' w' u) where
    done_read : (j i : ℕ) → j < length plan → i < size plan j → done_by plan c.rows r' w' j i ≡ ltb i (get_or u j 0)
    done_read j i h l =
        same_test (done_by plan c.rows r' w' j i) (ltb i (get_or u j 0))
        (λ q. lt→ltb i (get_or u j 0) (past.every j i h (course_all e ok t ended j i h l) q))
        (λ q. (past.done j i h (ltb→lt i (get_or u j 0) q)).1)

    lives_read : (j : ℕ) → j < length plan → lives_after plan c.rows r' w' j ≡ living plan u j
    unfolding lives_after living spawned
    lives_read j h =
        lives_same (eqb j 0) (done_by plan c.rows r' w' (parent plan j) (spawn_at plan j))
        (ltb (spawn_at plan j) (get_or u (parent plan j) 0)) (done_by plan c.rows r' w' j (size plan j - 1)) (ltb (get_or u j 0) (size plan j))
        spawns ends
      where
        spawns : (T (eqb j 0) → ⊥)
            → done_by plan c.rows r' w' (parent plan j) (spawn_at plan j) ≡ ltb (spawn_at plan j) (get_or u (parent plan j) 0)
        spawns f =
            let g : 1 ≤ j = by_cases (dec_le 1 j) (λ g. g) (λ g. let z : j ≡ 0 = omega arith in absurd (f (rw z (eqb_refl 0)))) in
            done_read (parent plan j) (spawn_at plan j) (omega (arith, older plan ok j g h)) (spawned_there plan ok j g h).0

        last : size plan j - 1 < size plan j
        last = omega (arith, size_range plan ok j h)

        ends : not (done_by plan c.rows r' w' j (size plan j - 1)) ≡ ltb (get_or u j 0) (size plan j)
        ends =
            same_test (not (done_by plan c.rows r' w' j (size plan j - 1))) (ltb (get_or u j 0) (size plan j))
            (λ q. by_cases (dec_le (size plan j) (get_or u j 0))
            (λ z. absurd (T_not (done_by plan c.rows r' w' j (size plan j - 1)) q
            (past.done j (size plan j - 1) h (omega (arith, last))).1))
            (λ z. lt→ltb (get_or u j 0) (size plan j) (omega arith)))
            (λ q. not_T (done_by plan c.rows r' w' j (size plan j - 1))
            (λ z. let d = course_all e ok t ended j (size plan j - 1) h last in
            omega (arith, ltb→lt (get_or u j 0) (size plan j) q, past.every j (size plan j - 1) h d z)))

    -- the weight that the rows tell is that of a past
    weight_read : weight_after plan c.rows r' w' ≡ weight plan u
    unfolding weight_after weight
    weight_read = frames_same (lives_after plan c.rows r' w') (living plan u) 0 plan (λ k l m. lives_read k (omega arith))

  pub course_space : (r' w' : ℕ) → weight_after plan c.rows r' w' ≤ bound r'
  course_space r' w' =
      let (u, past) = history e ok grows t r' w' in
      rw (weight_read past) past.within

  pub peak_above : (r' w' : ℕ) → weight_after plan c.rows r' w' ≤ c.peak
  peak_above r' w' =
      let (u, past) = history e ok grows t r' w' in
      rw (weight_read past) past.light

  pub course_peak : c.peak ≡ peak_of plan c.rows
  unfolding peak_of
  course_peak =
      let most = largest_within at c.rows c.peak (λ a m. peak_above a.round a.worker) in
      omega (arith, peak_above 0 0, reached m.when)
    where
      at : Row → ℕ
      at a = weight_after plan c.rows a.round a.worker

      m : Peaked e c
      m = peaked e ok grows t

      here : at m.row ≡ c.peak
      here = weight_read m.past ∙ m.reached

      reached : Moment plan c m.row → c.peak ≤ max (at no_row) (largest at c.rows)
      reached (inl q) = omega (arith, here, ap at q)
      reached (inr (j, i, h, l, q)) =
          let k : i < size plan j = omega (arith, course_done e ok t ended j h) in
          let z : place plan j i < length c.rows = omega (arith, (course_kept e ok t).long, place_below plan j i h k) in
          omega (arith, here, ap at q, largest_above at c.rows (row_in plan c j i) (member_at c.rows no_row (place plan j i) z))

  -- a job lives in a past in which it is spawned and its first action is not done
  path_past : {r' w' : ℕ} {u : List ℕ} → Past e c r' w' u → (j : ℕ) → j < length plan
      → (1 ≤ j → spawn_at plan j < get_or u (parent plan j) 0)
      → (0 < next_in c j → T (not_after (row_in plan c j 0) r' w') → ⊥) → path plan j ≤ c.peak
  path_past {u = u} past j h begun new =
      let left : get_or u j 0 < size plan j = by_cases (dec_le 1 (get_or u j 0)) (λ l. let d = past.done j 0 h l in absurd (new d.0 d.1))
      (λ f. omega (arith, size_range plan ok j h)) in
      le_trans (path_living plan ok u past.closed j h begun left) past.light

  -- every job lives at the start or right after its spawn
  path_peak : (j : ℕ) → j < length plan → path plan j ≤ c.peak
  path_peak zero h =
      let (u, past) = history e ok grows t 0 0 in
      path_past past 0 h (λ f. absurd (omega arith))
      (λ l q. omega (arith, ((course_kept e ok t).done 0 0 h l).first, (by_then (row_in plan c 0 0) 0 0 q).0))
  path_peak (suc j) h =
      let x = suc j in
      let one : 1 ≤ x = omega arith in
      let a = row_in plan c (parent plan x) (spawn_at plan x) in
      let known : parent plan x < length plan = omega (arith, older plan ok x one h) in
      let there = spawned_there plan ok x one h in
      let (u, past) = history e ok grows t a.round a.worker in
      path_past past x h
      (λ f. past.every (parent plan x) (spawn_at plan x) known (course_all e ok t ended (parent plan x) (spawn_at plan x) known there.0)
      (not_after_lem a a.round a.worker (omega arith) (λ z. omega arith)))
      (λ l q. omega (
        arith,
        (by_then (row_in plan c x 0) a.round a.worker q).0,
        ((course_kept e ok t).worth x 0 h l).0,
        ((course_kept e ok t).later x 0 h l (parent plan x) (spawn_at plan x) known there.0 (born one refl there.1)).1,
      ))

  pub peak_least : heaviest plan ≤ c.peak
  unfolding heaviest
  peak_least = largest_within (path plan) (below (length plan)) c.peak (λ j m. path_peak j (below_member (length plan) j m))

  pub peak_most : (s : ℕ) → ((r : ℕ) → bound r ≤ s) → c.peak ≤ s
  peak_most s h = let m = peaked e ok grows t in omega (arith, m.reached, m.past.within, h m.row.round)
