-- A plan laid out in another array, by what stands in its own.
--   target_last, target_other == where an action then sends its join
--   job_place, job_room, action_given == where a job stands, that there is room for it, and for an action of it
--   first_rows, first_jobs == the array with the first so many actions of a job, or jobs of a plan; rows_none, jobs_none == with none
--   action_more, job_whole == one action more of a job, and a job once all its actions are laid
--   job_more, jobs_whole   == one job more of a plan, and all of them
use Prim.Native.Nat.{ℕ, zero, suc, ◌+◌, ◌≤◌, ◌<◌}
use mathlib.Core.Path.{◌≡◌, refl, ap, sym, ◌∙◌}
use mathlib.Core.List.{List}
use native.Mathlib.Omega.{arith}
use native.Mathlib.Decide.{dec_lt}
use lib.ListN.{length, take, length-take}
use lib.Seq.{take-suc, take_all}
use borrow.Author.Tests.{eq-eqb, ne_eqb}
use Rattle.plan.specs.declared.sheet.Sheet.{Sheet}
use Rattle.plan.specs.Plan.{Action, Plan, job, size, action, total, no_action, no_job}
use Rattle.plan.specs.Progress.{with_actions, with_job, with_jobs}
use Rattle.plan.specs.Sheet.{child_at, target_at, cost_at, frame_of, first_of, with_action, with_frame, with_first}
use Rattle.plan.proofs.Laws.Laid.{laid_end, laid_child, laid_target, laid_cost}
use Rattle.plan.proofs.Laws.Placed.{start, start_suc, start_rises, start_below}
use Rattle.plan.proofs.Laws.Sheets.{actions_one_more, jobs_one_more}
use Rattle.plan.proofs.Laws.Valid.{jobs_range, small_numbers}
use Rattle.plan_pair.specs.Pair.{raised_child, under}
use Rattle.plan_pair.specs.Given.{target_under, ActionAt, LaysJob}
use Rattle.plan_pair.proofs.Laws.Under.{under_length, under_size, under_frame, under_cost, under_spawn, under_join, under_other, under_last, under_start}

module _ (plan : Sheet) (k : ℕ) where
  pub target_last : k + 1 ≡ first_of plan 1 → 5 ≡ target_under plan k
  unfolding target_under
  target_last e = rw (target_under, eq-eqb (k + 1) (first_of plan 1) e)

  pub target_other : (k + 1 ≡ first_of plan 1 → ⊥) → target_at plan k ≡ target_under plan k
  unfolding target_under
  target_other f = rw (target_under, ne_eqb (k + 1) (first_of plan 1) f)

-- one job of a plan
module _ {d from j : ℕ} {plan : Sheet} {p : Plan} (g : LaysJob d from j plan p) where
  row : List Action
  row = (job (under d p) j).actions

  row_long : length row ≡ size p j
  unfolding row
  row_long = under_size d p j

  -- where the plan's root ends
  root_end : first_of plan 1 ≡ size p 0
  root_end =
      let h = (jobs_range p g.lays.rules).0 in
      g.lays.laid.firsts 1 h ∙ (let e : start p 1 ≡ start p 0 + size p 0 = start_suc p 0 h in omega (arith, e))

  pub job_place : (first_of plan j ≡ start p j) × (first_of plan (j + 1) ≡ start p j + size p j)
  job_place = (g.lays.laid.firsts j (omega (arith, g.known)), laid_end plan p g.lays.laid j g.known)

  pub job_room : (d + j < 256) × (first_of plan j ≤ first_of plan (j + 1)) × (from + first_of plan (j + 1) ≤ 2048)
  job_room =
      omega (
        arith,
        job_place,
        g.known,
        g.lays.jobs,
        g.lays.actions,
        start_suc p j g.known,
        start_below p (suc j),
      )

  pub action_given : (k n : ℕ) → k ≡ start p j + n → n < size p j → ActionAt plan k d (from + k) (d + j)
  action_given k n e b =
      let r = job_room in
      let o = job_place in
      let c : child_at plan k ≡ (action p j n).spawn = rw e (laid_child plan p g.lays.laid j g.known n b) in
      let small = small_numbers p g.lays.rules j n g.known b in
      record { place = omega arith; new = omega arith; job = r.0; child = omega arith; rise = omega arith }

  join_there : (i : ℕ) → i < size p j → target_under plan (start p j + i) ≡ (action (under d p) j i).join
  join_there i b = go j refl
    where
      laid : target_at plan (start p j + i) ≡ (action p j i).join
      laid = laid_target plan p g.lays.laid j g.known i b

      root : j ≡ 0 → Dec (suc i < size p 0) → target_under plan (start p j + i) ≡ (action (under d p) j i).join
      root x (yes l) =
          let s : start p j ≡ 0 = ap (start p) x in
          sym (target_other plan (start p j + i) (omega (arith, root_end))) ∙ laid ∙ rw x (sym (under_other d p i l))
      root x (no n) =
          let s : start p j ≡ 0 = ap (start p) x in
          let z : size p j ≡ size p 0 = ap (size p) x in
          sym (target_last plan (start p j + i) (omega (arith, root_end))) ∙ rw x (sym (under_last d p i (omega arith)))

      go : (m : ℕ) → j ≡ m → target_under plan (start p j + i) ≡ (action (under d p) j i).join
      go zero x = root x (dec_lt (suc i) (size p 0))
      go (suc m) x =
          let o : 1 ≤ j = omega arith in
          let h = (jobs_range p g.lays.rules).0 in
          let behind = start_rises p 1 j o (omega (arith, g.known)) in
          let e : start p 1 ≡ start p 0 + size p 0 = start_suc p 0 h in
          sym (target_other plan (start p j + i) (omega (arith, root_end))) ∙ laid ∙ sym (under_join d p j i o)

  module _ (sheet : Sheet) where
    -- the first so many actions laid
    pub first_rows : ℕ → Sheet
    first_rows n = with_actions sheet (from + start p j) (d + j) (take n row)

    pub rows_none : first_rows 0 ≡ sheet
    unfolding first_rows
    rows_none = refl

    pub action_more : {rows rows' : Sheet} (k n : ℕ) → k ≡ start p j + n → n < size p j → rows ≡ first_rows n
        → rows' ≡ with_action rows (from + k) (d + j) (raised_child d (child_at plan k)) (target_under plan k) (cost_at plan k)
        → rows' ≡ first_rows (suc n)
    unfolding first_rows row
    action_more {rows} {rows'} k n e b is w =
        let l = g.lays.laid in
        let a = action (under d p) j n in
        let at : from + k ≡ from + start p j + length (take n row) = omega (arith, length-take n row, row_long) in
        let child : raised_child d (child_at plan k) ≡ a.spawn = rw (e, laid_child plan p l j g.known n b) (sym (under_spawn d p j n)) in
        let cost : cost_at plan k ≡ a.cost = rw (e, laid_cost plan p l j g.known n b) (sym (under_cost d p j n)) in
        let target : target_under plan k ≡ a.join = rw e (join_there n b) in
        w ∙ rw (is, child, cost, target, at, take-suc row n no_action (omega (arith, row_long)))
        (sym (actions_one_more sheet (from + start p j) (d + j) (take n row) a))

  pub job_whole : (sheet : Sheet) {framed rows sheet' : Sheet} (n end weight : ℕ) → n ≡ size p j → end ≡ first_of plan (j + 1) → weight ≡ frame_of plan j
      → framed ≡ with_frame sheet (d + j) weight → rows ≡ first_rows framed n → sheet' ≡ with_first rows (d + j + 1) (from + end)
      → sheet' ≡ with_job sheet (from + start p j) (d + j) (job (under d p) j)
  unfolding first_rows row
  job_whole sheet n end weight e past w front rest last =
      let f : weight ≡ (job (under d p) j).frame = w ∙ g.lays.laid.frames j g.known ∙ sym (under_frame d p j) in
      let a : from + end ≡ from + start p j + length row = omega (arith, job_place, row_long) in
      last ∙ rw (rest, front, f, a, take_all n row (omega (arith, row_long)))

-- all jobs of a plan
module _ (d from : ℕ) (p : Plan) (sheet : Sheet) where
  pub first_jobs : ℕ → Sheet
  first_jobs n = with_jobs sheet from d (take n (under d p))

  pub jobs_none : first_jobs 0 ≡ sheet
  unfolding first_jobs
  jobs_none = refl

  pub job_more : {jobs jobs' : Sheet} (j : ℕ) → j < length p → jobs ≡ first_jobs j
      → jobs' ≡ with_job jobs (from + start p j) (d + j) (job (under d p) j) → jobs' ≡ first_jobs (suc j)
  unfolding first_jobs
  job_more j h is w =
      let long : length (take j (under d p)) ≡ j = omega (arith, length-take j (under d p), under_length d p) in
      let e : from + start p j ≡ from + total (take j (under d p)) = ap (λ n. from + n) (sym (under_start d p j)) in
      let f : d + j ≡ d + length (take j (under d p)) = ap (λ n. d + n) (sym long) in
      w ∙ rw (is, e, f, take-suc (under d p) j no_job (omega (arith, under_length d p)))
      (sym (jobs_one_more sheet from d (take j (under d p)) (job (under d p) j)))

  pub jobs_whole : (n : ℕ) → n ≡ length p → first_jobs n ≡ with_jobs sheet from d (under d p)
  unfolding first_jobs
  jobs_whole n e = ap (with_jobs sheet from d) (take_all n (under d p) (omega (arith, under_length d p)))
