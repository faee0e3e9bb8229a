-- All that is owed of a run from a pool: the claim of specs/Claim.antt about every one, and about the schedule that it writes.
--   pool_bounds  == the bounds hold of the rows and the tally of a run
--   pool_long, pool_done == it has a row for each action, and has done every one
--   pool_read    == its schedule is read back as its rows; pool_checked == and the checker accepts it
--   pool_front   == it stands in front in the bytes that the run leaves
--   pool_bounded == so the bounds hold of the rows that are read off the schedule, whatever follows this
--   pool_claim   == and of all that is accepted
use Prim.Native.Nat.{ℕ, ◌+◌, ◌-◌, ◌*◌, ◌≤◌, ◌<◌}
use mathlib.Core.Path.{◌≡◌, refl, sym, ap, ◌∙◌}
use mathlib.Core.Bool.{Bool, true, false}
use mathlib.Core.List.{List, ◌++◌}
use native.Mathlib.Omega.{arith}
use native.Mathlib.Nat.{le_refl, one-mul}
use lib.Dec.{T, leb→le}
use lib.ListN.{length, take}
use lib.Seq.{take_at}
use Rattle.plan.specs.Plan.{Plan, size, total}
use Rattle.plan.specs.Refusal.{Outcome, refused, accepted}
use Rattle.plan.specs.Reader.{read_plan}
use Rattle.plan.specs.Rules.{costs_fit}
use Rattle.plan.proofs.Laws.Accepted.{accepted_kept}
use Rattle.plan.proofs.Laws.Lists.{of_true}
use Rattle.plan.proofs.Laws.Valid.{total_range}
use Rattle.plan_measure.specs.Measure.{work, longest, heaviest}
use Rattle.plan_measure.proofs.Laws.Parallel.{quotient, spare_turns}
use Rattle.courses.specs.Schedule.{schedule_bytes, schedule_length, read_schedule, keeps, ruled, judged_by, checked, round_bits}
use Rattle.courses.proofs.Laws.Kept.{course_ended}
use Rattle.courses.proofs.Laws.Order.{course_row, course_keeps, course_least, course_last}
use Rattle.courses.proofs.Laws.Peak.{course_space, peak_above, course_peak, peak_least, peak_most}
use Rattle.courses.proofs.Laws.Pool.{terms}
use Rattle.courses.proofs.Laws.Price.{price_work, work_fits}
use Rattle.courses.proofs.Laws.PlanShape.{shape, shape_valid}
use Rattle.lines.proofs.Laws.Progress.{all_done}
use Rattle.courses.proofs.Laws.ScheduleBytes.{Small, schedule_read, schedule_length_lem}
use Rattle.courses.proofs.Laws.Worked.{turns_all}
use Rattle.runs.proofs.Laws.Admitted.{workers_range}
use Rattle.pools.specs.State.{next_of}
use Rattle.pools.specs.Run.{pool}
use Rattle.pools.specs.Claim.{Bounded, Claim, PoolClaim}
use Rattle.pools.proofs.Laws.Coursed.{Fit, trace_sized, trace_manned, trace_course}
use Rattle.pools.proofs.Laws.Tallies.{trace_counted}
use Rattle.pools.proofs.Laws.Greedy.{idle_most}
use Rattle.pools.proofs.Laws.Whole.{round_most, run_trace}

module _ {p : Plan} {n : ℕ} (fit : Fit p n) where
  grows : (r r' : ℕ) → r ≤ r' → n * heaviest p ≤ n * heaviest p
  grows r r' h = le_refl (n * heaviest p)

  pub pool_bounds : Claim p n
  pool_bounds =
      let (r, b, t, e, q) = run_trace fit in
      let c = trace_course fit t in
      let u = (pool p n).tally in
      let over : size p 0 ≤ next_of (pool p n) 0 = leb→le (size p 0) (next_of (pool p n) 0) (of_true _ e) in
      let least : longest p ≤ u.rounds = omega (arith, course_least (terms p n) fit.plan c over) in
      let all : u.actions ≡ work p = turns_all (terms p n) fit.plan c over ∙ price_work (terms p n) in
      let sum : n * r ≡ u.actions + u.idle = omega (arith, (trace_counted fit.some t).turns) in
      let turns : n * u.rounds ≡ u.actions + u.idle = rw q sum in
      let most = peak_most (terms p n) fit.plan grows c over (n * heaviest p) (λ r. le_refl (n * heaviest p)) in
      record {
        done = λ k h. let d = course_row (terms p n) fit.plan c over k h in (d.first, omega (arith, d.latest), d.known);
        over = over;
        ends = course_ended (terms p n) fit.plan c over ∙ sym q;
        space = course_space (terms p n) fit.plan grows c over;
        greedy = omega (arith, turns, all, idle_most fit t);
        most_rounds = omega (arith, round_most fit t);
        least_rounds = least;
        lone_peak = λ l. let z : n * heaviest p ≡ heaviest p = rw l (one-mul (heaviest p)) in
            omega (arith, peak_least (terms p n) fit.plan grows c over, most);
        lone_rounds = λ l.
            let none : (n - 1) * longest p ≡ 0 = rw l (omega arith) in
            let once : n * u.rounds ≡ u.rounds = ap (λ k. k * u.rounds) l ∙ one-mul u.rounds in
            omega (arith, turns, all, idle_most fit t);
        peak = course_peak (terms p n) fit.plan grows c over;
        below_peak = peak_above (terms p n) fit.plan grows c over;
        rounds = q ∙ sym (course_last (terms p n) fit.plan c over);
        actions = all;
        turns = turns;
        spare = spare_turns n _ (quotient p fit.plan) least (rw all at turns);
        none = (trace_counted fit.some t).none;
        kept = course_keeps (terms p n) fit.plan c over tt;
      }

  pub pool_long : length (pool p n).rows ≡ total p
  pool_long = let (r, b, t, e, q) = run_trace fit in (trace_sized fit t).rows

  -- every action is done
  pub pool_done : (j : ℕ) → j < length p → next_of (pool p n) j ≡ size p j
  pool_done =
      let (r, b, t, e, q) = run_trace fit in
      all_done (shape p) (shape_valid p fit.plan) (next_of (pool p n)) (trace_manned fit t).closed pool_bounds.over

  -- the end of a run, whose rounds have no more bits than a schedule of that form has for one
  module _ (form : ℕ) (known : form < 256) (costs : T (costs_fit form p)) where
    abbrev out : List ℕ
    out = schedule_bytes form n (pool p n).rows

    pub pool_read : read_schedule form out (total p) ≡ accepted (record { workers = n; rows = (pool p n).rows })
    pool_read =
        let o = pool_bounds in
        let few = work_fits form p fit.plan costs in
        let small : Small (round_bits form) (pool p n).rows = λ k l.
        let d = o.done k (omega (arith, pool_long)) in (d.0, omega (arith, d.1, o.most_rounds), omega (arith, d.2, fit.most)) in
        rw (← pool_long) (schedule_read form n (pool p n).rows known fit.some fit.most (omega (arith, pool_long, total_range p fit.plan)) small)

    unbroken : (c : Bool) → T c → ◌≡◌ {A = Outcome ℕ} (elim c [ false ↦ refused 12 | true ↦ accepted 0 ]) (accepted 0)
    unbroken true h = refl
    unbroken false h = absurd h

    pool_ruled : ruled p (read_schedule form out (total p)) ≡ accepted 0
    unfolding ruled
    pool_ruled = ap (ruled p) pool_read ∙ unbroken (keeps p n (pool p n).rows) pool_bounds.kept

    pub pool_checked : (bytes : List ℕ) → read_plan bytes ≡ accepted (record { form = form; plan = p }) → checked bytes out ≡ accepted 0
    unfolding checked judged_by
    pool_checked bytes f = ap (λ o. judged_by o out) f ∙ pool_ruled

    -- what stands in front in the bytes that the run leaves
    pub pool_front : (rest : List ℕ) → take (schedule_length form (total p)) (out ++ rest) ≡ out
    pool_front rest =
        take_at out rest (schedule_length form (total p)) (schedule_length_lem form n (pool p n).rows ∙ ap (schedule_length form) pool_long)

    pub pool_bounded : (rest : List ℕ) → Bounded p n form (out ++ rest) (pool p n).tally
    pool_bounded rest = record {
      rows = (pool p n).rows;
      read = ap (λ l. read_schedule form l (total p)) (pool_front rest) ∙ pool_read;
      bounds = pool_bounds;
    }

pub pool_claim : PoolClaim
pool_claim s x n a w = pool_bounds (record { plan = accepted_kept s x a; some = (workers_range n w).0; most = (workers_range n w).1 })
