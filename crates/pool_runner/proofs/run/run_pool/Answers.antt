-- `run_pool` meets its contract. Each loop's invariant says, of every plan that the run may have been given, how the objects stand for a
-- state of its run (L/Standing), and what the marks tell of the calendar; the laws of L/Marks, L/Rounds and L/Taking lead from one to the
-- next. The measure of the rounds is what is left of 30,720, that of the other loops the set that is left.
use mathlib.Core.Path.{◌≡◌, refl, sym, ◌∙◌}
use native.Mathlib.Omega.{arith}
use lib.ListN.{length}
use Rattle.pool_runner.proofs.Laws.Standing.{fitted, one_of, go_on}
use Rattle.pool_runner.proofs.Laws.Beginning.{first_note, first_between}
use Rattle.pool_runner.proofs.Laws.Noting.{marks_none}
use Rattle.pool_runner.proofs.Laws.Marks.{marks_some, marks_range, marks_on, marks_waits}
use Rattle.pool_runner.proofs.Laws.Rounds.{begun_early, turns_begin, turns_early, turns_known, turns_turning, turns_idle, turns_left}
use Rattle.pool_runner.proofs.Laws.Rounds.{turns_note, turns_next, turns_work, turns_over, turns_takes}
use Rattle.pool_runner.proofs.Laws.Taking.{takes_known, takes_having, takes_note, takes_next, takes_none, takes_round}
use Rattle.pool_runner.proofs.run.run_pool.Goals as goal

pub note-marks-requires : goal.note-marks-requires
note-marks-requires c =
    let (p, g) = c.requires in
    let (is, some, few) = first_note g c.cost_at.ensures.0 in
    (omega arith, few, omega arith)

pub loop-w-init : goal.loop-w-init
loop-w-init c =
    let f = c.frame_of-weight.ensures.0 in
    let long : length c.args.rows.now ≡ 2048 = omega arith in (
      record {
        given = c.requires;
        all = λ p g. rw (c.start-progress.ensures, c.new-pool.ensures)
            (first_between g long c.cost_at.ensures.0 c.note-marks.ensures.0 f c.others-idlers.ensures);
      },
      c.note-marks.ensures.1 marks_none,
    )

pub lowest-by-requires : goal.lowest-by-requires
lowest-by-requires c = let (p, f, z) = one_of c.loop-w.invariant.0 in marks_some f z c.loop-w.invariant.1

pub overflow_add-r : goal.overflow_add-r
overflow_add-r c = let (p, f, z) = one_of c.loop-w.invariant.0 in omega (arith, begun_early f z.begun, marks_range _ _ c.loop-w.invariant.1 c.lowest-by.ensures)

pub rest-requires : goal.rest-requires
rest-requires c = let (p, f, z) = one_of c.loop-w.invariant.0 in marks_some f z c.loop-w.invariant.1

pub overflow_shr-marks : goal.overflow_shr-marks
overflow_shr-marks c = omega (arith, marks_range _ _ c.loop-w.invariant.1 c.lowest-by.ensures)

pub loop-left-init : goal.loop-left-init
loop-left-init c =
    let low = c.lowest-by.ensures in
    let (all, marked) = c.loop-w.invariant in
    let (p, f, z) = one_of all in (
      go_on all (λ p f z. turns_begin f (marks_waits f z marked low)),
      marks_on _ _ marked low z.timed.long c.rest.ensures,
    )

pub offset_bounds-workers-w : goal.offset_bounds-workers-w
offset_bounds-workers-w c =
    let (p, f, z) = one_of c.loop-left.invariant.0 in omega (arith, turns_known f z c.lowest-w.ensures)

pub bounds-workers-w : goal.bounds-workers-w
bounds-workers-w c =
    let (p, f, z) = one_of c.loop-left.invariant.0 in omega (arith, turns_known f z c.lowest-w.ensures)

pub turn-after-requires : goal.turn-after-requires
turn-after-requires c =
    let (p, f, z) = one_of c.loop-left.invariant.0 in
    (_, turns_turning f z c.lowest-w.ensures)

pub offset_bounds-workers-w-in-loop-left : goal.offset_bounds-workers-w-in-loop-left
offset_bounds-workers-w-in-loop-left c =
    let (p, f, z) = one_of c.loop-left.invariant.0 in omega (arith, turns_known f z c.lowest-w.ensures)

pub bounds-workers-w-in-loop-left : goal.bounds-workers-w-in-loop-left
bounds-workers-w-in-loop-left c =
    let (p, f, z) = one_of c.loop-left.invariant.0 in omega (arith, turns_known f z c.lowest-w.ensures)

pub idle_after-idlers-requires : goal.idle_after-idlers-requires
idle_after-idlers-requires c =
    let (p, f, z) = one_of c.loop-left.invariant.0 in
    turns_idle f z c.lowest-w.ensures

pub rounds_of-requires : goal.rounds_of-requires
rounds_of-requires c =
    let (p, f, z) = one_of c.loop-left.invariant.0 in
    let low = c.lowest-w.ensures in
    (_, turns_left f z low (c.turn-after.ensures _ (turns_turning f z low)))

pub note-marks-requires-in-loop-left : goal.note-marks-requires-in-loop-left
note-marks-requires-in-loop-left c =
    let (p, f, z) = one_of c.loop-left.invariant.0 in
    let low = c.lowest-w.ensures in
    let taken = c.turn-after.ensures _ (turns_turning f z low) in
    turns_note f z low taken (c.rounds_of.ensures _ (turns_left f z low taken))

pub loop-left-preserved : goal.loop-left-preserved
loop-left-preserved c =
    let low = c.lowest-w.ensures in
    let (all, marked) = c.loop-left.invariant in (
      go_on all (λ p f z.
          let taken = c.turn-after.ensures _ (turns_turning f z low) in
          turns_next f z low taken (c.rounds_of.ensures _ (turns_left f z low taken)) c.note-marks-in-loop-left.ensures.0 c.idle_after-idlers.ensures
          c.max-peak.ensures c.rest-left.ensures),
      c.note-marks-in-loop-left.ensures.1 marked,
    )

pub counted-requires : goal.counted-requires
counted-requires c =
    let e = sym c.done_of.ensures.0 ∙ (c.if-done_of-first_of.true ∙ c.first_of.ensures.0) in
    let (p, g) = c.loop-left.invariant.0.given in
    let z = c.loop-left.invariant.0.all p g in
    let worked = c.work.ensures p (record { all = g.given.all; planned = g.given.planned }) in
    (g.most, turns_early (fitted g) z, omega (arith, worked, turns_work (fitted g) z (omega arith) e))

pub returns-then-done_of-first_of : goal.returns-then-done_of-first_of
returns-then-done_of-first_of c =
    λ p g.
    let e = sym c.done_of.ensures.0 ∙ (c.if-done_of-first_of.true ∙ c.first_of.ensures.0) in
    turns_over (fitted g) (c.loop-left.invariant.0.all p g) (omega arith) e
    (c.work.ensures p (record { all = g.given.all; planned = g.given.planned })) c.counted.ensures

pub loop-left-2-init : goal.loop-left-2-init
loop-left-2-init c =
    let (all, marked) = c.loop-left.invariant in (
      go_on all (λ p f z. turns_takes f z (omega arith)
          (λ e. c.if-done_of-first_of.false (c.done_of.ensures.0 ∙ (e ∙ sym c.first_of.ensures.0)))),
      marked,
    )

pub loop-w-smaller : goal.loop-w-smaller
loop-w-smaller c =
    let (p, f, z) = one_of c.loop-w.invariant.0 in
    omega (arith, begun_early f z.begun, marks_range _ _ c.loop-w.invariant.1 c.lowest-by.ensures)

pub loop-w-smaller-in-loop-left-2 : goal.loop-w-smaller-in-loop-left-2
loop-w-smaller-in-loop-left-2 c =
    let (p, f, z) = one_of c.loop-w.invariant.0 in
    omega (arith, begun_early f z.begun, marks_range _ _ c.loop-w.invariant.1 c.lowest-by.ensures)

-- the set is empty
pub loop-w-preserved : goal.loop-w-preserved
loop-w-preserved c =
    let (all, marked) = c.loop-left-2.invariant in
    (go_on all (λ p f z. takes_round f (takes_none f z c.in_default.ensures) refl), marked)

-- nobody is left
pub loop-w-preserved-in-loop-left-2 : goal.loop-w-preserved-in-loop-left-2
loop-w-preserved-in-loop-left-2 c =
    let (all, marked) = c.loop-left-2.invariant in (go_on all (λ p f z. takes_round f z (omega arith)), marked)

pub offset_bounds-workers-w-in-loop-left-2 : goal.offset_bounds-workers-w-in-loop-left-2
offset_bounds-workers-w-in-loop-left-2 c =
    let (p, f, z) = one_of c.loop-left-2.invariant.0 in omega (arith, takes_known f z c.in-Some.ensures c.lowest-w-in-loop-left-2.ensures)

pub bounds-workers-w-in-loop-left-2 : goal.bounds-workers-w-in-loop-left-2
bounds-workers-w-in-loop-left-2 c =
    let (p, f, z) = one_of c.loop-left-2.invariant.0 in omega (arith, takes_known f z c.in-Some.ensures c.lowest-w-in-loop-left-2.ensures)

pub without-idlers-requires : goal.without-idlers-requires
without-idlers-requires c =
    let (p, f, z) = one_of c.loop-left-2.invariant.0 in omega (arith, takes_known f z c.in-Some.ensures c.lowest-w-in-loop-left-2.ensures)

pub next_cost-requires : goal.next_cost-requires
next_cost-requires c =
    let (p, f, z) = one_of c.loop-left-2.invariant.0 in
    (_, takes_having f z c.in-Some.ensures c.lowest-w-in-loop-left-2.ensures)

pub note-marks-requires-in-loop-left-2 : goal.note-marks-requires-in-loop-left-2
note-marks-requires-in-loop-left-2 c =
    let low = c.lowest-w-in-loop-left-2.ensures in
    let found = c.in-Some.ensures in
    let (p, f, z) = one_of c.loop-left-2.invariant.0 in
    takes_note f z found low (c.next_cost.ensures _ (takes_having f z found low))

pub loop-left-2-preserved : goal.loop-left-2-preserved
loop-left-2-preserved c =
    let low = c.lowest-w-in-loop-left-2.ensures in
    let found = c.in-Some.ensures in
    let (all, marked) = c.loop-left-2.invariant in (
      go_on all (λ p f z.
          takes_next f z found low (c.next_cost.ensures _ (takes_having f z found low)) c.remove.ensures c.without-idlers.ensures
          c.note-marks-in-loop-left-2.ensures.0 c.rest-left-in-loop-left-2.ensures refl),
      c.note-marks-in-loop-left-2.ensures.1 marked,
    )
