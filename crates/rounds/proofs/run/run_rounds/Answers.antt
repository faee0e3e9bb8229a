-- `run_rounds` meets its contract. Each loop's invariant says, of every plan that the run may have been given, how the objects stand
-- for a state of its run (L/Standing); the laws of L/FirstHalf and L/SecondHalf lead from one to the next. The measure of the rounds
-- is what is left of 2,048, that of the other loops the set that is left.
use mathlib.Core.Path.{refl, sym, ◌∙◌}
use native.Mathlib.Omega.{arith}
use Rattle.rounds.proofs.Laws.Standing.{fitted, one_of, go_on}
use Rattle.rounds.proofs.Laws.Beginning.{first_between}
use Rattle.rounds.proofs.Laws.FirstHalf.{between_early, turns_begin, turns_early, turns_worker}
use Rattle.rounds.proofs.Laws.FirstHalf.{turns_turning, turns_notable, turns_next, turns_restable, turns_over, turns_lays}
use Rattle.rounds.proofs.Laws.SecondHalf.{lays_known, lays_lining, lays_countable, lays_next, lays_serves}
use Rattle.rounds.proofs.Laws.SecondHalf.{serves_serving, serves_dequed, serves_next, serves_round}
use Rattle.rounds.proofs.run.run_rounds.Goals as goal

pub loop-w-init : goal.loop-w-init
loop-w-init c =
    record {
      given = c.requires;
      all = λ p g. rw (c.opened-a.ensures, c.start-progress.ensures, c.new-lines.ensures)
          (first_between g c.told-rows c.frame_of.ensures.0);
    }

pub overflow_add-r : goal.overflow_add-r
overflow_add-r c = let (p, f, z) = one_of c.loop-w.invariant in omega (arith, between_early f z)

pub loop-left-init : goal.loop-left-init
loop-left-init c = go_on c.loop-w.invariant (λ p f z. turns_begin f z)

pub offset_bounds-workers-w : goal.offset_bounds-workers-w
offset_bounds-workers-w c = omega (arith, turns_worker c.loop-left.invariant c.lowest-w.ensures)

pub bounds-workers-w : goal.bounds-workers-w
bounds-workers-w c = turns_worker c.loop-left.invariant c.lowest-w.ensures

pub turn-after-requires : goal.turn-after-requires
turn-after-requires c =
    let (p, f, z) = one_of c.loop-left.invariant in
    (_, turns_turning f z c.lowest-w.ensures)

pub offset_bounds-workers-w-in-loop-left : goal.offset_bounds-workers-w-in-loop-left
offset_bounds-workers-w-in-loop-left c = omega (arith, turns_worker c.loop-left.invariant c.lowest-w.ensures)

pub bounds-workers-w-in-loop-left : goal.bounds-workers-w-in-loop-left
bounds-workers-w-in-loop-left c = turns_worker c.loop-left.invariant c.lowest-w.ensures

pub turned-a-requires : goal.turned-a-requires
turned-a-requires c =
    let (p, f, z) = one_of c.loop-left.invariant in
    turns_notable f z c.lowest-w.ensures

pub loop-left-preserved : goal.loop-left-preserved
loop-left-preserved c =
    let low = c.lowest-w.ensures in
    go_on c.loop-left.invariant (λ p f z.
    turns_next f z low (c.turn-after.ensures _ (turns_turning f z low)) c.turned-a.ensures c.rest-left.ensures)

pub rested-a-requires : goal.rested-a-requires
rested-a-requires c =
    let (p, f, z) = one_of c.loop-left.invariant in
    omega (arith, turns_early f z, turns_restable f z (omega arith))

pub returns-then-done_of-first_of : goal.returns-then-done_of-first_of
returns-then-done_of-first_of c =
    λ p g.
    let e = sym c.done_of.ensures.0 ∙ (c.if-done_of-first_of.true ∙ c.first_of.ensures.0) in
    rw c.rested-a.ensures
    (turns_over (fitted g) (c.loop-left.invariant.all p g) (omega arith) e)

pub loop-left-2-init : goal.loop-left-2-init
loop-left-2-init c =
    rw c.rested-a.ensures
    (go_on c.loop-left.invariant (λ p f z. turns_lays f z (omega arith)
    (λ e. c.if-done_of-first_of.false (c.done_of.ensures.0 ∙ (e ∙ sym c.first_of.ensures.0)))))

pub bounds-choices-cursor : goal.bounds-choices-cursor
bounds-choices-cursor c =
    let (p, f, z) = one_of c.loop-left-2.invariant in
    (lays_known f z c.lowest-w-in-loop-left-2.ensures).1

pub overflow_cast-workers : goal.overflow_cast-workers
overflow_cast-workers c =
    let (p, f, z) = one_of c.loop-left-2.invariant in
    omega (arith, lays_known f z c.lowest-w-in-loop-left-2.ensures)

pub offset_bounds-workers-w-in-loop-left-2 : goal.offset_bounds-workers-w-in-loop-left-2
offset_bounds-workers-w-in-loop-left-2 c =
    let (p, f, z) = one_of c.loop-left-2.invariant in
    omega (arith, lays_known f z c.lowest-w-in-loop-left-2.ensures)

pub bounds-workers-w-in-loop-left-2 : goal.bounds-workers-w-in-loop-left-2
bounds-workers-w-in-loop-left-2 c =
    let (p, f, z) = one_of c.loop-left-2.invariant in
    (lays_known f z c.lowest-w-in-loop-left-2.ensures).0

pub lay-a-requires : goal.lay-a-requires
lay-a-requires c =
    let (p, f, z) = one_of c.loop-left-2.invariant in
    ((_, lays_lining f z c.lowest-w-in-loop-left-2.ensures c.from.ensures), lays_countable f z)

pub onward-cursor-requires : goal.onward-cursor-requires
onward-cursor-requires c =
    let (p, f, z) = one_of c.loop-left-2.invariant in
    let k = lays_known f z c.lowest-w-in-loop-left-2.ensures in
    (k.1, k.2)

pub loop-left-2-preserved : goal.loop-left-2-preserved
loop-left-2-preserved c =
    let low = c.lowest-w-in-loop-left-2.ensures in
    let v = c.from.ensures in
    let (lined, beside, noted) = c.lay-a.ensures in
    go_on c.loop-left-2.invariant (λ p f z. rw (← v)
    (lays_next f z low v (lined _ (lays_lining f z low v)) beside noted c.onward-cursor.ensures c.rest-left-in-loop-left-2.ensures))

pub loop-left-3-init : goal.loop-left-3-init
loop-left-3-init c = go_on c.loop-left-2.invariant (λ p f z. lays_serves f z (omega arith))

pub loop-w-smaller : goal.loop-w-smaller
loop-w-smaller c =
    let (p, f, z) = one_of c.loop-w.invariant in omega (arith, between_early f z)

pub loop-w-preserved : goal.loop-w-preserved
loop-w-preserved c = go_on c.loop-left-3.invariant (λ p f z. serves_round f z (omega arith))

pub serve-who-requires : goal.serve-who-requires
serve-who-requires c =
    let (p, f, z) = one_of c.loop-left-3.invariant in
    ((_, serves_serving f z c.lowest-v.ensures), (_, serves_dequed f z c.lowest-v.ensures))

pub offset_bounds-workers-who : goal.offset_bounds-workers-who
offset_bounds-workers-who c =
    let (p, f, z) = one_of c.loop-left-3.invariant in
    let gone = c.serve-who.ensures.0 _ (serves_serving f z c.lowest-v.ensures) in
    omega (arith, gone.known)

pub bounds-workers-who : goal.bounds-workers-who
bounds-workers-who c =
    let (p, f, z) = one_of c.loop-left-3.invariant in
    (c.serve-who.ensures.0 _ (serves_serving f z c.lowest-v.ensures)).known

pub loop-left-3-preserved : goal.loop-left-3-preserved
loop-left-3-preserved c =
    let low = c.lowest-v.ensures in
    let (gone, beside, took, noted) = c.serve-who.ensures in
    rw c.thief.ensures (go_on c.loop-left-3.invariant (λ p f z.
    serves_next f z low (gone _ (serves_serving f z low)) beside (took _ (serves_dequed f z low)) refl noted c.rest-left-in-loop-left-3.ensures))
