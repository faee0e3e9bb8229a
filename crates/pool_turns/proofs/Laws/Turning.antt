-- What a turn makes of the rows, and what is known of the objects before it.
--   turning_small                 == round and worker are small
--   turning_room                  == that job's next action stands where plan and progress say, within the rows
--   turning_acting, turning_taken == the row is written and the action done
--   having_small, having_place, having_cost == where the next action of a job stands, and its cost
use Prim.Native.Nat.{ℕ, ◌+◌, ◌<◌}
use mathlib.Core.Path.{◌≡◌, refl, ap, sym, ◌∙◌}
use mathlib.Core.List.{List}
use native.Mathlib.Omega.{arith}
use lib.ListN.{length, get_or}
use Rattle.plan.specs.Plan.{Plan, action}
use Rattle.plan.specs.declared.sheet.Sheet.{Sheet}
use Rattle.plan.specs.Sheet.{first_of, cost_at}
use Rattle.plan.proofs.Laws.Laid.{laid_cost}
use Rattle.plan.proofs.Laws.Placed.{place_below}
use Rattle.plan.proofs.Laws.Valid.{jobs_range, total_range}
use Rattle.courses.specs.Row.{place}
use Rattle.courses.proofs.Laws.Steps.{finished_ends}
use Rattle.runs.specs.declared.worker.Worker.{Worker}
use Rattle.runs.specs.declared.worker.Worker.TheVariants.{Holding}
use Rattle.pools.specs.State.{State, next_of, worker_of}
use Rattle.pools.specs.Turn.{turn_of, finished}
use Rattle.pools.proofs.Laws.Passing.{turn_finished}
use Rattle.pools.proofs.Laws.Taking.{core}
use Rattle.pool_set.specs.declared.Pool.{Pool}
use Rattle.turns.specs.declared.progress.Progress.{Progress}
use Rattle.turns.specs.declared.turn.Turned.{Turned}
use Rattle.turns.specs.Finish.{Deed}
use Rattle.turns.specs.Progress.{done_of}
use Rattle.turns.specs.Rows.{with_row}
use Rattle.turns.proofs.Laws.Rows.{acts_rowed}
use Rattle.pool_turns.specs.Moments.{Moment, Held, Weighed, Acted, Turning, TurnTaken, Having}
use Rattle.pool_turns.proofs.Laws.Running.{run_sized, run_manned, run_small, held_act}

module _ {x : Worker} {r w weighs : ℕ} {plan : Sheet} {progress : Progress} {pool : Pool} {rows : List ℕ} {m : Moment}
    (t : Turning x r w weighs plan progress pool rows m) where
  pub turning_small : (r < 65536) × (w < 16)
  turning_small = let k = t.run.known in omega (arith, run_small t.run, t.now_in, t.whose, t.run.most)

  -- the worker holds job j, whose number is read as y
  module _ {j y : ℕ} (is : x ≡ Holding j) (e : y ≡ j) where
    abbrev p : Plan
    p = m.plan

    abbrev s : State
    s = m.state

    holding : worker_of s m.worker ≡ Holding y
    holding = sym t.here ∙ (is ∙ ap Holding (sym e))

    held_at : {k : ℕ} → k ≡ place p y (next_of s y) → Held k y plan m
    held_at here = record { run = t.run; holding = holding; planned = t.planned; here = here }

    module _ {f d : ℕ} (first : f ≡ first_of plan y) (done : d ≡ done_of progress y) where
      known : y < length p
      known = (held_act (held_at refl)).lives.below

      here : f + d ≡ place p y (next_of s y)
      here = omega (arith, t.planned.laid.firsts y (omega (arith, known)), t.progressed.counts y known)

      held : Held (f + d) y plan m
      held = held_at here

      pub turning_room : (y < 256) × (f + d < 2048)
      turning_room =
          let left = (held_act held).lives.left in
          omega (
            arith,
            known,
            here,
            jobs_range p t.planned.rules,
            total_range p t.planned.rules,
            place_below p y (next_of s y) known left,
          )

      pub turning_acting : Weighed (f + d) y weighs plan progress pool m
      turning_acting = record { acting = record { held = held; progressed = t.progressed; pooled = t.pooled }; weighed = t.weighed }

      pub turning_taken : {after : Turned} {progress' : Progress} {pool' : Pool} → Acted y after progress' pool' m
          → TurnTaken x after progress' pool' (with_row rows (f + d) r w) m
      unfolding turn_of finished
      turning_taken left =
          let z : x ≡ Holding y = is ∙ ap Holding (sym e) in
          let a = held_act held in
          let sized = run_sized t.run in
          let ends = finished_ends p m.round m.worker y (core s) sized.nexts sized.rows a.lives.below a.lives.left in
          let q : turn_of p m.round m.worker x s ≡ finished p m.round m.worker y s =
          ap (λ v. turn_of p m.round m.worker v s) z ∙ turn_finished p m.round m.worker y s (t.last y z) in
          record {
            left = rw q left;
            rowed = rw (q, here, t.now_in, t.whose)
                (acts_rowed ends.acts (run_manned t.run).closed.bound (omega (arith, here, turning_room)) t.rowed);
          }

-- the next action of a job that a worker has
module _ {j : ℕ} {plan : Sheet} {progress : Progress} {d : Deed} (g : Having j plan progress d) where
  module _ {f n : ℕ} (first : f ≡ first_of plan j) (done : n ≡ done_of progress j) where
    at : f + n ≡ place d.plan j (get_or d.next j 0)
    at = omega (arith, g.known, g.planned.laid.firsts j (omega (arith, g.known)), g.progressed.counts j g.known)

    pub having_place : f + n < 2048
    having_place =
        omega (arith, at, place_below d.plan j (get_or d.next j 0) g.known g.left, total_range d.plan g.planned.rules)

    pub having_cost : cost_at plan (f + n) ≡ (action d.plan j (get_or d.next j 0)).cost
    having_cost = rw at (laid_cost plan d.plan g.planned.laid j g.known (get_or d.next j 0) g.left)

  pub having_small : j < 256
  having_small = omega (arith, g.known, jobs_range d.plan g.planned.rules)
