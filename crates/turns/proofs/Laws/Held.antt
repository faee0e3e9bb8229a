-- What is known where a worker is about to act: the plan, the state, the job and its action.
--   held_sound, held_act            == the state is sound; the action, as the theory of lines has it
--   held_job, held_room             == the job has an action left, and its number and place are small
--   held_target, held_spawn, held_cost == what the action sends and spawns, and its cost, from the plan
--   held_unpaid                     == it has rounds left, and takes few
--   held_next                       == how many of its actions are done after it
use Prim.Native.Nat.{ℕ, suc, ◌≤◌, ◌<◌}
use mathlib.Core.Path.{◌≡◌}
use native.Mathlib.Omega.{arith}
use lib.ListN.{length, get_or}
use Rattle.plan.specs.Plan.{Plan, size, action, total, spawn_at, parent}
use Rattle.plan.specs.declared.sheet.Sheet.{Sheet}
use Rattle.plan.specs.Sheet.{target_at, child_at, cost_at}
use Rattle.plan.proofs.Laws.Laid.{laid_target, laid_child, laid_cost}
use Rattle.plan.proofs.Laws.Placed.{place_below}
use Rattle.plan.proofs.Laws.Valid.{jobs_range, size_range, total_range}
use Rattle.runs.specs.State.{State, next_of, spent_of}
use Rattle.turns.specs.Moments.{Moment, Held, after_of}
use Rattle.runs.proofs.Laws.Coursed as Coursed
use Rattle.runs.proofs.Laws.Lined as Lined
use Rattle.runs.proofs.Laws.Lined.{Sound}
use Rattle.runs.proofs.Laws.TurnSound.{action_of_lem}
use Rattle.courses.proofs.Laws.PlanShape.{shape}
use Rattle.lines.proofs.Laws.Act.{Act}
use Rattle.turns.proofs.Laws.Running.{run_sound, run_fit}
use Rattle.plan.proofs.Laws.Spawning.{cost_in_range_lem}

module _ {k j w : ℕ} {plan : Sheet} {m : Moment} (a : Held k j w plan m) where
  abbrev p : Plan
  p = m.setting.plan

  abbrev s : State
  s = m.state

  pub held_sound : Sound p m.setting.workers s
  held_sound = run_sound a.run

  pub held_act : Act (shape p) (next_of s) (λ h. get_or (after_of s j) h 0) j
  held_act = action_of_lem a.planned.rules held_sound w a.holding

  pub held_job : (j < length p) × (next_of s j < size p j) × (1 ≤ j → spawn_at p j < next_of s (parent p j))
  held_job = Lined.held_job held_sound w a.holding

  pub held_room : (j < 256) × (k < total p) × (k < 2048) × (next_of s j < 255) × (w < 16)
  held_room =
      let ok = a.planned.rules in
      let (h, l, o) = held_job in
      let z = size_range p ok j h in
      let below = place_below p j (next_of s j) h l in
      omega (arith, jobs_range p ok, total_range p ok, a.here, a.known, a.run.most)

  pub held_target : target_at plan k ≡ (action p j (next_of s j)).join
  held_target = rw a.here (laid_target plan p a.planned.laid j held_job.0 (next_of s j) held_job.1)

  pub held_spawn : child_at plan k ≡ (action p j (next_of s j)).spawn
  held_spawn = rw a.here (laid_child plan p a.planned.laid j held_job.0 (next_of s j) held_job.1)

  pub held_cost : cost_at plan k ≡ (action p j (next_of s j)).cost
  held_cost = rw a.here (laid_cost plan p a.planned.laid j held_job.0 (next_of s j) held_job.1)

  -- it has rounds left, and takes few
  pub held_unpaid : (spent_of s j < cost_at plan k) × (cost_at plan k ≤ 15)
  held_unpaid =
      omega (
        arith,
        held_cost,
        Coursed.held_unpaid (run_fit a.run) a.run.trace w a.holding,
        cost_in_range_lem p a.planned.rules.range j held_job.0 (next_of s j) held_job.1,
      )

  pub held_next : get_or (after_of s j) j 0 ≡ suc (next_of s j)
  held_next = held_act.acts
