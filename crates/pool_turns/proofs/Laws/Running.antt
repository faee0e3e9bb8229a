-- What a moment of a run from a pool gives at a glance, and a job that is held at it.
--   run_fit, run_sized, run_manned == its plan and workers are let through, its lists are whole, and its hands are as the theory has them
--   run_small                      == the round and the counts are small
--   held_hand, held_act            == the worker has the job; the action, as the theory of lines has it
--   deed_of, held_finishing         == what finishing the action is given
--   held_seat                      == the worker is in the list
use Prim.Native.Nat.{ℕ, suc, ◌≤◌, ◌<◌}
use mathlib.Core.Path.{◌≡◌, ap}
use native.Mathlib.Omega.{arith}
use lib.ListN.{length, get_or}
use lib.Seq.{get_or-set_same, get_or-set_other}
use Rattle.plan.specs.Plan.{Plan}
use Rattle.plan.specs.declared.sheet.Sheet.{Sheet}
use Rattle.courses.proofs.Laws.Pool.{Manned}
use Rattle.courses.proofs.Laws.PlanShape.{shape}
use Rattle.lines.proofs.Laws.Act.{Act}
use Rattle.runs.proofs.Laws.Coursed.{hands_in, hands_of}
use Rattle.pools.specs.State.{State, next_of}
use Rattle.pools.proofs.Laws.Coursed.{Fit, Sized, trace_sized, trace_manned}
use Rattle.pools.proofs.Laws.Taking.{core}
use Rattle.pools.proofs.Laws.Whole.{counts_small}
use Rattle.turns.specs.declared.progress.Progress.{Progress}
use Rattle.turns.specs.Finish.{Deed, Finishing}
use Rattle.turns.specs.Progress.{Progressed}
use Rattle.pool_turns.specs.Moments.{Moment, At, after_of, unspent, Held}

module _ {m : Moment} (run : At m) where
  pub run_fit : Fit m.plan m.workers
  run_fit = record { plan = run.accepted; some = run.some; most = run.most }

  pub run_sized : Sized m.plan m.state
  run_sized = trace_sized run_fit run.trace

  pub run_manned : Manned m.plan m.workers m.worker (hands_of m.began) (hands_of m.state.workers) (core m.state)
  run_manned = trace_manned run_fit run.trace

  pub run_small : (m.round ≤ 30720) × (m.state.tally.actions ≤ 30720) × (m.state.tally.idle ≤ 491520)
  run_small = let k = run.known in counts_small run_fit run.trace (omega arith)

abbrev pub deed_of : Moment → ℕ → Deed
deed_of m j = record { plan = m.plan; next = m.state.next; spent = unspent m.plan }

module _ {k j : ℕ} {plan : Sheet} {m : Moment} (a : Held k j plan m) where
  abbrev p : Plan
  p = m.plan

  abbrev s : State
  s = m.state

  pub held_hand : hands_of s.workers m.worker ≡ suc j
  held_hand = ap hands_in a.holding

  pub held_act : Act (shape p) (next_of s) (λ h. get_or (after_of m j) h 0) j
  held_act =
      let o = run_manned a.run in
      let lives = o.lives m.worker j held_hand in
      record {
        closed = o.closed;
        lives = lives;
        ready = o.ready m.worker j held_hand;
        acts = get_or-set_same s.next j (suc (next_of s j)) 0 (omega (arith, (run_sized a.run).nexts, lives.below));
        others = λ h f. get_or-set_other s.next j h (suc (next_of s j)) 0 f;
      }

  pub held_finishing : {progress : Progress} → Progressed p s.next (unspent p) progress → Finishing k j plan progress (deed_of m j)
  held_finishing g = record { planned = a.planned; act = held_act; here = a.here; progressed = g }

  pub held_seat : m.worker < length s.workers
  held_seat = let k = a.run.known in omega (arith, (run_sized a.run).workers, a.run.most)
