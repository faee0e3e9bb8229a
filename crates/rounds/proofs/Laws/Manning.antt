-- The workers and the account after a worker's turn, and after idle turns.
--   held_busy     == who holds a job is not idle
--   manned_turned == the workers and the account after idle turns and then the turn of one that holds a job
--   manned_rested == .. after idle turns alone
use Prim.Native.Nat.{ℕ, ◌<◌}
use mathlib.Core.Path.{◌≡◌, refl, sym, ap, ap₂, ◌∙◌}
use mathlib.Core.Bool.{true, false, true≢false}
use mathlib.Core.List.{List}
use lib.ListN.{length, set}
use lib.Seq.{get_or-set_same, set-get_or}
use Rattle.plan.specs.Plan.{Plan}
use Rattle.courses.specs.Ready.{weight}
use Rattle.runs.specs.declared.tally.Tally.{Tally}
use Rattle.runs.specs.declared.worker.Worker.{Worker}
use Rattle.runs.specs.declared.worker.Worker.TheVariants.{Idle, Holding, Waiting}
use Rattle.runs.specs.Tally.{with_action}
use Rattle.runs.specs.State.{State, worker_of, holds}
use Rattle.runs.specs.Turn.{turn_of, worked, finished}
use Rattle.crew.proofs.Laws.Crews.{crewed_mark}
use Rattle.turns.specs.declared.turn.Turned.{Turned}
use Rattle.turns.specs.Count.{with_idles}
use Rattle.turns.specs.Moments.{After}
use Rattle.deques.specs.declared.Deque.{Deque}
use Rattle.turns.specs.declared.progress.Progress.{Progress}
use Rattle.rounds.specs.declared.account.Account.{Account}
use Rattle.rounds.specs.Account.{is_idle, rested, TurnNoted}
use Rattle.rounds.proofs.Laws.Standing.{Manned}
use Rattle.rounds.proofs.Laws.Idling.{Idled}
use Rattle.runs.proofs.Laws.Turns.{turn_cases}

pub held_busy : (x : Worker) → holds x ≡ true → is_idle x ≡ false
held_busy Idle e = absurd (true≢false (sym e))
held_busy (Holding j) e = refl
held_busy (Waiting v l) e = refl

module _ (p : Plan) (r w : ℕ) (s : State) where
  turn_seats : (x : Worker) → holds x ≡ true → w < length s.workers
      → (turn_of p r w x s).workers ≡ set s.workers w (worker_of (turn_of p r w x s) w)
  unfolding turn_of worked finished
  turn_seats Idle e h = absurd (true≢false (sym e))
  turn_seats (Holding j) e h =
      turn_cases p r w j s (λ t. t.workers ≡ set s.workers w (worker_of t w)) (λ l. sym (set-get_or s.workers w Idle))
      (λ l. ap (set s.workers w) (sym (get_or-set_same s.workers w _ Idle h)))
  turn_seats (Waiting v l) e h = absurd (true≢false (sym e))

  turn_counts : (x : Worker) → holds x ≡ true → (turn_of p r w x s).tally ≡ with_action s.tally r (weight p (turn_of p r w x s).next)
  unfolding turn_of worked finished
  turn_counts Idle e = absurd (true≢false (sym e))
  turn_counts (Holding j) e = turn_cases p r w j s (λ t. t.tally ≡ with_action s.tally r (weight p t.next)) (λ l. refl) (λ l. refl)
  turn_counts (Waiting v l) e = absurd (true≢false (sym e))

module _ {p : Plan} {n gap : ℕ} {s t : State} (q : Idled gap s t) {a : Account} {workers : List Worker} (m : Manned n a workers p s) where
  -- worker w, which is x, takes its turn
  module _ (r w : ℕ) (x : Worker) (e : holds x ≡ true) (h : w < length s.workers) (k : w < n) where
    abbrev u : State
    u = turn_of p r w x t

    pub manned_turned : {after : Turned} {progress : Progress} {deques : List Deque} → After w after progress deques p u
        → {a' : Account} → TurnNoted a r w gap after.worker after.weight a' → Manned n a' (set workers w after.worker) p u
    manned_turned {after} l {a'} d = record {
      seated = rw m.seated seats;
      weighs = d.weighed ∙ l.weighed;
      counts = d.counts ∙ ap₂ (λ (c : Tally) (weighs : ℕ). with_idles (with_action c r weighs) r gap) m.counts l.weighed
          ∙ ap (λ (c : Tally). with_action c r (weight p u.next)) (sym q.counts) ∙ sym (turn_counts p r w t x e);
      holders = rw (← seats) (crewed_mark holds s.workers Idle after.worker m.holders h d.holders k);
      idlers = rw (← seats) (crewed_mark is_idle s.workers Idle after.worker m.idlers h d.idlers k);
    }
      where
        seats : set s.workers w after.worker ≡ u.workers
        seats =
            ap (set s.workers w) l.worker ∙ ap (λ (ws : List Worker). set ws w (worker_of u w)) (sym q.workers)
            ∙ sym (turn_seats p r w t x e (rw q.workers h))

  pub manned_rested : {r : ℕ} → t.tally.rounds ≡ r → Manned n (rested a r gap) workers p t
  manned_rested {r} e = record {
    seated = m.seated ∙ sym q.workers;
    weighs = m.weighs ∙ ap (weight p) (sym q.next);
    counts = ap (λ (c : Tally). with_idles c r gap) m.counts ∙ ap (λ (k : ℕ). with_idles s.tally k gap) (sym e) ∙ sym q.counts;
    holders = rw q.workers m.holders;
    idlers = rw q.workers m.idlers;
  }
