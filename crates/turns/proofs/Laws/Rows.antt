-- What a turn makes of the rows, and what is known of the arrays before it.
--   acts_rowed                   == the rows after an action is done
--   spent_progressed             == the progress where rounds are spent on an action
--   held_tag, turning_tag, turning_small == the worker's tag is that of one that holds a job; round and worker are small
--   held_some, turning_some      == and so it holds some job
--   turning_room                 == that job's next action stands where the arrays say, within the rows, and has rounds left
--   turning_goes                 == a round was spent on it, and it goes on
--   turning_acting, turning_taken == it was its last round; the row is written and the action done
use Prim.Native.Nat.{ℕ, ◌+◌, ◌≤◌, ◌<◌, suc}
use mathlib.Core.Path.{◌≡◌, refl, ap, sym, ◌∙◌}
use mathlib.Core.Logic.{◌≢◌, ⊎_elim, by_cases}
use mathlib.Core.Bool.{true, Bool, false}
use mathlib.Core.List.{List}
use native.Mathlib.Omega.{arith}
use denote.Enum.Declared.{tag_of}
use Rattle.runs.specs.contracts.worker.Worker.{the_type}
use lib.ListN.{length, length-set, set}
use lib.Seq.{get_or-set_same, get_or-set_other}
use Rattle.plan.specs.Plan.{Plan, size}
use Rattle.plan.specs.Rules.{Accepted}
use Rattle.plan.specs.declared.sheet.Sheet.{Sheet}
use Rattle.plan.specs.Sheet.{first_of, cost_at}
use Rattle.courses.specs.Row.{place}
use Rattle.runs.specs.declared.worker.Worker.{Worker}
use Rattle.runs.specs.declared.worker.Worker.TheVariants.{Idle, Holding, Waiting}
use Rattle.runs.specs.State.{State, next_of, holds, spent_of, worker_of}
use Rattle.runs.specs.Turn.{turn_of, worked, finished}
use Rattle.turns.specs.declared.turn.Turned.{Turned}
use Rattle.deques.specs.declared.Deque.{Deque}
use Rattle.turns.specs.declared.progress.Progress.{Progress}
use Rattle.turns.specs.Progress.{done_of, spent_at, with_spent, Spent, Progressed}
use Rattle.turns.specs.Rows.{word, with_row, Rowed}
use Rattle.turns.specs.Moments.{Moment, Acting, Acted, Turning, TurnTaken, Held}
use Rattle.courses.proofs.Laws.Course.{Core, next_in, place_apart, Acts, acted}
use Rattle.runs.proofs.Laws.Coursed.{turn_ends}
use Rattle.turns.proofs.Laws.Running.{run_counts}
use Rattle.turns.proofs.Laws.Held.{held_sound, held_job, held_room, held_cost, held_unpaid}
use native.Mathlib.Decide.{ℕ_discrete}
use borrow.Author.Tests.{ltb-true, ltb-false}
use Rattle.plan.proofs.Laws.Valid.{jobs_range}
use Rattle.runs.proofs.Laws.Turns.{cost_of, turn_worked, turn_finished}

-- the rows after an action
pub acts_rowed : {p : Plan} {r w j : ℕ} {c c' : Core} {rows : List ℕ} → Acts p r w j c c'
    → ((h : ℕ) → h < length p → next_in c h ≤ size p h) → place p j (next_in c j) < 2048 → Rowed p c.next c.rows rows
    → Rowed p c'.next c'.rows (with_row rows (place p j (next_in c j)) r w)
acts_rowed {p} {r} {w} {j} {c} {c'} {rows} a bound within rowed = record {
  long = length-set rows k (word r w) ∙ rowed.long;
  each = λ h i l b.
      ⊎_elim
      (λ e. rw (e.0, e.1, a.writes) (get_or-set_same rows k (word r w) 0 (omega (arith, rowed.long))))
      (λ e. rw e.1 (get_or-set_other rows k (place p h i) (word r w) 0 (apart h i l e.0) ∙ rowed.each h i l e.0))
      (acted a bound h i l b);
}
  where
    k : ℕ
    k = place p j (next_in c j)

    apart : (h i : ℕ) → h < length p → i < next_in c h → place p h i ≢ k
    apart h i l b e =
        let q = place_apart p h i j (next_in c j) l (omega (arith, bound h l)) a.known a.left e in
        omega (arith, ap (next_in c) q.0, q.1)

-- the progress where so many rounds are spent on job y's next action
pub spent_progressed : {p : Plan} {next spent : List ℕ} {progress : Progress} → Accepted p → Progressed p next spent progress
    → length spent ≡ length p → {y : ℕ} → y < length p → (n : ℕ) → Progressed p next (set spent y n) (with_spent progress y n)
spent_progressed {p} {next} {spent} {progress} ok g long {y} known n = record {
  sized = record { done = g.sized.done; spent = length-set progress.spent y n ∙ g.sized.spent; missing = g.sized.missing };
  counts = g.counts;
  spends = λ h l. by_cases (ℕ_discrete h y)
      (λ q. rw q (get_or-set_same progress.spent y n 0 (omega (arith, g.sized.spent, jobs_range p ok))
      ∙ sym (get_or-set_same spent y n 0 (omega arith))))
      (λ f. get_or-set_other progress.spent y h n 0 f ∙ (g.spends h l ∙ sym (get_or-set_other spent y h n 0 f)));
  misses = g.misses;
}

-- the tag of a worker that holds a job
pub held_tag : (x : Worker) → holds x ≡ true → tag_of the_type x ≡ 1
held_tag Idle e = let z : ◌≡◌ {A = ℕ} 0 1 = cc in absurd (omega arith)
held_tag (Holding j) e = refl
held_tag (Waiting v l) e = let z : ◌≡◌ {A = ℕ} 0 1 = cc in absurd (omega arith)

pub held_some : (x : Worker) → holds x ≡ true → ((j : ℕ) → x ≡ Holding j → ⊥) → ⊥
held_some Idle e none = cc
held_some (Holding j) e none = none j refl
held_some (Waiting v l) e none = cc

module _ {x : Worker} {r w weighs : ℕ} {plan : Sheet} {progress : Progress} {deques : List Deque} {rows : List ℕ} {m : Moment}
    (t : Turning x r w weighs plan progress deques rows m) where
  pub turning_tag : tag_of the_type x ≡ 1
  turning_tag = held_tag x t.holding

  pub turning_some : ((j : ℕ) → x ≡ Holding j → ⊥) → ⊥
  turning_some = held_some x t.holding

  pub turning_small : (r < 65536) × (w < 16)
  turning_small = omega (arith, (run_counts t.run).0, t.now_in, t.known, t.run.most)

  -- the worker holds job j, whose number is read as y
  module _ {j y : ℕ} (is : x ≡ Holding j) (e : y ≡ j) where
    abbrev p : Plan
    p = m.setting.plan

    abbrev s : State
    s = m.state

    holding : worker_of s w ≡ Holding y
    holding = sym t.here ∙ (is ∙ ap Holding (sym e))

    held_at : {k : ℕ} → k ≡ place p y (next_of s y) → Held k y w plan m
    held_at here = record { run = t.run; known = t.known; holding = holding; planned = t.planned; here = here }

    module _ {f d : ℕ} (first : f ≡ first_of plan y) (done : d ≡ done_of progress y) where
      here : f + d ≡ place p y (next_of s y)
      here =
          let known = (held_job (held_at refl)).0 in
          omega (arith, t.planned.laid.firsts y (omega arith), t.progressed.counts y known)

      held : Held (f + d) y w plan m
      held = held_at here

      spends : spent_at progress y ≡ spent_of s y
      spends = t.progressed.spends y (held_job held).0

      pub turning_room : (y < 256) × (f + d < 2048) × (spent_at progress y < cost_at plan (f + d)) × (cost_at plan (f + d) ≤ 15)
      turning_room = omega (arith, held_room held, held_unpaid held, spends)

      -- a round was spent on the action, of which `more` tells whether it goes on
      module _ {more : Bool} {progress' : Progress} (spent : Spent y (f + d) plan progress more progress') where
        -- the progress after it, where so many rounds are spent on the job's next action
        spent_progress : (n : ℕ) → progress' ≡ with_spent progress y n → Progressed p s.next (set s.spent y n) progress'
        spent_progress n eq = rw eq (spent_progressed t.planned.rules t.progressed (held_sound held).spents (held_job held).0 n)

        -- the action goes on
        pub turning_goes : more ≡ true → (after : Turned) → after.worker ≡ x → after.weight ≡ weighs
            → TurnTaken x w after progress' deques rows m
        unfolding turn_of worked
        turning_goes so after same weight =
            let z : x ≡ Holding y = is ∙ ap Holding (sym e) in
            let left : suc (spent_of s y) < cost_of p y s =
            omega (arith, ltb-true (suc (spent_at progress y)) (cost_at plan (f + d)) (sym spent.told ∙ so), spends, held_cost held) in
            let noted : progress' ≡ with_spent progress y (suc (spent_of s y)) =
            spent.noted ∙ rw so (ap (λ n. with_spent progress y (suc n)) spends) in
            let q : turn_of p m.round w x s ≡ worked p m.round y s =
            ap (λ v. turn_of p m.round w v s) z ∙ turn_worked p m.round w y s left in
            record {
              left = rw q (record {
                worker = same ∙ t.here;
                weighed = weight ∙ t.weighed;
                progressed = spent_progress (suc (spent_of s y)) noted;
                dequed = t.dequed;
              });
              rowed = rw q t.rowed;
            }

        -- this is its last round
        module _ (no : more ≡ false) where
          pub turning_acting : Acting (f + d) y w weighs plan progress' deques m
          turning_acting = record {
            sending = record { held = held; progressed = spent_progress 0 (spent.noted ∙ rw no refl); dequed = t.dequed };
            weighed = t.weighed;
          }

          pub turning_taken : {after : Turned} {progress'' : Progress} {deques' : List Deque} → Acted y w after progress'' deques' m
              → TurnTaken x w after progress'' deques' (with_row rows (f + d) r w) m
          unfolding turn_of
          turning_taken left =
              let sound = held_sound held in
              let z : x ≡ Holding y = is ∙ ap Holding (sym e) in
              let less : cost_of p y s ≤ suc (spent_of s y) =
              omega (arith, ltb-false (suc (spent_at progress y)) (cost_at plan (f + d)) (sym spent.told ∙ no), spends, held_cost held) in
              let acts = (turn_ends sound m.round w holding).acts in
              let q : turn_of p m.round w x s ≡ finished p m.round w y s =
              ap (λ v. turn_of p m.round w v s) z ∙ turn_finished p m.round w y s less in
              record {
                left = rw q left;
                rowed = rw (q, here, t.now_in) (acts_rowed acts sound.good.closed.bound (omega (arith, here, turning_room)) t.rowed);
              }
