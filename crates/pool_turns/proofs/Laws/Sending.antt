-- The pool once an action is counted and its join sent: a parent that it wakes comes in.
--   put_here, put_other == a set in which one job was put
--   send_small          == the job's number is small
--   send_still          == no parent was woken
--   send_parent, send_added == one was, and came in
use Prim.Native.Nat.{ℕ, suc, ◌≤◌, ◌<◌}
use mathlib.Core.Path.{◌≡◌, refl, ap, sym, ◌∙◌}
use mathlib.Core.Logic.{◌≢◌, by_cases}
use mathlib.Core.Bool.{Bool, true, false}
use mathlib.Core.List.{List}
use native.Mathlib.Omega.{arith}
use native.Mathlib.Decide.{ℕ_discrete}
use borrow.Author.Tests.{eq-eqb, ne_eqb}
use lib.Dec.{T}
use lib.ListN.{length, get_or}
use Rattle.crew.specs.Crew.{whether}
use Rattle.plan.specs.Plan.{Plan, action, parent}
use Rattle.plan.specs.Rules.{Accepted}
use Rattle.plan.specs.declared.sheet.Sheet.{Sheet}
use Rattle.plan.specs.Sheet.{parent_of}
use Rattle.plan.proofs.Laws.Lists.{true_of, false_of, of_true}
use Rattle.plan.proofs.Laws.Counts.{equal_tests}
use Rattle.plan.proofs.Laws.Valid.{jobs_range, older, spawned_once_lem}
use Rattle.courses.proofs.Laws.PlanShape.{shape, shape_valid}
use Rattle.lines.proofs.Laws.Act.{Wakes, Act, stays, ready_stays, lived, was_ready, stalled, sender, parent_stays, not_born}
use Rattle.runs.specs.declared.worker.Worker.{Worker}
use Rattle.runs.proofs.Laws.Coursed.{hands_of}
use Rattle.runs.proofs.Laws.Waking.{woken_is, woken_by}
use Rattle.pools.specs.State.{State, next_of}
use Rattle.pools.specs.Take.{waits}
use Rattle.pools.proofs.Laws.Tests.{waits_is, waits_by}
use Rattle.pool_set.specs.declared.Pool.{Pool}
use Rattle.pool_set.specs.Pool.{pooled, Put}
use Rattle.turns.specs.declared.progress.Progress.{Progress}
use Rattle.turns.specs.Finish.{Finished}
use Rattle.pool_turns.specs.Moments.{Moment, Acting, Sent, after_of}
use Rattle.pool_turns.proofs.Laws.Running.{deed_of, run_manned, held_hand, held_act}

module _ {j : ℕ} {b : Bool} {pool pool' : Pool} (g : Put j b pool pool') where
  pub put_here : j < 256 → pooled pool' j ≡ b
  put_here h = g.each j h ∙ ap (λ t. whether t b (pooled pool j)) (eq-eqb j j refl)

  pub put_other : (x : ℕ) → x < 256 → x ≢ j → pooled pool' x ≡ pooled pool x
  put_other x h f = g.each x h ∙ ap (λ t. whether t b (pooled pool x)) (ne_eqb x j f)

module _ {k j : ℕ} {plan : Sheet} {progress : Progress} {pool : Pool} {m : Moment} (g : Acting k j plan progress pool m) where
  abbrev p : Plan
  p = m.plan

  abbrev s : State
  s = m.state

  abbrev ws : List Worker
  ws = s.workers

  abbrev after : List ℕ
  after = after_of m j

  ok : Accepted p
  ok = g.held.planned.rules

  act : Act (shape p) (next_of s) (λ h. get_or after h 0) j
  act = held_act g.held

  pub send_small : j < 256
  send_small = omega (arith, act.lives.below, jobs_range p ok)

  Woken : Type 0
  Woken = Wakes (shape p) (next_of s) (λ h. get_or after h 0) j

  -- a job that waits, before or after, is not j, which is held
  not_j : (x : ℕ) → ((w : ℕ) → hands_of ws w ≢ suc x) → x ≢ j
  not_j x f e = f m.worker (held_hand g.held ∙ ap suc (sym e))

  -- a job that the action did not spawn waits as before, unless it was woken
  same_waits : (x : ℕ) → x < length p → (action p j (next_of s j)).spawn ≢ suc x → (Woken → x ≢ parent p j) → waits p after ws x ≡ waits p s.next ws x
  unfolding Woken
  same_waits x h none calm =
      equal_tests (waits p after ws x) (waits p s.next ws x)
      (λ t.
      let f = waits_is p ok after ws x h t in
      let d = not_j x f.unheld in
      waits_by p ok s.next ws x (record {
        living = lived act (shape_valid p ok) x d none f.living;
        ready = was_ready act x d (λ (e, z). calm (record { sends = z ∙ ap (λ q. suc (next_of s q)) e; ready = rw e at f.ready }) e) f.ready;
        unheld = f.unheld;
      }))
      (λ n t. n (
      let f = waits_is p ok s.next ws x h t in
      let d = not_j x f.unheld in
      waits_by p ok after ws x (record {
        living = stays act x d f.living;
        ready = ready_stays act x d f.ready;
        unheld = f.unheld;
      })))

  -- what was spawned did not live before
  unborn : (x : ℕ) → (action p j (next_of s j)).spawn ≡ suc x → (j < x) × (x < length p) × (pooled pool x ≡ false)
  unborn x e =
      let (o, b, q, z) = spawned_once_lem p ok j (next_of s j) x act.lives.below act.lives.left e in (
        omega (arith, older p ok x o b),
        b,
        g.pooled.waiting x b
            ∙ false_of _ (λ t. not_born act (shape_valid p ok) x e (waits_is p ok s.next ws x b t).living),
      )

  module _ {woken : Bool} {progress' : Progress} (d : Finished j woken progress' (deed_of m j)) where
    pub send_still : woken ≡ false → Sent j progress' pool m
    unfolding Woken
    send_still e = record {
      progressed = d.progressed;
      between = record {
        waiting = λ x h none. g.pooled.waiting x h ∙ sym (same_waits x h none (λ y. absurd (calm y)));
        past = g.pooled.past;
        unborn = λ x z. (unborn x z).2;
        counts = g.pooled.counts;
      };
    }
      where
        calm : Woken → ⊥
        calm y =
            let t = woken_by ok s.next after act y in
            rw (sym d.told ∙ e) at t

    module _ (e : woken ≡ true) where
      wakes_it : Wakes (shape p) (next_of s) (λ h. get_or after h 0) j
      wakes_it = woken_is ok s.next after act (of_true _ (sym d.told ∙ e))

      raised : (1 ≤ j) × (parent p j < j) × (j < length p) × (j < 256)
      raised =
          let o = sender act (shape_valid p ok) wakes_it in
          let h = act.lives.below in
          (o, older p ok j o h, h, omega (arith, jobs_range p ok))

      module _ {q : ℕ} (y : q ≡ parent_of plan j) where
        is_parent : q ≡ parent p j
        is_parent = y ∙ g.held.planned.spawned.parents j raised.0 raised.2

        pub send_parent : q < 256
        send_parent = omega (arith, is_parent, raised)

        -- the parent was stalled, so that nobody had it
        comes : T (waits p after ws (parent p j))
        comes = waits_by p ok after ws (parent p j) (record {
          living = (parent_stays act (shape_valid p ok) raised.0).1;
          ready = wakes_it.ready;
          unheld = λ w f. stalled act wakes_it ((run_manned g.held.run).ready w (parent p j) f);
        })

        pub send_added : {pool' : Pool} → Put q true pool pool' → Sent j progress' pool' m
        unfolding Woken
        send_added {pool'} put = record {
          progressed = d.progressed;
          between = record {
            waiting = λ x h none. by_cases (ℕ_discrete x q)
                (λ z. rw z (put_here put send_parent ∙ sym (ap (waits p after ws) is_parent ∙ true_of _ comes)))
                (λ z. put_other put x (omega (arith, jobs_range p ok)) z ∙ g.pooled.waiting x h
                ∙ sym (same_waits x h none (λ w i. z (i ∙ sym is_parent))));
            past = λ x h l. put_other put x l (λ z. omega (arith, is_parent, raised)) ∙ g.pooled.past x h l;
            unborn = λ x z. let (above, b, out) = unborn x z in
                put_other put x (omega (arith, jobs_range p ok)) (λ i. omega (arith, is_parent, raised)) ∙ out;
            counts = λ x h. put.same x ∙ g.pooled.counts x h;
          };
        }
