-- The pool once a worker that finished an action has what it is left with.
--   p, s, ws, i, after, ok, act == the plan, the state, its workers, the action's position, what is done after it, that the plan is accepted,
--                     and the action as the theory of lines has it
--   handed_self, handed_other == the job that the worker then has does not wait; a job that is neither that one nor the one it had waits as it did
--   handed_none, held_none == nor does the job that it had, if it is not free; it did not before
--   acted          == what was acted, from what the worker is left as
--   between_pooled == the pool, where the action spawned none
--   act_small, act_place == the job's number and the action's place are small
--   act_settles    == the action spawns none
--   act_child, act_room, act_heavier, act_spawns == it spawns one: the child, its count, its weight, and what is left
--   settle_ending, settle_lighter, settle_ends == it spawns none and the job ends
--   settle_room, settle_goes, settle_stalls == .. the job goes on, or stalls
use Prim.Native.Nat.{ℕ, suc, ◌+◌, ◌-◌, ◌≤◌, ◌<◌}
use mathlib.Core.Path.{◌≡◌, refl, ap, sym, ◌∙◌}
use mathlib.Core.Logic.{◌≢◌, by_cases}
use mathlib.Core.Bool.{true, false}
use mathlib.Core.List.{List}
use native.Mathlib.Omega.{arith}
use native.Mathlib.Decide.{ℕ_discrete}
use lib.Dec.{T}
use lib.ListN.{length, get_or, set}
use lib.Seq.{get_or-set_same, get_or-set_other}
use Rattle.plan.specs.Plan.{Plan, size, action}
use Rattle.plan.specs.Rules.{Accepted}
use Rattle.plan.specs.declared.sheet.Sheet.{Sheet}
use Rattle.plan.specs.Sheet.{frame_of, first_of, child_at}
use Rattle.plan.proofs.Laws.Lists.{true_of, false_of}
use Rattle.plan.proofs.Laws.Counts.{equal_tests}
use Rattle.plan.proofs.Laws.Laid.{laid_end, laid_child}
use Rattle.plan.proofs.Laws.Placed.{place_below}
use Rattle.plan.proofs.Laws.Valid.{jobs_range, frame_range, total_range, older, spawned_once_lem}
use Rattle.courses.specs.Row.{place}
use Rattle.courses.specs.Ready.{ready, weight}
use Rattle.courses.proofs.Laws.PlanShape.{shape, shape_valid, ready_by}
use Rattle.lines.proofs.Laws.Act.{Act, spawner_goes, goes_lives}
use Rattle.runs.specs.declared.worker.Worker.{Worker}
use Rattle.runs.specs.declared.worker.Worker.TheVariants.{Idle, Holding}
use Rattle.runs.proofs.Laws.Coursed.{hands_in, hands_of}
use Rattle.pools.specs.State.{State, next_of}
use Rattle.pools.specs.Take.{waits}
use Rattle.pools.specs.Turn.{hand_after, finished}
use Rattle.pools.proofs.Laws.Passing.{hand_spawn, hand_goes, hand_stalls}
use Rattle.pools.proofs.Laws.Tests.{Free, waits_is, waits_by}
use Rattle.pool_set.specs.declared.Pool.{Pool}
use Rattle.pool_set.specs.Pool.{pooled, children_of, Put, Counted}
use Rattle.turns.specs.declared.turn.Turned.{Turned}
use Rattle.turns.specs.declared.progress.Progress.{Progress}
use Rattle.turns.specs.Progress.{missing_at, missing_to, Progressed}
use Rattle.turns.proofs.Laws.Missing.{missing_ready, ready_missing}
use Rattle.turns.proofs.Laws.Weights.{weight_small, weight_spawn, weight_end, weight_same}
use Rattle.pool_turns.specs.Pooled.{heirs, Counts, Pooled}
use Rattle.pool_turns.specs.Moments.{Moment, Held, Weighed, Between, Sent, Settling, Ending, Buried, Acted, after_of, unspent}
use Rattle.pool_turns.proofs.Laws.Heirs.{heirs_most, heirs_spawn, heirs_spawn_other, heirs_same}
use Rattle.pool_turns.proofs.Laws.Running.{run_manned, held_hand, held_act, held_seat}
use Rattle.pool_turns.proofs.Laws.Sending.{put_here, put_other}

module _ {k j : ℕ} {plan : Sheet} {m : Moment} (a : Held k j plan m) where
  abbrev pub p : Plan
  p = m.plan

  abbrev pub s : State
  s = m.state

  abbrev pub ws : List Worker
  ws = s.workers

  abbrev pub i : ℕ
  i = next_of s j

  abbrev pub after : List ℕ
  after = after_of m j

  pub ok : Accepted p
  ok = a.planned.rules

  pub act : Act (shape p) (next_of s) (λ h. get_or after h 0) j
  act = held_act a

  -- the workers where this one is y
  module _ (y : Worker) where
    abbrev ws' : List Worker
    ws' = set ws m.worker y

    here : hands_of ws' m.worker ≡ hands_in y
    here = ap hands_in (get_or-set_same ws m.worker y Idle (held_seat a))

    there : (w : ℕ) → w ≢ m.worker → hands_of ws' w ≡ hands_of ws w
    there w f = ap hands_in (get_or-set_other ws m.worker w y Idle f)

    pub handed_self : (x : ℕ) → x < length p → hands_in y ≡ suc x → waits p after ws' x ≡ false
    handed_self x h e = false_of _ (λ t. (waits_is p ok after ws' x h t).unheld m.worker (here ∙ e))

    -- nobody but this worker holds a job other than j, before or after
    pub handed_other : (x : ℕ) → x < length p → x ≢ j → hands_in y ≢ suc x → waits p after ws' x ≡ waits p after ws x
    handed_other x h f g =
        equal_tests (waits p after ws' x) (waits p after ws x)
        (λ t.
        let z = waits_is p ok after ws' x h t in
        waits_by p ok after ws x (record { living = z.living; ready = z.ready; unheld = old z.unheld }))
        (λ n t. n (
        let z = waits_is p ok after ws x h t in
        waits_by p ok after ws' x (record { living = z.living; ready = z.ready; unheld = new z.unheld })))
      where
        old : ((w : ℕ) → hands_of ws' w ≢ suc x) → (w : ℕ) → hands_of ws w ≢ suc x
        old u w e = by_cases (ℕ_discrete w m.worker)
            (λ z. f (omega (arith, held_hand a, ap (hands_of ws) z))) (λ z. u w (there w z ∙ e))

        new : ((w : ℕ) → hands_of ws w ≢ suc x) → (w : ℕ) → hands_of ws' w ≢ suc x
        new u w e = by_cases (ℕ_discrete w m.worker)
            (λ z. g (sym here ∙ ap (hands_of ws') (sym z) ∙ e)) (λ z. u w (sym (there w z) ∙ e))

    -- job j itself, where it does not live on, or is not ready
    pub handed_none : (Free p after ws' j → ⊥) → waits p after ws' j ≡ false
    handed_none f = false_of _ (λ t. f (waits_is p ok after ws' j act.lives.below t))

  -- j is held, so that it does not wait
  pub held_none : waits p after ws j ≡ false
  held_none = false_of _ (λ t. (waits_is p ok after ws j act.lives.below t).unheld m.worker (held_hand a))

  -- what was acted, from what the worker is left as
  pub acted : (x : Turned) → x.worker ≡ hand_after p after ws j i → x.weight ≡ weight p after → {progress : Progress} {pool : Pool}
      → Progressed p after (unspent p) progress → Pooled p after (set ws m.worker x.worker) pool → Acted j x progress pool m
  unfolding finished
  acted x e w g q = record {
    worker = e ∙ sym (get_or-set_same ws m.worker (hand_after p after ws j i) Idle (held_seat a));
    weighed = w;
    progressed = g;
    pooled = rw e at q;
  }

  -- the pool where the action spawned none and the worker is y, which has no other job than j
  pub between_pooled : {pool : Pool} → Between j pool m → (action p j i).spawn ≡ 0 → (y : Worker)
      → ((x : ℕ) → hands_in y ≡ suc x → x ≡ j) → waits p after (set ws m.worker y) j ≡ false → {pool' : Pool}
      → ((x : ℕ) → x < 256 → pooled pool' x ≡ pooled pool x) → Counts p after pool'
      → Pooled p after (set ws m.worker y) pool'
  between_pooled g none y own out same counts = record {
    waiting = λ x h. same x (omega (arith, jobs_range p ok)) ∙ g.waiting x h (λ e. omega arith) ∙ by_cases (ℕ_discrete x j)
        (λ z. rw z (held_none ∙ sym out)) (λ z. sym (handed_other y x h z (λ e. z (own x e))));
    past = λ x h l. same x l ∙ g.past x h l;
    counts = counts;
  }

-- the action is done
module _ {k j weighs : ℕ} {plan : Sheet} {progress : Progress} {pool : Pool} {m : Moment} (g : Weighed k j weighs plan progress pool m) where
  abbrev b : Held k j plan m
  b = g.acting.held

  child_is : child_at plan k ≡ (action (p b) j (i b)).spawn
  child_is = rw b.here (laid_child plan (p b) b.planned.laid j (act b).lives.below (i b) (act b).lives.left)

  pub act_settles : {progress' : Progress} {pool' : Pool} (x : ℕ) → x ≡ child_at plan k → x ≡ 0 → Sent j progress' pool' m
      → Settling k j weighs plan progress' pool' m
  act_settles x e z sent = record { held = b; weighed = g.weighed; sent = sent; none = sym child_is ∙ (sym e ∙ z) }

  pub act_small : j < 256
  act_small = omega (arith, (act b).lives.below, jobs_range (p b) (ok b))

  pub act_place : k < 2048
  act_place =
      omega (arith, b.here, place_below (p b) j (i b) (act b).lives.below (act b).lives.left, total_range (p b) (ok b))

  -- it spawns job c
  module _ (x c : ℕ) (z : x ≡ child_at plan k) (f : x ≢ 0) (y : c ≡ x - 1) where
    spawns : (action (p b) j (i b)).spawn ≡ suc c
    spawns = omega (arith, child_is)

    pub act_child : (c < length (p b)) × (c < 256) × (j < c)
    act_child =
        let (o, h, e, t) = spawned_once_lem (p b) (ok b) j (i b) c (act b).lives.below (act b).lives.left spawns in
        omega (arith, jobs_range (p b) (ok b), older (p b) (ok b) c o h)

    more : suc (i b) < size (p b) j
    more = omega (arith, (spawner_goes (act b) (shape_valid (p b) (ok b)) c spawns).left, (act b).acts)

    pub act_heavier : weighs + frame_of plan c < 4294967296
    act_heavier =
        omega (
          arith,
          g.weighed,
          b.planned.laid.frames c act_child.0,
          frame_range (p b) (ok b) c act_child.0,
          weight_small (p b) (ok b) (s b).next,
        )

    module _ {progress' : Progress} {pool₁ pool₂ : Pool} (sent : Sent j progress' pool₁ m) (put : Put j true pool₁ pool₂) where
      counted : children_of pool₂ j ≡ heirs (p b) (s b).next j
      counted = put.same j ∙ sent.between.counts j (act b).lives.below

      pub act_room : children_of pool₂ j < 256
      act_room =
          omega (
            arith,
            counted,
            heirs_spawn (ok b) (s b).next (act b) c spawns more,
            heirs_most (p b) (after b) j,
            jobs_range (p b) (ok b),
          )

      -- the spawner waits, and its worker has the child
      pub act_spawns : {pool₃ : Pool} → Counted j (suc (children_of pool₂ j)) pool₂ pool₃ → (t : Turned) → t.worker ≡ Holding c
          → t.weight ≡ weighs + frame_of plan c → Acted j t progress' pool₃ m
      act_spawns {pool₃} n t is w =
          let few = jobs_range (p b) (ok b) in
          acted b t (is ∙ sym (hand_spawn (p b) (after b) (ws b) j (i b) c spawns))
          (w ∙ omega (arith, g.weighed, b.planned.laid.frames c act_child.0, weight_spawn (ok b) (s b).next (act b) c spawns))
          sent.progressed (rw is (record {
            waiting = λ x h. n.same x (omega arith) ∙ by_cases (ℕ_discrete x j)
                (λ z. rw z (put_here put act_small ∙ sym waits_on))
                (λ z. put_other put x (omega arith) z ∙ by_cases (ℕ_discrete x c)
                (λ y. rw y (sent.between.unborn c spawns ∙ sym (handed_self b (Holding c) c act_child.0 refl)))
                (λ y. sent.between.waiting x h (λ e. y (omega (arith, spawns)))
                ∙ sym (handed_other b (Holding c) x h z (λ e. y (omega arith)))));
            past = λ x h l. n.same x l ∙ put_other put x l (λ z. omega (arith, (act b).lives.below)) ∙ sent.between.past x h l;
            counts = λ q h. by_cases (ℕ_discrete q j)
                (λ z. rw z (n.here ∙ ap suc counted ∙ sym (heirs_spawn (ok b) (s b).next (act b) c spawns more)))
                (λ z. n.others q z ∙ put.same q ∙ sent.between.counts q h
                ∙ sym (heirs_spawn_other (ok b) (s b).next (act b) c spawns more q z));
          }))
        where
          waits_on : waits (p b) (after b) (set (ws b) m.worker (Holding c)) j ≡ true
          waits_on =
              let goes = spawner_goes (act b) (shape_valid (p b) (ok b)) c spawns in
              true_of _ (waits_by (p b) (ok b) (after b) _ j (record {
                living = goes_lives (act b) goes.left;
                ready = goes.ready;
                unheld = λ v e. by_cases (ℕ_discrete v m.worker)
                    (λ y. omega (arith, act_child, sym (here b (Holding c)) ∙ ap (hands_of (ws' b (Holding c))) (sym y) ∙ e))
                    (λ y. y ((run_manned b.run).once v m.worker j (sym (there b (Holding c) v y) ∙ e) (held_hand b)));
              }))

-- it spawns none
module _ {k j weighs : ℕ} {plan : Sheet} {progress : Progress} {pool : Pool} {m : Moment} (g : Settling k j weighs plan progress pool m) where
  abbrev a' : Held k j plan m
  a' = g.held

  known : (j < length (p a')) × (i a' < size (p a') j)
  known = ((act a').lives.below, (act a').lives.left)

  next_first : first_of plan (j + 1) ≡ place (p a') j (size (p a') j)
  next_first = laid_end plan (p a') a'.planned.laid j known.0

  pub settle_small : (j < 256) × (k + 1 ≤ 2048)
  settle_small =
      omega (arith, known, jobs_range (p a') (ok a'), a'.here, place_below (p a') j (i a') known.0 known.1, total_range (p a') (ok a'))

  -- the job ended
  module _ (e : k + 1 ≡ first_of plan (j + 1)) where
    last : suc (i a') ≡ size (p a') j
    last = omega (arith, next_first, a'.here)

    lighter : weighs ≡ weight (p a') (after a') + frame_of plan j
    lighter =
        g.weighed ∙ omega (arith, weight_end (ok a') (s a').next (act a') last, a'.planned.laid.frames j known.0)

    pub settle_lighter : frame_of plan j ≤ weighs
    settle_lighter = omega (arith, lighter)

    pub settle_ending : Ending j plan pool m
    settle_ending = record { place = k; held = a'; between = g.sent.between; none = g.none; last = omega (arith, last) }

    pub settle_ends : (x : Turned) {pool' : Pool} → x.weight ≡ weighs - frame_of plan j → Buried j x.worker pool' m
        → Acted j x progress pool' m
    settle_ends x w d = acted a' x d.worker (omega (arith, lighter)) g.sent.progressed d.pooled

  -- or has an action more
  module _ (f : k + 1 ≢ first_of plan (j + 1)) where
    goes_on : suc (i a') < size (p a') j
    goes_on = omega (arith, next_first, a'.here, known)

    pub settle_room : k + 1 < 2048
    settle_room =
        omega (arith, a'.here, place_below (p a') j (suc (i a')) known.0 goes_on, total_range (p a') (ok a'))

    misses : missing_at progress (k + 1) ≡ missing_to (p a') (after a') j (suc (i a'))
    misses =
        let e : k + 1 ≡ place (p a') j (suc (i a')) = omega (arith, a'.here) in
        rw e (g.sent.progressed.misses j (suc (i a')) known.0 goes_on)

    same_weight : weighs ≡ weight (p a') (after a')
    same_weight = g.weighed ∙ sym (weight_same (ok a') (s a').next (act a') g.none (λ e. omega (arith, goes_on)))

    counts : Counts (p a') (after a') pool
    counts q h = g.sent.between.counts q h ∙ sym (heirs_same (ok a') (s a').next (act a') g.none goes_on q)

    left : (x : Turned) → x.worker ≡ hand_after (p a') (after a') (ws a') j (i a') → x.weight ≡ weighs
        → ((y : ℕ) → hands_in x.worker ≡ suc y → y ≡ j) → waits (p a') (after a') (set (ws a') m.worker x.worker) j ≡ false
        → Acted j x progress pool m
    left x e w own out =
        acted a' x e (w ∙ same_weight) g.sent.progressed
        (between_pooled a' g.sent.between g.none x.worker own out (λ y h. refl) counts)

    -- which is ready
    pub settle_goes : missing_at progress (k + 1) ≡ 0 → (x : Turned) → x.worker ≡ Holding j → x.weight ≡ weighs
        → Acted j x progress pool m
    settle_goes e x v w =
        let t = missing_ready (p a') (ok a') (after a') j (rw (act a').acts (sym misses ∙ e)) (λ y. absurd (omega (arith, (act a').acts))) in
        left x (v ∙ sym (hand_goes (p a') (after a') (ws a') j (i a') g.none goes_on t)) w
        (λ y z. omega (arith, ap hands_in v)) (rw v (handed_self a' (Holding j) j known.0 refl))

    -- or not
    pub settle_stalls : missing_at progress (k + 1) ≢ 0 → (x : Turned) → x.worker ≡ Idle → x.weight ≡ weighs
        → Acted j x progress pool m
    settle_stalls e x v w =
        let stuck : T (ready (p a') (after a') j) → ⊥ =
        λ t. e (misses ∙ rw (act a').acts at (ready_missing (p a') (ok a') (after a') j t)) in
        left x (v ∙ sym (hand_stalls (p a') (after a') (ws a') j (i a') g.none goes_on stuck)) w
        (λ y z. absurd (omega (arith, ap hands_in v))) (handed_none a' x.worker (λ free. stuck (stalls free)))
      where
        stalls : {ws : List Worker} → Free (p a') (after a') ws j → T (ready (p a') (after a') j)
        stalls free = ready_by (p a') (after a') (ok a') j free.ready (λ z. absurd (omega (arith, (act a').acts)))
