-- Rules 2 and 3 of a turn over the arrays: what is left of the worker, its deque and the weight of the living frames.
--   aboves                                              == the deques after rule 1
--   act_settles                                         == the action spawns none, and rule 3 comes next
--   act_child, act_pushing, act_heavier, act_spawns     == rule 2: the child, the spawner's push, the child's weight, and what is left
--   settle_lighter, settle_ends                         == rule 3 where the job ended
--   settle_room, settle_goes, settle_stalls             == where it goes on, and where it stalls
use Prim.Native.Nat.{ℕ, suc, ◌+◌, ◌*◌, ◌-◌, ◌≤◌, ◌<◌}
use mathlib.Core.Path.{◌≡◌, refl, ap, sym, ◌∙◌}
use mathlib.Core.Logic.{◌≢◌}
use mathlib.Core.Bool.{Bool, true, false}
use mathlib.Core.List.{List, [], ◌∷◌}
use native.Mathlib.Omega.{arith}
use lib.Dec.{T, ltb, ltb→lt, lt→ltb}
use lib.ListN.{length, get_or, set}
use lib.Seq.{get_or-set_same, set-set}
use Rattle.plan.specs.Test.{both}
use Rattle.plan.specs.Plan.{Plan, size, action, parent}
use Rattle.plan.specs.Rules.{Accepted}
use Rattle.plan.specs.declared.sheet.Sheet.{Sheet}
use Rattle.plan.specs.Sheet.{frame_of, first_of, child_at}
use Rattle.plan.proofs.Laws.Lists.{both_intro, both_left, both_right, true_of, false_of}
use Rattle.plan.proofs.Laws.Laid.{laid_end}
use Rattle.plan.proofs.Laws.Placed.{place_below}
use Rattle.plan.proofs.Laws.Valid.{older, frame_range, jobs_range, total_range, spawned_once_lem, join_target}
use Rattle.runs.specs.declared.worker.Worker.TheVariants.{Idle, Holding}
use Rattle.runs.specs.State.{State, next_of, deque_of}
use Rattle.courses.specs.Row.{place}
use Rattle.courses.specs.Ready.{ready, weight}
use Rattle.runs.specs.Turn.{wakes, woken, Seat, take_bottom, finished}
use Rattle.turns.specs.declared.turn.Turned.{Turned}
use Rattle.deques.specs.declared.Deque.{Deque}
use Rattle.deques.specs.Dequed.{Dequed, Pushing, Pushed, TookBottom}
use Rattle.turns.specs.declared.progress.Progress.{Progress}
use Rattle.turns.specs.Progress.{missing_at, missing_to, Progressed}
use Rattle.turns.specs.Moments.{Moment, Held, Acting, Sent, Settling, Acted, after_of, above_of, fresh_of}
use Rattle.lines.proofs.Laws.Shape.{Chain}
use Rattle.courses.proofs.Laws.PlanShape.{shape}
use Rattle.runs.proofs.Laws.Deques.{sound_chain}
use Rattle.runs.proofs.Laws.TurnSound.{seat_of, stay, seat_spawn, seat_none, wakes_is}
use Rattle.turns.proofs.Laws.Missing.{missing_ready, ready_missing}
use Rattle.turns.proofs.Laws.Weights.{weight_small, weight_end, weight_same, weight_spawn}
use Rattle.turns.proofs.Laws.Held.{held_sound, held_act, held_job, held_room, held_spawn, held_next}

-- the deques after rule 1
abbrev pub aboves : ℕ → ℕ → Moment → List (List ℕ)
aboves j w m = set m.state.deques w (above_of m.setting.plan m.state w j)

module _ {k j w : ℕ} {plan : Sheet} {m : Moment} (a : Held k j w plan m) where
  abbrev p : Plan
  p = m.setting.plan

  abbrev s : State
  s = m.state

  ok : Accepted p
  ok = a.planned.rules

  stored : w < length s.deques
  stored = omega (arith, (held_sound a).deques, held_room a)

  -- what was acted, from the seat that the rules leave
  seated : (seat : Seat) → seat_of p s w j ≡ seat → (x : Turned) {progress : Progress} {deques : List Deque} → x.worker ≡ seat.worker
      → x.weight ≡ weight p (after_of s j) → Progressed p (after_of s j) (fresh_of s j) progress → Dequed deques (set s.deques w seat.deque)
      → Acted j w x progress deques m
  unfolding finished
  seated seat e x i z g d =
      record {
        worker = i ∙ (sym (ap (λ t. t.worker) e)
            ∙ sym (get_or-set_same s.workers w (seat_of p s w j).worker Idle (omega (arith, (held_sound a).workers, held_room a))));
        weighed = z;
        progressed = g;
        dequed = rw e d;
      }

  -- the bottom job of the worker's deque is of smaller number than the job that acts
  found_low : (x : ℕ) (d : List ℕ) → deque_of s w ≡ x ∷ d → x < j
  found_low x d e =
      let c : Chain (shape p) (j ∷ (x ∷ d)) = rw e at (sound_chain (held_sound a) w a.holding) in
      omega (arith, c.1, older p ok j c.0 (held_job a).0)

  -- and after rule 1 too
  above_low : (x : ℕ) (d : List ℕ) → get_or (aboves j w m) w [] ≡ x ∷ d → x < j
  above_low x d e =
      go (wakes p s.next (after_of s j) j (next_of s j)) refl (sym (get_or-set_same s.deques w (above_of p s w j) [] stored) ∙ e)
    where
      go : (v : Bool) → wakes p s.next (after_of s j) j (next_of s j) ≡ v → woken v (parent p j) (deque_of s w) ≡ x ∷ d → x < j
      go true y q =
          let k = wakes_is ok (held_sound a) w a.holding (rw y tt) in
          let o = (join_target p ok j (next_of s j) (next_of s (parent p j)) (held_job a).0 (held_job a).1 k.sends).0 in
          let e : parent p j ≡ x = cc in
          omega (arith, older p ok j o (held_job a).0)
      go false y q = found_low x d q

-- the worker is about to act
module _ {k j w weighs : ℕ} {plan : Sheet} {progress : Progress} {deques : List Deque} {m : Moment}
    (g : Acting k j w weighs plan progress deques m) where
  abbrev a : Held k j w plan m
  a = g.sending.held

  -- rule 3 comes next
  pub act_settles : {progress' : Progress} {deques' : List Deque} (x : ℕ) → x ≡ child_at plan k → x ≡ 0 → Sent j w progress' deques' m
      → Settling k j w weighs plan progress' deques' m
  act_settles x e z sent = record { held = a; weighed = g.weighed; sent = sent; none = sym (held_spawn a) ∙ (sym e ∙ z) }

  -- 2. the action spawns job c
  module _ (x c : ℕ) (i : x ≡ child_at plan k) (f : x ≢ 0) (y : c ≡ x - 1) where
    spawns : (action (p a) j (next_of (s a) j)).spawn ≡ suc c
    spawns = omega (arith, held_spawn a)

    pub act_child : (c < length (p a)) × (c < 256) × (j < c)
    act_child =
        let (o, b, e, t) = spawned_once_lem (p a) (ok a) j (next_of (s a) j) c (held_job a).0 (held_job a).1 spawns in
        omega (arith, jobs_range (p a) (ok a), older (p a) (ok a) c o b)

    -- the spawner goes on the bottom
    pub act_pushing : {progress' : Progress} {deques' : List Deque} → Sent j w progress' deques' m → Pushing w j deques' (aboves j w m)
    act_pushing sent = record {
      dequed = sent.dequed;
      known = (held_room a).4;
      small = omega (arith, act_child);
      below = λ x d q. omega (arith, above_low a x d q);
    }

    -- the weight has room for the child's frame
    pub act_heavier : (frame_of plan c ≤ 65535) × (weighs ≤ 256 * 65535)
    act_heavier =
        let z = act_child.0 in
        omega (arith, g.weighed, weight_small (p a) (ok a) (s a).next, a.planned.laid.frames c z, frame_range (p a) (ok a) c z)

    pub act_spawns : (t : Turned) {progress' : Progress} {deques' deques'' : List Deque} → t.worker ≡ Holding c
        → t.weight ≡ weighs + frame_of plan c
        → Sent j w progress' deques' m → Pushed w j deques'' (aboves j w m) → Acted j w t progress' deques'' m
    act_spawns t h z sent d =
        let above = above_of (p a) (s a) w j in
        seated a (record { worker = Holding c; deque = j ∷ above })
        (seat_spawn (p a) (after_of (s a) j) j (next_of (s a) j) above spawns) t h
        (omega (arith, g.weighed, a.planned.laid.frames c act_child.0, weight_spawn (ok a) (s a).next (held_act a) c spawns))
        sent.progressed (rw (set-set, get_or-set_same (s a).deques w above [] (stored a)) at d)

-- 3. it spawns none
module _ {k j w weighs : ℕ} {plan : Sheet} {progress : Progress} {deques : List Deque} {m : Moment}
    (g : Settling k j w weighs plan progress deques m) where
  abbrev p' : Plan
  p' = m.setting.plan

  abbrev s' : State
  s' = m.state

  known : (j < length p') × (next_of s' j < size p' j)
  known = let y = held_job g.held in (y.0, y.1)

  next_first : first_of plan (j + 1) ≡ place p' j (size p' j)
  next_first = laid_end plan p' g.held.planned.laid j known.0

  -- the job goes on
  abbrev goes : Bool
  goes = both (ltb (suc (next_of s' j)) (size p' j)) (ready p' (after_of s' j) j)

  stays : seat_of p' s' w j ≡ stay goes j (above_of p' s' w j)
  stays = seat_none p' (after_of s' j) j (next_of s' j) (above_of p' s' w j) g.none

  takes : (T goes → ⊥) → (x : Turned) {deques' : List Deque}
      → x.weight ≡ weight p' (after_of s' j) → TookBottom w x.worker deques' (aboves j w m) → Acted j w x progress deques' m
  takes f x z (v, d) =
      let e = get_or-set_same s'.deques w (above_of p' s' w j) [] (stored g.held) in
      let y : seat_of p' s' w j ≡ take_bottom (above_of p' s' w j) = stays ∙ ap (λ c. stay c j (above_of p' s' w j)) (false_of goes f) in
      seated g.held (take_bottom (above_of p' s' w j)) y x (rw e at v) z g.sent.progressed (rw (set-set, e) at d)

  -- it ended
  module _ (e : k + 1 ≡ first_of plan (j + 1)) where
    last : suc (next_of s' j) ≡ size p' j
    last = omega (arith, next_first, g.held.here)

    lighter : weighs ≡ weight p' (after_of s' j) + frame_of plan j
    lighter =
        g.weighed ∙ omega (arith, weight_end g.held.planned.rules s'.next (held_act g.held) last, g.held.planned.laid.frames j known.0)

    pub settle_lighter : frame_of plan j ≤ weighs
    settle_lighter = omega (arith, lighter)

    pub settle_ends : (x : Turned) {deques' : List Deque} → x.weight ≡ weighs - frame_of plan j
        → TookBottom w x.worker deques' (aboves j w m) → Acted j w x progress deques' m
    settle_ends x z =
        takes (λ t. omega (arith, last, ltb→lt (suc (next_of s' j)) (size p' j) (both_left (ltb (suc (next_of s' j)) (size p' j)) _ t))) x
        (omega (arith, lighter))

  -- or has an action more
  module _ (f : k + 1 ≢ first_of plan (j + 1)) where
    more : suc (next_of s' j) < size p' j
    more = omega (arith, next_first, g.held.here, known)

    pub settle_room : k + 1 < 2048
    settle_room =
        omega (arith, g.held.here, place_below p' j (suc (next_of s' j)) known.0 more, total_range p' g.held.planned.rules)

    misses : missing_at progress (k + 1) ≡ missing_to p' (after_of s' j) j (suc (next_of s' j))
    misses =
        let e : k + 1 ≡ place p' j (suc (next_of s' j)) = omega (arith, g.held.here) in
        rw e (g.sent.progressed.misses j (suc (next_of s' j)) known.0 more)

    same_weight : weighs ≡ weight p' (after_of s' j)
    same_weight = g.weighed ∙ sym (weight_same g.held.planned.rules s'.next (held_act g.held) g.none (λ e. omega (arith, more)))

    -- which is ready
    pub settle_goes : missing_at progress (k + 1) ≡ 0 → (x : Turned) → x.worker ≡ Holding j → x.weight ≡ weighs
        → Acted j w x progress deques m
    settle_goes e x v z =
        let d = held_next g.held in
        let t = both_intro (ltb (suc (next_of s' j)) (size p' j)) (ready p' (after_of s' j) j) (lt→ltb (suc (next_of s' j)) (size p' j) more)
        (missing_ready p' g.held.planned.rules (after_of s' j) j (rw d (sym misses ∙ e)) (λ y. absurd (omega arith))) in
        seated g.held (record { worker = Holding j; deque = above_of p' s' w j })
        (stays ∙ ap (λ c. stay c j (above_of p' s' w j)) (true_of goes t)) x v (z ∙ same_weight) g.sent.progressed g.sent.dequed

    -- or not
    pub settle_stalls : missing_at progress (k + 1) ≢ 0 → (x : Turned) {deques' : List Deque} → x.weight ≡ weighs
        → TookBottom w x.worker deques' (aboves j w m) → Acted j w x progress deques' m
    settle_stalls e x z =
        takes (λ t. e (misses ∙ rw (held_next g.held) at (ready_missing p' g.held.planned.rules (after_of s' j) j
        (both_right (ltb (suc (next_of s' j)) (size p' j)) _ t)))) x (z ∙ same_weight)
