-- A turn keeps a state sound: the worker's line becomes the one that the theory of lines gives it, and no other changes.
--   seat_of p s w j                  == worker w, which holds job j, and its deque after its turn
--   wakes_is, wakes_by, wakes_empty == rule 1's test is that of the theory, and a parent that is woken finds an empty deque
--   seat_spawn, seat_none           == rules 2 and 3; `stay` is the latter
--   turn_of_sound                    == a turn keeps a state sound
use Prim.Native.Nat.{ℕ, zero, suc, ◌≤◌, ◌<◌}
use mathlib.Core.Path.{◌≡◌, refl, ap, sym, ◌∙◌}
use mathlib.Core.Logic.{inl, inr, ◌≢◌, by_cases}
use mathlib.Core.Bool.{Bool, true, false}
use mathlib.Core.List.{List, [], ◌∷◌, cons-ne-nil}
use native.Mathlib.Omega.{arith}
use native.Mathlib.Decide.{ℕ_discrete}
use lib.Dec.{T, ltb, ltb→lt, lt→ltb}
use lib.ListN.{length, get_or, length-set}
use lib.Seq.{get_or-set_same, get_or-set_other}
use Rattle.runs.specs.declared.worker.Worker.{Worker}
use Rattle.runs.specs.declared.worker.Worker.TheVariants.{Idle, Holding, Waiting}
use Rattle.plan.specs.Test.{both}
use Rattle.plan.specs.Plan.{Plan, size, action, parent}
use Rattle.runs.specs.State.{State, next_of, worker_of, deque_of, spent_of}
use Rattle.courses.specs.Ready.{ready}
use Rattle.runs.specs.Turn.{wakes, woken, Seat, take_bottom, seat_after, idled, turn_of, worked, finished}
use Rattle.runs.specs.Parts.{after_of, above_of}
use Rattle.lines.proofs.Laws.Shape.{Living, Ready, Chain}
use Rattle.lines.proofs.Laws.Member.{put}
use Rattle.lines.proofs.Laws.Act.{Goes, goes?, Wakes, wakes?, Act, stalled}
use Rattle.lines.proofs.Laws.Turn.{turn_line, turn_spawn, turn_none, turn_good}
use Rattle.plan.proofs.Laws.Lists.{both_intro, both_left, both_right}
use Rattle.plan.specs.Rules.{Accepted}
use Rattle.courses.proofs.Laws.PlanShape.{shape, shape_valid, ready_is, ready_by}
use Rattle.runs.proofs.Laws.Lined.{line_in, line_of, Sound, line_of_lem, held_in, held_below, line_stored, line_other}
use Rattle.runs.proofs.Laws.Turns.{turn_cases}
use Rattle.runs.proofs.Laws.Waking.{woken_is, woken_by}

-- a test and a decision of one thing
module _ {A : Type 0} (b : Bool) (d : Dec A) (f : T b → A) (g : A → T b) where
  to_put : {q : ℕ} {l : List ℕ} (h : Bool → List ℕ) → h true ≡ q ∷ l → h false ≡ l → h b ≡ put d q l
  unfolding put
  to_put {q} {l} h yes-is no-is = go b d f g
    where
      go : (b : Bool) (d : Dec A) → (T b → A) → (A → T b) → h b ≡ put d q l
      go true (yes a) f g = yes-is
      go true (no n) f g = absurd (n (f tt))
      go false (yes a) f g = absurd (g a)
      go false (no n) f g = no-is

abbrev line_at : Seat → List ℕ
line_at t = line_in t.worker t.deque

bottom_line : (d : List ℕ) → line_at (take_bottom d) ≡ d
bottom_line [] = refl
bottom_line (j ∷ d) = refl

-- rule 3
abbrev pub stay : Bool → ℕ → List ℕ → Seat
stay true j d = record { worker = Holding j; deque = d }
stay false j d = take_bottom d

stay_empty : (b : Bool) (j : ℕ) (d : List ℕ) → line_at (stay b j d) ≡ [] → (stay b j d).deque ≡ []
stay_empty true j d e = absurd (cons-ne-nil j d e)
stay_empty false j [] e = refl
stay_empty false j (x ∷ d) e = absurd (cons-ne-nil x d e)

module _ (p : Plan) (after : List ℕ) (j i : ℕ) (d : List ℕ) where
  pub seat_spawn : {c : ℕ} → (action p j i).spawn ≡ suc c → seat_after p after j i d ≡ record { worker = Holding c; deque = j ∷ d }
  unfolding seat_after
  seat_spawn e = rw (seat_after, e)

  pub seat_none : (action p j i).spawn ≡ 0 → seat_after p after j i d ≡ stay (both (ltb (suc i) (size p j)) (ready p after j)) j d
  unfolding seat_after
  seat_none e = rw (seat_after, e) (go (both (ltb (suc i) (size p j)) (ready p after j)))
    where
      go : (b : Bool) → elim b as (λ x. Seat) [ true ↦ record { worker = Holding j; deque = d } | false ↦ take_bottom d ] ≡ stay b j d
      go true = refl
      go false = refl

  seat_empty : line_at (seat_after p after j i d) ≡ [] → (seat_after p after j i d).deque ≡ []
  seat_empty = go (action p j i).spawn refl
    where
      go : (x : ℕ) → (action p j i).spawn ≡ x → line_at (seat_after p after j i d) ≡ [] → (seat_after p after j i d).deque ≡ []
      go (suc c) e = rw (seat_spawn e) (λ q. absurd (cons-ne-nil c (j ∷ d) q))
      go zero e = rw (seat_none e) (stay_empty (both (ltb (suc i) (size p j)) (ready p after j)) j d)

abbrev pub seat_of : Plan → State → ℕ → ℕ → Seat
seat_of p s w j = seat_after p (after_of s j) j (next_of s j) (above_of p s w j)

pub others : (s : State) (j k : ℕ) → k ≢ j → get_or (after_of s j) k 0 ≡ next_of s k
others s j k f = get_or-set_other s.next j k (suc (next_of s j)) 0 f

module _ {p : Plan} (ok : Accepted p) {n : ℕ} {s : State} (sound : Sound p n s) (w : ℕ) {j : ℕ} (holds : worker_of s w ≡ Holding j) where
  abbrev next' : ℕ → ℕ
  next' k = get_or (after_of s j) k 0

  me : Living (shape p) (next_of s) j × Ready (shape p) (next_of s) j
  me = sound.good.here w j (held_in s w holds)

  pub acted : next' j ≡ suc (next_of s j)
  acted = get_or-set_same s.next j (suc (next_of s j)) 0 (omega (arith, sound.nexts, me.0.below))

  pub action_of_lem : Act (shape p) (next_of s) next' j
  action_of_lem = record { closed = sound.good.closed; lives = me.0; ready = me.1; acts = acted; others = others s j }

  is : line_of s w ≡ j ∷ deque_of s w
  is = line_of_lem s w holds

  pub wakes_is : T (wakes p s.next (after_of s j) j (next_of s j)) → Wakes (shape p) (next_of s) next' j
  wakes_is = woken_is ok s.next (after_of s j) action_of_lem

  pub wakes_by : Wakes (shape p) (next_of s) next' j → T (wakes p s.next (after_of s j) j (next_of s j))
  wakes_by = woken_by ok s.next (after_of s j) action_of_lem

  pub wakes_empty : T (wakes p s.next (after_of s j) j (next_of s j)) → deque_of s w ≡ []
  wakes_empty t = go (deque_of s w) refl
    where
      go : (d : List ℕ) → deque_of s w ≡ d → deque_of s w ≡ []
      go [] e = e
      go (y ∷ d) e =
          let c : Chain (shape p) (j ∷ (y ∷ d)) = rw (is, e) at (sound.good.chain w) in
          absurd (stalled action_of_lem (wakes_is t) (sound.good.here w (parent p j) (rw (is, e) (inr (inl c.1)))).1)

  goes_is : T (both (ltb (suc (next_of s j)) (size p j)) (ready p (after_of s j) j)) → Goes (shape p) next' j
  goes_is t =
      let first = ltb (suc (next_of s j)) (size p j) in
      record {
        left = rw acted (ltb→lt (suc (next_of s j)) (size p j) (both_left first _ t));
        ready = ready_is p (after_of s j) ok j (both_right first _ t);
      }

  goes_by : Goes (shape p) next' j → T (both (ltb (suc (next_of s j)) (size p j)) (ready p (after_of s j) j))
  goes_by g =
      both_intro (ltb (suc (next_of s j)) (size p j)) _ (lt→ltb (suc (next_of s j)) (size p j) (rw acted at g.left))
      (ready_by p (after_of s j) ok j g.ready (λ z. absurd (omega (arith, acted))))

  seat_line : line_at (seat_of p s w j) ≡ turn_line (shape p) (next_of s) next' j (deque_of s w)
  seat_line = go (action p j (next_of s j)).spawn refl
    where
      up : List ℕ
      up = put (wakes? (shape p) (next_of s) next' j) (parent p j) (deque_of s w)

      above : above_of p s w j ≡ up
      above =
          to_put (wakes p s.next (after_of s j) j (next_of s j)) (wakes? (shape p) (next_of s) next' j) wakes_is wakes_by
          (λ b. woken b (parent p j) (deque_of s w)) refl refl

      go : (x : ℕ) → (action p j (next_of s j)).spawn ≡ x → line_at (seat_of p s w j) ≡ turn_line (shape p) (next_of s) next' j (deque_of s w)
      go (suc c) e =
          ap line_at (seat_spawn p (after_of s j) j (next_of s j) (above_of p s w j) e) ∙ ap (λ l. c ∷ (j ∷ l)) above
          ∙ sym (turn_spawn (shape p) (next_of s) next' j (deque_of s w) c e)
      go zero e =
          ap line_at (seat_none p (after_of s j) j (next_of s j) (above_of p s w j) e)
          ∙ to_put (both (ltb (suc (next_of s j)) (size p j)) (ready p (after_of s j) j)) (goes? (shape p) next' j) goes_is goes_by
          (λ b. line_at (stay b j (above_of p s w j))) refl (bottom_line (above_of p s w j))
          ∙ ap (put (goes? (shape p) next' j) j) above ∙ sym (turn_none (shape p) (next_of s) next' j (deque_of s w) e)

  -- the action goes on: what is done, the workers and the deques stay
  worked_sound : (r : ℕ) → Sound p n (worked p r j s)
  unfolding worked
  worked_sound r = record {
    nexts = sound.nexts;
    spents = length-set s.spent j (suc (spent_of s j)) ∙ sound.spents;
    workers = sound.workers;
    deques = sound.deques;
    rows = sound.rows;
    good = sound.good;
    empty = sound.empty;
    absent = sound.absent;
  }

  finished_sound : n ≤ 16 → (r : ℕ) → Sound p n (finished p r w j s)
  unfolding finished
  finished_sound most r =
      let b = held_below sound w holds in
      let hw : w < length s.workers = omega (arith, sound.workers) in
      let hd : w < length s.deques = omega (arith, sound.deques) in
      let seat = seat_of p s w j in
      let mine = line_stored s.workers s.deques w seat.worker seat.deque hw hd in
      let rest = line_other s.workers s.deques w seat.worker seat.deque in
      record {
        nexts = length-set s.next j (suc (next_of s j)) ∙ sound.nexts;
        spents = length-set s.spent j 0 ∙ sound.spents;
        workers = length-set s.workers w seat.worker ∙ sound.workers;
        deques = length-set s.deques w seat.deque ∙ sound.deques;
        rows = length-set s.rows _ _ ∙ sound.rows;
        good = turn_good (shape_valid p ok) action_of_lem sound.good
            (record { worker = w; deque = deque_of s w; first = is; mine = mine ∙ seat_line; rest = rest });
        empty = λ v e. by_cases (ℕ_discrete v w)
            (λ q. rw q (get_or-set_same s.deques w seat.deque [] hd
            ∙ seat_empty p (after_of s j) j (next_of s j) (above_of p s w j) (sym mine ∙ rw q at e)))
            (λ f. get_or-set_other s.deques w v seat.deque [] f ∙ sound.empty v (sym (rest v f) ∙ e));
        absent = λ v h. get_or-set_other s.workers w v seat.worker Idle (λ q. omega arith) ∙ sound.absent v h;
      }

pub turn_of_sound : {p : Plan} → Accepted p → {n : ℕ} → n ≤ 16 → {s : State} → Sound p n s → (r w : ℕ) (k : Worker) → worker_of s w ≡ k
    → Sound p n (turn_of p r w k s)
unfolding turn_of idled
turn_of_sound {p} ok {n} most {s} sound r w k e = go k e
  where
    idle : Sound p n (idled r s)
    idle = record {
      nexts = sound.nexts;
      spents = sound.spents;
      workers = sound.workers;
      deques = sound.deques;
      rows = sound.rows;
      good = sound.good;
      empty = sound.empty;
      absent = sound.absent;
    }

    go : (k : Worker) → worker_of s w ≡ k → Sound p n (turn_of p r w k s)
    go Idle e = idle
    go (Holding j) e = turn_cases p r w j s (Sound p n) (λ h. worked_sound ok sound w e r) (λ h. finished_sound ok sound w e most r)
    go (Waiting v l) e = idle
