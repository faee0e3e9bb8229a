-- Rule 1 of a turn over the arrays: the action is done, and a parent that it wakes goes on the deque.
--   deed_of m j                        == what is done at the moment m, where no round is spent on job j's next action any more
--   send_finishing, send_parent       == what finishing the action is given; the parent's number is small
--   send_still                        == it wakes no parent
--   send_pushing, send_wakes          == it does: the parent goes on the deque
use Prim.Native.Nat.{ℕ, ◌<◌}
use mathlib.Core.Path.{◌≡◌, sym, ◌∙◌}
use mathlib.Core.Bool.{Bool, true, false}
use mathlib.Core.List.{List, []}
use native.Mathlib.Omega.{arith}
use lib.Dec.{T}
use lib.Seq.{set-get_or}
use Rattle.plan.specs.Plan.{Plan, parent}
use Rattle.plan.specs.Rules.{Accepted}
use Rattle.plan.specs.declared.sheet.Sheet.{Sheet}
use Rattle.plan.specs.Sheet.{parent_of}
use Rattle.plan.proofs.Laws.Lists.{of_true}
use Rattle.plan.proofs.Laws.Valid.{older}
use Rattle.lines.proofs.Laws.Act.{sender}
use Rattle.courses.proofs.Laws.PlanShape.{shape_valid}
use Rattle.runs.specs.State.{State, next_of, deque_of}
use Rattle.runs.specs.Turn.{wakes}
use Rattle.runs.proofs.Laws.TurnSound.{wakes_is, wakes_empty}
use Rattle.deques.specs.declared.Deque.{Deque}
use Rattle.deques.specs.Dequed.{Pushing, Pushed}
use Rattle.turns.specs.declared.progress.Progress.{Progress}
use Rattle.turns.specs.Finish.{Deed, Finishing, Finished}
use Rattle.turns.specs.Moments.{Moment, Held, Sending, Sent, after_of, fresh_of}
use Rattle.turns.proofs.Laws.Held.{held_sound, held_act, held_job, held_room}

abbrev pub deed_of : Moment → ℕ → Deed
deed_of m j = record { plan = m.setting.plan; next = m.state.next; spent = fresh_of m.state j }

module _ {k j w : ℕ} {plan : Sheet} {progress : Progress} {deques : List Deque} {m : Moment}
    (g : Sending k j w plan progress deques m) where
  abbrev p : Plan
  p = m.setting.plan

  abbrev s : State
  s = m.state

  abbrev a : Held k j w plan m
  a = g.held

  ok : Accepted p
  ok = a.planned.rules

  pub send_finishing : Finishing k j plan progress (deed_of m j)
  send_finishing = record {
    planned = a.planned;
    act = held_act a;
    here = a.here;
    progressed = g.progressed;
  }

  module _ {woken : Bool} {progress' : Progress} (d : Finished j woken progress' (deed_of m j)) where
    pub send_still : woken ≡ false → Sent j w progress' deques m
    send_still e =
        let f : wakes p s.next (after_of s j) j (next_of s j) ≡ false = sym d.told ∙ e in
        record { progressed = d.progressed; dequed = rw (f, set-get_or s.deques w []) g.dequed }

    module _ (e : woken ≡ true) where
      wakes_it : T (wakes p s.next (after_of s j) j (next_of s j))
      wakes_it = of_true _ (sym d.told ∙ e)

      raised : (parent p j < j) × ((q : ℕ) → q ≡ parent_of plan j → q ≡ parent p j)
      raised =
          let o = sender (held_act a) (shape_valid p ok) (wakes_is ok (held_sound a) w a.holding wakes_it) in
          (older p ok j o (held_job a).0, λ q i. i ∙ a.planned.spawned.parents j o (held_job a).0)

      module _ {q : ℕ} (i : q ≡ parent_of plan j) where
        pub send_parent : q < 255
        send_parent = omega (arith, raised.1 q i, raised.0, held_room a)

        pub send_pushing : Pushing w q deques s.deques
        send_pushing =
            let e : deque_of s w ≡ [] = wakes_empty ok (held_sound a) w a.holding wakes_it in
            record {
              dequed = g.dequed;
              known = (held_room a).4;
              small = omega (arith, send_parent);
              below = λ y d c. let z : ◌≡◌ {A = ℕ} 0 1 = cc in absurd (omega arith);
            }

        pub send_wakes : {deques' : List Deque} → (Pushing w q deques s.deques → Pushed w q deques' s.deques) → Sent j w progress' deques' m
        send_wakes b =
            let c : wakes p s.next (after_of s j) j (next_of s j) ≡ true = sym d.told ∙ e in
            let z : q ≡ parent p j = raised.1 q i in
            record { progressed = d.progressed; dequed = rw (c, ← z) (b send_pushing) }
