-- A worker's turn, and the first half of a round (document 01, "Worker and round"; document 02, L5).
--   wakes            == rule 1's test; seat_after == what rules 2 and 3 leave of a worker and its deque
--   worked p r j s   == round r is spent on job j's next action, which goes on
--   finished p r w j s == round r is the last of job j's next action, and worker w has done it
--   turn p r w j s   == worker w, which holds job j, takes its turn in round r
--   turns p r k b s  == the turns of the workers below k, where b are the workers as the round began
use Rattle.std.specs.Prelude.{ℕ, zero, suc, Bool, true, false, not, List, [], ◌∷◌, get_or, set, ltb}
use Rattle.plan.specs.Test.{both}
use Rattle.plan.specs.Plan.{Plan, size, action, parent}
use Rattle.runs.specs.declared.worker.Worker.{Worker}
use Rattle.runs.specs.declared.worker.Worker.TheVariants.{Idle, Holding, Waiting}
use Rattle.courses.specs.Row.{place}
use Rattle.courses.specs.Ready.{ready, weight}
use Rattle.runs.specs.Tally.{with_action, with_idle}
use Rattle.runs.specs.State.{State, next_of, spent_of, deque_of}

-- 1. "If the action sends a join and this was the last one missing to a stalled parent": the parent's next action was not
-- ready before the action, and is after it
unfoldable pub wakes : Plan → List ℕ → List ℕ → ℕ → ℕ → Bool
unfolding ready parent
wakes p before after j i =
    elim (action p j i).join [ zero ↦ false | suc t ↦ both (not (ready p before (parent p j))) (ready p after (parent p j)) ]

-- "the parent goes on the bottom of this worker's deque"
abbrev pub woken : Bool → ℕ → List ℕ → List ℕ
woken true q d = q ∷ d
woken false q d = d

pub record Seat : Type 0 where
  pub worker : Worker
  pub deque : List ℕ

-- "the worker takes the bottom job of its own deque, or has none"
abbrev pub take_bottom : List ℕ → Seat
take_bottom [] = record { worker = Idle; deque = [] }
take_bottom (j ∷ d) = record { worker = Holding j; deque = d }

-- 2. "If it spawned, the spawner goes on the bottom and the worker holds the child."
-- 3. "If it ended, or its next action is not ready (it stalls), the worker takes the bottom job of its own deque, or has none."
unfoldable pub seat_after : Plan → List ℕ → ℕ → ℕ → List ℕ → Seat
unfolding ready
seat_after p after j i d =
    elim (action p j i).spawn [
      | suc c ↦ record { worker = Holding c; deque = j ∷ d }
      | zero ↦ elim (both (ltb (suc i) (size p j)) (ready p after j)) [ true ↦ record { worker = Holding j; deque = d } | false ↦ take_bottom d ]
    ]

-- the action goes on: nothing comes of this round but that it was spent
unfoldable pub worked : Plan → ℕ → ℕ → State → State
unfolding weight
worked p r j s =
    let t = s.tally in
    record {
      next = s.next;
      spent = set s.spent j (suc (spent_of s j));
      workers = s.workers;
      deques = s.deques;
      rows = s.rows;
      tally = with_action t r (weight p s.next);
    }

-- this is the action's last round
unfoldable pub finished : Plan → ℕ → ℕ → ℕ → State → State
unfolding weight wakes seat_after parent
finished p r w j s =
    let i = next_of s j in
    let after = set s.next j (suc i) in
    let seat = seat_after p after j i (woken (wakes p s.next after j i) (parent p j) (deque_of s w)) in
    let t = s.tally in
    record {
      next = after;
      spent = set s.spent j 0;
      workers = set s.workers w seat.worker;
      deques = set s.deques w seat.deque;
      rows = set s.rows (place p j i) (record { round = r; worker = w });
      tally = with_action t r (weight p after);
    }

-- "A worker holds an action for that many rounds; its spawn, join and end take effect in the last."
unfoldable pub turn : Plan → ℕ → ℕ → ℕ → State → State
unfolding worked finished
turn p r w j s =
    elim (ltb (suc (spent_of s j)) (action p j (next_of s j)).cost) [ true ↦ worked p r j s | false ↦ finished p r w j s ]

-- "Idle turns are turns of workers that held nothing when the round began."
unfoldable pub idled : ℕ → State → State
idled r s =
    let t = s.tally in
    record {
      next = s.next;
      spent = s.spent;
      workers = s.workers;
      deques = s.deques;
      rows = s.rows;
      tally = with_idle t r;
    }

unfoldable pub turn_of : Plan → ℕ → ℕ → Worker → State → State
unfolding turn idled
turn_of p r w Idle s = idled r s
turn_of p r w (Holding j) s = turn p r w j s
turn_of p r w (Waiting v l) s = idled r s

-- "First half: each worker that held a job when the round began takes a turn, in rising number."
unfoldable pub turns : Plan → ℕ → ℕ → List Worker → State → State
unfolding turn_of
turns p r zero began s = s
turns p r (suc k) began s = turn_of p r k (get_or began k Idle) (turns p r k began s)
