-- A worker's turn in a run from a pool, and the turns of a round (document 02, L1 and L5).
--   hand_after p after ws j i == what the worker that finished action i of job j is left as
--   worked p r j s           == round r is spent on job j's next action, which goes on
--   finished p r w j s       == round r is the last of job j's next action, and worker w has done it
--   turn p r w j s           == worker w, which holds job j, takes its turn in round r
--   turns p r k b s          == the turns of the workers below k, where b are the workers as the taking was over
use Rattle.std.specs.Prelude.{ℕ, zero, suc, Bool, true, false, List, get_or, set, leb, ltb}
use Rattle.plan.specs.Test.{both}
use Rattle.plan.specs.Plan.{Plan, size, action, parent}
use Rattle.courses.specs.Row.{place}
use Rattle.courses.specs.Ready.{ready, weight}
use Rattle.runs.specs.declared.worker.Worker.{Worker}
use Rattle.runs.specs.declared.worker.Worker.TheVariants.{Idle, Holding, Waiting}
use Rattle.runs.specs.Tally.{with_action, with_idle}
use Rattle.pools.specs.State.{State, next_of, spent_of, unheld, lone}

-- "On a death the worker takes the parent if it has no living child and nobody holds it."
unfoldable pub heirless : Plan → List ℕ → List Worker → ℕ → Bool
unfolding lone unheld parent
heirless p after ws j = both (leb 1 j) (both (lone p after (parent p j)) (unheld ws (parent p j)))

-- "A spawner goes to the pool and its worker keeps the child. A stalled job goes to the pool."
unfoldable pub hand_after : Plan → List ℕ → List Worker → ℕ → ℕ → Worker
unfolding heirless ready parent
hand_after p after ws j i =
    elim (action p j i).spawn [
      | suc c ↦ Holding c
      | zero ↦ elim (ltb (suc i) (size p j)) [
        | true ↦ elim (ready p after j) [ true ↦ Holding j | false ↦ Idle ]
        | false ↦ elim (heirless p after ws j) [ true ↦ Holding (parent p j) | false ↦ Idle ]
      ]
    ]

-- the action goes on: nothing comes of this round but that it was spent
unfoldable pub worked : Plan → ℕ → ℕ → State → State
unfolding weight
worked p r j s =
    let t = s.tally in
    record {
      next = s.next;
      spent = set s.spent j (suc (spent_of s j));
      workers = s.workers;
      rows = s.rows;
      tally = with_action t r (weight p s.next);
    }

-- this is the action's last round
unfoldable pub finished : Plan → ℕ → ℕ → ℕ → State → State
unfolding weight hand_after
finished p r w j s =
    let i = next_of s j in
    let after = set s.next j (suc i) in
    let t = s.tally in
    record {
      next = after;
      spent = set s.spent j 0;
      workers = set s.workers w (hand_after p after s.workers j i);
      rows = set s.rows (place p j i) (record { round = r; worker = w });
      tally = with_action t r (weight p after);
    }

-- "A worker holds an action for that many rounds; its spawn, join and end take effect in the last."
unfoldable pub turn : Plan → ℕ → ℕ → ℕ → State → State
unfolding worked finished
turn p r w j s =
    elim (ltb (suc (spent_of s j)) (action p j (next_of s j)).cost) [ true ↦ worked p r j s | false ↦ finished p r w j s ]

-- "Idle turns are counted after the taking": turns of workers that hold nothing then
unfoldable pub idled : ℕ → State → State
idled r s =
    let t = s.tally in
    record { next = s.next; spent = s.spent; workers = s.workers; rows = s.rows; tally = with_idle t r }

unfoldable pub turn_of : Plan → ℕ → ℕ → Worker → State → State
unfolding turn idled
turn_of p r w Idle s = idled r s
turn_of p r w (Holding j) s = turn p r w j s
turn_of p r w (Waiting v l) s = idled r s

unfoldable pub turns : Plan → ℕ → ℕ → List Worker → State → State
unfolding turn_of
turns p r zero began s = s
turns p r (suc k) began s = turn_of p r k (get_or began k Idle) (turns p r k began s)
