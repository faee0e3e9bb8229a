-- The two kinds of turn of a worker that holds a job: its action goes on, or this is the action's last round.
--   cost_of p j s == how many rounds the next action of job j takes
--   turn_worked, turn_finished == which of the two a turn is
--   turn_cases == what holds of both holds of the turn
use Prim.Native.Nat.{ℕ, suc, ◌≤◌, ◌<◌}
use mathlib.Core.Path.{◌≡◌}
use mathlib.Core.Logic.{by_cases}
use native.Mathlib.Omega.{arith}
use native.Mathlib.Decide.{dec_lt}
use borrow.Author.Tests.{lt-ltb, le-ltb}
use Rattle.plan.specs.Plan.{Plan, action}
use Rattle.runs.specs.State.{State, next_of, spent_of}
use Rattle.runs.specs.Turn.{worked, finished, turn}

abbrev pub cost_of : Plan → ℕ → State → ℕ
cost_of p j s = (action p j (next_of s j)).cost

module _ (p : Plan) (r w j : ℕ) (s : State) where
  pub turn_worked : suc (spent_of s j) < cost_of p j s → turn p r w j s ≡ worked p r j s
  unfolding turn
  turn_worked h = rw (turn, lt-ltb (suc (spent_of s j)) (cost_of p j s) h)

  pub turn_finished : cost_of p j s ≤ suc (spent_of s j) → turn p r w j s ≡ finished p r w j s
  unfolding turn
  turn_finished h = rw (turn, le-ltb (suc (spent_of s j)) (cost_of p j s) h)

  pub turn_cases : (P : State → Type 0) → (suc (spent_of s j) < cost_of p j s → P (worked p r j s))
      → (cost_of p j s ≤ suc (spent_of s j) → P (finished p r w j s)) → P (turn p r w j s)
  turn_cases P f g = by_cases (dec_lt (suc (spent_of s j)) (cost_of p j s)) (λ h. rw (turn_worked h) (f h)) (λ h. rw (turn_finished (omega arith)) (g (omega arith)))
