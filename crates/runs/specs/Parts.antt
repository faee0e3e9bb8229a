-- Parts of a turn and of a service, by name. Proofs and private contracts cite them; no promise of a public entry does.
--   fresh_of s j      == the rounds spent on each job's next action once job j's is done
--   after_of s j      == how many actions of each job are done once job j has done its next one
--   above_of p s w j  == worker w's deque after rule 1
--   pick_of S r v ws  == whose request victim v serves in round r: the worker's number plus 1, or 0
--   Picks v n ws who == who is 0, or 1 plus one of the workers below n, and that one waits on v: whom victim v may serve
use Rattle.std.specs.Prelude.{ℕ, suc, ◌<◌, ◌≡◌, List, get_or, set}
use Rattle.plan.specs.Plan.{Plan, parent}
use Rattle.runs.specs.declared.worker.Worker.{Worker}
use Rattle.runs.specs.declared.worker.Worker.TheVariants.{Idle, Waiting}
use Rattle.runs.specs.Setting.{Setting, count_in}
use Rattle.runs.specs.State.{State, next_of, deque_of}
use Rattle.runs.specs.Turn.{wakes, woken}
use Rattle.runs.specs.Steal.{oldest}

abbrev pub after_of : State → ℕ → List ℕ
after_of s j = set s.next j (suc (next_of s j))

abbrev pub fresh_of : State → ℕ → List ℕ
fresh_of s j = set s.spent j 0

abbrev pub above_of : Plan → State → ℕ → ℕ → List ℕ
above_of p s w j = woken (wakes p s.next (after_of s j) j (next_of s j)) (parent p j) (deque_of s w)

abbrev pub pick_of : Setting → ℕ → ℕ → List Worker → ℕ
pick_of S r v ws = (oldest v (count_in S r) ws).who

abbrev pub Picks : ℕ → ℕ → List Worker → ℕ → Type 0
Picks v n ws who = (w : ℕ) → who ≡ suc w → (w < n) × (l : ℕ) × (get_or ws w Idle ≡ Waiting v l)
