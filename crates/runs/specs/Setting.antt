-- What a run is given (document 01, "Worker and round"): a plan, "1 to 16 workers from 0", and "a list of 0 to 4,096 bytes".
--   Setting     == the plan, the number of workers, and the choices; setting p n cs == that of the three
--   count_in S r == how many workers there are in round r
use Rattle.std.specs.Prelude.{ℕ, List}
use Rattle.plan.specs.Plan.{Plan}

pub record Setting : Type 0 where
  pub plan : Plan
  pub workers : ℕ
  pub choices : List ℕ

abbrev pub setting : Plan → ℕ → List ℕ → Setting
setting p n choices = record { plan = p; workers = n; choices = choices }

-- every worker is there in every round
unfoldable pub count_in : Setting → ℕ → ℕ
count_in S r = S.workers
