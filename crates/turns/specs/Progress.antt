-- A run's progress, and how it stands for what is done. Functions that are no entries cite this file.
--   started entering      == the progress as a run begins: no action is done or begun, and each misses the joins that enter it
--   done_of progress j    == how many actions of job j are done; with_done == the progress where one more is
--   spent_at progress j   == how many rounds were spent on job j's next action; with_spent == the progress with another number there
--   Spent j k plan progress r progress' == whether the action at place k, the next of job j, goes on after this round, and the rounds spent
--                           on job j's next action then
--   missing_at progress k == how many joins the action at place k misses; with_missing == the progress with another number there
--   missing_to p done j i == how many joins into an action are not sent yet
--   Sized progress        == each array has its length
--   Progressed p done spent progress == the progress has what is done of each job, the rounds spent on its next action, and how many
--                           joins each action misses
use Rattle.std.specs.Prelude.{ℕ, suc, ◌+◌, ◌<◌, ◌≡◌, Bool, true, false, List, length, get_or, set, replicate, leb, ltb}
use Rattle.plan.specs.Test.{both, count}
use Rattle.plan.specs.Plan.{Plan, size, placed, enters}
use Rattle.plan.specs.declared.sheet.Sheet.{Sheet}
use Rattle.plan.specs.Sheet.{cost_at}
use Rattle.courses.specs.Row.{place}
use Rattle.turns.specs.declared.progress.Progress.{Progress}

abbrev pub started : List ℕ → Progress
started entering = record { done = replicate 256 0; spent = replicate 256 0; missing = entering }

abbrev pub done_of : Progress → ℕ → ℕ
done_of progress j = get_or progress.done j 0

abbrev pub with_done : Progress → ℕ → Progress
with_done progress j = record progress { done = set progress.done j (done_of progress j + 1) }

abbrev pub spent_at : Progress → ℕ → ℕ
spent_at progress j = get_or progress.spent j 0

abbrev pub with_spent : Progress → (j rounds : ℕ) → Progress
with_spent progress j rounds = record progress { spent = set progress.spent j rounds }

pub record Spent (j k : ℕ) (plan : Sheet) (progress : Progress) (r : Bool) (progress' : Progress) : Type 0 where
  pub told : r ≡ ltb (suc (spent_at progress j)) (cost_at plan k)
  pub noted : progress' ≡ with_spent progress j (elim r [ true ↦ suc (spent_at progress j) | false ↦ 0 ])

abbrev pub missing_at : Progress → ℕ → ℕ
missing_at progress k = get_or progress.missing k 0

abbrev pub with_missing : Progress → (k joins : ℕ) → Progress
with_missing progress k joins = record progress { missing = set progress.missing k joins }

abbrev pub missing_to : Plan → List ℕ → ℕ → ℕ → ℕ
missing_to p done j i = count (λ a. both (enters p j i a) (leb (get_or done a.job 0) a.position)) (placed p)

pub record Sized (progress : Progress) : Type 0 where
  pub done : length progress.done ≡ 256
  pub spent : length progress.spent ≡ 256
  pub missing : length progress.missing ≡ 2048

pub record Progressed (p : Plan) (done spent : List ℕ) (progress : Progress) : Type 0 where
  pub sized : Sized progress
  pub counts : (j : ℕ) → j < length p → done_of progress j ≡ get_or done j 0
  pub spends : (j : ℕ) → j < length p → spent_at progress j ≡ get_or spent j 0
  pub misses : (j i : ℕ) → j < length p → i < size p j → missing_at progress (place p j i) ≡ missing_to p done j i
