-- Rounds and runs from a pool (document 02, L1).
--   round p n s  == one round: the taking, and then the turns
--   rounds k p n s == at most k rounds; pool p n == the whole run by n workers: T1 rounds are enough, which is a theorem
--   pool_of s n   == the run on plan bytes, or the refusal: 1 to 6, then 7. "Choices are not read here, so refusal 8 cannot occur."
use Rattle.std.specs.Prelude.{ℕ, zero, suc, Bool, true, false, List, leb}
use Rattle.plan.specs.Refusal.{Outcome, refused, accepted}
use Rattle.plan.specs.Plan.{Plan, size}
use Rattle.plan.specs.Reader.{Read, read_plan}
use Rattle.plan_measure.specs.Measure.{work}
use Rattle.runs.specs.Run.{workers_fit}
use Rattle.pools.specs.State.{State, next_of, start}
use Rattle.pools.specs.Take.{takes}
use Rattle.pools.specs.Turn.{turns}

-- job 0 has ended
abbrev pub ended : Plan → State → Bool
ended p s = leb (size p 0) (next_of s 0)

unfoldable pub round : Plan → ℕ → State → State
unfolding takes turns
round p n s = let taken = takes p n s in turns p (suc s.tally.rounds) n taken.workers taken

unfoldable pub rounds : ℕ → Plan → ℕ → State → State
unfolding round
rounds zero p n s = s
rounds (suc k) p n s = elim (ended p s) [ true ↦ s | false ↦ rounds k p n (round p n s) ]

unfoldable pub pool : Plan → ℕ → State
unfolding rounds start
pool p n = rounds (work p) p n (start p)

unfoldable pub admitted : Outcome Read → ℕ → Outcome State
unfolding pool workers_fit
admitted (refused k) n = refused k
admitted (accepted r) n = elim (workers_fit n) [ false ↦ refused 7 | true ↦ accepted (pool r.plan n) ]

unfoldable pub pool_of : List ℕ → ℕ → Outcome State
unfolding admitted read_plan
pool_of s n = admitted (read_plan s) n
