-- Rounds and runs (document 01, "Worker and round").
--   round S s       == one round
--   rounds k S s    == at most k rounds; run S == the whole run: T1 rounds are enough, which is a theorem
--   workers_fit n    == refusal 7 does not apply; choices_fit n cs == refusal 8 does not apply
--   run_of s n cs    == the run on plan bytes, or the refusal: 1 to 6, then 7, 8
use Rattle.std.specs.Prelude.{ℕ, zero, suc, Bool, true, false, List, length, leb, ltb}
use Rattle.plan.specs.Test.{both, either, all}
use Rattle.plan.specs.Refusal.{Outcome, refused, accepted}
use Rattle.plan.specs.Plan.{Plan, size}
use Rattle.plan.specs.Reader.{Read, read_plan}
use Rattle.plan_measure.specs.Measure.{work}
use Rattle.runs.specs.Setting.{Setting, setting, count_in}
use Rattle.runs.specs.State.{State, next_of, start}
use Rattle.runs.specs.Turn.{turns}
use Rattle.runs.specs.Steal.{lays, serves}

-- job 0 has ended
abbrev pub ended : Plan → State → Bool
ended p s = leb (size p 0) (next_of s 0)

-- "The round in which job 0 ends is the last and has no second half."
unfoldable pub round : Setting → State → State
unfolding turns lays serves
round S s =
    let p = S.plan in
    let r = suc s.tally.rounds in
    let n = count_in S r in
    let half = turns p r n s.workers s in
    elim (ended p half) [ true ↦ half | false ↦ serves S r n (lays S r n s.workers half) ]

unfoldable pub rounds : ℕ → Setting → State → State
unfolding round
rounds zero S s = s
rounds (suc k) S s = elim (ended S.plan s) [ true ↦ s | false ↦ rounds k S (round S s) ]

unfoldable pub run : Setting → State
unfolding rounds start
run S = rounds (work S.plan) S (start S.plan)

-- "worker count 0 or above 16"
unfoldable pub workers_fit : ℕ → Bool
workers_fit n = both (leb 1 n) (leb n 16)

-- "choice not below P, over 4,096 choices, or none with P above 1"
unfoldable pub choices_fit : ℕ → List ℕ → Bool
choices_fit n choices =
    both (all (λ c. ltb c n) choices) (both (leb (length choices) 4096) (either (leb n 1) (leb 1 (length choices))))

unfoldable pub admitted : Outcome Read → ℕ → List ℕ → Outcome State
unfolding run workers_fit choices_fit
admitted (refused k) n choices = refused k
admitted (accepted r) n choices =
    elim (workers_fit n) [
      | false ↦ refused 7
      | true ↦ elim (choices_fit n choices) [ false ↦ refused 8 | true ↦ accepted (run (setting r.plan n choices)) ]
    ]

unfoldable pub run_of : List ℕ → ℕ → List ℕ → Outcome State
unfolding admitted read_plan
run_of s n choices = admitted (read_plan s) n choices
