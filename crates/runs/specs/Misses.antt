-- The count of misses of document 01, before document 02 (L2) split it: "The top job of the victim's deque goes to that worker, or it is a
-- miss." It is told here by who is served and by the deques, and by neither of the two counts, which together are to be "the old count".
--   miss q d == 1 where a worker is served, of number q - 1, and the victim's deque d is empty; or 0
--   serves_misses, round_misses, rounds_misses == the misses of the victims below k, of one round, of at most k rounds
--   misses S == the misses of the run of S
use Rattle.std.specs.Prelude.{ℕ, zero, suc, ◌+◌, true, false, List, [], ◌∷◌}
use Rattle.plan_measure.specs.Measure.{work}
use Rattle.runs.specs.Setting.{Setting, count_in}
use Rattle.runs.specs.State.{State, deque_of, start}
use Rattle.runs.specs.Turn.{turns}
use Rattle.runs.specs.Steal.{lays, oldest, serves}
use Rattle.runs.specs.Run.{ended, round}

abbrev pub miss : ℕ → List ℕ → ℕ
miss zero d = 0
miss (suc w) [] = 1
miss (suc w) (x ∷ d) = 0

unfoldable pub serves_misses : Setting → ℕ → ℕ → State → ℕ
unfolding serves oldest
serves_misses S r zero s = 0
serves_misses S r (suc k) s =
    let t = serves S r k s in serves_misses S r k s + miss (oldest k (count_in S r) t.workers).who (deque_of t k)

unfoldable pub round_misses : Setting → State → ℕ
unfolding turns lays serves_misses
round_misses S s =
    let p = S.plan in
    let r = suc s.tally.rounds in
    let n = count_in S r in
    let half = turns p r n s.workers s in
    elim (ended p half) [ true ↦ 0 | false ↦ serves_misses S r n (lays S r n s.workers half) ]

unfoldable pub rounds_misses : ℕ → Setting → State → ℕ
unfolding round round_misses
rounds_misses zero S s = 0
rounds_misses (suc k) S s = elim (ended S.plan s) [ true ↦ 0 | false ↦ round_misses S s + rounds_misses k S (round S s) ]

unfoldable pub misses : Setting → ℕ
unfolding rounds_misses start
misses S = rounds_misses (work S.plan) S (start S.plan)
