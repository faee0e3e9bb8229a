-- What the test of a schedule's rules keeps from row to row. Private functions alone cite it.
--   FirstTold a m r       == the answer r is the first round of a span that begins in round 1 or later and is of a worker below m, or none
--   Later span x k        == the span of row k begins after row x
--   InOrder p span k      == it begins after each action that the one at place k must follow
--   Joined p span k       == after each that sends it a join
--   RoundBefore p span k r == the round r tells the rest of that: row k is in order where it begins after r and after those that
--                            send it a join, and is not where it begins in a round that is not after r
--   spawn_round p span j   == the last round of the action that spawns job j
--   Stood p span k s      == the walk over the actions stands at place k as s says: in that job, whose actions end there, or at their
--                            end; where k is a place of the job, the round in s tells
--   Seen p m n span       == the first n spans begin in round 1 or later, are of workers below m and in order, and no two meet
use Rattle.std.specs.Prelude.{ℕ, ◌+◌, ◌≤◌, ◌<◌, ◌≡◌, T, length, get_or, take, Option, Some, None}
use Rattle.plan.specs.Plan.{Plan, size, total, placed, no_placed, parent, spawn_at, enters}
use Rattle.plan_measure.specs.Measure.{must_follow}
use Rattle.courses.specs.Schedule.{Span}
use Rattle.checker.specs.declared.rules.Standing.{Standing}
use Rattle.checker.specs.Buckets.{Meet}

abbrev pub FirstTold : Span → ℕ → Option ℕ → Type 0
FirstTold a m None = a.worker < m → 1 ≤ a.first → ⊥
FirstTold a m (Some r) = (a.worker < m) × (1 ≤ a.first) × (r ≡ a.first)

abbrev pub Later : (ℕ → Span) → ℕ → ℕ → Type 0
Later span x k = (span x).last < (span k).first

abbrev pub InOrder : Plan → (ℕ → Span) → ℕ → Type 0
InOrder p span k =
    (x : ℕ) → x < total p → T (must_follow p (get_or (placed p) k no_placed) (get_or (placed p) x no_placed)) → Later span x k

abbrev pub Joined : Plan → (ℕ → Span) → ℕ → Type 0
Joined p span k =
    let a = get_or (placed p) k no_placed in
    (x : ℕ) → x < total p → T (enters p a.job a.position (get_or (placed p) x no_placed)) → Later span x k

pub record RoundBefore (p : Plan) (span : ℕ → Span) (k r : ℕ) : Type 0 where
  pub kept : r < (span k).first → Joined p span k → InOrder p span k
  pub broken : 1 ≤ (span k).first → (span k).first ≤ r → InOrder p span k → ⊥

abbrev pub spawn_round : Plan → (ℕ → Span) → ℕ → ℕ
spawn_round p span j = (span (total (take (parent p j) p) + spawn_at p j)).last

pub record Stood (p : Plan) (span : ℕ → Span) (k : ℕ) (s : Standing) : Type 0 where
  pub known : s.job < length p
  pub begun : total (take s.job p) ≤ k
  pub ends : s.end ≡ total (take s.job p) + size p s.job
  pub near : k ≤ s.end
  pub told : k < s.end → RoundBefore p span k s.round

pub record Seen (p : Plan) (m n : ℕ) (span : ℕ → Span) : Type 0 where
  pub begun : (i : ℕ) → i < n → 1 ≤ (span i).first
  pub manned : (i : ℕ) → i < n → (span i).worker < m
  pub ordered : (i : ℕ) → i < n → InOrder p span i
  pub apart : (i h : ℕ) → i < h → h < n → Meet (span i) (span h) → ⊥
