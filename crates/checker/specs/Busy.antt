-- The sets of rounds that rows take, one for each bucket. Private functions alone cite it.
--   In s u                   == binary digit u of s is 1
--   Busy busy stride w round == the round is in the set of the bucket of its block and of worker w
--   During a round           == the round is one of the span a
--   Put bucket rounds busy busy' r == the rounds are now in the set of the bucket, no set lost one, and r is true only where none of
--                               them was there
--   Taken more stride a busy busy' r == the rounds of the span a are now in the sets, if sets are kept, which is so where there are more
--                               blocks than one, no set lost one, and r is true only where none of them was there
--   Noted more stride n span busy == the rounds of the first n spans are in the sets, if sets are kept
use Rattle.std.specs.Prelude.{ℕ, ◌/◌, ◌%◌, ◌^◌, ◌≤◌, ◌<◌, ◌≡◌, Bool, true, List, length}
use Rattle.courses.specs.Schedule.{Span}
use Rattle.checker.specs.Chains.{entry}
use Rattle.checker.specs.Buckets.{bucket_of}

abbrev pub In : ℕ → ℕ → Type 0
In s u = s / 2 ^ u % 2 ≡ 1

abbrev pub Busy : List ℕ → ℕ → ℕ → ℕ → Type 0
Busy busy stride w round = In (entry busy (bucket_of stride (round / 16) w)) (round % 16)

abbrev pub During : Span → ℕ → Type 0
During a round = (a.first ≤ round) × (round ≤ a.last)

pub record Put (bucket rounds : ℕ) (busy busy' : List ℕ) (r : Bool) : Type 0 where
  pub long : length busy' ≡ 4096
  pub stays : (b u : ℕ) → In (entry busy b) u → In (entry busy' b) u
  pub comes : (u : ℕ) → In rounds u → In (entry busy' bucket) u
  pub free : r ≡ true → (u : ℕ) → In rounds u → In (entry busy bucket) u → ⊥

pub record Taken (more stride : ℕ) (a : Span) (busy busy' : List ℕ) (r : Bool) : Type 0 where
  pub long : length busy' ≡ 4096
  pub stays : (w round : ℕ) → Busy busy stride w round → Busy busy' stride w round
  pub comes : 1 ≤ more → (round : ℕ) → During a round → Busy busy' stride a.worker round
  pub free : r ≡ true → (1 ≤ more) × ((round : ℕ) → During a round → Busy busy stride a.worker round → ⊥)

pub record Noted (more stride n : ℕ) (span : ℕ → Span) (busy : List ℕ) : Type 0 where
  pub long : length busy ≡ 4096
  pub all : 1 ≤ more → (i round : ℕ) → i < n → During (span i) round → Busy busy stride (span i).worker round
