-- The fewest workers for a deadline (document 02, L11): "A proofing clerk names a round count and wants the smallest P from 1 to 16 for
-- which the central pool ends within it."
--   within p d n     == the run of p by n workers from a pool ends within d rounds
--   first_of test k n == the first of the k numbers from n on that passes the test; 18 where none of them does
--   fewest p d       == the smallest P from 1 to 16 whose run ends within d rounds; "18: no P from 1 to 16 does"
--   fewest_of s d     == the same of plan bytes, or their refusal: 1 to 6, then 18
--   Smallest p d n   == what is owed of that P; Late p d == what is owed of 18
--   FewestClaim      == for all plan bytes that are accepted and all round counts
use Rattle.std.specs.Prelude.{ℕ, zero, suc, ◌≤◌, ◌<◌, ◌≡◌, Bool, true, false, List, leb}
use Rattle.plan.specs.Refusal.{Outcome, refused, accepted}
use Rattle.plan.specs.Plan.{Plan}
use Rattle.plan.specs.Reader.{Read, read_plan}
use Rattle.pools.specs.Run.{pool}

unfoldable pub within : Plan → ℕ → ℕ → Bool
unfolding pool
within p d n = leb (pool p n).tally.rounds d

unfoldable pub first_of : (ℕ → Bool) → ℕ → ℕ → Outcome ℕ
first_of test zero n = refused 18
first_of test (suc k) n = elim (test n) [ true ↦ accepted n | false ↦ first_of test k (suc n) ]

unfoldable pub fewest : Plan → ℕ → Outcome ℕ
unfolding within first_of
fewest p d = first_of (within p d) 16 1

-- "after the plan's checks"
unfoldable pub fewest_in : Outcome Read → ℕ → Outcome ℕ
unfolding fewest
fewest_in (refused k) d = refused k
fewest_in (accepted x) d = fewest x.plan d

unfoldable pub fewest_of : List ℕ → ℕ → Outcome ℕ
unfolding fewest_in read_plan
fewest_of s d = fewest_in (read_plan s) d

module _ (plan : Plan) (deadline : ℕ) where
  pub record Smallest (workers : ℕ) : Type 0 where
    pub some : 1 ≤ workers
    pub most : workers ≤ 16
    pub ends : (pool plan workers).tally.rounds ≤ deadline
    -- "prove that every smaller P takes too long"
    pub smaller : (m : ℕ) → 1 ≤ m → m < workers → deadline < (pool plan m).tally.rounds

  abbrev pub Late : Type 0
  Late = (m : ℕ) → 1 ≤ m → m ≤ 16 → deadline < (pool plan m).tally.rounds

abbrev pub FewestClaim : Type 0
FewestClaim =
    (s : List ℕ) (x : Read) (d : ℕ) → read_plan s ≡ accepted x
    → ((n : ℕ) → fewest_of s d ≡ accepted n → Smallest x.plan d n) × (fewest_of s d ≡ refused 18 → Late x.plan d)
