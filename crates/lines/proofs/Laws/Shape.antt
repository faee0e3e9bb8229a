-- A plan of a fully strict computation and the states of its run: how many actions of each job are done, and lines of jobs.
--   Shape              == a plan: its jobs, and of each its length, parent, spawn, frame, children and joins
--   Valid P            == the rules that a plan keeps
--   Living P next j    == job j was spawned and has not ended, where next j is how many actions of job j are done
--   Ready P next j     == every join into the next action of job j was sent
--   Closed P next      == nothing is done before what it must follow
--   Chain P l          == each job of l, but for the last, has the one after it as its parent
--   Heir P next x k    == k is a living child of x
--   Lone P next x      == no child of x lives
--   Leads line x       == x is the first of a line
--   Leaves P next line == every living job that has no living child is the first of a line
--   Good P next line   == what is done is closed, each line is a chain, and the living jobs that are ready stand in one line each
use mathlib.Core.Path.{◌≡◌}
use mathlib.Core.Logic.Dec
use mathlib.Core.Logic.{◌≢◌}
use mathlib.Core.List.{List, [], ◌∷◌}
use Prim.Native.Nat.{ℕ, suc, ◌-◌, ◌≤◌, ◌<◌}
use native.Mathlib.Decide.{ℕ_discrete, dec_le, dec_lt}
use Rattle.lines.proofs.Laws.Bounded.{map?, imp?, all?}
use Rattle.lines.proofs.Laws.Member.{◌∈◌}

-- Job 0 is the root. `child q p` is suc c where action p of job q spawns job c, and 0 where it spawns none.
-- `join j a` is suc t where action a of job j sends a join to action t of j's parent, and 0 where it sends none.
pub record Shape : Type 0 where
  pub jobs : ℕ
  pub len : ℕ → ℕ
  pub parent : ℕ → ℕ
  pub spawn_at : ℕ → ℕ
  pub frame : ℕ → ℕ
  pub child : ℕ → ℕ → ℕ
  pub join : ℕ → ℕ → ℕ

abbrev pub Leads : (ℕ → List ℕ) → ℕ → Type 0
Leads line x = (w : ℕ) × (l : List ℕ) × (line w ≡ x ∷ l)

module _ (P : Shape) where
  open P use {jobs, len, parent, spawn_at, child, join}

  pub record Valid : Type 0 where
    pub some : 1 ≤ jobs
    pub long : (j : ℕ) → j < jobs → 1 ≤ len j
    pub older : (j : ℕ) → 1 ≤ j → j < jobs → parent j < j
    pub spawns : (j : ℕ) → 1 ≤ j → j < jobs → child (parent j) (spawn_at j) ≡ suc j
    pub spawned : (q p c : ℕ) → q < jobs → p < len q → child q p ≡ suc c → (1 ≤ c) × (c < jobs) × (parent c ≡ q) × (spawn_at c ≡ p)
    -- a join goes to a later action than the spawn, and not to the one right after a spawn
    pub joins : (j a t : ℕ) → j < jobs → a < len j → join j a ≡ suc t
        → (1 ≤ j) × (t < len (parent j)) × (spawn_at j < t) × (child (parent j) (t - 1) ≡ 0)
    pub last : (j : ℕ) → 1 ≤ j → j < jobs → join j (len j - 1) ≢ 0

  -- `next j` is the position of job j's next action: the count of those done.
  -- A job lives from its spawn until its last action is done.
  pub record Living (next : ℕ → ℕ) (j : ℕ) : Type 0 where
    pub below : j < jobs
    pub begun : 1 ≤ j → spawn_at j < next (parent j)
    pub left : next j < len j

  abbrev pub Ready : (ℕ → ℕ) → ℕ → Type 0
  Ready next j = (k : ℕ) → k < jobs → (a : ℕ) → a < len k → parent k ≡ j → join k a ≡ suc (next j) → a < next k

  unfoldable pub living? : (next : ℕ → ℕ) (j : ℕ) → Dec (Living next j)
  unfolding map? imp? Dec.and dec_le dec_lt
  living? next j =
      map? (λ t. record { below = t.0; begun = t.1.0; left = t.1.1 }) (λ l. (l.below, (l.begun, l.left)))
      (Dec.and (dec_lt j jobs) (Dec.and (imp? (dec_le 1 j) (dec_lt (spawn_at j) (next (parent j)))) (dec_lt (next j) (len j))))

  unfoldable pub ready? : (next : ℕ → ℕ) (j : ℕ) → Dec (Ready next j)
  unfolding all? imp? ℕ_discrete dec_lt
  ready? next j =
      all? (λ k. (a : ℕ) → a < len k → parent k ≡ j → join k a ≡ suc (next j) → a < next k)
      (λ k. all? (λ a. parent k ≡ j → join k a ≡ suc (next j) → a < next k)
      (λ a. imp? (ℕ_discrete (parent k) j) (imp? (ℕ_discrete (join k a) (suc (next j))) (dec_lt a (next k)))) (len k)) jobs

  abbrev pub Chain : List ℕ → Type 0
  Chain [] = Unit {0}
  Chain (x ∷ []) = Unit {0}
  Chain (x ∷ (y ∷ l)) = (1 ≤ x) × (parent x ≡ y) × Chain (y ∷ l)

  pub record Closed (next : ℕ → ℕ) : Type 0 where
    pub bound : (j : ℕ) → j < jobs → next j ≤ len j
    pub started : (j : ℕ) → 1 ≤ j → j < jobs → 0 < next j → spawn_at j < next (parent j)
    pub joined : (j a t : ℕ) → j < jobs → a < len j → join j a ≡ suc t → t < next (parent j) → a < next j

  abbrev pub Heir : (ℕ → ℕ) → ℕ → ℕ → Type 0
  Heir next x k = (1 ≤ k) × ((parent k ≡ x) × Living next k)

  abbrev pub Lone : (ℕ → ℕ) → ℕ → Type 0
  Lone next x = (k : ℕ) → k < jobs → ¬ Heir next x k

  -- a line may be whatever has a first job
  pub record Leaves (next : ℕ → ℕ) (line : ℕ → List ℕ) : Type 0 where
    pub known : (w x : ℕ) (l : List ℕ) → line w ≡ x ∷ l → x < jobs
    pub leaf : (x : ℕ) → Living next x → Lone next x → Leads line x

  -- in a stealing run `line w` is the job that worker w holds, and then its deque from the bottom up
  pub record Good (next : ℕ → ℕ) (line : ℕ → List ℕ) : Type 0 where
    pub closed : Closed next
    pub chain : (w : ℕ) → Chain (line w)
    pub here : (w x : ℕ) → x ∈ line w → Living next x × Ready next x
    pub apart : (v w x : ℕ) → x ∈ line v → x ∈ line w → v ≡ w
    pub found : (x : ℕ) → Living next x → Ready next x → (w : ℕ) × (x ∈ line w)
