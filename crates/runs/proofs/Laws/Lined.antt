-- The lines of a state, and what a sound state is.
--   line_of s w                      == worker w's line: the job that it holds and then its deque from the bottom up, or nothing
--   Sound p n s                     == a state of n workers on the plan p: its lines are good, and who holds nothing has an empty deque
--   held_below, held_job, held_once == a job is held by one of the n, has an action left, and is held by no other
--   held_or_empty                   == a worker holds a job, or its deque is empty
use Prim.Native.Nat.{ℕ, ◌≤◌, ◌<◌}
use mathlib.Core.Path.{◌≡◌, refl, ap, ap₂}
use mathlib.Core.Logic.{◌⊎◌, inl, inr, ◌≢◌}
use mathlib.Core.List.{List, [], ◌∷◌}
use native.Mathlib.Nat.{lt_of_not-le}
use native.Mathlib.Omega.{arith}
use lib.ListN.{length, get_or, set}
use lib.Seq.{get_or-set_same, get_or-set_other}
use Rattle.runs.specs.declared.worker.Worker.{Worker}
use Rattle.runs.specs.declared.worker.Worker.TheVariants.{Idle, Holding, Waiting}
use Rattle.plan.specs.Plan.{Plan, size, total, parent, spawn_at}
use Rattle.runs.specs.State.{State, next_of, worker_of, deque_of}
use Rattle.lines.proofs.Laws.Shape.{Good}
use Rattle.lines.proofs.Laws.Member.{◌∈◌}
use Rattle.courses.proofs.Laws.PlanShape.{shape}

abbrev pub line_in : Worker → List ℕ → List ℕ
line_in Idle d = []
line_in (Holding j) d = j ∷ d
line_in (Waiting v l) d = []

abbrev pub line_of : State → ℕ → List ℕ
line_of s w = line_in (worker_of s w) (deque_of s w)

pub record Sound (p : Plan) (n : ℕ) (s : State) : Type 0 where
  pub nexts : length s.next ≡ length p
  pub spents : length s.spent ≡ length p
  pub workers : length s.workers ≡ 16
  pub deques : length s.deques ≡ 16
  pub rows : length s.rows ≡ total p
  pub good : Good (shape p) (next_of s) (line_of s)
  pub empty : (w : ℕ) → line_of s w ≡ [] → deque_of s w ≡ []
  pub absent : (w : ℕ) → n ≤ w → worker_of s w ≡ Idle

-- the line of a worker by what it does
pub line_of_lem : (s : State) (w : ℕ) {k : Worker} → worker_of s w ≡ k → line_of s w ≡ line_in k (deque_of s w)
line_of_lem s w e = ap (λ x. line_in x (deque_of s w)) e

pub held_in : (s : State) (w : ℕ) {j : ℕ} → worker_of s w ≡ Holding j → j ∈ line_of s w
held_in s w e = rw (line_of_lem s w e) (inl refl)

-- a line's first job is held
pub line_held : (k : Worker) (d : List ℕ) {h : ℕ} {l : List ℕ} → line_in k d ≡ h ∷ l → (k ≡ Holding h) × (d ≡ l)
line_held Idle d e = let z : ◌≡◌ {A = ℕ} 0 1 = cc in absurd (omega arith)
line_held (Holding j) d e = (cc, cc)
line_held (Waiting v t) d e = let z : ◌≡◌ {A = ℕ} 0 1 = cc in absurd (omega arith)

module _ {p : Plan} {n : ℕ} {s : State} (sound : Sound p n s) where
  -- a worker that is not idle is one of the n
  pub seen_below : (w : ℕ) → worker_of s w ≢ Idle → w < n
  seen_below w f = lt_of_not-le (λ h. f (sound.absent w h))

  pub held_below : (w : ℕ) {j : ℕ} → worker_of s w ≡ Holding j → w < n
  held_below w e = seen_below w (λ q. let z : ◌≡◌ {A = ℕ} 0 1 = cc in omega arith)

  -- the job that a worker holds: its next action is there, and its spawner is done
  pub held_job : (w : ℕ) {j : ℕ} → worker_of s w ≡ Holding j
      → (j < length p) × (next_of s j < size p j) × (1 ≤ j → spawn_at p j < next_of s (parent p j))
  held_job w {j} e = let a = (sound.good.here w j (held_in s w e)).0 in (a.below, a.left, a.begun)

  -- no job is held by two workers
  pub held_once : (v w : ℕ) {j : ℕ} → worker_of s v ≡ Holding j → worker_of s w ≡ Holding j → v ≡ w
  held_once v w {j} e f = sound.good.apart v w j (held_in s v e) (held_in s w f)

  -- a worker holds a job, or its deque is empty
  pub held_or_empty : (w : ℕ) → ((j : ℕ) × (worker_of s w ≡ Holding j)) ⊎ (deque_of s w ≡ [])
  held_or_empty w = go (worker_of s w) refl
    where
      go : (k : Worker) → worker_of s w ≡ k → ((j : ℕ) × (worker_of s w ≡ Holding j)) ⊎ (deque_of s w ≡ [])
      go Idle e = inr (sound.empty w (line_of_lem s w e))
      go (Holding j) e = inl (j, e)
      go (Waiting v l) e = inr (sound.empty w (line_of_lem s w e))

-- the lines after a worker and its deque are stored
module _ (ws : List Worker) (ds : List (List ℕ)) (w : ℕ) (k : Worker) (d : List ℕ) where
  pub line_stored : w < length ws → w < length ds → line_in (get_or (set ws w k) w Idle) (get_or (set ds w d) w []) ≡ line_in k d
  line_stored h i = ap₂ line_in (get_or-set_same ws w k Idle h) (get_or-set_same ds w d [] i)

  pub line_other : (v : ℕ) → v ≢ w → line_in (get_or (set ws w k) v Idle) (get_or (set ds w d) v []) ≡ line_in (get_or ws v Idle) (get_or ds v [])
  line_other v f = ap₂ line_in (get_or-set_other ws w v k Idle f) (get_or-set_other ds w v d [] f)
