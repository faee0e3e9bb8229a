-- What every kind of run is as far as its rows, weights and order go: rounds of turns, in which each worker works on the job that it
-- has in that round.
--   Core               == how many actions of each job are done, how many turns its next action has had, the rows, the number of turns,
--                         and the peak
--   New j c h i        == action i of job h is the one that job j does next
--   Old p c c' h i     == action i of job h was done in the core c, and has the same row in c'
--   cost x             == how many turns an action takes
--   Terms              == the plan, a number above every worker's, a bound on the weight in each round, and whether a job that was begun
--                         stays with its worker
--   Begins p c         == c is how a course begins
--   Hands e k b b' c   == a round begins with the hands b' after one with the hands b in which the workers below k had their turns;
--                         b w is suc j where worker w has job j, and 0 where it has none
--   Paced m m' b       == some worker has a job by the hands b and m' is m, or none has and m' is one more
--   Works p j c c'     == c' is c after a turn with job j that does not finish its next action
--   Ends p r w j c c'  == c' is c after worker w finished the next action of job j in round r
--   Acts p r w j c c'  == what Ends says of the counts of done actions and of the rows
--   Course e r m k b c == c is the core of a course in round r, which has the hands b, when the workers below k have had their turns;
--                         round 0 is the start, and in m of the rounds no worker had a job
use Prim.Native.Nat.{ℕ, suc, ◌≤◌, ◌<◌, max}
use mathlib.Core.Path.{◌≡◌, ap}
use mathlib.Core.Logic.{◌⊎◌, inl, inr, ◌≢◌, by_cases}
use mathlib.Core.Bool.{Bool}
use mathlib.Core.List.{List}
use native.Mathlib.Omega.{arith}
use native.Mathlib.Decide.{ℕ_discrete, dec_lt}
use lib.Dec.{T}
use lib.ListN.{length, get_or, take}
use Rattle.plan.specs.Plan.{Plan, Placed, job, size, total}
use Rattle.plan_measure.proofs.Laws.Follows.{act}
use Rattle.plan.proofs.Laws.Placed.{start_suc, start_rises}
use Rattle.courses.specs.Row.{Row, no_row, place}
use Rattle.courses.specs.Ready.{weight}
use Rattle.lines.proofs.Laws.Shape.{Living, Ready}
use Rattle.courses.proofs.Laws.PlanShape.{shape}

pub record Core : Type 0 where
  pub next : List ℕ
  pub spent : List ℕ
  pub rows : List Row
  pub turns : ℕ
  pub peak : ℕ

abbrev pub next_in : Core → ℕ → ℕ
next_in c j = get_or c.next j 0

abbrev pub spent_in : Core → ℕ → ℕ
spent_in c j = get_or c.spent j 0

abbrev pub row_in : Plan → Core → ℕ → ℕ → Row
row_in p c j i = get_or c.rows (place p j i) no_row

-- no two actions stand at one place
pub place_apart : (p : Plan) (j i k h : ℕ) → j < length p → i < size p j → k < length p → h < size p k → place p j i ≡ place p k h
    → (j ≡ k) × (i ≡ h)
place_apart p j i k h b l c m e = go (ℕ_discrete j k) (dec_lt j k)
  where
    go : Dec (j ≡ k) → Dec (j < k) → (j ≡ k) × (i ≡ h)
    go (yes q) d = (q, omega (arith, ap (λ x. total (take x p)) q))
    go (no f) (yes q) = absurd (omega (arith, start_suc p j b, start_rises p (suc j) k q (omega arith)))
    go (no f) (no g) = absurd (omega (arith, start_suc p k c, start_rises p (suc k) j (omega arith) (omega arith)))

abbrev pub cost : Placed → ℕ
cost x = x.cost

pub record Terms : Type 0 where
  pub plan : Plan
  pub workers : ℕ
  pub bound : ℕ → ℕ
  pub steady : Bool

-- some worker has a job in a round, or it is one more round in which none has
abbrev pub Paced : ℕ → ℕ → (ℕ → ℕ) → Type 0
Paced m m' b = ((m ≡ m') × ((w : ℕ) × (j : ℕ) × (b w ≡ suc j))) ⊎ ((suc m ≡ m') × ((w : ℕ) → b w ≡ 0))

-- it is the action that job j does next
abbrev pub New : ℕ → Core → ℕ → ℕ → Type 0
New j c h i = (h ≡ j) × (i ≡ next_in c j)

module _ (p : Plan) where
  pub record Begins (c : Core) : Type 0 where
    pub none : (j : ℕ) → next_in c j ≡ 0
    pub fresh : (j : ℕ) → spent_in c j ≡ 0
    pub long : length c.rows ≡ total p
    pub turns : c.turns ≡ 0
    pub peak : c.peak ≡ (job p 0).frame

  pub record Works (j : ℕ) (c c' : Core) : Type 0 where
    pub next : c'.next ≡ c.next
    pub rows : c'.rows ≡ c.rows
    pub turns : c'.turns ≡ suc c.turns
    pub peak : c'.peak ≡ c.peak
    pub spends : spent_in c' j ≡ suc (spent_in c j)
    pub others : (h : ℕ) → h ≢ j → spent_in c' h ≡ spent_in c h

  pub record Acts (r w j : ℕ) (c c' : Core) : Type 0 where
    pub known : j < length p
    pub left : next_in c j < size p j
    pub acts : next_in c' j ≡ suc (next_in c j)
    pub rests : (h : ℕ) → h ≢ j → next_in c' h ≡ next_in c h
    pub writes : row_in p c' j (next_in c j) ≡ record { round = r; worker = w }
    pub keeps : (h i : ℕ) → h < length p → i < size p h → ¬ New j c h i → row_in p c' h i ≡ row_in p c h i

  pub record Ends (r w j : ℕ) (c c' : Core) : Type 0 where
    pub acts : Acts r w j c c'
    pub long : length c'.rows ≡ length c.rows
    pub turns : c'.turns ≡ suc c.turns
    pub peak : c'.peak ≡ max c.peak (weight p c'.next)
    pub fresh : spent_in c' j ≡ 0
    pub others : (h : ℕ) → h ≢ j → spent_in c' h ≡ spent_in c h

  -- it was done before, with the row that it has
  abbrev pub Old : Core → Core → ℕ → ℕ → Type 0
  Old c c' h i = (i < next_in c h) × (row_in p c' h i ≡ row_in p c h i)

module _ {p : Plan} {r w j : ℕ} {c c' : Core} (a : Acts p r w j c c') (bound : (h : ℕ) → h < length p → next_in c h ≤ size p h) where
  pub acted : (h i : ℕ) → h < length p → i < next_in c' h → New j c h i ⊎ Old p c c' h i
  acted h i b l = go (ℕ_discrete h j) (ℕ_discrete i (next_in c j))
    where
      go : Dec (h ≡ j) → Dec (i ≡ next_in c j) → New j c h i ⊎ Old p c c' h i
      go (yes e) (yes f) = inl (e, f)
      go (yes e) (no f) =
          let m : i < next_in c h = omega (arith, ap (next_in c) e, ap (next_in c') e, a.acts) in
          inr (m, a.keeps h i b (omega (arith, bound h b)) (λ q. f q.1))
      go (no e) f =
          let m : i < next_in c h = omega (arith, a.rests h e) in
          inr (m, a.keeps h i b (omega (arith, bound h b)) (λ q. e q.0))

  pub acts_kept : (h i : ℕ) → h < length p → i < next_in c h → (i < next_in c' h) × (row_in p c' h i ≡ row_in p c h i)
  acts_kept h i l d = (
    by_cases (ℕ_discrete h j) (λ e. omega (arith, ap (next_in c) e, ap (next_in c') e, a.acts)) (λ e. omega (arith, a.rests h e)),
    a.keeps h i l (omega (arith, bound h l)) (λ q. omega (arith, ap (next_in c) q.0, q.1)),
  )

pub acts_new : {p : Plan} {r w j : ℕ} {c c' : Core} → Acts p r w j c c' → (h i : ℕ) → New j c h i
    → row_in p c' h i ≡ record { round = r; worker = w }
acts_new a h i e = rw (e.0, e.1) a.writes

module _ (e : Terms) where
  open e use {plan, workers, bound, steady}

  pub record Hands (k : ℕ) (b b' : ℕ → ℕ) (c : Core) : Type 0 where
    -- all that had a job in the last round have had their turns, and job 0 has not ended
    pub over : (w j : ℕ) → b w ≡ suc j → w < k
    pub goes : next_in c 0 < size plan 0
    -- the job that a worker has lives and is ready, and no other worker has it
    pub known : (w j : ℕ) → b' w ≡ suc j → w < workers
    pub lives : (w j : ℕ) → b' w ≡ suc j → Living (shape plan) (next_in c) j
    pub ready : (w j : ℕ) → b' w ≡ suc j → Ready (shape plan) (next_in c) j
    pub once : (v w j : ℕ) → b' v ≡ suc j → b' w ≡ suc j → v ≡ w
    -- a job that was begun is with the worker that had it in the last round
    pub stays : T steady → (w j : ℕ) → b' w ≡ suc j → 1 ≤ spent_in c j → b w ≡ suc j

  pub data Course : ℕ → ℕ → ℕ → (ℕ → ℕ) → Core → Type 0 where
    begins : {b : ℕ → ℕ} {c : Core} → ((w : ℕ) → b w ≡ 0) → Begins plan c → weight plan c.next ≤ bound 0 → Course 0 0 0 b c
    next_round : {r m m' k : ℕ} {b b' : ℕ → ℕ} {c : Core} → Course r m k b c → Hands k b b' c → Paced m m' b' → Course (suc r) m' 0 b' c
    rests : {r m k : ℕ} {b : ℕ → ℕ} {c : Core} → Course r m k b c → b k ≡ 0 → Course r m (suc k) b c
    works : {r m k j : ℕ} {b : ℕ → ℕ} {c c' : Core} → Course r m k b c → b k ≡ suc j → suc (spent_in c j) < cost (act plan j (next_in c j))
        → Works plan j c c' → Course r m (suc k) b c'
    ends : {r m k j : ℕ} {b : ℕ → ℕ} {c c' : Core} → Course r m k b c → b k ≡ suc j → suc (spent_in c j) ≡ cost (act plan j (next_in c j))
        → Ends plan r k j c c' → weight plan c'.next ≤ bound r → Course r m (suc k) b c'
