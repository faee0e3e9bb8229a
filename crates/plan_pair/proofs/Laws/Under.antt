-- A plan's jobs below the new root, by job and position.
--   under_length, under_size, under_frame, under_cost == what stays
--   under_spawn, under_none, under_child == what is spawned: nothing where nothing was, and else the same job under its new number
--   under_join  == a join of a job that is no root stays; of the old root: under_other, under_last
--   under_total, under_start == the places of the actions stay
use Prim.Native.Nat.{ℕ, zero, suc, ◌+◌, ◌≤◌, ◌<◌}
use mathlib.Core.Path.{◌≡◌, refl, ap, ◌∙◌}
use mathlib.Core.List.{List, [], ◌∷◌, map}
use native.Mathlib.Omega.{arith}
use native.Mathlib.Nat.{not-suc-le-zero, le_of_suc-le-suc}
use lib.ListN.{length, get_or, length-map, get_or-map}
use Rattle.plan.specs.Plan.{Action, Job, Plan, job, size, action, total, no_action, no_job}
use Rattle.plan.proofs.Laws.Placed.{start}
use Rattle.plan_pair.specs.Pair.{raised, raised_job, joining, under}

-- the row whose last action joins
joining_long : (l : List Action) → length (joining l) ≡ length l
joining_long [] = refl
joining_long (a ∷ []) = refl
joining_long (a ∷ (b ∷ l)) = ap suc (joining_long (b ∷ l))

-- but for its join an action stays
module _ (f : Action → ℕ) (same : (a : Action) (t : ℕ) → f (record { spawn = a.spawn; join = t; cost = a.cost }) ≡ f a) where
  joining_keeps : (l : List Action) (i : ℕ) → f (get_or (joining l) i no_action) ≡ f (get_or l i no_action)
  joining_keeps [] i = refl
  joining_keeps (a ∷ []) zero = same a _
  joining_keeps (a ∷ []) (suc i) = refl
  joining_keeps (a ∷ (b ∷ l)) zero = refl
  joining_keeps (a ∷ (b ∷ l)) (suc i) = joining_keeps (b ∷ l) i

joining_other : (l : List Action) (i : ℕ) → suc i < length l → (get_or (joining l) i no_action).join ≡ (get_or l i no_action).join
joining_other [] i h = absurd (not-suc-le-zero h)
joining_other (a ∷ []) i h = absurd (omega arith)
joining_other (a ∷ (b ∷ l)) zero h = refl
joining_other (a ∷ (b ∷ l)) (suc i) h = joining_other (b ∷ l) i (le_of_suc-le-suc h)

joining_last : (l : List Action) (i : ℕ) → suc i ≡ length l → (get_or (joining l) i no_action).join ≡ 5
joining_last [] i h = absurd (omega arith)
joining_last (a ∷ []) zero h = refl
joining_last (a ∷ []) (suc i) h = absurd (omega arith)
joining_last (a ∷ (b ∷ l)) zero h = absurd (omega arith)
joining_last (a ∷ (b ∷ l)) (suc i) h = joining_last (b ∷ l) i (omega arith)

module _ (d : ℕ) where
  raised_at : (l : List Action) (i : ℕ) → get_or (map (raised d) l) i no_action ≡ raised d (get_or l i no_action)
  raised_at l i = get_or-map (raised d) l i no_action

  raised_job_at : (p : List Job) (j : ℕ) → get_or (map (raised_job d) p) j no_job ≡ raised_job d (get_or p j no_job)
  raised_job_at p j = get_or-map (raised_job d) p j no_job

  pub under_length : (p : Plan) → length (under d p) ≡ length p
  under_length [] = refl
  under_length (b ∷ bs) = ap suc (length-map bs (raised_job d))

  pub under_size : (p : Plan) (j : ℕ) → size (under d p) j ≡ size p j
  under_size [] j = refl
  under_size (b ∷ bs) zero = joining_long (map (raised d) b.actions) ∙ length-map b.actions (raised d)
  under_size (b ∷ bs) (suc j) = rw raised_job_at (length-map (job bs j).actions (raised d))

  pub under_frame : (p : Plan) (j : ℕ) → (job (under d p) j).frame ≡ (job p j).frame
  under_frame [] j = refl
  under_frame (b ∷ bs) zero = refl
  under_frame (b ∷ bs) (suc j) = rw raised_job_at

  pub under_cost : (p : Plan) (j i : ℕ) → (action (under d p) j i).cost ≡ (action p j i).cost
  under_cost [] j i = refl
  under_cost (b ∷ bs) zero i = joining_keeps (λ a. a.cost) (λ a t. refl) (map (raised d) b.actions) i ∙ ap (λ a. a.cost) (raised_at b.actions i)
  under_cost (b ∷ bs) (suc j) i = rw (raised_job_at, raised_at)

  pub under_spawn : (p : Plan) (j i : ℕ) → (action (under d p) j i).spawn ≡ (raised d (action p j i)).spawn
  under_spawn [] j i = refl
  under_spawn (b ∷ bs) zero i = joining_keeps (λ a. a.spawn) (λ a t. refl) (map (raised d) b.actions) i ∙ ap (λ a. a.spawn) (raised_at b.actions i)
  under_spawn (b ∷ bs) (suc j) i = rw (raised_job_at, raised_at)

  pub under_none : (p : Plan) (j i : ℕ) → (action p j i).spawn ≡ 0 → (action (under d p) j i).spawn ≡ 0
  under_none p j i e = under_spawn p j i ∙ rw e

  pub under_child : (p : Plan) (j i c : ℕ) → (action p j i).spawn ≡ suc c → (action (under d p) j i).spawn ≡ suc (d + c)
  under_child p j i c e = under_spawn p j i ∙ rw e

  pub under_join : (p : Plan) (j i : ℕ) → 1 ≤ j → (action (under d p) j i).join ≡ (action p j i).join
  under_join p zero i h = absurd (not-suc-le-zero h)
  under_join [] (suc j) i h = refl
  under_join (b ∷ bs) (suc j) i h = rw (raised_job_at, raised_at)

  pub under_other : (p : Plan) (i : ℕ) → suc i < size p 0 → (action (under d p) 0 i).join ≡ (action p 0 i).join
  under_other [] i h = absurd (not-suc-le-zero h)
  under_other (b ∷ bs) i h =
      joining_other (map (raised d) b.actions) i (omega (arith, length-map b.actions (raised d))) ∙ ap (λ a. a.join) (raised_at b.actions i)

  pub under_last : (p : Plan) (i : ℕ) → suc i ≡ size p 0 → (action (under d p) 0 i).join ≡ 5
  under_last [] i h = absurd (omega arith)
  under_last (b ∷ bs) i h = joining_last (map (raised d) b.actions) i (omega (arith, length-map b.actions (raised d)))

  raised_total : (p : Plan) → total (map (raised_job d) p) ≡ total p
  raised_total [] = refl
  raised_total (b ∷ bs) = omega (arith, length-map b.actions (raised d), raised_total bs)

  pub under_total : (p : Plan) → total (under d p) ≡ total p
  under_total [] = refl
  under_total (b ∷ bs) = omega (arith, under_size (b ∷ bs) 0, raised_total bs)

  raised_start : (p : Plan) (j : ℕ) → start (map (raised_job d) p) j ≡ start p j
  raised_start [] zero = refl
  raised_start [] (suc j) = refl
  raised_start (b ∷ bs) zero = refl
  raised_start (b ∷ bs) (suc j) = omega (arith, length-map b.actions (raised d), raised_start bs j)

  pub under_start : (p : Plan) (j : ℕ) → start (under d p) j ≡ start p j
  under_start [] j = refl
  under_start (b ∷ bs) zero = refl
  under_start (b ∷ bs) (suc j) = omega (arith, under_size (b ∷ bs) 0, raised_start bs j)
