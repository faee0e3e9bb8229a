-- What the tests of a pool say, in the theory of lines.
--   unheld_is, unheld_by == nobody holds the job
--   unheld_or            == nobody does, or one does
--   lone_is, lone_by     == no child of it lives
--   Free p next ws j     == job j lives, is ready and nobody of ws holds it
--   waits_is, waits_by   == so it is of the jobs that are in the pool and ready
use Prim.Native.Nat.{ℕ, zero, suc, ◌<◌}
use mathlib.Core.Path.{◌≡◌, refl, ap}
use mathlib.Core.Logic.{◌⊎◌, inl, inr, ◌≢◌}
use mathlib.Core.Bool.{Bool, true, false, not}
use mathlib.Core.List.{List, [], ◌∷◌}
use native.Mathlib.Omega.{arith}
use lib.Dec.{T, eqb, leb, eqb→eq, eqb_refl, leb→le, le→leb, T_not, not_T}
use lib.ListN.{length, get_or}
use Rattle.plan.specs.Test.{both}
use Rattle.plan.specs.Plan.{Plan, parent}
use Rattle.plan.specs.Rules.{Accepted}
use Rattle.plan.proofs.Laws.Lists.{both_intro, both_left, both_right}
use Rattle.plan.proofs.Laws.Counts.{below_all, below_by}
use Rattle.courses.specs.Ready.{living}
use Rattle.courses.proofs.Laws.PlanShape.{shape, living_is, living_by, ready_is, ready_by}
use Rattle.lines.proofs.Laws.Shape.{Living, Ready, Lone}
use Rattle.runs.specs.declared.worker.Worker.{Worker}
use Rattle.runs.specs.declared.worker.Worker.TheVariants.{Idle, Holding, Waiting}
use Rattle.runs.proofs.Laws.Coursed.{hands_in, hands_of}
use Rattle.pools.specs.State.{has, unheld, in_pool, lone}
use Rattle.pools.specs.Take.{waits}

has_not : (x : Worker) (j : ℕ) → T (not (has x j)) → hands_in x ≢ suc j
has_not Idle j t e = omega arith
has_not (Holding i) j t e = let q : i ≡ j = omega arith in T_not (eqb i j) t (rw q (eqb_refl j))
has_not (Waiting v l) j t e = omega arith

not_has : (x : Worker) (j : ℕ) → hands_in x ≢ suc j → T (not (has x j))
not_has Idle j f = tt
not_has (Holding i) j f = not_T (eqb i j) (λ t. f (ap suc (eqb→eq i j t)))
not_has (Waiting v l) j f = tt

pub unheld_is : (ws : List Worker) (j : ℕ) → T (unheld ws j) → (w : ℕ) → hands_of ws w ≢ suc j
unfolding unheld
unheld_is [] j t w e = omega arith
unheld_is (x ∷ ws) j t zero e = has_not x j (both_left (not (has x j)) _ t) e
unheld_is (x ∷ ws) j t (suc w) e = unheld_is ws j (both_right (not (has x j)) _ t) w e

pub unheld_by : (ws : List Worker) (j : ℕ) → ((w : ℕ) → hands_of ws w ≢ suc j) → T (unheld ws j)
unfolding unheld
unheld_by [] j f = tt
unheld_by (x ∷ ws) j f = both_intro (not (has x j)) _ (not_has x j (f 0)) (unheld_by ws j (λ w. f (suc w)))

has_or : (x : Worker) (j : ℕ) → (hands_in x ≢ suc j) ⊎ (hands_in x ≡ suc j)
has_or Idle j = inl (λ e. omega arith)
has_or (Holding i) j = go (eqb i j) refl
  where
    go : (b : Bool) → eqb i j ≡ b → (suc i ≢ suc j) ⊎ (suc i ≡ suc j)
    go true e = inr (ap suc (eqb→eq i j (rw e tt)))
    go false e = inl (λ q. let z : i ≡ j = omega arith in let t : T (eqb i j) = rw z (eqb_refl j) in rw e at t)
has_or (Waiting v l) j = inl (λ e. omega arith)

pub unheld_or : (ws : List Worker) (j : ℕ) → ((w : ℕ) → hands_of ws w ≢ suc j) ⊎ ((w : ℕ) × (hands_of ws w ≡ suc j))
unheld_or [] j = inl (λ w e. omega arith)
unheld_or (x ∷ ws) j = go (has_or x j) (unheld_or ws j)
  where
    go : (hands_in x ≢ suc j) ⊎ (hands_in x ≡ suc j) → ((w : ℕ) → hands_of ws w ≢ suc j) ⊎ ((w : ℕ) × (hands_of ws w ≡ suc j))
        → ((w : ℕ) → hands_of (x ∷ ws) w ≢ suc j) ⊎ ((w : ℕ) × (hands_of (x ∷ ws) w ≡ suc j))
    go (inr e) d = inr (0, e)
    go (inl f) (inr (w, e)) = inr (suc w, e)
    go (inl f) (inl g) = inl each
      where
        each : (w : ℕ) → hands_of (x ∷ ws) w ≢ suc j
        each zero = f
        each (suc w) = g w

module _ (p : Plan) (next : List ℕ) (q : ℕ) where
  -- job c is a living child of q
  abbrev heir : ℕ → Bool
  heir c = both (both (leb 1 c) (eqb (parent p c) q)) (living p next c)

  pub lone_is : T (lone p next q) → Lone (shape p) (λ j. get_or next j 0) q
  unfolding lone
  lone_is t c b (o, (e, a)) =
      T_not (heir c) (below_all (λ c. not (heir c)) (length p) t c b)
      (both_intro (both (leb 1 c) (eqb (parent p c) q)) _
      (both_intro (leb 1 c) _ (le→leb 1 c o) (rw e (eqb_refl q))) (living_by p next c a))

  pub lone_by : Lone (shape p) (λ j. get_or next j 0) q → T (lone p next q)
  unfolding lone
  lone_by f = below_by (λ c. not (heir c)) (length p) (λ c b. not_T (heir c) (λ t.
      let child = both_left (both (leb 1 c) (eqb (parent p c) q)) _ t in
      f c b (
        leb→le 1 c (both_left (leb 1 c) _ child),
        (eqb→eq (parent p c) q (both_right (leb 1 c) _ child), living_is p next c b (both_right (both (leb 1 c) (eqb (parent p c) q)) _ t)),
      )))

pub record Free (p : Plan) (next : List ℕ) (ws : List Worker) (j : ℕ) : Type 0 where
  pub living : Living (shape p) (λ k. get_or next k 0) j
  pub ready : Ready (shape p) (λ k. get_or next k 0) j
  pub unheld : (w : ℕ) → hands_of ws w ≢ suc j

module _ (p : Plan) (ok : Accepted p) (next : List ℕ) (ws : List Worker) (j : ℕ) where
  pub waits_is : j < length p → T (waits p next ws j) → Free p next ws j
  unfolding waits in_pool
  waits_is h t =
      let here = both_left (both (living p next j) (unheld ws j)) _ t in
      record {
        living = living_is p next j h (both_left (living p next j) _ here);
        ready = ready_is p next ok j (both_right (both (living p next j) (unheld ws j)) _ t);
        unheld = unheld_is ws j (both_right (living p next j) _ here);
      }

  pub waits_by : Free p next ws j → T (waits p next ws j)
  unfolding waits in_pool
  waits_by f =
      both_intro (both (living p next j) (unheld ws j)) _
      (both_intro (living p next j) _ (living_by p next j f.living) (unheld_by ws j f.unheld))
      (ready_by p next ok j f.ready (λ z. f.living.begun))
