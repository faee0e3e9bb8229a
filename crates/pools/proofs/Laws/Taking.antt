-- The taking: idle workers hold the jobs that they took, each free before and no two the same, and while one is left idle no job is free.
--   core s          == the state as a course has it
--   Took p n k b s  == the workers below k have taken, of workers that stood as b
--   took_none       == before the first
--   took_next       == one worker more
--   took_takes      == after the last: what the theory of courses asks of a taking
--   take_keeps      == a taking leaves all but the workers
use Prim.Native.Nat.{ℕ, zero, suc, ◌≤◌, ◌<◌}
use mathlib.Core.Path.{◌≡◌, refl, ap, sym, ◌∙◌}
use mathlib.Core.Logic.{◌≢◌, by_cases}
use mathlib.Core.Bool.{Bool, true, false, true≢false}
use mathlib.Core.List.{List}
use native.Mathlib.Omega.{arith}
use native.Mathlib.Nat.{le_refl}
use native.Mathlib.Decide.{ℕ_discrete}
use lib.ListN.{length, length-set}
use lib.Seq.{get_or-set_same, get_or-set_other}
use Rattle.plan.specs.Test.{below}
use Rattle.plan.specs.Plan.{Plan}
use Rattle.plan.specs.Rules.{Accepted}
use Rattle.courses.proofs.Laws.Course.{Core}
use Rattle.courses.proofs.Laws.Pool.{Takes}
use Rattle.courses.proofs.Laws.PlanShape.{shape}
use Rattle.lines.proofs.Laws.Shape.{Living, Ready}
use Rattle.runs.specs.declared.worker.Worker.{Worker}
use Rattle.runs.specs.declared.worker.Worker.TheVariants.{Idle, Holding, Waiting}
use Rattle.runs.specs.State.{holds}
use Rattle.runs.proofs.Laws.Coursed.{hands_in, hands_of}
use Rattle.pools.specs.State.{State, next_of, worker_of}
use Rattle.pools.specs.Take.{lowest, waits, given, giving, take}
use Rattle.pools.proofs.Laws.Lowest.{Finds, finds}
use Rattle.pools.proofs.Laws.Tests.{Free, waits_is, waits_by}

abbrev pub core : State → Core
core s = record { next = s.next; spent = s.spent; rows = s.rows; turns = s.tally.actions; peak = s.tally.peak }

-- a state but for its workers
pub record Same (s t : State) : Type 0 where
  pub next : t.next ≡ s.next
  pub spent : t.spent ≡ s.spent
  pub rows : t.rows ≡ s.rows
  pub tally : t.tally ≡ s.tally

pub same_core : {s t : State} → Same s t → core t ≡ core s
same_core q = λ i. record {
  next = q.next i;
  spent = q.spent i;
  rows = q.rows i;
  turns = (q.tally i).actions;
  peak = (q.tally i).peak;
}

pub take_keeps : (p : Plan) (w : ℕ) (s : State) → Same s (take p w s)
unfolding take given
take_keeps p w s = go (holds (worker_of s w)) (lowest (waits p s.next s.workers) (below (length p)))
  where
    go : (b : Bool) (x : ℕ) → Same s (elim b [ true ↦ s | false ↦ giving w x s ])
    go true x = record { next = refl; spent = refl; rows = refl; tally = refl }
    go false zero = record { next = refl; spent = refl; rows = refl; tally = refl }
    go false (suc j) = record { next = refl; spent = refl; rows = refl; tally = refl }

holds_hands : (x : Worker) → holds x ≡ true → hands_in x ≢ 0
holds_hands Idle e f = true≢false (sym e)
holds_hands (Holding j) e f = omega arith
holds_hands (Waiting v l) e f = true≢false (sym e)

holds_not : (x : Worker) → holds x ≡ false → hands_in x ≡ 0
holds_not Idle e = refl
holds_not (Holding j) e = absurd (true≢false e)
holds_not (Waiting v l) e = refl

module _ (p : Plan) (n : ℕ) where
  pub record Took (k : ℕ) (b : List Worker) (s : State) : Type 0 where
    pub seats : length s.workers ≡ 16
    pub keeps : (w j : ℕ) → hands_of b w ≡ suc j → hands_of s.workers w ≡ suc j
    pub later : (w : ℕ) → k ≤ w → hands_of s.workers w ≡ hands_of b w
    pub free : (w j : ℕ) → hands_of b w ≡ 0 → hands_of s.workers w ≡ suc j
        → (w < n) × (Living (shape p) (next_of s) j × Ready (shape p) (next_of s) j × ((v : ℕ) → hands_of b v ≢ suc j))
    pub apart : (v w j : ℕ) → hands_of b v ≡ 0 → hands_of b w ≡ 0 → hands_of s.workers v ≡ suc j → hands_of s.workers w ≡ suc j → v ≡ w
    -- while a worker that has taken is left idle, no job is free
    pub greedy : (w : ℕ) → w < k → hands_of s.workers w ≡ 0 → (j : ℕ) → ¬ Free p s.next s.workers j
    -- and if it is the first, none was
    pub zeroth : 1 ≤ k → hands_of s.workers 0 ≡ 0 → (j : ℕ) → Living (shape p) (next_of s) j → Ready (shape p) (next_of s) j
        → ¬ ((w : ℕ) → hands_of b w ≢ suc j)

  pub took_none : (s : State) → length s.workers ≡ 16 → Took 0 s.workers s
  took_none s long = record {
    seats = long;
    keeps = λ w j e. e;
    later = λ w h. refl;
    free = λ w j e f. absurd (omega arith);
    apart = λ v w j e f g h. absurd (omega arith);
    greedy = λ w h. absurd (omega arith);
    zeroth = λ h. absurd (omega arith);
  }

  module _ (ok : Accepted p) {k : ℕ} (known : k < n) (few : n ≤ 16) {b : List Worker} {s : State} (o : Took k b s) where
    -- the worker holds a job already
    stays : hands_of s.workers k ≢ 0 → Took (suc k) b s
    stays f = record {
      seats = o.seats;
      keeps = o.keeps;
      later = λ w h. o.later w (omega arith);
      free = o.free;
      apart = o.apart;
      greedy = λ w h e. by_cases (ℕ_discrete w k) (λ q. absurd (f (rw q at e))) (λ q. o.greedy w (omega arith) e);
      zeroth = λ h e. by_cases (ℕ_discrete k 0) (λ q. absurd (f (rw q e))) (λ q. o.zeroth (omega arith) e);
    }

    -- there is none to take
    none : ((j : ℕ) → ¬ Free p s.next s.workers j) → Took (suc k) b s
    none f = record {
      seats = o.seats;
      keeps = o.keeps;
      later = λ w h. o.later w (omega arith);
      free = o.free;
      apart = o.apart;
      greedy = λ w h e. f;
      zeroth = λ h e j a r g. by_cases (ℕ_discrete k 0)
          (λ q. f j (record { living = a; ready = r; unheld = λ w i. g w (sym (o.later w (rw q (omega arith))) ∙ i) }))
          (λ q. o.zeroth (omega arith) e j a r g);
    }

    -- it takes job j
    module _ (idle : hands_of s.workers k ≡ 0) (j : ℕ) (free : Free p s.next s.workers j) where
      abbrev t : State
      t = given k j s

      here : hands_of t.workers k ≡ suc j
      unfolding given
      here = ap hands_in (get_or-set_same s.workers k (Holding j) Idle (omega (arith, o.seats)))

      other : (w : ℕ) → w ≢ k → hands_of t.workers w ≡ hands_of s.workers w
      unfolding given
      other w f = ap hands_in (get_or-set_other s.workers k w (Holding j) Idle f)

      was : hands_of b k ≡ 0
      was = sym (o.later k (le_refl k)) ∙ idle

      -- a job that was held is not the one that is taken
      keeps' : (w i : ℕ) → hands_of b w ≡ suc i → hands_of t.workers w ≡ suc i
      keeps' w i e =
          by_cases (ℕ_discrete w k) (λ q. absurd (omega (arith, was, ap (hands_of b) q))) (λ q. other w q ∙ o.keeps w i e)

      free' : (w i : ℕ) → hands_of b w ≡ 0 → hands_of t.workers w ≡ suc i
          → (w < n) × (Living (shape p) (next_of s) i × Ready (shape p) (next_of s) i × ((v : ℕ) → hands_of b v ≢ suc i))
      free' w i e f = go (ℕ_discrete w k)
        where
          go : Dec (w ≡ k) → (w < n) × (Living (shape p) (next_of s) i × Ready (shape p) (next_of s) i × ((v : ℕ) → hands_of b v ≢ suc i))
          go (yes q) =
              let z : i ≡ j = omega (arith, here, ap (hands_of t.workers) q) in
              (omega arith, (rw z free.living, rw z free.ready, rw z (λ v g. free.unheld v (o.keeps v j g))))
          go (no q) = o.free w i e (sym (other w q) ∙ f)

      apart' : (v w i : ℕ) → hands_of b v ≡ 0 → hands_of b w ≡ 0 → hands_of t.workers v ≡ suc i → hands_of t.workers w ≡ suc i → v ≡ w
      apart' v w i e f g h = go (ℕ_discrete v k) (ℕ_discrete w k)
        where
          -- nobody but k has the job that k took
          sole : (u : ℕ) → u ≢ k → hands_of t.workers u ≡ suc i → hands_of t.workers k ≡ suc i → ⊥
          sole u q y z = free.unheld u (sym (other u q) ∙ y ∙ sym z ∙ here)

          go : Dec (v ≡ k) → Dec (w ≡ k) → v ≡ w
          go (yes x) (yes y) = x ∙ sym y
          go (yes x) (no y) = absurd (sole w y h (rw x at g))
          go (no x) (yes y) = absurd (sole v x g (rw y at h))
          go (no x) (no y) = o.apart v w i e f (sym (other v x) ∙ g) (sym (other w y) ∙ h)

      gives : Took (suc k) b t
      unfolding given
      gives = record {
        seats = length-set s.workers k (Holding j) ∙ o.seats;
        keeps = keeps';
        later = λ w h. other w (λ q. omega arith) ∙ o.later w (omega arith);
        free = free';
        apart = apart';
        greedy = λ w h e. by_cases (ℕ_discrete w k)
            (λ q. absurd (omega (arith, here, ap (hands_of t.workers) q)))
            (λ q. absurd (o.greedy w (omega arith) (sym (other w q) ∙ e) j free));
        zeroth = λ h e. by_cases (ℕ_discrete k 0)
            (λ q. absurd (omega (arith, here, ap (hands_of t.workers) q)))
            (λ q. o.zeroth (omega arith) (sym (other 0 (λ z. q (sym z))) ∙ e));
      }

    pub took_next : Took (suc k) b (take p k s)
    unfolding take
    took_next = go (holds (worker_of s k)) refl (lowest (waits p s.next s.workers) (below (length p))) (finds (waits p s.next s.workers) (length p))
      where
        go : (c : Bool) → holds (worker_of s k) ≡ c → (x : ℕ) → Finds (waits p s.next s.workers) (length p) x
            → Took (suc k) b (elim c [ true ↦ s | false ↦ giving k x s ])
        go true e x f = stays (holds_hands (worker_of s k) e)
        go false e zero f = none (λ j g. f.none refl j g.living.below (waits_by p ok s.next s.workers j g))
        go false e (suc j) f =
            let (l, t, low) = f.some j refl in
            gives (holds_not (worker_of s k) e) j (waits_is p ok s.next s.workers j l t)

  pub took_takes : {b : List Worker} {s : State} → Took n b s → Takes p n (hands_of b) (hands_of s.workers) (core s)
  took_takes o = record { keeps = o.keeps; free = o.free; apart = o.apart }
