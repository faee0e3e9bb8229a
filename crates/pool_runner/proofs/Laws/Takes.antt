-- What one worker takes, and that nobody takes where no job is free.
--   take_holds, take_lowest, takes_more == a worker that holds a job takes none; one that does not takes the lowest; one worker more
--   not_idle, idle_is, held_hands, hands_free == who is not idle holds a job, and so on
--   takes_still == where no job is free while a worker has none, nobody takes
use Prim.Native.Nat.{ℕ, zero, suc, ◌≤◌, ◌<◌}
use mathlib.Core.Path.{◌≡◌, refl, sym, ap, ◌∙◌}
use mathlib.Core.Bool.{Bool, true, false, true≢false, not}
use native.Mathlib.Omega.{arith}
use lib.ListN.{length}
use Rattle.plan.specs.Plan.{Plan}
use Rattle.plan.specs.Rules.{Accepted}
use Rattle.plan.specs.Test.{below}
use Rattle.runs.specs.declared.worker.Worker.{Worker}
use Rattle.runs.specs.declared.worker.Worker.TheVariants.{Idle, Holding, Waiting}
use Rattle.runs.specs.State.{holds}
use Rattle.runs.proofs.Laws.Coursed.{hands_in, hands_of}
use Rattle.pools.specs.State.{State, worker_of}
use Rattle.pools.specs.Take.{lowest, waits, giving, take, takes}
use Rattle.pools.proofs.Laws.Lowest.{finds, finds_one}
use Rattle.pools.proofs.Laws.Tests.{Free, waits_is}
use Rattle.rounds.specs.Account.{is_idle}

-- a worker that holds a job takes none
pub take_holds : (p : Plan) (w : ℕ) (s : State) → holds (worker_of s w) ≡ true → take p w s ≡ s
unfolding take
take_holds p w s e = rw (take, e)

-- one that does not takes the lowest
pub take_lowest : (p : Plan) (w : ℕ) (s : State) → holds (worker_of s w) ≡ false
    → take p w s ≡ giving w (lowest (waits p s.next s.workers) (below (length p))) s
unfolding take
take_lowest p w s e = rw (take, e)

pub takes_more : (p : Plan) (s : State) (k : ℕ) → takes p (suc k) s ≡ take p k (takes p k s)
unfolding takes
takes_more p s k = refl

pub not_idle : (x : Worker) → is_idle x ≡ not (holds x) → is_idle x ≡ false → holds x ≡ true
not_idle Idle q e = absurd (true≢false e)
not_idle (Holding j) q e = refl
not_idle (Waiting v l) q e = absurd (true≢false (sym q))

pub idle_is : (x : Worker) → is_idle x ≡ true → (holds x ≡ false) × (hands_in x ≡ 0)
idle_is Idle e = (refl, refl)
idle_is (Holding j) e = absurd (true≢false (sym e))
idle_is (Waiting v l) e = absurd (true≢false (sym e))

pub held_hands : (x : Worker) → holds x ≡ true → (j : ℕ) × (hands_in x ≡ suc j)
held_hands Idle e = absurd (true≢false (sym e))
held_hands (Holding j) e = (j, refl)
held_hands (Waiting v l) e = absurd (true≢false (sym e))

pub hands_free : (x : Worker) → hands_in x ≡ 0 → holds x ≡ false
hands_free Idle e = refl
hands_free (Holding j) e = absurd (omega arith)
hands_free (Waiting v l) e = refl

pub free_hands : (x : Worker) → holds x ≡ false → hands_in x ≡ 0
free_hands Idle e = refl
free_hands (Holding j) e = absurd (true≢false e)
free_hands (Waiting v l) e = refl

-- the lowest of none
pub lowest_none : (p : Plan) → Accepted p → (s : State) → ((j : ℕ) → ¬ Free p s.next s.workers j)
    → lowest (waits p s.next s.workers) (below (length p)) ≡ 0
lowest_none p ok s none = finds_one _ (length p) _ 0 (finds _ (length p)) (record {
  none = λ e u l t. none u (waits_is p ok s.next s.workers u l t);
  some = λ u e. absurd (omega arith);
})

pub takes_still : (p : Plan) → Accepted p → (n : ℕ) (s : State)
    → ((w : ℕ) → w < n → hands_of s.workers w ≡ 0 → (j : ℕ) → ¬ Free p s.next s.workers j) → (k : ℕ) → k ≤ n → takes p k s ≡ s
unfolding takes
takes_still p ok n s greedy zero h = refl
takes_still p ok n s greedy (suc k) h = ap (take p k) (takes_still p ok n s greedy k (omega arith)) ∙ go (holds (worker_of s k)) refl
  where
    go : (b : Bool) → holds (worker_of s k) ≡ b → take p k s ≡ s
    go true e = take_holds p k s e
    go false e = take_lowest p k s e ∙ ap (λ x. giving k x s) (lowest_none p ok s (greedy k h (free_hands (worker_of s k) e)))
