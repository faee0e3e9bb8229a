-- The victims that waiting workers name are workers that there are, and there is a choice for each request.
--   Named n r x  == if the worker x waits, it names one of n victims, and one of the rounds 1 to r
--   named_all    == that holds of every worker of a state of a run, for choices of any length that name workers
--   victim_below == so for those that an entry takes
--   laid_choices == a worker that held nothing as a round began has a choice
use Prim.Native.Nat.{ℕ, zero, suc, ◌≤◌, ◌<◌, ◌%◌}
use mathlib.Core.Path.{◌≡◌, refl, sym, ap, ◌∙◌}
use mathlib.Core.Logic.{◌⊎◌, inl, inr, by_cases, ⊎_elim}
use mathlib.Core.Bool.{Bool, true, false}
use mathlib.Core.List.{List, [], ◌∷◌}
use native.Mathlib.Nat.{lt_of_not-le}
use native.Mathlib.Omega.{arith}
use native.Mathlib.Decide.{dec_lt}
use lib.Dec.{T, ltb, leb, ltb→lt, leb→le}
use lib.ListN.{length, get_or, set, get_or-eq_default}
use Rattle.plan.specs.Test.{either, all}
use Rattle.runs.specs.declared.worker.Worker.{Worker}
use Rattle.runs.specs.declared.worker.Worker.TheVariants.{Idle, Waiting}
use Rattle.runs.specs.Setting.{Setting, count_in}
use Rattle.runs.specs.State.{State, worker_of, start}
use Rattle.runs.specs.Steal.{waits}
use Rattle.runs.specs.Run.{choices_fit}
use Rattle.plan.proofs.Laws.Lists.{both_left, both_right, all_at}
use Rattle.runs.specs.Trace.{Stage, Trace, begins, turned, goes_on, laid, all_laid, served, next_round}
use Rattle.runs.proofs.Laws.Fit.{Fit, count_is, count_next}
use Rattle.runs.proofs.Laws.Tallies.{lone_holds}
use Rattle.runs.proofs.Laws.Start.{start_calm}
use Rattle.runs.proofs.Laws.Stores.{turned_workers, laid_workers, served_workers}
use Rattle.runs.proofs.Laws.Began.{Unheld}
use Rattle.runs.proofs.Laws.Rounds.{round_first}

-- what stands at a place after a store, there or elsewhere
set_either : {A : Type 0} (l : List A) (k w : ℕ) (x d : A) → (get_or (set l k x) w d ≡ x) ⊎ (get_or (set l k x) w d ≡ get_or l w d)
set_either [] k w x d = inr refl
set_either (y ∷ l) zero zero x d = inl refl
set_either (y ∷ l) zero (suc w) x d = inr refl
set_either (y ∷ l) (suc k) zero x d = inr refl
set_either (y ∷ l) (suc k) (suc w) x d = set_either l k w x d

abbrev pub Named : ℕ → ℕ → Worker → Type 0
Named n r x = (v l : ℕ) → x ≡ Waiting v l → (v < n) × (1 ≤ l) × (l ≤ r)

abbrev pub AllNamed : ℕ → ℕ → List Worker → Type 0
AllNamed n r ws = (w : ℕ) → Named n r (get_or ws w Idle)

named_calm : (n r : ℕ) (x : Worker) → waits x ≡ 0 → Named n r x
named_calm n r x e v l f = let z = ap waits f in absurd (omega arith)

named_laid : {n r v : ℕ} → v < n → 1 ≤ r → Named n r (Waiting v r)
named_laid {r = r} {v = v} h b u l e = let f : v ≡ u = cc in let g : r ≡ l = cc in omega arith

named_set : {n r : ℕ} (ws : List Worker) (k : ℕ) (x : Worker) → Named n r x → AllNamed n r ws → AllNamed n r (set ws k x)
named_set ws k x a i w v l e = ⊎_elim (λ q. a v l (sym q ∙ e)) (λ q. i w v l (sym q ∙ e)) (set_either ws k w x Idle)

calm_named : {n r : ℕ} (ws : List Worker) (k : ℕ) (x : Worker) → AllNamed n r ws → waits x ≡ 0 → AllNamed n r (set ws k x)
calm_named {n} {r} ws k x i c = named_set ws k x (named_calm n r x c) i

-- each choice is a worker that there is
choice_below : (n : ℕ) (choices : List ℕ) → 1 ≤ n → T (all (λ c. ltb c n) choices) → (i : ℕ) → get_or choices i 0 < n
choice_below n choices some t i =
    by_cases (dec_lt i (length choices)) (λ h. ltb→lt (get_or choices i 0) n (all_at (λ c. ltb c n) choices t 0 i h))
    (λ f. rw (get_or-eq_default choices 0 {n = i} (omega arith)) some)

module _ {S : Setting} (fit : Fit S) where
  open S use {plan, choices}

  pub named_all : T (all (λ c. ltb c S.workers) choices) → {r : ℕ} {b : List Worker} {g : Stage} {s : State} → Trace S r b g s
      → AllNamed (count_in S r) r s.workers
  named_all named begins = λ w. named_calm (count_in S 1) 1 (worker_of (start plan) w) (start_calm plan w)
  named_all named (turned {r} {k} {b} {s} t h) =
      turned_workers (AllNamed (count_in S r) r) t (named_all named t) (λ j y e. calm_named s.workers k y (named_all named t))
  named_all named (goes_on t e) = named_all named t
  named_all named (laid {r} {k} {b} {s} t h) =
      let below = choice_below S.workers choices fit.some named (s.tally.requests % length choices) in
      laid_workers (AllNamed (count_in S r) r) t (named_all named t)
      (λ e. named_set s.workers k _ (named_laid (rw (count_is S r) below) (round_first fit t)) (named_all named t))
  named_all named (all_laid t) = named_all named t
  named_all named (served {r} {k} {b} {s} t h) =
      served_workers (AllNamed (count_in S r) r) t (λ z. named_all named t)
      (λ w y e. calm_named s.workers w y (named_all named t))
  named_all named (next_round {r} t) = λ w v l e. omega (arith, named_all named t w v l e, count_next S r)

  pub victim_below : T (choices_fit S.workers choices) → {r : ℕ} {b : List Worker} {g : Stage} {s : State} → Trace S r b g s
      → (w v l : ℕ) → worker_of s w ≡ Waiting v l → (v < count_in S r) × (1 ≤ l) × (l ≤ r)
  unfolding choices_fit
  victim_below chosen = named_all (both_left (all (λ c. ltb c S.workers) choices) _ chosen)

  -- a worker that held nothing as a round began is not alone
  unheld_more : {r : ℕ} {b : List Worker} {g : Stage} {s : State} → Trace S r b g s
      → (w : ℕ) → w < count_in S r → Unheld (get_or b w Idle) → 2 ≤ S.workers
  unheld_more t w h u =
      lt_of_not-le (λ (f : S.workers ≤ 1). let (j, e) = lone_holds fit (omega arith) t w h in u j e)

  pub laid_choices : T (choices_fit S.workers choices) → {r : ℕ} {b : List Worker} {g : Stage} {s : State} → Trace S r b g s
      → (w : ℕ) → w < count_in S r → Unheld (get_or b w Idle) → 1 ≤ length choices
  unfolding choices_fit
  laid_choices chosen t w h u =
      go (leb S.workers 1) (leb→le S.workers 1)
      (both_right (leb (length choices) 4096) _ (both_right (all (λ c. ltb c S.workers) choices) _ chosen))
    where
      go : (x : Bool) → (T x → S.workers ≤ 1) → T (either x (leb 1 (length choices))) → 1 ≤ length choices
      go true f a = absurd (omega (arith, f tt, unheld_more t w h u))
      go false f a = leb→le 1 (length choices) a
