-- The idle turns of a round's first half: they only count, so those between two turns, and those behind the last one, are one count.
--   Idled k s t == t is s after k idle turns
--   turns_gap   == the turns from the workers below `past` up to the lowest worker that is left are idle
--   turns_rest  == so are those behind the last one
use Prim.Native.Nat.{ℕ, zero, suc, ◌-◌, ◌≤◌}
use mathlib.Core.Path.{◌≡◌, refl, ap, ◌∙◌}
use mathlib.Core.Bool.{false, true≢false}
use mathlib.Core.List.{List}
use native.Mathlib.Omega.{arith}
use lib.ListN.{get_or}
use Rattle.plan.specs.Plan.{Plan}
use Rattle.runs.specs.declared.tally.Tally.{Tally}
use Rattle.runs.specs.declared.worker.Worker.{Worker}
use Rattle.runs.specs.declared.worker.Worker.TheVariants.{Idle, Holding, Waiting}
use Rattle.runs.specs.Tally.{with_idle}
use Rattle.runs.specs.State.{State, holds}
use Rattle.runs.specs.Turn.{idled, turn_of, turns}
use Rattle.crew.specs.Crew.{Lowest}
use Rattle.crew.proofs.Laws.Walks.{Left}
use Rattle.crew.proofs.Laws.Folds.{times, fold_to, fold_end}
use Rattle.turns.specs.Count.{recounted, with_idles}
use Rattle.rounds.proofs.Laws.Standing.{holding_in}

-- whose count of rounds, where k is 0, is that of s
pub record Idled (k : ℕ) (s t : State) : Type 0 where
  pub next : t.next ≡ s.next
  pub spent : t.spent ≡ s.spent
  pub workers : t.workers ≡ s.workers
  pub deques : t.deques ≡ s.deques
  pub rows : t.rows ≡ s.rows
  pub counts : t.tally ≡ with_idles s.tally t.tally.rounds k

idles : (r k : ℕ) (s : State) → Idled k s (times (idled r) k s)
unfolding times idled
idles r zero s =
    record { next = refl; spent = refl; workers = refl; deques = refl; rows = refl; counts = ap (recounted s.tally s.tally.rounds) (omega arith) }
idles r (suc k) s =
    let q = idles r k s in
    record {
      next = q.next;
      spent = q.spent;
      workers = q.workers;
      deques = q.deques;
      rows = q.rows;
      counts = ap (λ (t : Tally). with_idle t r) q.counts ∙ ap (recounted s.tally r) (omega arith);
    }

turn_idles : (p : Plan) (r k : ℕ) (x : Worker) (s : State) → holds x ≡ false → turn_of p r k x s ≡ idled r s
unfolding turn_of
turn_idles p r k Idle s e = refl
turn_idles p r k (Holding j) s e = absurd (true≢false e)
turn_idles p r k (Waiting v l) s e = refl

turns_more : (p : Plan) (r : ℕ) (b : List Worker) (s : State) (k : ℕ)
    → turns p r (suc k) b s ≡ turn_of p r k (get_or b k Idle) (turns p r k b s)
unfolding turns
turns_more p r b s k = refl

module _ (p : Plan) (r : ℕ) (b : List Worker) (s : State) {n past : ℕ} where
  pub turns_gap : {left w : ℕ} → Left (holding_in b) n past left → Lowest left w → Idled (w - past) (turns p r past b s) (turns p r w b s)
  turns_gap {left} {w} q low =
      let e : turns p r w b s ≡ times (idled r) (w - past) (turns p r past b s)
      = fold_to (λ (k : ℕ). turns p r k b s) (λ (k : ℕ). turn_of p r k (get_or b k Idle)) (turns_more p r b s) q (idled r)
      (λ k l h t i. turn_idles p r k (get_or b k Idle) (turns p r k b s) t) low in
      rw e (idles r (w - past) (turns p r past b s))

  pub turns_rest : past ≤ n → Left (holding_in b) n past 0 → Idled (n - past) (turns p r past b s) (turns p r n b s)
  turns_rest h q =
      let e : turns p r n b s ≡ times (idled r) (n - past) (turns p r past b s)
      = fold_end (λ (k : ℕ). turns p r k b s) (λ (k : ℕ). turn_of p r k (get_or b k Idle)) (turns_more p r b s) q (idled r)
      (λ k l h t i. turn_idles p r k (get_or b k Idle) (turns p r k b s) t) h refl in
      rw e (idles r (n - past) (turns p r past b s))
