-- What the halves of a round leave as it was.
--   Kept s t       == t has done what s has, and has its rows
--   done_kept      == objects that stand for what is done in s, and for its rows, stand for those of t
--   turns_requests == turns lay no request
--   lay_none       == a worker that was not idle as the round began lays none
--   lays_deques    == requests leave the deques
--   second_kept    == requests and services leave what is done, and the rows
use Prim.Native.Nat.{ℕ, zero, suc}
use mathlib.Core.Path.{◌≡◌, refl, ◌∙◌}
use mathlib.Core.Bool.{false, true≢false}
use mathlib.Core.List.{List}
use lib.ListN.{get_or}
use Rattle.plan.specs.Plan.{Plan}
use Rattle.runs.specs.declared.worker.Worker.{Worker}
use Rattle.runs.specs.declared.worker.Worker.TheVariants.{Idle, Holding, Waiting}
use Rattle.runs.specs.Setting.{Setting}
use Rattle.runs.specs.State.{State}
use Rattle.runs.specs.Turn.{turns}
use Rattle.runs.specs.Steal.{laid, lay, lays, serves}
use Rattle.runs.specs.Parts.{pick_of}
use Rattle.runs.proofs.Laws.Rests.{Rests, lay_rests, serve_rests, turn_took}
use Rattle.turns.specs.declared.progress.Progress.{Progress}
use Rattle.rounds.specs.Account.{is_idle}
use Rattle.rounds.proofs.Laws.Standing.{Done}

abbrev pub Kept : State → State → Type 0
Kept s t = (t.next ≡ s.next) × (t.spent ≡ s.spent) × (t.rows ≡ s.rows)

pub done_kept : {p : Plan} {progress : Progress} {rows : List ℕ} {s t : State} → Done p progress rows s → Kept s t → Done p progress rows t
done_kept d (e, g, f) = record { progressed = rw (e, g) d.progressed; rowed = rw (e, f) d.rowed }

kept_on : (s : State) {t u : State} → Kept s t → Rests t u → Kept s u
kept_on s (e, g, f) q = (q.next ∙ e, q.spent ∙ g, q.rows ∙ f)

pub turns_requests : (p : Plan) (r k : ℕ) (b : List Worker) (s : State) → (turns p r k b s).tally.requests ≡ s.tally.requests
unfolding turns
turns_requests p r zero b s = refl
turns_requests p r (suc k) b s = (turn_took p r k (get_or b k Idle) (turns p r k b s)).requests ∙ turns_requests p r k b s

module _ (S : Setting) (r : ℕ) where
  pub lay_none : (w : ℕ) (x : Worker) (s : State) → is_idle x ≡ false → lay S r w x s ≡ s
  unfolding lay
  lay_none w Idle s f = absurd (true≢false f)
  lay_none w (Holding j) s f = refl
  lay_none w (Waiting v l) s f = refl

  lay_deques : (w : ℕ) (x : Worker) (s : State) → (lay S r w x s).deques ≡ s.deques
  unfolding lay laid
  lay_deques w Idle s = refl
  lay_deques w (Holding j) s = refl
  lay_deques w (Waiting v l) s = refl

  module _ (b : List Worker) (s : State) where
    pub lays_deques : (k : ℕ) → (lays S r k b s).deques ≡ s.deques
    unfolding lays
    lays_deques zero = refl
    lays_deques (suc k) = lay_deques k (get_or b k Idle) (lays S r k b s) ∙ lays_deques k

    lays_kept : (k : ℕ) → Kept s (lays S r k b s)
    unfolding lays
    lays_kept zero = (refl, refl, refl)
    lays_kept (suc k) = kept_on s (lays_kept k) (lay_rests S r k (get_or b k Idle) (lays S r k b s))

  serves_kept : (s : State) (k : ℕ) → Kept s (serves S r k s)
  unfolding serves
  serves_kept s zero = (refl, refl, refl)
  serves_kept s (suc k) = let t = serves S r k s in kept_on s (serves_kept s k) (serve_rests k (pick_of S r k t.workers) t)

  pub second_kept : (b : List Worker) (s : State) (k : ℕ) → Kept s (serves S r k (lays S r k b s))
  second_kept b s k =
      let (e, x, f) = lays_kept b s k in
      let (g, y, h) = serves_kept (lays S r k b s) k in
      (g ∙ e, y ∙ x, h ∙ f)
