-- The deques of every state of a run: with the job that is held below it, a deque is a chain of jobs, each the child of the one
-- above it, so that it has room in 255 places; a worker that holds nothing has none.
--   deque_chain  == the held job and the deque from the bottom up: each job is the child of the next
--   deque_empty  == who holds nothing has an empty deque
--   deque_height == at most 255 jobs
use Prim.Native.Nat.{ℕ, ◌≤◌, ◌<◌}
use mathlib.Core.Path.{◌≡◌, refl}
use mathlib.Core.Logic.{inl, inr, ⊎_elim}
use mathlib.Core.List.{List, [], ◌∷◌}
use native.Mathlib.Omega.{arith}
use lib.ListN.{length}
use Rattle.runs.specs.declared.worker.Worker.{Worker}
use Rattle.runs.specs.declared.worker.Worker.TheVariants.{Holding}
use Rattle.plan.specs.Plan.{Plan}
use Rattle.runs.specs.Setting.{Setting}
use Rattle.runs.specs.State.{State, worker_of, deque_of}
use Rattle.lines.proofs.Laws.Member.{◌∈◌}
use Rattle.lines.proofs.Laws.Shape.{Shape, Valid, Chain}
use Rattle.plan.specs.Rules.{Accepted}
use Rattle.plan.proofs.Laws.Valid.{jobs_range}
use Rattle.courses.proofs.Laws.PlanShape.{shape, shape_valid}
use Rattle.runs.proofs.Laws.Fit.{Fit}
use Rattle.runs.proofs.Laws.Lined.{Sound, line_of_lem, held_or_empty}
use Rattle.runs.proofs.Laws.Began.{Unheld}
use Rattle.runs.specs.Trace.{Stage, Trace}
use Rattle.runs.proofs.Laws.Sound.{trace_sound}

-- above a job of number h a chain has at most h jobs
chain_length : {P : Shape} → Valid P → (h : ℕ) (l : List ℕ) → ((x : ℕ) → x ∈ h ∷ l → x < P.jobs) → Chain P (h ∷ l) → length l ≤ h
chain_length ok h [] b c = omega arith
chain_length ok h (y ∷ l) b c =
    let r = chain_length ok y l (λ x m. b x (inr m)) c.2 in
    omega (arith, ok.older h c.0 (b h (inl refl)), c.1)

module _ {p : Plan} {n : ℕ} {s : State} (sound : Sound p n s) where
  pub sound_chain : (w : ℕ) {j : ℕ} → worker_of s w ≡ Holding j → Chain (shape p) (j ∷ deque_of s w)
  sound_chain w e = rw (line_of_lem s w e) at (sound.good.chain w)

  sound_empty : (w : ℕ) → Unheld (worker_of s w) → deque_of s w ≡ []
  sound_empty w none = ⊎_elim (λ (j, e). absurd (none j e)) (λ e. e) (held_or_empty sound w)

  sound_height : Accepted p → (w : ℕ) → length (deque_of s w) ≤ 255
  sound_height ok w = ⊎_elim (λ (j, e). held j e) (λ e. rw e (omega arith)) (held_or_empty sound w)
    where
      held : (j : ℕ) → worker_of s w ≡ Holding j → length (deque_of s w) ≤ 255
      held j e =
          let in-line : (x : ℕ) → x ∈ j ∷ deque_of s w → x < length p =
          λ x m. (sound.good.here w x (rw (line_of_lem s w e) m)).0.below in
          let h = chain_length (shape_valid p ok) j (deque_of s w) in-line (sound_chain w e) in
          omega (arith, in-line j (inl refl), jobs_range p ok)

module _ {S : Setting} (fit : Fit S) {r : ℕ} {b : List Worker} {g : Stage} {s : State}
    (t : Trace S r b g s) where
  pub deque_chain : (w : ℕ) {j : ℕ} → worker_of s w ≡ Holding j → Chain (shape S.plan) (j ∷ deque_of s w)
  deque_chain = sound_chain (trace_sound fit t)

  pub deque_empty : (w : ℕ) → Unheld (worker_of s w) → deque_of s w ≡ []
  deque_empty = sound_empty (trace_sound fit t)

  pub deque_height : (w : ℕ) → length (deque_of s w) ≤ 255
  deque_height = sound_height (trace_sound fit t) fit.plan
