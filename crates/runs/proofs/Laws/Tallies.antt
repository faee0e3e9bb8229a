-- The counts of turns and requests in every state of a run: each worker has one turn in a round, and lays at most one request.
--   counts S r                == how many turns the rounds up to round r have
--   turns_sum                 == when every worker has had its turn in round r, the tally has as many
--   turns_most, requests_most == before that no more turns, and never more requests
--   lone_holds, lone_idle     == a worker that is alone holds a job as each round begins, so it never idles
use Prim.Native.Nat.{ℕ, zero, suc, ◌+◌, ◌*◌, ◌≤◌, ◌<◌}
use mathlib.Core.Path.{◌≡◌, refl, ap, ◌∙◌}
use mathlib.Core.List.{List}
use native.Mathlib.Nat.{mul-zero, mul-suc}
use native.Mathlib.Omega.{arith}
use lib.ListN.{get_or}
use Rattle.runs.specs.declared.tally.Tally.{Tally}
use Rattle.runs.specs.declared.worker.Worker.{Worker}
use Rattle.runs.specs.declared.worker.Worker.TheVariants.{Idle, Holding, Waiting}
use Rattle.runs.specs.Setting.{Setting, count_in}
use Rattle.runs.specs.State.{State, start}
use Rattle.runs.specs.Turn.{turn_of}
use Rattle.runs.specs.Steal.{laid as laid_by, lay, taken_from, given, serve}
use Rattle.runs.specs.Parts.{pick_of}
use Rattle.runs.specs.Trace.{Stage, turning, laying, serving, Trace, begins, turned, goes_on, laid, all_laid, served, next_round}
use Rattle.runs.proofs.Laws.Fit.{Fit, count_most, count_within, count_is}
use Rattle.runs.proofs.Laws.Rests.{service_keeps, turned_took, laid_rests, served_rests, turn_busy}
use Rattle.runs.proofs.Laws.Rounds.{began_busy}

unfoldable pub counts : Setting → ℕ → ℕ
counts S zero = 0
counts S (suc r) = counts S r + count_in S (suc r)

pub counts_most : {S : Setting} → Fit S → (r : ℕ) → counts S r ≤ 16 * r
unfolding counts
counts_most fit zero = omega arith
counts_most fit (suc r) = omega (arith, counts_most fit r, count_most fit (suc r))

-- each round has the same number of workers
pub counts_same : (S : Setting) (r : ℕ) → counts S r ≡ S.workers * r
unfolding counts
counts_same S zero = omega (arith, mul-zero S.workers)
counts_same S (suc r) = omega (arith, counts_same S r, count_is S (suc r), mul-suc S.workers r)

-- the turns of the rounds before, and of the workers below k in this one
abbrev Turned : Setting → Stage → ℕ → Tally → Type 0
Turned S (turning k) r t = (k ≤ count_in S r) × (counts S r + k ≡ count_in S r + (t.actions + t.idle))
Turned S (laying k) r t = counts S r ≡ t.actions + t.idle
Turned S (serving k) r t = counts S r ≡ t.actions + t.idle

-- no more requests than turns in the rounds before, and in this one of the workers below k
abbrev Requested : Setting → Stage → ℕ → ℕ → Type 0
Requested S (turning k) r q = q + count_in S r ≤ counts S r
Requested S (laying k) r q = (k ≤ count_in S r) × (q + count_in S r ≤ counts S r + k)
Requested S (serving k) r q = q ≤ counts S r

pub serve_requests : (v who : ℕ) (s : State) → (serve v who s).tally.requests ≡ s.tally.requests
unfolding serve given
serve_requests v zero s = refl
serve_requests v (suc w) s = (service_keeps (taken_from s v) s.tally).3

lay_requests : (S : Setting) (r w : ℕ) (x : Worker) (s : State) → (lay S r w x s).tally.requests ≤ suc s.tally.requests
unfolding lay laid_by
lay_requests S r w Idle s = omega arith
lay_requests S r w (Holding j) s = omega arith
lay_requests S r w (Waiting v l) s = omega arith

module _ {S : Setting} (fit : Fit S) where
  open S use {plan}

  turns_counted : {r : ℕ} {b : List Worker} {g : Stage} {s : State} → Trace S r b g s → Turned S g r s.tally
  unfolding start counts
  turns_counted begins = (omega arith, omega arith)
  turns_counted (turned t h) = (h, omega (arith, turns_counted t, (turned_took t).turns))
  turns_counted (goes_on t e) = omega (arith, turns_counted t)
  turns_counted (laid t h) = let q = laid_rests t in omega (arith, turns_counted t, q.actions, q.idle)
  turns_counted (all_laid t) = turns_counted t
  turns_counted (served t h) = let q = served_rests t in omega (arith, turns_counted t, q.actions, q.idle)
  turns_counted (next_round {r} t) = (omega arith, omega (arith, turns_counted t))

  pub turns_sum : {r : ℕ} {b : List Worker} {s : State} → Trace S r b (turning (count_in S r)) s
      → counts S r ≡ s.tally.actions + s.tally.idle
  turns_sum t = omega (arith, turns_counted t)

  pub turns_most : {r : ℕ} {b : List Worker} {g : Stage} {s : State} → Trace S r b g s → s.tally.actions + s.tally.idle ≤ counts S r
  turns_most {r} {g = g} {s} t = go g s.tally (turns_counted t)
    where
      go : (g : Stage) (t : Tally) → Turned S g r t → t.actions + t.idle ≤ counts S r
      go (turning k) t i = omega (arith, i.0, i.1)
      go (laying k) t i = omega arith
      go (serving k) t i = omega arith

  requests_counted : {r : ℕ} {b : List Worker} {g : Stage} {s : State} → Trace S r b g s → Requested S g r s.tally.requests
  unfolding start counts
  requests_counted begins = omega arith
  requests_counted (turned t h) = rw (turned_took t).requests (requests_counted t)
  requests_counted (goes_on t e) = (omega arith, omega (arith, requests_counted t))
  requests_counted (laid {r} {k} {b} {s} t h) = (h, omega (arith, requests_counted t, lay_requests S r k (get_or b k Idle) s))
  requests_counted (all_laid t) = omega (arith, requests_counted t)
  requests_counted (served {r} {k} {b} {s} t h) = rw (serve_requests k (pick_of S r k s.workers) s) (requests_counted t)
  requests_counted (next_round {r} t) = omega (arith, requests_counted t)

  pub requests_most : {r : ℕ} {b : List Worker} {g : Stage} {s : State} → Trace S r b g s → s.tally.requests ≤ counts S r
  requests_most {r} {g = g} {s} t = go g s.tally.requests (requests_counted t)
    where
      go : (g : Stage) (q : ℕ) → Requested S g r q → q ≤ counts S r
      go (turning k) q i = omega arith
      go (laying k) q i = omega arith
      go (serving k) q i = i

  module _ (lone : S.workers ≡ 1) where
    pub lone_holds : {r : ℕ} {b : List Worker} {g : Stage} {s : State} → Trace S r b g s → (k : ℕ) → k < count_in S r
        → (j : ℕ) × (get_or b k Idle ≡ Holding j)
    lone_holds {r} {b} t k h =
        let (w, j, l, f) = began_busy fit t in
        let e : k ≡ w = omega (arith, count_within S r) in
        (j, ap (λ v. get_or b v Idle) e ∙ f)

    pub lone_idle : {r : ℕ} {b : List Worker} {g : Stage} {s : State} → Trace S r b g s → s.tally.idle ≡ 0
    unfolding turn_of start
    lone_idle begins = refl
    lone_idle (turned {r} {k} {b} {s} t h) = let (j, e) = lone_holds t k h in rw e (turn_busy S.plan r k j s ∙ lone_idle t)
    lone_idle (goes_on t e) = lone_idle t
    lone_idle (laid t h) = (laid_rests t).idle ∙ lone_idle t
    lone_idle (all_laid t) = lone_idle t
    lone_idle (served t h) = (served_rests t).idle ∙ lone_idle t
    lone_idle (next_round t) = lone_idle t
