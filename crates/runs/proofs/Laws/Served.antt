-- How long a request waits: it is served at the latest n - 1 rounds after the one it was laid in, unless the run ends first.
-- A victim serves one request in each round, the one of least rank, and those laid later have a greater rank; so with each round
-- one request fewer comes before one that waits, and when it was laid at most n - 1 did.
--   ahead v a u x    == 1 where the worker u, which is x, waits on v with a request of a rank below a, 0 where it does not
--   before n v a ws  == how many of the workers below n do
--   Within v a xs ws == each request on v of a rank below a in xs is in ws too
--   Roster n ws      == of the workers ws those below n are there: at most sixteen, each with its place, and who waits is one of them
--   AllDue n r g ws  == at stage g of round r each request in ws can be served in time
--   waits_due        == so no request waits in a round that comes n rounds or more after the one it was laid in
use Prim.Native.Nat.{ℕ, suc, ◌+◌, ◌≤◌, ◌<◌, zero-le}
use mathlib.Core.Path.{◌≡◌, refl, sym, ap, ◌∙◌}
use mathlib.Core.Logic.{◌≢◌, by_cases}
use mathlib.Core.List.{List}
use native.Mathlib.Nat.{not-suc-le-zero}
use native.Mathlib.Omega.{arith}
use native.Mathlib.Decide.{ℕ_discrete, dec_lt}
use lib.Dec.{T, ltb}
use lib.ListN.{length, get_or, set}
use lib.Seq.{get_or-set_same, get_or-set_other}
use Rattle.plan.specs.Test.{all}
use Rattle.runs.specs.declared.worker.Worker.{Worker}
use Rattle.runs.specs.declared.worker.Worker.TheVariants.{Idle, Holding, Waiting}
use Rattle.runs.specs.Setting.{Setting, count_in}
use Rattle.runs.specs.State.{State, worker_of}
use Rattle.runs.specs.Steal.{waits}
use Rattle.lines.proofs.Laws.Sum.{sum, sum_le, sum_less, sum_bound, only, only_yes}
use Rattle.runs.specs.Trace.{Stage, turning, laying, serving, Trace, begins, turned, goes_on, laid, all_laid, served, next_round}
use Rattle.runs.proofs.Laws.Fit.{Fit, count_most, count_next}
use Rattle.runs.proofs.Laws.Lined.{seen_below}
use Rattle.runs.proofs.Laws.Sound.{trace_sound, workers_length}
use Rattle.runs.proofs.Laws.Start.{start_calm}
use Rattle.runs.proofs.Laws.Stores.{victim_of, turned_workers, laid_workers, served_workers}
use Rattle.runs.proofs.Laws.Victims.{named_all}
use Rattle.runs.proofs.Laws.Least.{rank, Best, oldest_best}

ahead : ℕ → ℕ → ℕ → Worker → ℕ
ahead v a u Idle = 0
ahead v a u (Holding j) = 0
ahead v a u (Waiting y m) = only (ℕ_discrete y v) (only (dec_lt (rank m u) a) 1)

ahead_one : {v a m : ℕ} {x : Worker} (u : ℕ) → x ≡ Waiting v m → rank m u < a → ahead v a u x ≡ 1
unfolding ahead
ahead_one {v} {a} {m} u e h =
    ap (ahead v a u) e ∙ (only_yes (ℕ_discrete v v) (only (dec_lt (rank m u) a) 1) refl ∙ only_yes (dec_lt (rank m u) a) 1 h)

ahead_most : (v a u : ℕ) (x : Worker) {b : ℕ} → ((m : ℕ) → x ≡ Waiting v m → rank m u < a → 1 ≤ b) → ahead v a u x ≤ b
unfolding ahead only
ahead_most v a u Idle f = zero-le
ahead_most v a u (Holding j) f = zero-le
ahead_most v a u (Waiting y m) {b} f = go (ℕ_discrete y v) (dec_lt (rank m u) a)
  where
    go : (d : Dec (y ≡ v)) (e : Dec (rank m u < a)) → only d (only e 1) ≤ b
    go (yes d) (yes e) = f m (ap (λ z. Waiting z m) d) e
    go (yes d) (no e) = zero-le
    go (no d) e = zero-le

abbrev before : ℕ → ℕ → ℕ → List Worker → ℕ
before n v a ws = sum n (λ u. ahead v a u (get_or ws u Idle))

record Within (v a : ℕ) (xs ws : List Worker) : Type 0 where
  stays : (u m : ℕ) → get_or xs u Idle ≡ Waiting v m → rank m u < a → get_or ws u Idle ≡ Waiting v m

module _ (n : ℕ) {v a : ℕ} {xs ws : List Worker} (h : Within v a xs ws) where
  ahead_within : (u : ℕ) → ahead v a u (get_or xs u Idle) ≤ ahead v a u (get_or ws u Idle)
  ahead_within u = ahead_most v a u (get_or xs u Idle) (λ m e b. omega (arith, ahead_one u (h.stays u m e b) b))

  before_within : before n v a xs ≤ before n v a ws
  before_within = sum_le n (λ u. ahead v a u (get_or xs u Idle)) (λ u. ahead v a u (get_or ws u Idle)) (λ u b. ahead_within u)

  -- and one of those in ws is no longer in xs
  before_less : (u : ℕ) {m : ℕ} → u < n → get_or ws u Idle ≡ Waiting v m → rank m u < a → waits (get_or xs u Idle) ≡ 0
      → before n v a xs < before n v a ws
  before_less u b e r c =
      let none = ahead_most v a u (get_or xs u Idle) {b = 0} (λ l f q. omega (arith, ap waits f)) in
      sum_less n (λ u. ahead v a u (get_or xs u Idle)) (λ u. ahead v a u (get_or ws u Idle)) (λ u b. ahead_within u) u b
      (omega (arith, ahead_one u e r))

-- no request comes before itself
before_itself : {n v l w : ℕ} (ws : List Worker) → w < n → get_or ws w Idle ≡ Waiting v l → before n v (rank l w) ws < n
before_itself {n} {v} {l} {w} ws h e =
    let f : ℕ → ℕ = λ u. ahead v (rank l w) u (get_or ws u Idle) in
    let none : f w ≤ 0 = ahead_most v (rank l w) w (get_or ws w Idle) (λ m q r. let s : l ≡ m = cc in omega arith) in
    let less = sum_less n f (λ u. 1) (λ u b. ahead_most v (rank l w) u (get_or ws u Idle) (λ m q r. omega arith)) w h (omega arith) in
    omega (arith, sum_bound n (λ u. 1) 1 (λ u b. omega arith))

-- a request laid on v in round l, before which c others come, at stage g of round r: one is served in each of the rounds from r on,
-- or from the next on where v has served in this one, so this one is served in round l + n - 1 at the latest
abbrev Due : ℕ → ℕ → Stage → ℕ → ℕ → ℕ → Type 0
Due n r (turning k) v l c = c + r < l + n
Due n r (laying k) v l c = c + r < l + n
Due n r (serving k) v l c = (c + r < l + n) × (v < k → c + r + 1 < l + n)

abbrev AllDue : ℕ → ℕ → Stage → List Worker → Type 0
AllDue n r g ws = (w v l : ℕ) → get_or ws w Idle ≡ Waiting v l → Due n r g v l (before n v (rank l w) ws)

record Roster (n : ℕ) (ws : List Worker) : Type 0 where
  few : n ≤ 16
  placed : n ≤ length ws
  below : (w v l : ℕ) → get_or ws w Idle ≡ Waiting v l → w < n

module _ {n : ℕ} {ws : List Worker} (all : Roster n ws) where
  -- worker k gives way to one that does not wait
  module _ {k : ℕ} (h : k < n) (x : Worker) (calm : waits x ≡ 0) where
    here : get_or (set ws k x) k Idle ≡ x
    here = get_or-set_same ws k x Idle (omega (arith, all.placed))

    calm_set : (w : ℕ) {v l : ℕ} → get_or (set ws k x) w Idle ≡ Waiting v l → (w ≢ k) × (get_or ws w Idle ≡ Waiting v l)
    calm_set w e = (other, sym (get_or-set_other ws k w x Idle other) ∙ e)
      where
        other : w ≢ k
        other s = omega (arith, ap waits (sym here ∙ (ap (λ z. get_or (set ws k x) z Idle) (sym s) ∙ e)))

    calm_within : (v a : ℕ) → Within v a (set ws k x) ws
    calm_within v a = record { stays = λ u m e b. (calm_set u e).1 }

    calm_before : (v a : ℕ) → before n v a (set ws k x) ≤ before n v a ws
    calm_before v a = before_within n (calm_within v a)

    -- its request came before those of greater rank
    calm_less : {v a m : ℕ} → get_or ws k Idle ≡ Waiting v m → rank m k < a → before n v a (set ws k x) < before n v a ws
    calm_less {v} {a} e r = before_less n (calm_within v a) k h e r (ap waits here ∙ calm)

  -- worker k lays a request on y in round r: it comes before none that was laid in an earlier round, and before one that was laid in
  -- this round there are fewer than n
  module _ {k : ℕ} (h : k < n) (y r : ℕ) where
    abbrev after : List Worker
    after = set ws k (Waiting y r)

    after_other : (w : ℕ) {v l : ℕ} → w ≢ k → get_or after w Idle ≡ Waiting v l → get_or ws w Idle ≡ Waiting v l
    after_other w d e = sym (get_or-set_other ws k w (Waiting y r) Idle d) ∙ e

    after_same : (w : ℕ) {v l : ℕ} → w ≡ k → get_or after w Idle ≡ Waiting v l → l ≡ r
    after_same w s e = cc (get_or-set_same ws k (Waiting y r) Idle (omega (arith, all.placed)), ap (λ z. get_or after z Idle) s)

    laid_due : AllDue n r (laying k) ws → AllDue n r (laying (suc k)) after
    laid_due i w v l e = by_cases (dec_lt l r) old (λ f. omega (arith, before_itself after inside e))
      where
        inside : w < n
        inside = by_cases (ℕ_discrete w k) (λ s. omega arith) (λ d. all.below w v l (after_other w d e))

        earlier : l < r → Within v (rank l w) after ws
        earlier b = record {
          stays = λ u m g c. by_cases (ℕ_discrete u k)
              (λ s. absurd (omega (arith, after_same u s g, inside, all.few))) (λ d. after_other u d g);
        }

        old : l < r → before n v (rank l w) after + r < l + n
        old b = omega (arith, before_within n (earlier b), i w v l (after_other w (λ s. omega (arith, after_same w s e)) e))

  -- victim k finds no request
  none_due : (r : ℕ) {k : ℕ} → AllDue n r (serving k) ws → Best k n ws 0 0 → AllDue n r (serving (suc k)) ws
  none_due r {k} i best w v l e = (
    (i w v l e).0,
    λ b. by_cases (ℕ_discrete v k)
        (λ s. absurd (best w l (all.below w v l e) (e ∙ ap (λ z. Waiting z l) s))) (λ d. (i w v l e).1 (omega arith)),
  )

  -- or serves that of worker x, laid in round m, which came before every other one at k
  served_due : (r : ℕ) {k : ℕ} → AllDue n r (serving k) ws → {x m : ℕ} → Best k n ws (suc x) m → (y : Worker) → waits y ≡ 0
      → AllDue n r (serving (suc k)) (set ws x y)
  served_due r {k} i {x} {m} best y calm w v l e =
      let (d, q) = calm_set best.0 y calm w e in
      let less = calm_before best.0 y calm v (rank l w) in
      let due = i w v l q in (
        omega arith,
        λ b. by_cases (ℕ_discrete v k)
            (λ s.
            let first = best.2 w l (all.below w v l q) d (q ∙ ap (λ z. Waiting z l) s) in
            omega (arith, calm_less best.0 y calm (best.1 ∙ ap (λ z. Waiting z m) (sym s)) first))
            (λ f. omega (arith, due.1 (omega arith))),
      )

module _ {S : Setting} (fit : Fit S) (named : T (all (λ c. ltb c S.workers) S.choices)) where
  open S use {plan, choices}

  roster : {r : ℕ} {b : List Worker} {g : Stage} {s : State} → Trace S r b g s → Roster (count_in S r) s.workers
  roster {r} t = record {
    few = count_most fit r;
    placed = workers_length fit t;
    below = λ w v l e. seen_below (trace_sound fit t) w (λ q. omega (arith, ap waits (sym e ∙ q)));
  }

  all_due : {r : ℕ} {b : List Worker} {g : Stage} {s : State} → Trace S r b g s → AllDue (count_in S r) r g s.workers
  all_due begins = λ w v l e. absurd (omega (arith, start_calm plan w, ap waits e))
  all_due (turned {r} {k} t h) =
      turned_workers (AllDue (count_in S r) r (turning (suc k))) t (all_due t) (λ j y q c w v l e.
      omega (arith, calm_before (roster t) h y c v (rank l w), all_due t w v l (calm_set (roster t) h y c w e).1))
  all_due (goes_on t e) = all_due t
  all_due (laid {r} {k} {s = s} t h) =
      laid_workers (AllDue (count_in S r) r (laying (suc k))) t (all_due t) (λ e. laid_due (roster t) h (victim_of S s) r (all_due t))
  all_due (all_laid t) = λ w v l e. (all_due t w v l e, λ b. absurd (not-suc-le-zero b))
  all_due (served {r} {k} {s = s} t h) =
      let best = oldest_best k (count_in S r) s.workers (count_most fit r) in
      served_workers (AllDue (count_in S r) r (serving (suc k))) t (λ e. none_due (roster t) r (all_due t) (rw e at best))
      (λ x y e. served_due (roster t) r (all_due t) (rw e at best) y)
  all_due (next_round {r} t) = rw (count_next S r) λ w v l e. omega (arith, (all_due t w v l e).1 (named_all fit named t w v l e).0)

  -- no request waits in a round l + n or later, so that it is served in round l + n - 1 at the latest
  pub waits_due : {r : ℕ} {b : List Worker} {g : Stage} {s : State} → Trace S r b g s
      → (w v l : ℕ) → worker_of s w ≡ Waiting v l → r < l + count_in S r
  waits_due {r} {g = g} {s} t w v l e = go g (all_due t w v l e)
    where
      go : (g : Stage) → Due (count_in S r) r g v l (before (count_in S r) v (rank l w) s.workers) → r < l + count_in S r
      go (turning k) i = omega arith
      go (laying k) i = omega arith
      go (serving k) i = omega (arith, i.0)
