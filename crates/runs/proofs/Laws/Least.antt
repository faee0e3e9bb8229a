-- The request that a victim serves is the one of least rank.
--   rank l w        == orders requests as a victim does: by the round l, then by the worker w, which is below 16
--   Best v k ws q m == of the workers below k none waits on v and q is 0, or q is 1 plus the one whose request on v, laid in round m,
--                      has the least rank
--   oldest_best     == `oldest` picks the best
--   oldest_waits    == so the worker whose request a victim serves waits on it
use Prim.Native.Nat.{ℕ, zero, suc, ◌+◌, ◌*◌, ◌≤◌, ◌<◌}
use mathlib.Core.Path.{◌≡◌, refl, sym, ap, ◌∙◌}
use mathlib.Core.Logic.{◌≢◌, by_cases}
use mathlib.Core.Bool.{Bool, true, false}
use mathlib.Core.List.{List}
use native.Mathlib.Nat.{not-suc-le-zero, le_refl}
use native.Mathlib.Omega.{arith}
use native.Mathlib.Decide.{ℕ_discrete}
use lib.Dec.{ltb, eqb}
use lib.ListN.{get_or}
use borrow.Author.Tests.{eqb-true, eqb-false, ltb-true, ltb-false}
use Rattle.runs.specs.declared.worker.Worker.{Worker}
use Rattle.runs.specs.declared.worker.Worker.TheVariants.{Idle, Holding, Waiting}
use Rattle.runs.specs.Steal.{older, oldest}

abbrev pub rank : ℕ → ℕ → ℕ
rank l w = l * 16 + w

abbrev pub Best : ℕ → ℕ → List Worker → ℕ → ℕ → Type 0
Best v k ws zero m = (u l : ℕ) → u < k → get_or ws u Idle ≡ Waiting v l → ⊥
Best v k ws (suc x) m =
    (x < k) × (get_or ws x Idle ≡ Waiting v m) × ((u l : ℕ) → u < k → u ≢ x → get_or ws u Idle ≡ Waiting v l → rank m x < rank l u)

pub oldest_best : (v k : ℕ) (ws : List Worker) → k ≤ 16 → Best v k ws (oldest v k ws).who (oldest v k ws).laid
unfolding oldest older
oldest_best v zero ws h = λ u l b e. not-suc-le-zero b
oldest_best v (suc k) ws h = go (get_or ws k Idle) refl (oldest v k ws).who (oldest v k ws).laid (oldest_best v k ws (omega arith))
  where
    at : {u m : ℕ} → u ≡ k → get_or ws u Idle ≡ Waiting v m → get_or ws k Idle ≡ Waiting v m
    at s e = ap (λ z. get_or ws z Idle) (sym s) ∙ e

    -- worker k does not wait on v
    kept : ((l : ℕ) → get_or ws k Idle ≡ Waiting v l → ⊥) → (q m : ℕ) → Best v k ws q m → Best v (suc k) ws q m
    kept f zero m i = λ u l b e. by_cases (ℕ_discrete u k) (λ s. f l (at s e)) (λ d. i u l (omega arith) e)
    kept f (suc x) m i = (
      omega (arith, i.0),
      i.1,
      λ u l b g e. by_cases (ℕ_discrete u k) (λ s. absurd (f l (at s e))) (λ d. i.2 u l (omega arith) g e),
    )

    -- it does, and its request comes before those of the workers below it
    fresh : {l : ℕ} → get_or ws k Idle ≡ Waiting v l → ((u m : ℕ) → u < k → get_or ws u Idle ≡ Waiting v m → rank l k < rank m u)
        → Best v (suc k) ws (suc k) l
    fresh e f = (le_refl (suc k), e, λ u m b g q. f u m (omega arith) q)

    -- or not
    stays : {l : ℕ} → get_or ws k Idle ≡ Waiting v l → {x m : ℕ} → Best v k ws (suc x) m → m ≤ l → Best v (suc k) ws (suc x) m
    stays {l} e i c = (
      omega (arith, i.0),
      i.1,
      λ u a b g q.
          by_cases (ℕ_discrete u k) (λ s. let r : l ≡ a = cc (at s q) in omega (arith, i.0)) (λ d. i.2 u a (omega arith) g q),
    )

    -- a request that was laid in an earlier round than the best comes before all
    earlier : {l x m : ℕ} → Best v k ws (suc x) m → l < m → (u a : ℕ) → u < k → get_or ws u Idle ≡ Waiting v a → rank l k < rank a u
    earlier {x = x} {m} i c u a b q = by_cases (ℕ_discrete u x)
        (λ s. let r : m ≡ a = cc (ap (λ z. get_or ws z Idle) s, i.1) in omega arith) (λ d. omega (arith, i.2 u a b d q))

    go : (x : Worker) → get_or ws k Idle ≡ x → (q m : ℕ) → Best v k ws q m
        → Best v (suc k) ws (older v k x (record { who = q; laid = m })).who (older v k x (record { who = q; laid = m })).laid
    go Idle e q m i = kept (λ l f. let z : ◌≡◌ {A = ℕ} 0 1 = cc in omega arith) q m i
    go (Holding j) e q m i = kept (λ l f. let z : ◌≡◌ {A = ℕ} 0 1 = cc in omega arith) q m i
    go (Waiting y l) e q m i = picked (eqb y v) refl q m i (ltb l m) refl
      where
        picked : (b : Bool) → eqb y v ≡ b → (q m : ℕ) → Best v k ws q m → (c : Bool) → ltb l m ≡ c
            → Best v (suc k) ws (older v k (Waiting y l) (record { who = q; laid = m })).who
            (older v k (Waiting y l) (record { who = q; laid = m })).laid
        picked false f q m i c g = rw (older, f) (kept (λ a t. eqb-false y v f (cc)) q m i)
        picked true f zero m i c g = rw (older, f) (fresh (cc (eqb-true y v f)) (λ u a b t. absurd (i u a b t)))
        picked true f (suc x) m i true g = rw (older, f, g) (fresh (cc (eqb-true y v f)) (earlier i (ltb-true l m g)))
        picked true f (suc x) m i false g = rw (older, f, g) (stays (cc (eqb-true y v f)) i (ltb-false l m g))

pub oldest_waits : (v k : ℕ) (ws : List Worker) → k ≤ 16 → {w : ℕ} → (oldest v k ws).who ≡ suc w
    → (w < k) × (l : ℕ) × (get_or ws w Idle ≡ Waiting v l)
oldest_waits v k ws few {w} e =
    let best : Best v k ws (suc w) (oldest v k ws).laid = rw e at (oldest_best v k ws few) in
    (best.0, (oldest v k ws).laid, best.1)
