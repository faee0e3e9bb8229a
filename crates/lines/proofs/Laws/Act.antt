-- One action of a job: what lives and is ready after it, by what lived and was ready before it, and that what is done stays closed.
--   Act P next next' j   == job j, which lives and is ready, does its next action; next counts what is done before it, next' after it
--   Goes P next j        == job j has an action left, and its next one is ready
--   Wakes P next next' j == the action's join is for the next action of j's parent, and is the last that this one waits for
use mathlib.Core.Path.{◌≡◌, refl, ap, ◌∙◌}
use mathlib.Core.Logic.Dec
use mathlib.Core.Logic.{◌≢◌, ◌↔◌, by_cases, ⊎_elim}
use Prim.Native.Nat.{ℕ, suc, ◌-◌, ◌≤◌, ◌<◌}
use native.Mathlib.Nat.{le_trans, eq-zero-or-pos, lt_irrefl}
use native.Mathlib.Omega.{arith}
use native.Mathlib.Decide.{ℕ_discrete, dec_lt}
use Rattle.lines.proofs.Laws.Shape.{Shape, Valid, Living, Ready, ready?, Closed}
use Rattle.lines.proofs.Laws.Bounded.{map?}
use Rattle.lines.proofs.Laws.Progress.{ends, parent_lives}

module _ (P : Shape) where
  open P use {len, parent, join}

  pub record Goes (next : ℕ → ℕ) (j : ℕ) : Type 0 where
    pub left : next j < len j
    pub ready : Ready P next j

  unfoldable pub goes? : (next : ℕ → ℕ) (j : ℕ) → Dec (Goes next j)
  unfolding map? Dec.and dec_lt ready?
  goes? next j =
      map? (λ t. record { left = t.0; ready = t.1 }) (λ g. (g.left, g.ready)) (Dec.and (dec_lt (next j) (len j)) (ready? P next j))

  module _ (next next' : ℕ → ℕ) (j : ℕ) where
    pub record Act : Type 0 where
      pub closed : Closed P next
      pub lives : Living P next j
      pub ready : Ready P next j
      pub acts : next' j ≡ suc (next j)
      pub others : (k : ℕ) → k ≢ j → next' k ≡ next k

    pub record Wakes : Type 0 where
      pub sends : join j (next j) ≡ suc (next (parent j))
      pub ready : Ready P next' (parent j)

    unfoldable pub wakes? : Dec Wakes
    unfolding map? Dec.and ℕ_discrete ready?
    wakes? =
        map? (λ t. record { sends = t.0; ready = t.1 }) (λ k. (k.sends, k.ready))
        (Dec.and (ℕ_discrete (join j (next j)) (suc (next (parent j)))) (ready? P next' (parent j)))

module _ {P : Shape} {next next' : ℕ → ℕ} {j : ℕ} (act : Act P next next' j) where
  open P use {jobs, len, parent, spawn_at, child, join}
  open act use {closed, lives, ready, acts, others}

  pub grows : (k : ℕ) → next k ≤ next' k
  grows k = by_cases (ℕ_discrete k j) (λ e. rw e (omega (arith, acts))) (λ f. omega (arith, others k f))

  -- a job that does not act lives on, and a ready one stays ready
  pub stays : (x : ℕ) → x ≢ j → Living P next x → Living P next' x
  stays x f v = record { below = v.below; begun = λ o. le_trans (v.begun o) (grows (parent x)); left = rw (others x f) v.left }

  pub ready_stays : (x : ℕ) → x ≢ j → Ready P next x → Ready P next' x
  ready_stays x f r k b a h e i = le_trans (r k b a h e (rw (others x f) at i)) (grows k)

  -- the acting job lives on if it has an action left
  pub goes_lives : next' j < len j → Living P next' j
  goes_lives h = record { below = lives.below; begun = λ o. le_trans (lives.begun o) (grows (parent j)); left = h }

  bound' : (k : ℕ) → k < jobs → next' k ≤ len k
  bound' k b = by_cases (ℕ_discrete k j) (λ e. rw e (omega (arith, acts, lives))) (λ f. omega (arith, others k f, closed.bound k b))

  started' : (k : ℕ) → 1 ≤ k → k < jobs → 0 < next' k → spawn_at k < next' (parent k)
  started' k o b h =
      let was : spawn_at k < next (parent k) = by_cases (ℕ_discrete k j) (λ e. rw e (lives.begun (omega arith)))
      (λ f. closed.started k o b (omega (arith, others k f))) in
      le_trans was (grows (parent k))

  joined' : (k a t : ℕ) → k < jobs → a < len k → join k a ≡ suc t → t < next' (parent k) → a < next' k
  joined' k a t b h i m = le_trans (go (dec_lt t (next (parent k))) (ℕ_discrete (parent k) j)) (grows k)
    where
      go : Dec (t < next (parent k)) → Dec (parent k ≡ j) → a < next k
      go (yes m') d = closed.joined k a t b h i m'
      go (no g) (yes e) = ready k b a h e (omega (arith, acts, ap next e, ap next' e))
      go (no g) (no f) = absurd (g (rw (others (parent k) f) at m))

  -- what is done stays closed
  pub acted_closed : Closed P next'
  acted_closed = record { bound = bound'; started = started'; joined = joined' }

  -- a job that is ready after the action was so before it, unless this action's join is for it
  pub was_ready : (x : ℕ) → x ≢ j → ¬ ((x ≡ parent j) × (join j (next j) ≡ suc (next x))) → Ready P next' x → Ready P next x
  was_ready x f g r k b a h e i =
      let m = r k b a h e (rw (others x f) i) in
      by_cases (ℕ_discrete k j)
      (λ q. let d : a ≢ next j = λ s. g (cc, cc) in omega (arith, acts, ap next q, ap next' q))
      (λ q. rw (← (others k q)) m)

  -- a parent that wakes was stalled
  pub stalled : Wakes P next next' j → ¬ Ready P next (parent j)
  stalled k r = lt_irrefl (next j) (r j lives.below (next j) lives.left refl k.sends)

  module _ (ok : Valid P) where
    -- a job that lives after the action lived before it, unless it acted or was born
    pub lived : (x : ℕ) → x ≢ j → child j (next j) ≢ suc x → Living P next' x → Living P next x
    lived x f g a = record {
      below = a.below;
      begun = λ o. by_cases (ℕ_discrete (parent x) j)
          (λ e. let d : spawn_at x ≢ next j = λ s. g (cc (ok.spawns x o a.below)) in
          omega (arith, acts, a.begun o, ap next e, ap next' e))
          (λ h. rw (← (others (parent x) h)) (a.begun o));
      left = rw (← (others x f)) a.left;
    }

    -- a parent is another job than its child, so it lives on
    pub parent_stays : 1 ≤ j → (parent j ≢ j) × Living P next' (parent j)
    parent_stays o =
        let f : parent j ≢ j = λ e. omega (arith, ok.older j o lives.below) in
        (f, stays (parent j) f (parent_lives P ok next closed j o lives))

    -- only a job that has a parent wakes one
    pub sender : Wakes P next next' j → 1 ≤ j
    sender k = (ok.joins j (next j) (next (parent j)) lives.below lives.left k.sends).0

    -- the action wakes the parent exactly if it makes the parent ready
    pub wakes_iff : 1 ≤ j → Wakes P next next' j ↔ ((¬ Ready P next (parent j)) × Ready P next' (parent j))
    wakes_iff o = (
      λ k. (stalled k, k.ready),
      λ t. record {
        sends = (Dec.not-not (ℕ_discrete (join j (next j)) (suc (next (parent j))))).0
            (λ f. t.0 (was_ready (parent j) (parent_stays o).0 (λ p. f p.1) t.1));
        ready = t.1;
      },
    )

    -- the job that the action spawns
    module _ (c : ℕ) (e : child j (next j) ≡ suc c) where
      pub born_is : (1 ≤ c) × (c < jobs) × (parent c ≡ j) × (spawn_at c ≡ next j)
      born_is = ok.spawned j (next j) c lives.below lives.left e

      pub not_born : ¬ Living P next c
      not_born v = let (o, b, p, s) = born_is in omega (arith, v.begun o, ap next p)

      born_none : next' c ≡ 0
      born_none =
          let (o, b, p, s) = born_is in
          others c (λ q. omega (arith, ok.older c o b))
          ∙ ⊎_elim (λ z. z) (λ h. absurd (omega (arith, closed.started c o b h, ap next p))) (eq-zero-or-pos (next c))

      pub born_good : Living P next' c × Ready P next' c
      born_good =
          let (o, b, p, s) = born_is in
          let z = born_none in (
            record { below = b; begun = λ i. omega (arith, acts, ap next' p); left = omega (arith, ok.long c b) },
            λ k b' a h q i. absurd (omega (arith, ok.joins k a (next' c) b' h i)),
          )

      -- no join is for the action right after a spawn, so the spawner goes on
      pub spawner_goes : Goes P next' j
      spawner_goes =
          let (o, b, p, s) = born_is in
          record {
            left = omega (arith, acts, ends P ok c o b, ap len p);
            ready = λ k b' a h q i.
                let z = (ok.joins k a (next' j) b' h i).3 in
                let y : next' j - 1 ≡ next j = omega (arith, acts) in
                absurd (omega (arith, rw (q, y) at z));
          }
