-- In a steady course, in which a job that was begun stays with its worker, no worker works on two actions at a time: of two that one
-- worker did, the later one's turns all came after the round of the other.
--   Before e c w s r == all that worker w has done was done more than s rounds before round r
--   Calm e r k b c   == no worker worked on two actions at a time, and the turns of a job in hand came after what its worker has done
use Prim.Native.Nat.{ℕ, suc, ◌+◌, ◌≤◌, ◌<◌}
use mathlib.Core.Path.{◌≡◌, ap, sym, ◌∙◌}
use mathlib.Core.Logic.{◌⊎◌, inl, inr, ◌≢◌, ⊎_elim, by_cases}
use native.Mathlib.Omega.{arith}
use native.Mathlib.Nat.{not-suc-le-zero, eq-zero-or-pos}
use native.Mathlib.Decide.{ℕ_discrete, dec_lt}
use lib.Dec.{T}
use lib.ListN.{length}
use Rattle.plan.specs.Rules.{Accepted}
use Rattle.plan_measure.proofs.Laws.Follows.{act}
use Rattle.courses.proofs.Laws.Course.{Core, cost, next_in, spent_in, row_in, New, Old, acted, acts_new, Terms, Works, Ends, Hands}
use Rattle.courses.proofs.Laws.Course.{Course, begins, next_round, rests, works, ends}
use Rattle.courses.proofs.Laws.Kept.{Kept, other, course_kept}

module _ (e : Terms) where
  open e use {plan, steady}

  abbrev pub Before : Core → ℕ → ℕ → ℕ → Type 0
  Before c w s r = (h m : ℕ) → h < length plan → m < next_in c h → (row_in plan c h m).worker ≡ w → (row_in plan c h m).round + s < r

  pub record Calm (r k : ℕ) (b : ℕ → ℕ) (c : Core) : Type 0 where
    pub apart : (j i h m : ℕ) → j < length plan → i < next_in c j → h < length plan → m < next_in c h
        → (row_in plan c j i).worker ≡ (row_in plan c h m).worker → (row_in plan c j i).round ≤ (row_in plan c h m).round
        → ((j ≡ h) × (i ≡ m)) ⊎ ((row_in plan c j i).round + cost (act plan h m) ≤ (row_in plan c h m).round)
    -- the turns that a worker's job has had came after all that the worker has done, also if it has had its turn of this round
    pub turns : (w j : ℕ) → k ≤ w → b w ≡ suc j → Before c w (spent_in c j) r
    pub taken : (w j : ℕ) → w < k → b w ≡ suc j → 1 ≤ spent_in c j → Before c w (spent_in c j) (suc r)

  module _ {r k : ℕ} {b : ℕ → ℕ} {c : Core} (a : Calm r k b c) where
    -- whether or not the worker has had its turn
    had : (w j : ℕ) → b w ≡ suc j → 1 ≤ spent_in c j → Before c w (spent_in c j) (suc r)
    had w j q s = by_cases (dec_lt w k) (λ l. a.taken w j l q s) (λ l h m z d f. omega (arith, a.turns w j (omega arith) q h m z d f))

    next_calm : {b' : ℕ → ℕ} → Kept e r k b c → Hands e k b b' c → T steady → Calm (suc r) 0 b' c
    next_calm o s calm = record {
      apart = a.apart;
      turns = λ w j l q.
          ⊎_elim (λ z h m y d f. omega (arith, (o.done h m y d).latest)) (λ z. had w j (s.stays calm w j q z) z)
          (eq-zero-or-pos (spent_in c j));
      taken = λ w j l. absurd (not-suc-le-zero l);
    }

    rests_calm : Calm r (suc k) b c
    rests_calm = record { apart = a.apart; turns = λ w j l. a.turns w j (omega arith); taken = λ w j l. had w j }

    -- worker k has a turn with job j
    module _ {j : ℕ} (o : Kept e r k b c) (mine : b k ≡ suc j) where
      same : (w x : ℕ) → w ≡ k → b w ≡ suc x → x ≡ j
      same w x f q = omega (arith, ap b f)

      works_calm : {c' : Core} → Works plan j c c' → Calm r (suc k) b c'
      works_calm {c'} s = record {
        apart = rw (s.next, s.rows) a.apart;
        turns = λ w x l q.
            let z : x ≢ j = other e o mine w x (λ g. omega arith) q in
            rw (s.next, s.rows, s.others x z) (a.turns w x (omega arith) q);
        taken = λ w x l q y. go w x l q y (ℕ_discrete w k);
      }
        where
          go : (w x : ℕ) → w < suc k → b w ≡ suc x → 1 ≤ spent_in c' x → Dec (w ≡ k) → Before c' w (spent_in c' x) (suc r)
          go w x l q y (yes f) = λ h m z d g.
              let t = a.turns w x (omega arith) q h m z (rw s.next at d) (rw s.rows at g) in
              let i = same w x f q in
              rw s.rows (omega (arith, s.spends, ap (spent_in c') i, ap (spent_in c) i))
          go w x l q y (no f) =
              let i : x ≢ j = other e o mine w x f q in
              rw (s.next, s.rows, s.others x i) (a.taken w x (omega arith) q (rw (s.others x i) at y))

      module _ {c' : Core} (paid : suc (spent_in c j) ≡ cost (act plan j (next_in c j))) (s : Ends plan r k j c c') where
        after_turn : (h i : ℕ) → h < length plan → i < next_in c' h → New j c h i ⊎ Old plan c c' h i
        after_turn = acted s.acts o.closed.bound

        apart_case : (x i h m : ℕ) → x < length plan → h < length plan → New j c x i ⊎ Old plan c c' x i → New j c h m ⊎ Old plan c c' h m
            → (row_in plan c' x i).worker ≡ (row_in plan c' h m).worker → (row_in plan c' x i).round ≤ (row_in plan c' h m).round
            → ((x ≡ h) × (i ≡ m)) ⊎ ((row_in plan c' x i).round + cost (act plan h m) ≤ (row_in plan c' h m).round)
        apart_case x i h m l z (inl u) (inl v) f g = inl (u.0 ∙ sym v.0, u.1 ∙ sym v.1)
        apart_case x i h m l z (inl u) (inr v) f g =
            let w = rw (acts_new s.acts x i u, v.1) at f in
            let y = rw (acts_new s.acts x i u, v.1) at g in
            absurd (omega (arith, a.turns k j (omega arith) mine h m z v.0 (sym w)))
        apart_case x i h m l z (inr u) (inl v) f g =
            let w = rw (u.1, acts_new s.acts h m v) at f in
            let t = a.turns k j (omega arith) mine x i l u.0 w in
            inr (rw (u.1, acts_new s.acts h m v, v.0, v.1) (omega arith))
        apart_case x i h m l z (inr u) (inr v) f g =
            rw (u.1, v.1) (a.apart x i h m l u.0 z v.0 (rw (u.1, v.1) at f) (rw (u.1, v.1) at g))

        -- what another worker has done, it had done before
        before : (w x y : ℕ) → w ≢ k → x ≢ j → Before c w (spent_in c x) y → Before c' w (spent_in c' x) y
        before w x y f i t h m z d g =
            let old : Old plan c c' h m =
            ⊎_elim (λ u. absurd (f (sym g ∙ ap (λ v. v.worker) (acts_new s.acts h m u)))) (λ u. u) (after_turn h m z d) in
            rw (old.1, s.others x i) (t h m z old.0 (rw old.1 at g))

        ends_calm : Calm r (suc k) b c'
        ends_calm = record {
          apart = λ x i h m l d z y. apart_case x i h m l z (after_turn x i l d) (after_turn h m z y);
          turns = λ w x l q.
              let f : w ≢ k = λ i. omega arith in
              before w x r f (other e o mine w x f q) (a.turns w x (omega arith) q);
          taken = λ w x l q y.
              let i : x ≢ j = λ i. omega (arith, ap (spent_in c') i, s.fresh) in
              let f : w ≢ k = λ f. i (same w x f q) in
              before w x (suc r) f i (a.taken w x (omega arith) q (rw (s.others x i) at y));
        }

  module _ (ok : Accepted plan) (calm : T steady) where
    pub course_calm : {r m k : ℕ} {b : ℕ → ℕ} {c : Core} → Course e r m k b c → Calm r k b c
    course_calm (begins idle s h) = record {
      apart = λ j i h m l d. absurd (omega (arith, s.none j));
      turns = λ w j l q. absurd (omega (arith, idle w));
      taken = λ w j l. absurd (not-suc-le-zero l);
    }
    course_calm (next_round t s h) = next_calm (course_calm t) (course_kept e ok t) s calm
    course_calm (rests t q) = rests_calm (course_calm t)
    course_calm (works t mine h s) = works_calm (course_calm t) (course_kept e ok t) mine s
    course_calm (ends t mine h s l) = ends_calm (course_calm t) (course_kept e ok t) mine h s
