-- How many joins into an action are not sent yet: a job is ready when its next action misses none, and an action that is done
-- takes one from the action that its join goes to, and from no other.
--   agree, one_less, none_counted == how many members of a list pass two tests that agree, or agree but for one; or none pass
--   missing_start                 == as a run begins, all that enter it
--   missing_none, missing_no      == none are missing exactly where each action that sends one is done
--   missing_ready, ready_missing  == so a job that has begun is ready
--   missing_sent, missing_kept    == what an action that is done changes
use Prim.Native.Nat.{ℕ, zero, suc, ◌+◌, ◌≤◌, ◌<◌}
use mathlib.Core.Path.{◌≡◌, refl, ap, ap₂, sym, ◌∙◌}
use mathlib.Core.Logic.{◌≢◌, by_cases}
use mathlib.Core.Bool.{Bool}
use mathlib.Core.List.{List, [], ◌∷◌}
use native.Mathlib.Omega.{arith}
use native.Mathlib.Nat.{le_of_suc-le-suc, not-suc-le-zero}
use native.Mathlib.Decide.{ℕ_discrete}
use lib.Dec.{T, leb, leb→le, le→leb}
use lib.ListN.{length, get_or, replicate}
use Rattle.plan.specs.Test.{both, count}
use Rattle.plan.specs.Plan.{Plan, Placed, size, action, placed, no_placed, parent, spawn_at, enters, entering}
use Rattle.plan.specs.Rules.{Accepted}
use Rattle.plan.proofs.Laws.Lists.{both_intro, both_left, both_right, false_of, zeros_at}
use Rattle.plan.proofs.Laws.Counts.{dec_t, equal_tests, count_hit, count_miss, count_none}
use Rattle.plan.proofs.Laws.Placed.{start, placed_length, placed_at, placed_of, place_below}
use Rattle.plan.proofs.Laws.Valid.{join_target}
use Rattle.courses.specs.Ready.{ready}
use Rattle.turns.specs.Progress.{missing_to}
use Rattle.plan.proofs.Laws.Enters.{enters_by, enters_is}
use Rattle.courses.proofs.Laws.PlanShape.{ready_is, ready_by}

-- two tests of the members of a list
module _ {A : Type 0} (f g : A → Bool) (d : A) where
  pub agree : (l : List A) → ((k : ℕ) → k < length l → f (get_or l k d) ≡ g (get_or l k d)) → count f l ≡ count g l
  agree [] h = refl
  agree (x ∷ l) h = go (dec_t (g x)) (h 0 (omega arith)) (agree l (λ k b. h (suc k) (omega arith)))
    where
      go : Dec (T (g x)) → f x ≡ g x → count f l ≡ count g l → count f (x ∷ l) ≡ count g (x ∷ l)
      go (yes t) e r = omega (arith, count_hit f x l (rw e t), count_hit g x l t)
      go (no n) e r = omega (arith, count_miss f x l (rw e n), count_miss g x l n)

  -- one member passes the first and not the second
  pub one_less : (l : List A) (k : ℕ) → k < length l → T (f (get_or l k d)) → (T (g (get_or l k d)) → ⊥)
      → ((m : ℕ) → m < length l → m ≢ k → f (get_or l m d) ≡ g (get_or l m d)) → count f l ≡ suc (count g l)
  one_less [] k h t n same = absurd (not-suc-le-zero h)
  one_less (x ∷ l) zero h t n same =
      let e = agree l (λ m b. same (suc m) (omega arith) (λ q. omega arith)) in
      omega (arith, count_hit f x l t, count_miss g x l n)
  one_less (x ∷ l) (suc k) h t n same =
      go (dec_t (g x)) (same 0 (omega arith) (λ q. omega arith))
      (one_less l k (le_of_suc-le-suc h) t n (λ m b q. same (suc m) (omega arith) (λ z. q (omega arith))))
    where
      go : Dec (T (g x)) → f x ≡ g x → count f l ≡ suc (count g l) → count f (x ∷ l) ≡ suc (count g (x ∷ l))
      go (yes y) e r = omega (arith, count_hit f x l (rw e y), count_hit g x l y)
      go (no m) e r = omega (arith, count_miss f x l (rw e m), count_miss g x l m)

pub none_counted : {A : Type 0} (f : A → Bool) (d : A) (l : List A) → ((k : ℕ) → k < length l → T (f (get_or l k d)) → ⊥) → count f l ≡ 0
none_counted f d [] h = refl
none_counted f d (x ∷ l) h = count_miss f x l (h 0 (omega arith)) ∙ none_counted f d l (λ k b. h (suc k) (omega arith))

-- the action sends a join into action i of job j that is not sent yet
abbrev unsent : Plan → List ℕ → ℕ → ℕ → Placed → Bool
unsent p done j i a = both (enters p j i a) (leb (get_or done a.job 0) a.position)

module _ (p : Plan) where
  -- as a run begins every join is missing
  pub missing_start : (j i : ℕ) → missing_to p (replicate (length p) 0) j i ≡ entering p j i
  unfolding entering
  missing_start j i =
      agree (unsent p (replicate (length p) 0) j i) (enters p j i) no_placed (placed p) (λ k h. each (get_or (placed p) k no_placed))
    where
      each : (a : Placed) → unsent p (replicate (length p) 0) j i a ≡ enters p j i a
      each a =
          equal_tests _ _ (λ t. both_left (enters p j i a) _ t)
          (λ n t. n (both_intro (enters p j i a) _ t (le→leb _ a.position (rw (zeros_at (length p) a.job) (omega arith)))))

  module _ (ok : Accepted p) (done : List ℕ) (j i : ℕ) where
    -- where none is missing, each action that sends one is done
    pub missing_none : missing_to p done j i ≡ 0 → (k : ℕ) → k < length p → (a : ℕ) → a < size p k → parent p k ≡ j
        → (action p k a).join ≡ suc i → a < get_or done k 0
    missing_none e k b a h q s =
        let here : Placed = record { job = k; position = a; spawn = (action p k a).spawn; join = (action p k a).join; cost = (action p k a).cost } in
        let n : T (unsent p done j i here) → ⊥ = rw (placed_at p k a b h) at
        (count_none (unsent p done j i) (placed p) e no_placed (start p k + a) (omega (arith, placed_length p, place_below p k a b h))) in
        let goes : T (enters p j i here) = enters_by p j i here (join_target p ok k a i b h s).0 q s in
        let f : ¬ (get_or done k 0 ≤ a) = λ l. n (both_intro (enters p j i here) _ goes (le→leb (get_or done k 0) a l)) in
        omega arith

    pub missing_no : ((k : ℕ) → k < length p → (a : ℕ) → a < size p k → parent p k ≡ j → (action p k a).join ≡ suc i → a < get_or done k 0)
        → missing_to p done j i ≡ 0
    missing_no r = none_counted (unsent p done j i) no_placed (placed p) each
      where
        each : (k : ℕ) → k < length (placed p) → T (unsent p done j i (get_or (placed p) k no_placed)) → ⊥
        each k h t =
            let a = get_or (placed p) k no_placed in
            let st = placed_of p k (omega (arith, placed_length p)) in
            let (o, e, s) = enters_is p j i a (both_left (enters p j i a) _ t) in
            omega (
              arith,
              r a.job st.known a.position st.within e (sym st.join ∙ s),
              leb→le (get_or done a.job 0) a.position (both_right (enters p j i a) _ t),
            )

  -- a job that has begun is ready exactly when its next action misses none
  module _ (ok : Accepted p) (done : List ℕ) (j : ℕ) where
    pub missing_ready : missing_to p done j (get_or done j 0) ≡ 0 → (get_or done j 0 ≡ 0 → 1 ≤ j → spawn_at p j < get_or done (parent p j) 0)
        → T (ready p done j)
    missing_ready e b = ready_by p done ok j (missing_none ok done j (get_or done j 0) e) b

    pub ready_missing : T (ready p done j) → missing_to p done j (get_or done j 0) ≡ 0
    ready_missing t = missing_no ok done j (get_or done j 0) (ready_is p done ok j t)

  -- action i of job j is done
  module _ (ok : Accepted p) (before after : List ℕ) (j i : ℕ) (b : j < length p) (h : i < size p j)
      (was : get_or before j 0 ≡ i) (is : get_or after j 0 ≡ suc i) (rest : (k : ℕ) → k ≢ j → get_or after k 0 ≡ get_or before k 0) where
    -- any other action is done after it exactly if it was before
    same_test : (q t : ℕ) (a : Placed) → ((a.job ≡ j) × (a.position ≡ i) → ⊥) → unsent p before q t a ≡ unsent p after q t a
    same_test q t a other =
        ap (both (enters p q t a)) (equal_tests (leb (get_or before a.job 0) a.position) _
        (λ x. le→leb _ a.position (up (leb→le _ a.position x))) (λ n x. n (le→leb _ a.position (down (leb→le _ a.position x)))))
      where
        up : get_or before a.job 0 ≤ a.position → get_or after a.job 0 ≤ a.position
        up l =
            by_cases (ℕ_discrete a.job j)
            (λ e. let f : a.position ≢ i = λ z. other (e, z) in omega (arith, ap (λ x. get_or before x 0) e, ap (λ x. get_or after x 0) e))
            (λ f. omega (arith, rest a.job f))

        down : get_or after a.job 0 ≤ a.position → get_or before a.job 0 ≤ a.position
        down l =
            by_cases (ℕ_discrete a.job j)
            (λ e. omega (arith, ap (λ x. get_or before x 0) e, ap (λ x. get_or after x 0) e))
            (λ f. omega (arith, rest a.job f))

    here : Placed
    here = record { job = j; position = i; spawn = (action p j i).spawn; join = (action p j i).join; cost = (action p j i).cost }

    -- the action that its join goes to misses one less
    pub missing_sent : (t : ℕ) → (action p j i).join ≡ suc t → missing_to p before (parent p j) t ≡ suc (missing_to p after (parent p j) t)
    unfolding here
    missing_sent t e =
        one_less (unsent p before (parent p j) t) (unsent p after (parent p j) t) no_placed (placed p) (start p j + i)
        (omega (arith, placed_length p, place_below p j i b h))
        (rw (placed_at p j i b h) (both_intro (enters p (parent p j) t here) _
        (enters_by p (parent p j) t here (join_target p ok j i t b h e).0 refl e) (le→leb _ i (omega arith))))
        (rw (placed_at p j i b h) (λ x. omega (arith, leb→le (get_or after j 0) i (both_right (enters p (parent p j) t here) _ x))))
        (λ m l f. same_test (parent p j) t (get_or (placed p) m no_placed) (apart m l f))
      where
        apart : (m : ℕ) → m < length (placed p) → m ≢ start p j + i
            → ((get_or (placed p) m no_placed).job ≡ j) × ((get_or (placed p) m no_placed).position ≡ i) → ⊥
        apart m l f (x, y) =
            let st = placed_of p m (omega (arith, placed_length p)) in
            f (omega (arith, st.place, ap (start p) x))

    -- any other misses what it missed
    pub missing_kept : (q t : ℕ) → ((q ≡ parent p j) × ((action p j i).join ≡ suc t) → ⊥) → missing_to p after q t ≡ missing_to p before q t
    missing_kept q t other =
        agree (unsent p after q t) (unsent p before q t) no_placed (placed p) each
      where
        none : (a : Placed) → a.join ≡ (action p a.job a.position).join → a.job ≡ j → a.position ≡ i → T (enters p q t a) → ⊥
        none a s x y n =
            let (o, e, z) = enters_is p q t a n in
            other (sym e ∙ ap (parent p) x, sym (s ∙ ap₂ (λ k m. (action p k m).join) x y) ∙ z)

        each : (m : ℕ) → m < length (placed p)
            → unsent p after q t (get_or (placed p) m no_placed) ≡ unsent p before q t (get_or (placed p) m no_placed)
        each m l = go (ℕ_discrete a.job j) (ℕ_discrete a.position i)
          where
            a : Placed
            a = get_or (placed p) m no_placed

            go : Dec (a.job ≡ j) → Dec (a.position ≡ i) → unsent p after q t a ≡ unsent p before q t a
            go (yes x) (yes y) =
                rw (false_of (enters p q t a) (none a (placed_of p m (omega (arith, placed_length p))).join x y))
            go (yes x) (no f) = sym (same_test q t a (λ z. f z.1))
            go (no f) d = sym (same_test q t a (λ z. f z.0))
