-- How many children of a job live: an action that spawns makes one more of its job, a job's last action one less of its parent.
--   heirs_none              == none live where nothing is done
--   heirs_lone, lone_heirs  == none live exactly if no child of it lives
--   heirs_most              == they are no more than the jobs
--   heirs_spawn, heirs_end, heirs_same == the count after an action, in this order
use Prim.Native.Nat.{ℕ, suc, ◌≤◌, ◌<◌}
use mathlib.Core.Path.{◌≡◌, refl, sym, ◌∙◌}
use mathlib.Core.Logic.{◌≢◌, by_cases}
use mathlib.Core.List.{List, [], ◌∷◌}
use native.Mathlib.Omega.{arith}
use native.Mathlib.Decide.{ℕ_discrete}
use lib.Dec.{T, eqb, leb, eqb→eq, eqb_refl, leb→le, le→leb}
use lib.ListN.{length, get_or, set}
use Rattle.plan.specs.Test.{both, count, below}
use Rattle.plan.specs.Plan.{Plan, size, action, parent, spawn_at}
use Rattle.plan.specs.Rules.{Accepted}
use Rattle.plan.proofs.Laws.Lists.{both_intro, both_left, both_right}
use Rattle.plan.proofs.Laws.Counts.{dec_t, equal_tests, count_hit, count_miss, count_none, below_length, below_at}
use Rattle.plan.proofs.Laws.Valid.{spawned_once_lem}
use Rattle.courses.proofs.Laws.PlanShape.{shape, shape_valid, living_is, living_by}
use Rattle.lines.proofs.Laws.Shape.{Living}
use Rattle.lines.proofs.Laws.Act.{Act, stays, goes_lives, lived, not_born, born_good}
use Rattle.pools.specs.State.{lone}
use Rattle.pools.proofs.Laws.Tests.{lone_is, lone_by}
use Rattle.turns.proofs.Laws.Missing.{agree, one_less, none_counted}
use Rattle.pool_turns.specs.Pooled.{heir, heirs}

module _ (p : Plan) (next : List ℕ) where
  abbrev Lives : ℕ → Type 0
  Lives c = Living (shape p) (λ k. get_or next k 0) c

  heir_is : (q c : ℕ) → c < length p → T (heir p next q c) → (1 ≤ c) × (parent p c ≡ q) × Lives c
  heir_is q c h t =
      let child = both_left (both (leb 1 c) (eqb (parent p c) q)) _ t in (
        leb→le 1 c (both_left (leb 1 c) _ child),
        eqb→eq (parent p c) q (both_right (leb 1 c) _ child),
        living_is p next c h (both_right (both (leb 1 c) (eqb (parent p c) q)) _ t),
      )

  heir_by : (q c : ℕ) → 1 ≤ c → parent p c ≡ q → Lives c → T (heir p next q c)
  heir_by q c o e a =
      both_intro (both (leb 1 c) (eqb (parent p c) q)) _
      (both_intro (leb 1 c) _ (le→leb 1 c o) (rw e (eqb_refl q))) (living_by p next c a)

  pub heirs_none : ((j : ℕ) → get_or next j 0 ≡ 0) → (q : ℕ) → heirs p next q ≡ 0
  heirs_none none q = none_counted (heir p next q) 0 (below (length p)) (λ k h t.
      let b : k < length p = omega (arith, below_length (length p)) in
      let (o, e, a) = heir_is q k b (rw (below_at (length p) k b) at t) in
      omega (arith, a.begun o, none (parent p k)))

  pub heirs_lone : (q : ℕ) → heirs p next q ≡ 0 → T (lone p next q)
  heirs_lone q e = lone_by p next q (λ c b (o, (f, a)).
      count_none (heir p next q) (below (length p)) e 0 c (omega (arith, below_length (length p)))
      (rw (below_at (length p) c b) (heir_by q c o f a)))

  pub lone_heirs : (q : ℕ) → T (lone p next q) → heirs p next q ≡ 0
  lone_heirs q t = none_counted (heir p next q) 0 (below (length p)) (λ k h y.
      let b : k < length p = omega (arith, below_length (length p)) in
      let (o, e, a) = heir_is q k b (rw (below_at (length p) k b) at y) in
      lone_is p next q t k b (o, (e, a)))

  pub heirs_most : (q : ℕ) → heirs p next q ≤ length p
  heirs_most q = omega (arith, most (below (length p)), below_length (length p))
    where
      most : (l : List ℕ) → count (heir p next q) l ≤ length l
      most [] = omega arith
      most (c ∷ l) = go (dec_t (heir p next q c)) (most l)
        where
          go : Dec (T (heir p next q c)) → count (heir p next q) l ≤ length l → count (heir p next q) (c ∷ l) ≤ suc (length l)
          go (yes t) r = omega (arith, count_hit (heir p next q) c l t)
          go (no n) r = omega (arith, count_miss (heir p next q) c l n)

-- job j, which can, does its next action
module _ {p : Plan} (ok : Accepted p) (next : List ℕ) {j : ℕ}
    (act : Act (shape p) (λ k. get_or next k 0) (λ k. get_or (set next j (suc (get_or next j 0))) k 0) j) where
  abbrev i : ℕ
  i = get_or next j 0

  abbrev after : List ℕ
  after = set next j (suc i)

  -- a job other than j that was not spawned lives as before
  same_heir : (q c : ℕ) → c < length p → c ≢ j → (action p j i).spawn ≢ suc c → heir p after q c ≡ heir p next q c
  same_heir q c b f g =
      equal_tests (heir p after q c) (heir p next q c)
      (λ t. let (o, e, a) = heir_is p after q c b t in heir_by p next q c o e (lived act (shape_valid p ok) c f g a))
      (λ n t. n (let (o, e, a) = heir_is p next q c b t in heir_by p after q c o e (stays act c f a)))

  -- and so does j, but for its last action
  goes_heir : (q : ℕ) → suc i < size p j → heir p after q j ≡ heir p next q j
  goes_heir q l =
      equal_tests (heir p after q j) (heir p next q j)
      (λ t. let (o, e, a) = heir_is p after q j act.lives.below t in heir_by p next q j o e act.lives)
      (λ n t. n (let (o, e, a) = heir_is p next q j act.lives.below t in heir_by p after q j o e (goes_lives act (omega (arith, act.acts)))))

  -- job c is not among the children of q
  apart : (q c : ℕ) → c < length p → (1 ≤ c → parent p c ≢ q) → (l : List ℕ) → T (heir p l q c) → ⊥
  apart q c b f l t = let (o, e, a) = heir_is p l q c b t in f o e

  at : (k : ℕ) → k < length (below (length p)) → k < length p
  at k h = omega (arith, below_length (length p))

  -- where job x is the only one whose life the action changes
  module _ (q x : ℕ) (b : x < length p) (same : (c : ℕ) → c < length p → c ≢ x → heir p after q c ≡ heir p next q c) where
    others : (k : ℕ) → k < length (below (length p)) → k ≢ x
        → heir p after q (get_or (below (length p)) k 0) ≡ heir p next q (get_or (below (length p)) k 0)
    others k h f = rw (below_at (length p) k (at k h)) (same k (at k h) f)

    here : x < length (below (length p))
    here = omega (arith, below_length (length p))

    more : T (heir p after q x) → (T (heir p next q x) → ⊥) → heirs p after q ≡ suc (heirs p next q)
    more t n =
        one_less (heir p after q) (heir p next q) 0 (below (length p)) x here
        (rw (below_at (length p) x b) t) (rw (below_at (length p) x b) n) others

    less : T (heir p next q x) → (T (heir p after q x) → ⊥) → heirs p next q ≡ suc (heirs p after q)
    less t n =
        one_less (heir p next q) (heir p after q) 0 (below (length p)) x here
        (rw (below_at (length p) x b) t) (rw (below_at (length p) x b) n) (λ k h f. sym (others k h f))

    equal : heir p after q x ≡ heir p next q x → heirs p after q ≡ heirs p next q
    equal e = agree (heir p after q) (heir p next q) 0 (below (length p)) (λ k h. rw (below_at (length p) k (at k h))
        (by_cases (ℕ_discrete k x) (λ z. rw z e) (λ f. same k (at k h) f)))

  module _ (c : ℕ) (e : (action p j i).spawn ≡ suc c) (left : suc i < size p j) where
    born : (1 ≤ c) × (c < length p) × (parent p c ≡ j) × (spawn_at p c ≡ i)
    born = spawned_once_lem p ok j i c act.lives.below act.lives.left e

    but : (q x : ℕ) → x < length p → x ≢ c → heir p after q x ≡ heir p next q x
    but q x b f = by_cases (ℕ_discrete x j) (λ z. rw z (goes_heir q left)) (λ z. same_heir q x b z (λ y. f (omega arith)))

    pub heirs_spawn : heirs p after j ≡ suc (heirs p next j)
    heirs_spawn =
        let (o, b, q, s) = born in
        more j c b (but j) (heir_by p after j c o q (born_good act (shape_valid p ok) c e).0)
        (λ t. not_born act (shape_valid p ok) c e (heir_is p next j c b t).2)

    pub heirs_spawn_other : (q : ℕ) → q ≢ j → heirs p after q ≡ heirs p next q
    heirs_spawn_other q f =
        let (o, b, z, s) = born in
        equal q c b (but q) (equal_tests (heir p after q c) (heir p next q c)
        (λ t. absurd (apart q c b (λ y w. f (sym w ∙ z)) after t)) (λ n t. apart q c b (λ y w. f (sym w ∙ z)) next t))

  module _ (none : (action p j i).spawn ≡ 0) where
    others_same : (q x : ℕ) → x < length p → x ≢ j → heir p after q x ≡ heir p next q x
    others_same q x b f = same_heir q x b f (λ z. omega arith)

    pub heirs_same : suc i < size p j → (q : ℕ) → heirs p after q ≡ heirs p next q
    heirs_same l q = equal q j act.lives.below (others_same q) (goes_heir q l)

    module _ (last : size p j ≤ suc i) where
      dead : (q : ℕ) → T (heir p after q j) → ⊥
      dead q t = let (o, e, a) = heir_is p after q j act.lives.below t in omega (arith, a.left, act.acts)

      pub heirs_end : 1 ≤ j → heirs p next (parent p j) ≡ suc (heirs p after (parent p j))
      heirs_end o = less (parent p j) j act.lives.below (others_same (parent p j)) (heir_by p next (parent p j) j o refl act.lives) (dead (parent p j))

      pub heirs_end_other : (q : ℕ) → (1 ≤ j → q ≢ parent p j) → heirs p after q ≡ heirs p next q
      heirs_end_other q f = equal q j act.lives.below (others_same q) (equal_tests (heir p after q j) (heir p next q j)
          (λ t. absurd (dead q t)) (λ n t. apart q j act.lives.below (λ y w. f y (sym w)) next t))
