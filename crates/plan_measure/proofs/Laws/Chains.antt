-- T∞ is the largest cost of a chain: the time of an action is its cost and the largest time of what it must follow, and
-- whatever has that property tells the cost of a costliest chain that ends in the action.
use Prim.Native.Nat.{ℕ, zero, suc, ◌+◌, ◌*◌, ◌≤◌, ◌<◌}
use mathlib.Core.Path.{◌≡◌, refl, ap}
use mathlib.Core.Bool.{Bool, true, false}
use mathlib.Core.List.{List, [], ◌∷◌}
use native.Mathlib.Omega.{arith}
use native.Mathlib.Nat.{not-suc-le-zero}
use native.Mathlib.Decide.{dec_lt}
use lib.Dec.{T, ltb, ltb→lt, lt→ltb}
use lib.ListN.{length}
use Rattle.plan.specs.Test.{largest, count}
use Rattle.plan.specs.Plan.{Plan, Placed, total, placed}
use Rattle.plan_measure.specs.Measure.{costs, must_follow, Member, Chain, Longest, after, longest}
use Rattle.plan.proofs.Laws.Placed.{placed_length}
use Rattle.plan_measure.proofs.Laws.Largest.{largest_above, largest_within, largest_attained, largest_same, count_more}
use Rattle.plan.specs.Rules.{Accepted}
use Rattle.plan.proofs.Laws.Valid.{jobs_range, size_range}
use Rattle.plan_measure.proofs.Laws.Follows.{act, act_member, member_acts, follows_of, rank, rank_falls}
use Rattle.plan_measure.proofs.Laws.Work.{member_cost}

-- the value of what must be followed, 0 of the rest
abbrev pub when : Bool → ℕ → ℕ
when b n = elim b [ true ↦ n | false ↦ 0 ]

abbrev pub before : Plan → (Placed → ℕ) → Placed → ℕ
before p G x = largest (λ y. when (must_follow p x y) (G y)) (placed p)

-- G is the cost and its largest value over what must be followed
abbrev pub Timing : Plan → (Placed → ℕ) → Type 0
Timing p G = (x : Placed) → Member x (placed p) → G x ≡ x.cost + before p G x

when_true : (b : Bool) (n : ℕ) → T b → when b n ≡ n
when_true true n t = refl
when_true false n t = absurd t

when_positive : (b : Bool) (n : ℕ) → 1 ≤ when b n → T b
when_positive true n h = tt
when_positive false n h = absurd (not-suc-le-zero h)

when_same : (b : Bool) (n m : ℕ) → (T b → n ≡ m) → when b n ≡ when b m
when_same true n m h = h tt
when_same false n m h = refl

when_within : (b : Bool) (m n : ℕ) → (T b → m ≤ n) → when b m ≤ n
when_within true m n h = h tt
when_within false m n h = omega arith

pub before_within : (p : Plan) (G : Placed → ℕ) (x : Placed) (n : ℕ)
    → ((y : Placed) → Member y (placed p) → T (must_follow p x y) → G y ≤ n) → before p G x ≤ n
before_within p G x n h =
    largest_within (λ y. when (must_follow p x y) (G y)) (placed p) n (λ y m. when_within (must_follow p x y) (G y) n (h y m))

before_same : (p : Plan) (G H : Placed → ℕ) (x : Placed)
    → ((y : Placed) → Member y (placed p) → T (must_follow p x y) → G y ≡ H y) → before p G x ≡ before p H x
before_same p G H x h =
    largest_same (λ y. when (must_follow p x y) (G y)) (λ y. when (must_follow p x y) (H y)) (placed p)
    (λ y m. when_same (must_follow p x y) (G y) (H y) (h y m))

module _ (p : Plan) (ok : Accepted p) (G : Placed → ℕ) (timing : Timing p G) where
  pub timing_rises : (x y : Placed) → Member x (placed p) → Member y (placed p) → T (must_follow p x y) → G y + x.cost ≤ G x
  timing_rises x y m n t =
      omega (arith, timing x m, when_true (must_follow p x y) (G y) t, largest_above (λ y. when (must_follow p x y) (G y)) (placed p) y n)

  -- an action whose time is above its cost follows one that leaves just its cost
  timing_falls : (x : Placed) → Member x (placed p) → x.cost < G x
      → (y : Placed) × Member y (placed p) × T (must_follow p x y) × (G x ≡ x.cost + G y)
  timing_falls x m h =
      let (y, n, e) = largest_attained (λ y. when (must_follow p x y) (G y)) (placed p) (omega (arith, timing x m)) in
      let t = when_positive (must_follow p x y) (G y) (omega (arith, timing x m)) in
      (y, n, t, omega (arith, timing x m, when_true (must_follow p x y) (G y) t))

  chain_first : (x : Placed) (l : List Placed) → Chain p (x ∷ l) → Member x (placed p)
  chain_first x [] c = c
  chain_first x (y ∷ l) c = c.0

  -- times rise along a chain by the costs, so none costs more than the largest time
  chain_within : (x : Placed) (l : List Placed) → Chain p (x ∷ l) → costs l + G x ≤ largest G (placed p)
  chain_within x [] c = omega (arith, largest_above G (placed p) x c)
  chain_within x (y ∷ l) c =
      omega (arith, chain_within y l c.2, timing_rises y x (chain_first y l c.2) c.0 c.1)

  none_longer : (l : List Placed) → Chain p l → costs l ≤ largest G (placed p)
  none_longer [] c = absurd c
  none_longer (x ∷ l) c = omega (arith, chain_within x l c, timing x (chain_first x l c))

  -- a chain that starts in x is the end of one that costs more by what came before x; costs are positive, so that ends
  chain_back : (n : ℕ) (x : Placed) (l : List Placed) → G x ≤ n → Chain p (x ∷ l)
      → (k : List Placed) × Chain p k × (costs k ≡ costs l + G x)
  chain_back zero x l h c = absurd (omega (arith, timing x (chain_first x l c), member_cost p ok x (chain_first x l c)))
  chain_back (suc n) x l h c = go (dec_lt x.cost (G x)) (chain_back n)
    where
      m : Member x (placed p)
      m = chain_first x l c

      go : Dec (x.cost < G x)
          → ((y : Placed) (l : List Placed) → G y ≤ n → Chain p (y ∷ l) → (k : List Placed) × Chain p k × (costs k ≡ costs l + G y))
          → (k : List Placed) × Chain p k × (costs k ≡ costs l + G x)
      go (yes b) r =
          let (y, i, t, s) = timing_falls x m b in
          let (k, d, e) = r y (x ∷ l) (omega (arith, member_cost p ok x m)) (i, t, c) in
          (k, d, omega arith)
      go (no b) r = (x ∷ l, c, omega (arith, timing x m))

  pub timing_longest : (x : Placed) → Member x (placed p) → Longest p (largest G (placed p))
  timing_longest x m =
      let (y, i, e) = largest_attained G (placed p) (omega (arith, timing x m, member_cost p ok x m, largest_above G (placed p) x m)) in
      let (k, c, s) = chain_back (G y) y [] (omega arith) i in
      record { none_longer = none_longer; one = (k, c, omega arith) }

count_all : {A : Type 0} (l : List A) → count (λ x. true) l ≡ length l
count_all [] = refl
count_all (x ∷ l) = ap suc (count_all l)

module _ (p : Plan) (ok : Accepted p) where
  -- how many actions have a smaller rank: fewer than there are, and fewer for what must be followed
  depth : Placed → ℕ
  depth x = count (λ y. ltb (rank p y) (rank p x)) (placed p)

  depth_small : (x : Placed) → Member x (placed p) → depth x < total p
  unfolding depth
  depth_small x m =
      omega (
        arith,
        placed_length p,
        count_all (placed p),
        count_more (λ y. ltb (rank p y) (rank p x)) (λ y. true) (λ y t. tt) x (λ t. omega (arith, ltb→lt (rank p x) (rank p x) t)) tt (placed p) m,
      )

  depth_falls : (x y : Placed) → Member x (placed p) → Member y (placed p) → T (must_follow p x y) → depth y < depth x
  unfolding depth
  depth_falls x y m n t =
      let f = rank_falls p ok x y (member_acts p x m) (member_acts p y n) (follows_of p x y t) in
      omega (
        arith,
        count_more (λ z. ltb (rank p z) (rank p y)) (λ z. ltb (rank p z) (rank p x))
            (λ z l. lt→ltb (rank p z) (rank p x) (omega (arith, ltb→lt (rank p z) (rank p y) l)))
            y (λ l. omega (arith, ltb→lt (rank p y) (rank p y) l)) (lt→ltb (rank p y) (rank p x) f) (placed p) n,
      )

  -- chains of more actions than that tell the same
  after_enough : (n m : ℕ) (x : Placed) → Member x (placed p) → depth x < n → depth x < m → after p n x ≡ after p m x
  unfolding after
  after_enough zero m x k h b = absurd (not-suc-le-zero h)
  after_enough (suc n) zero x k h b = absurd (not-suc-le-zero b)
  after_enough (suc n) (suc m) x k h b =
      omega (
        arith,
        before_same p (after p n) (after p m) x (λ y i t.
            let f = depth_falls x y k i t in
            after_enough n m y i (omega arith) (omega arith)),
      )

  -- the time of each action: chains of as many actions as there are tell it
  pub after_times : Timing p (after p (total p))
  unfolding after
  after_times x m = go (total p) refl
    where
      go : (n : ℕ) → total p ≡ n → after p n x ≡ x.cost + before p (after p n) x
      go zero e = absurd (omega (arith, depth_small x m))
      go (suc n) e =
          omega (
            arith,
            before_same p (after p n) (after p (suc n)) x (λ y i t.
                let f = depth_falls x y m i t in
                let g = depth_small x m in
                after_enough n (suc n) y i (omega arith) (omega arith)),
          )

  -- no time is above 15 an action
  pub after_small : (n : ℕ) (x : Placed) → Member x (placed p) → after p n x ≤ 15 * n
  unfolding after
  after_small zero x m = omega arith
  after_small (suc n) x m =
      omega (arith, member_cost p ok x m, before_within p (after p n) x (15 * n) (λ y i t. after_small n y i))

  -- no chain costs more than T∞, and one costs that
  pub longest_chain : Longest p (longest p)
  unfolding longest
  longest_chain =
      let h = jobs_range p ok in
      timing_longest p ok (after p (total p)) after_times (act p 0 0) (act_member p 0 0 h.0 (size_range p ok 0 h.0).0)
