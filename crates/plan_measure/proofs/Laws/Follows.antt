-- What an action must follow: the three ways, and a rank that falls along each, so that no chain comes back.
use Prim.Native.Nat.{ℕ, suc, ◌+◌, ◌-◌, ◌*◌, ◌^◌, ◌≤◌, ◌<◌}
use mathlib.Core.Path.{◌≡◌, ap, sym, ◌∙◌}
use mathlib.Core.Logic.{◌⊎◌, inl, inr}
use mathlib.Core.Bool.{Bool, true, false}
use native.Mathlib.Omega.{arith}
use native.Mathlib.Nat.{suc-mul, one-mul, mul-le-mul_right, pow-le-pow_right, pow-succ'}
use lib.Dec.{T, eqb, leb, eqb→eq, eqb_refl, leb→le, le→leb}
use lib.ListN.{length}
use Rattle.plan.specs.Test.{both, either}
use Rattle.plan.specs.Plan.{Plan, Placed, no_placed, size, placed, parent, spawn_at, enters}
use Rattle.plan_measure.specs.Measure.{must_follow, Member}
use Rattle.plan.proofs.Laws.Lists.{both_intro, both_left, both_right}
use Rattle.plan.proofs.Laws.Counts.{either_left, either_right}
pub use Rattle.plan.proofs.Laws.Placed.{act}
use Rattle.plan.proofs.Laws.Placed.{Stands, placed_at, placed_of, placed_length, place_below, start}
use Rattle.plan_measure.proofs.Laws.Largest.{member_at, member_place}
use Rattle.plan.specs.Rules.{Accepted}
use Rattle.plan.proofs.Laws.Valid.{older, spawned_once_lem, join_target, size_range}
use Rattle.plan_measure.proofs.Laws.Paths.{along, along_parent}

pub act_member : (p : Plan) (j i : ℕ) → j < length p → i < size p j → Member (act p j i) (placed p)
act_member p j i h b =
    let l : start p j + i < length (placed p) = rw placed_length (place_below p j i h b) in
    rw (placed_at p j i h b) at (member_at (placed p) no_placed (start p j + i) l)

pub record Acts (p : Plan) (x : Placed) : Type 0 where
  pub known : x.job < length p
  pub within : x.position < size p x.job
  pub is : x ≡ act p x.job x.position

pub member_acts : (p : Plan) (x : Placed) → Member x (placed p) → Acts p x
member_acts p x m =
    let (k, h, e) = member_place (placed p) no_placed x m in
    of k (rw e at (placed_of p k (rw placed_length at h)))
  where
    of : (k : ℕ) → Stands p k x → Acts p x
    of k s = record {
      known = s.known;
      within = s.within;
      is = λ i. record { job = x.job; position = x.position; spawn = s.spawn i; join = s.join i; cost = s.cost i };
    }

pub either_cases : (a b : Bool) → T (either a b) → T a ⊎ T b
either_cases true b t = inl tt
either_cases false b t = inr t

-- why x must follow y
pub data Follows (p : Plan) (x y : Placed) : Type 0 where
  next : y.job ≡ x.job → suc y.position ≡ x.position → Follows p x y
  born : 1 ≤ x.job → x.position ≡ 0 → y.spawn ≡ suc x.job → Follows p x y
  joined : 1 ≤ y.job → parent p y.job ≡ x.job → y.join ≡ suc x.position → Follows p x y

module _ (p : Plan) (x y : Placed) where
  abbrev is_next : Bool
  is_next = both (eqb y.job x.job) (eqb (suc y.position) x.position)

  abbrev is_born : Bool
  is_born = both (both (leb 1 x.job) (eqb x.position 0)) (eqb y.spawn (suc x.job))

  abbrev is_joined : Bool
  is_joined = both (leb 1 y.job) (both (eqb (parent p y.job) x.job) (eqb y.join (suc x.position)))

  pub follows_of : T (must_follow p x y) → Follows p x y
  unfolding must_follow enters
  follows_of t = go (either_cases is_next (either is_born is_joined) t)
    where
      two : T is_born ⊎ T is_joined → Follows p x y
      two (inl b) =
          let a = both_left (both (leb 1 x.job) (eqb x.position 0)) (eqb y.spawn (suc x.job)) b in
          born (leb→le 1 x.job (both_left (leb 1 x.job) (eqb x.position 0) a))
          (eqb→eq x.position 0 (both_right (leb 1 x.job) (eqb x.position 0) a))
          (eqb→eq y.spawn (suc x.job) (both_right (both (leb 1 x.job) (eqb x.position 0)) (eqb y.spawn (suc x.job)) b))
      two (inr b) =
          let q = eqb (parent p y.job) x.job in
          let e = eqb y.join (suc x.position) in
          let a = both_right (leb 1 y.job) (both q e) b in
          joined (leb→le 1 y.job (both_left (leb 1 y.job) (both q e) b)) (eqb→eq (parent p y.job) x.job (both_left q e a))
          (eqb→eq y.join (suc x.position) (both_right q e a))

      go : T is_next ⊎ T (either is_born is_joined) → Follows p x y
      go (inl b) =
          let j = eqb y.job x.job in
          let i = eqb (suc y.position) x.position in
          next (eqb→eq y.job x.job (both_left j i b)) (eqb→eq (suc y.position) x.position (both_right j i b))
      go (inr b) = two (either_cases is_born is_joined b)

  eqb_of : (m n : ℕ) → m ≡ n → T (eqb m n)
  eqb_of m n e = rw e (eqb_refl n)

  pub of_follows : Follows p x y → T (must_follow p x y)
  unfolding must_follow enters
  of_follows (next a b) =
      either_left is_next (either is_born is_joined)
      (both_intro (eqb y.job x.job) (eqb (suc y.position) x.position) (eqb_of y.job x.job a) (eqb_of (suc y.position) x.position b))
  of_follows (born a b e) =
      either_right is_next (either is_born is_joined)
      (either_left is_born is_joined
      (both_intro (both (leb 1 x.job) (eqb x.position 0)) (eqb y.spawn (suc x.job))
      (both_intro (leb 1 x.job) (eqb x.position 0) (le→leb 1 x.job a) (eqb_of x.position 0 b)) (eqb_of y.spawn (suc x.job) e)))
  of_follows (joined a b e) =
      let q = eqb (parent p y.job) x.job in
      let j = eqb y.join (suc x.position) in
      either_right is_next (either is_born is_joined)
      (either_right is_born is_joined
      (both_intro (leb 1 y.job) (both q j) (le→leb 1 y.job a)
      (both_intro q j (eqb_of (parent p y.job) x.job b) (eqb_of y.join (suc x.position) e))))

module _ (p : Plan) where
  -- a job's step in rank: all of a child's steps fit between two of its parent's
  width : ℕ → ℕ
  width j = 256 ^ (length p - j)

  origin : ℕ → ℕ
  origin j = along p (λ c. suc (spawn_at p c) * width (parent p c)) (length p) j

  place_rank : ℕ → ℕ → ℕ
  place_rank j i = origin j + suc i * width j

  pub rank : Placed → ℕ
  rank x = place_rank x.job x.position

  width_positive : (j : ℕ) → 1 ≤ width j
  unfolding width
  width_positive j = pow-le-pow_right {n = 256} (omega arith) {i = 0} {j = length p - j} (omega arith)

  width_falls : (q c : ℕ) → q < c → c < length p → 256 * width c ≤ width q
  unfolding width
  width_falls q c h b =
      let e : 256 ^ suc (length p - c) ≡ 256 * 256 ^ (length p - c) = pow-succ' 256 (length p - c) in
      rw e at (pow-le-pow_right {n = 256} (omega arith) {i = suc (length p - c)} {j = length p - q} (omega arith))

  rank_next : (j i : ℕ) → place_rank j (suc i) ≡ place_rank j i + width j
  unfolding place_rank
  rank_next j i = omega (arith, suc-mul (suc i) (width j))

  rank_rises : (j i k : ℕ) → i ≤ k → place_rank j i ≤ place_rank j k
  unfolding place_rank
  rank_rises j i k h =
      let m : suc i * width j ≤ suc k * width j = mul-le-mul_right (width j) (omega arith) in
      omega arith

  module _ (ok : Accepted p) where
    rank_child : (c i : ℕ) → 1 ≤ c → c < length p → place_rank c i ≡ place_rank (parent p c) (spawn_at p c) + suc i * width c
    unfolding place_rank origin
    rank_child c i h b = omega (arith, along_parent p (λ c. suc (spawn_at p c) * width (parent p c)) ok c h b)

    -- what an action must follow has a smaller rank
    pub rank_falls : (x y : Placed) → Acts p x → Acts p y → Follows p x y → rank y < rank x
    unfolding rank
    rank_falls x y s t (next a b) =
        rw (a, ← b) (omega (arith, rank_next x.job y.position, width_positive x.job))
    rank_falls x y s t (born a b e) =
        let (h, l, q, k) = spawned_once_lem p ok y.job y.position x.job t.known t.within (sym (ap (λ z. z.spawn) t.is) ∙ e) in
        rw (b, ← q, ← k) (omega (arith, rank_child x.job 0 h l, one-mul (width x.job), width_positive x.job))
    rank_falls x y s t (joined a b e) =
        let (h, l, k, n) = join_target p ok y.job y.position x.position t.known t.within (sym (ap (λ z. z.join) t.is) ∙ e) in
        let r = size_range p ok y.job t.known in
        let m : suc y.position * width y.job ≤ 255 * width y.job = mul-le-mul_right (width y.job) (omega (arith, t.within)) in
        rw (← b) (omega (
          arith,
          rank_child y.job y.position h t.known,
          rank_next (parent p y.job) (spawn_at p y.job),
          rank_rises (parent p y.job) (suc (spawn_at p y.job)) x.position k,
          width_positive y.job,
          width_falls (parent p y.job) y.job (older p ok y.job h t.known) t.known,
        ))
