-- The rules of a schedule, from and to what is tested of each row's span.
use Prim.Native.Nat.{ℕ, zero, suc, ◌+◌, ◌-◌, ◌≤◌, ◌<◌}
use mathlib.Core.Path.{◌≡◌, ap, ap₂, sym, subst, ◌∙◌}
use mathlib.Core.Logic.{by_cases}
use mathlib.Core.Bool.{Bool, true, false, not}
use mathlib.Core.List.{List, [], ◌∷◌}
use native.Mathlib.Numerals.{add-one}
use native.Mathlib.Omega.{arith}
use native.Mathlib.Decide.{ℕ_discrete}
use native.Mathlib.Nat.{not-suc-le-zero, le_of_suc-le-suc}
use lib.ListN.{length, get_or}
use lib.Dec.{T, eqb, leb, ltb, eqb→eq, eqb_refl, leb→le, le→leb, ltb→lt, lt→ltb}
use Rattle.plan.specs.declared.sheet.Sheet.{Sheet}
use Rattle.plan.specs.Test.{both, either, all}
use Rattle.plan.specs.Plan.{Plan, Placed, total, placed, no_placed}
use Rattle.plan.specs.Sheet.{Planned}
use Rattle.plan_measure.specs.Measure.{must_follow}
use Rattle.courses.specs.Row.{Row, no_row}
use Rattle.courses.specs.Schedule.{Span, span_of, clash, alone, in_order, keeps}
use Rattle.plan.proofs.Laws.Lists.{both_intro, both_left, both_right, true_of, false_of, all_at, all_by}
use Rattle.plan.proofs.Laws.Placed.{placed_of, placed_length}
use Rattle.courses.proofs.Laws.Order.{alone_by, unless}
use Rattle.checker.specs.Rows.{RowsIn, span_at}
use Rattle.checker.specs.Buckets.{Meet}
use Rattle.checker.specs.Judging.{InOrder, Seen}
use Rattle.checker.specs.Given.{Task, Tasked}

not_both : (a : Bool) → T (not a) → T a → ⊥
not_both true s t = s
not_both false s t = t

alone_at : (p : Plan) (rows : List Row) (l : List Placed) → T (alone p rows l) → (i k : ℕ) → i < k → k < length l
    → T (clash (span_of p rows (get_or l i no_placed)) (span_of p rows (get_or l k no_placed))) → ⊥
alone_at p rows [] t i k h b = absurd (not-suc-le-zero b)
alone_at p rows (x ∷ l) t i zero h b = absurd (not-suc-le-zero h)
alone_at p rows (x ∷ l) t zero (suc k) h b =
    let rule : Placed → Bool = λ y. not (clash (span_of p rows x) (span_of p rows y)) in
    not_both (clash (span_of p rows x) (span_of p rows (get_or l k no_placed)))
    (all_at rule l (both_left (all rule l) (alone p rows l) t) no_placed k (le_of_suc-le-suc b))
alone_at p rows (x ∷ l) t (suc i) (suc k) h b =
    let rule : Placed → Bool = λ y. not (clash (span_of p rows x) (span_of p rows y)) in
    alone_at p rows l (both_right (all rule l) (alone p rows l) t) i k (le_of_suc-le-suc h) (le_of_suc-le-suc b)

-- a test where another holds
unless_at : (a b : Bool) → T (either (not a) b) → T a → T b
unless_at true b t s = t
unless_at false b t s = absurd s

-- spans that meet clash, and only they
module _ (a b : Span) where
  abbrev begins : Bool
  begins = leb a.first b.last

  abbrev ends : Bool
  ends = leb b.first a.last

  meet_of : T (clash a b) → Meet a b
  meet_of t =
      let u = both_right (eqb a.worker b.worker) (both begins ends) t in (
        eqb→eq a.worker b.worker (both_left (eqb a.worker b.worker) (both begins ends) t),
        leb→le a.first b.last (both_left begins ends u),
        leb→le b.first a.last (both_right begins ends u),
      )

  of_meet : Meet a b → T (clash a b)
  of_meet m =
      both_intro (eqb a.worker b.worker) (both begins ends) (rw m.0 (eqb_refl b.worker))
      (both_intro begins ends (le→leb a.first b.last m.1) (le→leb b.first a.last m.2))

span_by : ℕ → ℕ → ℕ → Span
span_by round worker cost = record { first = suc round - cost; last = round; worker = worker }

module _ (p : Plan) (m : ℕ) (rows : List Row) (words : List ℕ) (plan : Sheet) (long : length rows ≡ total p) (at : RowsIn rows words) (g : Planned plan p) where
  abbrev span : ℕ → Span
  span = span_at words plan

  abbrev act : ℕ → Placed
  act k = get_or (placed p) k no_placed

  -- the span of the action at a place
  span_of_lem : (k : ℕ) → k < total p → span_of p rows (act k) ≡ span k
  unfolding span_by
  span_of_lem k h =
      let row = at.row k (omega arith) in
      let worker = at.worker k (omega arith) in
      let e : (get_or rows k no_row).round ≡ (span k).last = omega arith in
      let f : (get_or rows k no_row).worker ≡ (span k).worker = omega arith in
      ap (λ n. span_by (get_or rows n no_row).round (get_or rows n no_row).worker (act k).cost) (sym (placed_of p k h).place)
      ∙ ap (λ r. span_by r (get_or rows k no_row).worker (act k).cost) e
      ∙ ap (λ w. span_by (span k).last w (act k).cost) f
      ∙ ap (span_by (span k).last (span k).worker) (sym (g.laid.costs k h))

  same_clash : (i k : ℕ) → i < total p → k < total p → clash (span_of p rows (act i)) (span_of p rows (act k)) ≡ clash (span i) (span k)
  same_clash i k h l = ap₂ clash (span_of_lem i h) (span_of_lem k l)

  -- the parts of the rules
  abbrev begun : Placed → Bool
  begun x = leb 1 (span_of p rows x).first

  abbrev rule : Placed → Placed → Bool
  rule x y = either (not (must_follow p x y)) (ltb (span_of p rows y).last (span_of p rows x).first)

  abbrev manned : Row → Bool
  manned a = ltb a.worker m

  order_by : ((k : ℕ) → k < total p → InOrder p span k) → T (in_order p rows)
  unfolding in_order
  order_by f =
      all_by (λ x. all (rule x) (placed p)) (placed p) no_placed
      (λ x l. all_by (rule (act x)) (placed p) no_placed
      (λ y h. unless (must_follow p (act x) (act y)) _
      (λ t. lt→ltb _ _ (one x y (omega (arith, placed_length p)) (omega (arith, placed_length p)) t))))
    where
      one : (x y : ℕ) → x < total p → y < total p → T (must_follow p (act x) (act y))
          → (span_of p rows (act y)).last < (span_of p rows (act x)).first
      one x y l h t = omega (arith, ap (λ s. s.first) (span_of_lem x l), ap (λ s. s.last) (span_of_lem y h), f x l y h t)

  order_at : T (in_order p rows) → (k : ℕ) → k < total p → InOrder p span k
  unfolding in_order
  order_at t k h x l f =
      let later = ltb (span_of p rows (act x)).last (span_of p rows (act k)).first in
      let all-k = all_at (λ x. all (rule x) (placed p)) (placed p) t no_placed k (omega (arith, placed_length p)) in
      let one = all_at (rule (act k)) (placed p) all-k no_placed x (omega (arith, placed_length p)) in
      let now = unless_at (must_follow p (act k) (act x)) later one f in
      omega (
        arith,
        ap (λ s. s.last) (span_of_lem x l),
        ap (λ s. s.first) (span_of_lem k h),
        ltb→lt (span_of p rows (act x)).last (span_of p rows (act k)).first now,
      )

  -- what is tested of each row is all that the rules ask
  keeps_by : Seen p m (total p) span → T (keeps p m rows)
  unfolding keeps
  keeps_by s =
      let n = placed_length p in
      both_intro (all begun (placed p)) (both (alone p rows (placed p)) (both (in_order p rows) (all manned rows)))
      (all_by begun (placed p) no_placed (λ k h. le→leb 1 _ (first k (omega arith))))
      (both_intro (alone p rows (placed p)) (both (in_order p rows) (all manned rows))
      (alone_by p rows (placed p) (λ i k h l t. s.apart i k h (omega arith) (apart i k (omega arith) (omega arith) t)))
      (both_intro (in_order p rows) (all manned rows) (order_by s.ordered)
      (all_by manned rows no_row (λ k h. lt→ltb (get_or rows k no_row).worker m (man k (omega arith))))))
    where
      first : (k : ℕ) → k < total p → 1 ≤ (span_of p rows (act k)).first
      first k h = omega (arith, ap (λ s. s.first) (span_of_lem k h), s.begun k h)

      apart : (i k : ℕ) → i < total p → k < total p → T (clash (span_of p rows (act i)) (span_of p rows (act k))) → Meet (span i) (span k)
      apart i k h l t = meet_of (span i) (span k) (subst T (same_clash i k h l) t)

      man : (k : ℕ) → k < total p → (get_or rows k no_row).worker < m
      man k h = omega (arith, at.row k (omega arith), at.worker k (omega arith), s.manned k h)

  -- and no more than the rules ask
  module _ (t : T (keeps p m rows)) where
    after_begun : T (both (alone p rows (placed p)) (both (in_order p rows) (all manned rows)))
    unfolding keeps
    after_begun = both_right (all begun (placed p)) _ t

    after_alone : T (both (in_order p rows) (all manned rows))
    after_alone = both_right (alone p rows (placed p)) _ after_begun

    keeps_begun : (k : ℕ) → k < total p → 1 ≤ (span k).first
    unfolding keeps
    keeps_begun k h =
        let b = all_at begun (placed p) (both_left (all begun (placed p)) _ t) no_placed k (omega (arith, placed_length p)) in
        omega (arith, ap (λ s. s.first) (span_of_lem k h), leb→le 1 (span_of p rows (act k)).first b)

    keeps_apart : (i k : ℕ) → i < k → k < total p → Meet (span i) (span k) → ⊥
    keeps_apart i k h l e =
        alone_at p rows (placed p) (both_left (alone p rows (placed p)) _ after_begun) i k h (omega (arith, placed_length p))
        (subst T (sym (same_clash i k (omega arith) l)) (of_meet (span i) (span k) e))

    keeps_ordered : (k : ℕ) → k < total p → InOrder p span k
    keeps_ordered = order_at (both_left (in_order p rows) (all manned rows) after_alone)

    keeps_manned : (k : ℕ) → k < total p → (span k).worker < m
    keeps_manned k h =
        let u = both_right (in_order p rows) (all manned rows) after_alone in
        omega (
          arith,
          at.row k (omega arith),
          at.worker k (omega arith),
          ltb→lt (get_or rows k no_row).worker m (all_at manned rows u no_row k (omega arith)),
        )

-- what the test of the rules tells
module _ (m : ℕ) (words : List ℕ) (plan : Sheet) (t : Task) (g : Tasked words plan t) where
  pub all_keep : (n : ℕ) → n ≡ total t.plan → Seen t.plan m n (span_at words plan) → true ≡ keeps t.plan m t.rows
  all_keep n e s =
      sym (true_of (keeps t.plan m t.rows) (keeps_by t.plan m t.rows words plan g.all g.held g.planned (rw e at s)))

  -- what is not so of rows that keep the rules
  refuted : (T (keeps t.plan m t.rows) → ⊥) → false ≡ keeps t.plan m t.rows
  refuted f = sym (false_of (keeps t.plan m t.rows) f)

  module _ (k : ℕ) (h : k < total t.plan) where
    pub not_kept : ((span_at words plan k).worker < m → 1 ≤ (span_at words plan k).first → InOrder t.plan (span_at words plan) k → ⊥)
        → false ≡ keeps t.plan m t.rows
    not_kept f =
        refuted (λ x. f (keeps_manned t.plan m t.rows words plan g.all g.held g.planned x k h)
        (keeps_begun t.plan m t.rows words plan g.all g.held g.planned x k h)
        (keeps_ordered t.plan m t.rows words plan g.all g.held g.planned x k h))

    pub not_apart : (i : ℕ) → i < k → Meet (span_at words plan i) (span_at words plan k) → false ≡ keeps t.plan m t.rows
    not_apart i l e = refuted (λ x. keeps_apart t.plan m t.rows words plan g.all g.held g.planned x i k l h e)

-- one more row
pub seen_none : (p : Plan) (m : ℕ) (span : ℕ → Span) → Seen p m 0 span
seen_none p m span = record {
  begun = λ i h. omega arith;
  manned = λ i h. omega arith;
  ordered = λ i h. absurd (let z : ⊥ = omega arith in z);
  apart = λ i h l g. omega arith;
}

pub seen_more : (p : Plan) (m k : ℕ) (span : ℕ → Span) → Seen p m k span → 1 ≤ (span k).first → (span k).worker < m → InOrder p span k
    → ((i : ℕ) → i < k → Meet (span i) (span k) → ⊥) → Seen p m (k + 1) span
seen_more p m k span s begun man order apart =
    rw add-one record {
      begun = λ i h. by_cases (ℕ_discrete i k) (λ q. rw q begun) (λ q. s.begun i (omega arith));
      manned = λ i h. by_cases (ℕ_discrete i k) (λ q. rw q man) (λ q. s.manned i (omega arith));
      ordered = λ i h. by_cases (ℕ_discrete i k) (λ q. rw q order) (λ q. s.ordered i (omega arith));
      apart = λ i h b g e. by_cases (ℕ_discrete h k) (λ q. apart i (omega arith) (rw q at e)) (λ q. s.apart i h b (omega arith) e);
    }
