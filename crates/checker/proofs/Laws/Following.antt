-- What an action must follow: the one before it in its job, or its job's spawn, and the senders of joins into it; and what the round of
-- the first two tells.
--   before_next, before_root, before_born == what the last round of the action before it, none, or that of the spawn tells
--   joined_all    == a span that begins after all that stand in its line begins after those that send it a join
--   not_joined    == one that does not begin after one of them is not in order
use Prim.Native.Nat.{ℕ, suc, ◌+◌, ◌-◌, ◌≤◌, ◌<◌}
use mathlib.Core.Path.{◌≡◌, refl, ap, sym, ◌∙◌}
use mathlib.Core.List.{List}
use native.Mathlib.Omega.{arith}
use lib.ListN.{length, get_or}
use Rattle.plan.specs.declared.sheet.Sheet.{Sheet}
use Rattle.plan.specs.Plan.{Plan, Placed, size, total, placed, no_placed, parent, spawn_at}
use Rattle.plan.specs.Rules.{Accepted}
use Rattle.plan.proofs.Laws.Placed.{start, placed_at, placed_of, Stands, place_below}
use Rattle.plan.proofs.Laws.Valid.{older, spawned_there, spawned_once_lem}
use Rattle.plan_measure.proofs.Laws.Follows.{Follows, next, born, joined, act, follows_of, of_follows}
use Rattle.plan.proofs.Laws.Enters.{enters_by, enters_is}
use Rattle.checker.specs.Rows.{span_at}
use Rattle.courses.specs.Schedule.{Span}
use Rattle.checker.specs.Given.{Task, Tasked}
use Rattle.checker.specs.Judging.{Later, InOrder, Joined, RoundBefore, spawn_round}
use Rattle.checker.specs.Senders.{line_of}
use Rattle.checker.proofs.Laws.Senders.{enters_line, line_enters}

module _ (p : Plan) (ok : Accepted p) (span : ℕ → Span) (k : ℕ) (h : k < total p) where
  abbrev at : ℕ → Placed
  at x = get_or (placed p) x no_placed

  abbrev a : Placed
  a = at k

  st : Stands p k a
  st = placed_of p k h

  -- row k is in order by what is tested of the action before it, the spawn and the senders of joins
  round_tells : (r : ℕ) → ((x : ℕ) → x < total p → (at x).job ≡ a.job → suc (at x).position ≡ a.position → (span x).last ≤ r)
      → ((x : ℕ) → x < total p → 1 ≤ a.job → a.position ≡ 0 → (at x).spawn ≡ suc a.job → (span x).last ≤ r)
      → (1 ≤ (span k).first → (span k).first ≤ r → InOrder p span k → ⊥) → RoundBefore p span k r
  round_tells r f g broken = record { kept = λ l js x b t. go l js x b (follows_of p a (at x) t); broken = broken }
    where
      go : r < (span k).first → Joined p span k → (x : ℕ) → x < total p → Follows p a (at x) → Later span x k
      go l js x b (next e q) = omega (arith, f x b e q)
      go l js x b (born o z s) = omega (arith, g x b o z s)
      go l js x b (joined o e i) = js x b (enters_by p a.job a.position (at x) o e i)

  -- the one that stands at a position is earlier, where row k is in order and must follow it
  earlier : (j i : ℕ) → j < length p → i < size p j → Follows p a (act p j i) → InOrder p span k → Later span (start p j + i) k
  earlier j i l b f o = o (start p j + i) (place_below p j i l b) (rw (placed_at p j i l b) (of_follows p a (act p j i) f))

  pub before_next : (r : ℕ) → start p a.job < k → r ≡ (span (k - 1)).last → RoundBefore p span k r
  before_next r l e =
      round_tells r
      (λ x b d q. let z : x ≡ k - 1 = omega (arith, (placed_of p x b).place, st.place, ap (start p) d) in omega (arith, ap (λ n. (span n).last) z))
      (λ x b o z s. absurd (omega (arith, st.place)))
      (λ _ m o.
      let i = a.position - 1 in
      let z : start p a.job + i ≡ k - 1 = omega (arith, st.place) in
      let f = earlier a.job i st.known (omega (arith, st.within, st.place)) (next refl (omega (arith, st.place))) o in
      let z : ⊥ = omega (arith, ap (λ n. (span n).last) z) in z)

  module _ (front : k ≤ start p a.job) where
    first : a.position ≡ 0
    first = omega (arith, st.place)

    pub before_root : a.job ≡ 0 → RoundBefore p span k 0
    before_root e =
        round_tells 0 (λ x b d q. absurd (omega (arith, first))) (λ x b o z s. absurd (omega arith)) (λ b m o. let z : ⊥ = omega arith in z)

    pub before_born : (r : ℕ) → 1 ≤ a.job → r ≡ spawn_round p span a.job → RoundBefore p span k r
    before_born r o e =
        let (b, s) = spawned_there p ok a.job o st.known in
        round_tells r (λ x b d q. absurd (omega (arith, first)))
        (λ x b o z s.
        let y = placed_of p x b in
        let (_, _, q, i) = spawned_once_lem p ok (at x).job (at x).position a.job y.known y.within (sym y.spawn ∙ s) in
        let z : x ≡ start p (parent p a.job) + spawn_at p a.job = omega (arith, y.place, ap (start p) q) in
        omega (arith, ap (λ n. (span n).last) z))
        (λ _ m f.
        let l = earlier (parent p a.job) (spawn_at p a.job) (omega (arith, older p ok a.job o st.known, st.known)) b (born o first s) f in
        let z : ⊥ = omega arith in z)

module _ (words : List ℕ) (plan : Sheet) (t : Task) (g : Tasked words plan t) where
  abbrev p : Plan
  p = t.plan

  -- row k by those that stand in its line
  module _ (k : ℕ) (h : k < total p) where
    pub joined_all : ((x : ℕ) → x < total p → line_of plan x ≡ k → Later (span_at words plan) x k) → Joined p (span_at words plan) k
    joined_all f x b e = f x b (enters_line plan p g.planned x b k h e)

    pub not_joined : (x : ℕ) → x < total p → line_of plan x ≡ k → (span_at words plan k).first ≤ (span_at words plan x).last → InOrder p (span_at words plan) k → ⊥
    not_joined x b e l o =
        let y = get_or (placed p) k no_placed in
        let z = get_or (placed p) x no_placed in
        let (u, v, w) = enters_is p y.job y.position z (line_enters plan p g.planned x b k h e) in
        let f = o x b (of_follows p y z (joined u v w)) in
        let z : ⊥ = omega arith in z
