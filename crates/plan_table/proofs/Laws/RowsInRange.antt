-- Rows by their places in the plan that they make, and when that plan is in range.
--   table_placed  == the row of the action at a place, of a table that keeps its rules
--   Sits p k a    == where the row a, at place k, stands in the plan p; table_sits == each row of such a table stands in its plan
--   stood, stands == what it is for a cost to stand in a table of a form
--   table_fits    == where every row fits, the plan is in range; table_costs == and its costs fit the form
--   table_refused == a row that does not fit puts a number out of range; table_long == so do too many rows
use Prim.Native.Nat.{ℕ, ◌+◌, ◌-◌, ◌*◌, ◌/◌, ◌≤◌, ◌<◌}
use mathlib.Core.Path.{◌≡◌, refl, ap, sym, ◌∙◌}
use mathlib.Core.Bool.{false}
use mathlib.Core.List.{List, [], ◌∷◌}
use native.Mathlib.Omega.{arith}
use lib.ListN.{length, get_or}
use lib.Dec.{T, eqb, leb, leb→le, le→leb, eqb→eq}
use borrow.Author.Tests.{eqb-true, eqb-false}
use Rattle.plan.specs.Test.{both}
use Rattle.plan.specs.Plan.{Plan, job, size, action, total, placed, no_placed}
use Rattle.plan.specs.Rules.{in_range, costs_fit}
use Rattle.plan_table.specs.Table.{Row, rows_of, row_rules, plan_of}
use Rattle.plan_table.specs.GivenRows.{row_at, TableKept, cost_stands, ranged, RowFits}
use Rattle.plan.proofs.Laws.Lists.{both_intro, both_left, both_right, false_of}
use Rattle.plan.proofs.Laws.Placed.{start, place_below, placed_at, placed_of}
use Rattle.plan.proofs.Laws.Ruling.{ranged_by}
use Rattle.plan.proofs.Laws.Spawning.{jobs_in_range, size_in_range, frame_in_range, cost_in_range_lem, total_in_range}
use Rattle.plan.proofs.Laws.Steps.{bool_cases}
use Rattle.plan_writer.proofs.Laws.Costs.{cost_one, costs_at, costs_by}
use Rattle.plan_table.proofs.Laws.Rows.{no_row, rows_of_at, rows_of_length, rows_from, rows_from_length, row_placed, row_placed_lem, Filled, filled_at, plan_rows}

-- a cost stands where it is 1 to 15, and in form 1 where it is 1

module _ (form cost : ℕ) where
  pub stood : T (cost_stands form cost) → (1 ≤ cost) × (cost ≤ 15) × (form ≡ 1 → cost ≡ 1)
  unfolding cost_stands
  stood t =
      bool_cases (eqb form 1) (λ g.
      let e : cost ≡ 1 = eqb→eq cost 1 (rw (cost_stands, g) at t) in
      (omega arith, omega arith, λ _. e)) (λ g.
      let b : T (both (leb 1 cost) (leb cost 15)) = rw (cost_stands, g) at t in (
        leb→le 1 cost (both_left (leb 1 cost) (leb cost 15) b),
        leb→le cost 15 (both_right (leb 1 cost) (leb cost 15) b),
        λ e. absurd (eqb-false form 1 g e),
      ))

  pub stands : 1 ≤ cost → cost ≤ 15 → (form ≡ 1 → cost ≡ 1) → T (cost_stands form cost)
  unfolding cost_stands
  stands some few plain =
      bool_cases (eqb form 1) (λ g. rw (cost_stands, g) (cost_one cost (plain (eqb-true form 1 g)))) (λ g.
      rw (cost_stands, g) (both_intro (leb 1 cost) (leb cost 15) (le→leb 1 cost some) (le→leb cost 15 few)))

pub record Sits (p : Plan) (k : ℕ) (a : Row) : Type 0 where
  pub position : ℕ
  pub known : a.job < length p
  pub within : position < size p a.job
  pub place : k ≡ start p a.job + position
  pub frame : a.frame ≡ (job p a.job).frame
  pub cost : a.cost ≡ (action p a.job position).cost

row_fits : (form : ℕ) (p : Plan) (a : Row) (k : ℕ) → T (in_range p) → T (costs_fit form p) → Sits p k a → RowFits form p a k
row_fits form p a k t u s =
    let f = frame_in_range p t a.job s.known in
    let c = cost_in_range_lem p t a.job s.known s.position s.within in
    record {
      some = omega (arith, s.frame, f.0);
      word = omega (arith, s.frame, f.1);
      few = omega (arith, s.known, jobs_in_range p t);
      short = omega (arith, s.place, s.within, size_in_range p t a.job s.known);
      stands = rw s.cost (stands form _ c.0 c.1 (costs_at form p u a.job s.position s.known s.within));
    }

all_fit : (form : ℕ) (p : Plan) → Filled p → 1 ≤ total p → total p ≤ 2048
    → ((k : ℕ) → k < total p → RowFits form p (row_placed p (get_or (placed p) k no_placed)) k) → T (in_range p)
all_fit form p filled some few fit =
    ranged_by p (first p some) (last p (λ j h. (at j 0 h (filled_at p filled j h)).few))
    (λ j h.
    let s = filled_at p filled j h in
    let f = at j 0 h s in
    let e = at j (size p j - 1) h (omega arith) in
    (f.some, f.word, s, omega (arith, e.short)))
    (λ j i h b. let c = stood form (action p j i).cost (at j i h b).stands in (c.0, c.1))
    few
  where
    at : (j i : ℕ) → (h : j < length p) → (b : i < size p j) → RowFits form p (row_placed p (record { job = j; position = i; spawn = (action p j i).spawn; join = (action p j i).join; cost = (action p j i).cost })) (start p j + i)
    at j i h b = rw (placed_at p j i h b) at (fit (start p j + i) (place_below p j i h b))

    first : (p : Plan) → 1 ≤ total p → 1 ≤ length p
    first [] h = h
    first (b ∷ bs) h = omega arith

    last : (p : Plan) → ((j : ℕ) → j < length p → j < 256) → length p ≤ 256
    last [] f = omega arith
    last (b ∷ bs) f = f (length bs) (omega arith)

module _ {t : List ℕ} (g : TableKept t) where
  pub rows_length_lem : length (rows_of t) ≡ length t / 5
  rows_length_lem = rows_of_length t (length t / 5) (omega (arith, g.whole))

  table_made : rows_from 0 (plan_of (rows_of t)) ≡ rows_of t
  table_made = (plan_rows (rows_of t) g.rules).0

  pub table_filled : Filled (plan_of (rows_of t))
  table_filled = (plan_rows (rows_of t) g.rules).1

  pub table_total : total (plan_of (rows_of t)) ≡ length t / 5
  table_total = sym (rows_from_length 0 (plan_of (rows_of t))) ∙ ap length table_made ∙ rows_length_lem

  pub table_some : 1 ≤ length t / 5
  unfolding row_rules
  table_some = rw rows_length_lem at (some (rows_of t) g.rules)
    where
      some : (l : List Row) → T (row_rules l) → 1 ≤ length l
      some [] r = absurd r
      some (a ∷ l) r = omega arith

  pub table_placed : (k : ℕ) → k < length t / 5 → row_at t (5 * k) ≡ row_placed (plan_of (rows_of t)) (get_or (placed (plan_of (rows_of t))) k no_placed)
  table_placed k h =
      sym (rows_of_at t k (omega arith)) ∙ ap (λ r. get_or r k no_row) (sym table_made)
      ∙ row_placed_lem (plan_of (rows_of t)) k (omega (arith, table_total))

  pub table_sits : (k : ℕ) → k < length t / 5 → Sits (plan_of (rows_of t)) k (row_at t (5 * k))
  table_sits k h =
      let s = placed_of (plan_of (rows_of t)) k (omega (arith, table_total)) in
      rw (table_placed k h) (record {
        position = (get_or (placed (plan_of (rows_of t))) k no_placed).position;
        known = s.known;
        within = s.within;
        place = s.place;
        frame = refl;
        cost = s.cost;
      })

  module _ (form : ℕ) where
    -- the row of the action at a place fits, where every row does
    placed_fits : ((k : ℕ) → k < length t / 5 → RowFits form (plan_of (rows_of t)) (row_at t (5 * k)) k)
        → (k : ℕ) → k < total (plan_of (rows_of t)) → RowFits form (plan_of (rows_of t)) (row_placed (plan_of (rows_of t)) (get_or (placed (plan_of (rows_of t))) k no_placed)) k
    placed_fits fit k h = let b : k < length t / 5 = omega (arith, table_total) in rw (table_placed k b) at (fit k b)

    pub table_fits : length t / 5 ≤ 2048 → ((k : ℕ) → k < length t / 5 → RowFits form (plan_of (rows_of t)) (row_at t (5 * k)) k) → T (in_range (plan_of (rows_of t)))
    table_fits few fit =
        all_fit form (plan_of (rows_of t)) table_filled (omega (arith, table_some, table_total)) (omega (arith, table_total)) (placed_fits fit)

    pub table_costs : ((k : ℕ) → k < length t / 5 → RowFits form (plan_of (rows_of t)) (row_at t (5 * k)) k) → T (costs_fit form (plan_of (rows_of t)))
    table_costs fit =
        costs_by form (plan_of (rows_of t)) (λ k h. (stood form (get_or (placed (plan_of (rows_of t))) k no_placed).cost (placed_fits fit k h).stands).2)

    pub table_refused : (k : ℕ) → k < length t / 5 → (RowFits form (plan_of (rows_of t)) (row_at t (5 * k)) k → ⊥) → ranged form (plan_of (rows_of t)) ≡ false
    table_refused k h f =
        let p = plan_of (rows_of t) in
        false_of (ranged form p) (λ r.
        f (row_fits form p (row_at t (5 * k)) k (both_left (in_range p) (costs_fit form p) r) (both_right (in_range p) (costs_fit form p) r) (table_sits k h)))

    pub table_long : 2048 < length t / 5 → ranged form (plan_of (rows_of t)) ≡ false
    table_long h =
        let p = plan_of (rows_of t) in
        false_of (ranged form p) (λ r. omega (arith, total_in_range p (both_left (in_range p) (costs_fit form p) r), table_total))
