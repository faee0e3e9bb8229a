-- The open table: a table that is read and written again has the same rows, and a plan whose table is read again is the same.
use Prim.Native.Nat.{ℕ, suc, ◌%◌, ◌≤◌}
use native.Mathlib.Omega.{arith}
use mathlib.Core.Path.{◌≡◌, refl, sym, ap, ap₂, ◌∙◌}
use mathlib.Core.Bool.{Bool, true, false}
use mathlib.Core.List.{List, [], ◌∷◌, ◌++◌}
use lib.ListN.{length}
use lib.Dec.{T, eqb, leb, eqb→eq, eqb_refl, le→leb}
use borrow.Author.Tests.{eq-eqb, ne_eqb}
use Rattle.plan.specs.Refusal.{Outcome, refused, accepted}
use Rattle.plan.specs.Test.{both, all}
use Rattle.plan.specs.Plan.{Action, Job, Plan}
use Rattle.plan.specs.Rules.{in_range, costs_fit, spawn_rules, join_rules}
use Rattle.plan.specs.Reader.{is_form}
use Rattle.plan_table.specs.Table.{
  table_in,
  table_from,
  table_of,
  Row,
  rows_of,
  goes_on,
  rising,
  small,
  row_rules,
  action_of,
  infront,
  plan_of,
  ruled,
  read_table,
}
use Rattle.plan.proofs.Laws.Lists.{both_intro, both_left, both_right, true_of}
use Rattle.plan.proofs.Laws.Counts.{either_left, either_right}
use Rattle.plan.proofs.Laws.Outcomes.{refused_accepted, passes, passed}
use Rattle.plan.proofs.Laws.Fits.{Small, Fits, plan_fits}
use Rattle.plan.proofs.Laws.Spawning.{jobs_in_range}
use Rattle.plan_table.proofs.Laws.Rows.{row_of, rows_in, rows_from, table_rows, table_length, plan_rows}

-- what an accepted table passed

test_passed : (k : ℕ) (x : Bool) (o : Outcome Plan) (p : Plan) → ◌≡◌ {A = Outcome Plan} (elim x [ false ↦ refused k | true ↦ o ]) (accepted p)
    → T x × (o ≡ accepted p)
test_passed k true o p e = (tt, e)
test_passed k false o p e = refused_accepted e

record Passed (form : ℕ) (t : List ℕ) (p : Plan) : Type 0 where
  known : T (is_form form)
  whole : length t % 5 ≡ 0
  rows : T (row_rules (rows_of t))
  range : T (in_range p)
  costs : T (costs_fit form p)
  spawns : T (spawn_rules p)
  joins : T (join_rules p)
  plan : plan_of (rows_of t) ≡ p

read_table_passed : (form : ℕ) (t : List ℕ) (p : Plan) → read_table form t ≡ accepted p → Passed form t p
unfolding read_table ruled
read_table_passed form t p e =
    let whole = eqb (length t % 5) 0 in
    let q = plan_of (rows_of t) in
    let kept = both whole (row_rules (rows_of t)) in
    let f = test_passed 2 (is_form form) (elim kept [ false ↦ refused 10 | true ↦ ruled form q ]) p e in
    let r = test_passed 10 kept (ruled form q) p f.1 in
    let o = passed 3 (both (in_range q) (costs_fit form q)) (spawn_rules q) (join_rules q) q p r.1 in
    record {
      known = f.0;
      whole = eqb→eq (length t % 5) 0 (both_left whole (row_rules (rows_of t)) r.0);
      rows = both_right whole (row_rules (rows_of t)) r.0;
      range = rw o.3 at (both_left (in_range q) (costs_fit form q) o.0);
      costs = rw o.3 at (both_right (in_range q) (costs_fit form q) o.0);
      spawns = rw o.3 at o.1;
      joins = rw o.3 at o.2;
      plan = o.3;
    }

pub read_table_rules : (form : ℕ) (t : List ℕ) (p : Plan) → read_table form t ≡ accepted p
    → T (in_range p) × T (spawn_rules p) × T (join_rules p) × T (costs_fit form p) × T (is_form form)
read_table_rules form t p e = let r = read_table_passed form t p e in (r.range, r.spawns, r.joins, r.costs, r.known)

-- the numbers of rows

abbrev numbers_of : List Row → List ℕ
numbers_of [] = []
numbers_of (a ∷ rows) = a.job ∷ a.frame ∷ a.spawn ∷ a.join ∷ a.cost ∷ numbers_of rows

numbers_of_rows_of : (t : List ℕ) → length t % 5 ≡ 0 → numbers_of (rows_of t) ≡ t
numbers_of_rows_of [] e = refl
numbers_of_rows_of (j ∷ []) e = absurd (omega arith)
numbers_of_rows_of (j ∷ (f ∷ [])) e = absurd (omega arith)
numbers_of_rows_of (j ∷ (f ∷ (s ∷ []))) e = absurd (omega arith)
numbers_of_rows_of (j ∷ (f ∷ (s ∷ (t ∷ [])))) e = absurd (omega arith)
numbers_of_rows_of (j ∷ (f ∷ (s ∷ (t ∷ (c ∷ rest))))) e =
    ap {B = List ℕ} (λ l. j ∷ f ∷ s ∷ t ∷ c ∷ l) (numbers_of_rows_of rest (omega arith))

numbers_of_append : (l m : List Row) → numbers_of (l ++ m) ≡ numbers_of l ++ numbers_of m
numbers_of_append [] m = refl
numbers_of_append (a ∷ l) m = ap {B = List ℕ} (λ r. a.job ∷ a.frame ∷ a.spawn ∷ a.join ∷ a.cost ∷ r) (numbers_of_append l m)

numbers_of_rows_in : (j f : ℕ) (l : List Action) → numbers_of (rows_in j f l) ≡ table_in j f l
numbers_of_rows_in j f [] = refl
numbers_of_rows_in j f (a ∷ l) = ap {B = List ℕ} (λ r. j ∷ f ∷ a.spawn ∷ a.join ∷ a.cost ∷ r) (numbers_of_rows_in j f l)

numbers_of_rows_from : (j : ℕ) (p : List Job) → numbers_of (rows_from j p) ≡ table_from j p
numbers_of_rows_from j [] = refl
numbers_of_rows_from j (b ∷ bs) =
    numbers_of_append (rows_in j b.frame b.actions) (rows_from (suc j) bs)
    ∙ ap₂ ◌++◌ (numbers_of_rows_in j b.frame b.actions) (numbers_of_rows_from (suc j) bs)

plan_of_numbers : (l : List Row) → T (row_rules l) → table_from 0 (plan_of l) ≡ numbers_of l
plan_of_numbers l t = sym (numbers_of_rows_from 0 (plan_of l)) ∙ ap numbers_of (plan_rows l t).0

pub table_read_write : (form : ℕ) (t : List ℕ) (p : Plan) → read_table form t ≡ accepted p → table_of p ≡ t
unfolding table_of
table_read_write form t p e =
    let r = read_table_passed form t p e in
    ap (table_from 0) (sym r.plan) ∙ plan_of_numbers (rows_of t) r.rows ∙ numbers_of_rows_of t r.whole

-- the rows of a plan's table are grouped into the jobs that they came from

-- the rows, if there are any, begin with the job that follows job j
abbrev Next : ℕ → List Row → Type 0
Next j [] = Unit {0}
Next j (b ∷ rows) = b.job ≡ suc j

rows_from_next : (j : ℕ) (p : List Job) → Fits p → Next j (rows_from (suc j) p)
rows_from_next j [] h = tt
rows_from_next j (b ∷ bs) h = go b.actions h.0.some_action
  where
    go : (l : List Action) → 1 ≤ length l → Next j (rows_in (suc j) b.frame l ++ rows_from (suc (suc j)) bs)
    go [] h = absurd (omega arith)
    go (a ∷ l) h = refl

chosen_true : {A : Type 0} (c : Bool) (x y : A) → c ≡ true → ◌≡◌ {A = A} (elim c [ true ↦ x | false ↦ y ]) x
chosen_true c x y e = rw e

chosen_false : {A : Type 0} (c : Bool) (x y : A) → c ≡ false → ◌≡◌ {A = A} (elim c [ true ↦ x | false ↦ y ]) y
chosen_false c x y e = rw e

plan_of_last : (a : Row) (rows : List Row) → Next a.job rows → plan_of (a ∷ rows) ≡ record { frame = a.frame; actions = action_of a ∷ [] } ∷ plan_of rows
plan_of_last a [] h = refl
plan_of_last a (b ∷ rows) h =
    chosen_false (eqb a.job b.job) (infront a (plan_of (b ∷ rows))) (record { frame = a.frame; actions = action_of a ∷ [] } ∷ plan_of (b ∷ rows))
    (ne_eqb a.job b.job (λ e. omega arith))

plan_of_in : (j f : ℕ) (a : Action) (l : List Action) (rows : List Row) → Next j rows
    → plan_of (rows_in j f (a ∷ l) ++ rows) ≡ record { frame = f; actions = a ∷ l } ∷ plan_of rows
plan_of_in j f a [] rows h = plan_of_last (row_of j f a) rows h
plan_of_in j f a (b ∷ l) rows h =
    chosen_true (eqb j j) (infront (row_of j f a) (plan_of (rows_in j f (b ∷ l) ++ rows)))
    (record { frame = f; actions = a ∷ [] } ∷ plan_of (rows_in j f (b ∷ l) ++ rows)) (eq-eqb j j refl)
    ∙ ap (infront (row_of j f a)) (plan_of_in j f b l rows h)

plan_of_rows_from : (j : ℕ) (p : List Job) → Fits p → plan_of (rows_from j p) ≡ p
plan_of_rows_from j [] h = refl
plan_of_rows_from j (b ∷ bs) h = go b.actions h.0.some_action (plan_of_rows_from (suc j) bs h.1)
  where
    go : (l : List Action) → 1 ≤ length l → plan_of (rows_from (suc j) bs) ≡ bs
        → plan_of (rows_in j b.frame l ++ rows_from (suc j) bs) ≡ record { frame = b.frame; actions = l } ∷ bs
    go [] h e = absurd (omega arith)
    go (a ∷ l) g e =
        plan_of_in j b.frame a l (rows_from (suc j) bs) (rows_from_next j bs h.1)
        ∙ ap {B = List Job} (λ p. record { frame = b.frame; actions = a ∷ l } ∷ p) e

-- they keep the row rules

rising_in : (j f : ℕ) (a : Action) (l : List Action) (rows : List Row) → ((x : Action) → T (rising (row_of j f x) rows))
    → T (rising (row_of j f a) (rows_in j f l ++ rows))
rising_in j f a [] rows h = h a
rising_in j f a (b ∷ l) rows h =
    both_intro (goes_on (row_of j f a) (row_of j f b)) (rising (row_of j f b) (rows_in j f l ++ rows))
    (either_right (eqb j (suc j)) (both (eqb j j) (eqb f f)) (both_intro (eqb j j) (eqb f f) (eqb_refl j) (eqb_refl f)))
    (rising_in j f b l rows h)

rising_from : (j f : ℕ) (p : List Job) → Fits p → (x : Action) → T (rising (row_of j f x) (rows_from (suc j) p))
rising_from j f [] h x = tt
rising_from j f (b ∷ bs) h x = go b.actions h.0.some_action (rising_from (suc j) b.frame bs h.1)
  where
    go : (l : List Action) → 1 ≤ length l → ((x : Action) → T (rising (row_of (suc j) b.frame x) (rows_from (suc (suc j)) bs)))
        → T (rising (row_of j f x) (rows_in (suc j) b.frame l ++ rows_from (suc (suc j)) bs))
    go [] h r = absurd (omega arith)
    go (a ∷ l) h r =
        let next = row_of (suc j) b.frame a in
        both_intro (goes_on (row_of j f x) next) (rising next (rows_in (suc j) b.frame l ++ rows_from (suc (suc j)) bs))
        (either_left (eqb (suc j) (suc j)) (both (eqb (suc j) j) (eqb b.frame f)) (eqb_refl (suc j)))
        (rising_in (suc j) b.frame a l (rows_from (suc (suc j)) bs) r)

small_in : (j f : ℕ) (l : List Action) (rows : List Row) → Small l → T (all small rows) → T (all small (rows_in j f l ++ rows))
small_in j f [] rows h t = t
small_in j f (a ∷ l) rows h t =
    both_intro (both (leb a.spawn 256) (leb a.join 256)) (all small (rows_in j f l ++ rows))
    (both_intro (leb a.spawn 256) (leb a.join 256) (le→leb a.spawn 256 h.0) (le→leb a.join 256 h.1))
    (small_in j f l rows h.4 t)

small_from : (j : ℕ) (p : List Job) → Fits p → T (all small (rows_from j p))
small_from j [] h = tt
small_from j (b ∷ bs) h = small_in j b.frame b.actions (rows_from (suc j) bs) h.0.small (small_from (suc j) bs h.1)

rows_from_rules : (p : Plan) → 1 ≤ length p → Fits p → T (row_rules (rows_from 0 p))
unfolding row_rules
rows_from_rules [] some h = absurd (omega arith)
rows_from_rules (b ∷ bs) some h = go b.actions h.0.some_action h.0.small
  where
    go : (l : List Action) → 1 ≤ length l → Small l → T (row_rules (rows_in 0 b.frame l ++ rows_from 1 bs))
    go [] some s = absurd (omega arith)
    go (a ∷ l) some s =
        both_intro (rising (row_of 0 b.frame a) (rows_in 0 b.frame l ++ rows_from 1 bs)) (all small (rows_in 0 b.frame (a ∷ l) ++ rows_from 1 bs))
        (rising_in 0 b.frame a l (rows_from 1 bs) (rising_from 0 b.frame bs h.1))
        (small_in 0 b.frame (a ∷ l) (rows_from 1 bs) s (small_from 1 bs h.1))

pub table_write_read : (form : ℕ) (p : Plan) → T (is_form form) → T (costs_fit form p) → T (in_range p) → T (spawn_rules p) → T (join_rules p)
    → read_table form (table_of p) ≡ accepted p
unfolding read_table ruled table_of
table_write_read form p f c i s j =
    let fits = plan_fits p i s j in
    let rows : rows_of (table_of p) ≡ rows_from 0 p = table_rows p in
    let whole : length (table_of p) % 5 ≡ 0 = omega (arith, table_length p) in
    let kept = both (eqb (length (table_of p) % 5) 0) (row_rules (rows_of (table_of p))) in
    let rules : T kept
    = both_intro (eqb (length (table_of p) % 5) 0) (row_rules (rows_of (table_of p))) (rw whole (eqb_refl 0))
    (rw rows (rows_from_rules p (jobs_in_range p i).0 fits)) in
    chosen_true (is_form form) (elim kept [ false ↦ refused 10 | true ↦ ruled form (plan_of (rows_of (table_of p))) ]) (refused 2) (true_of (is_form form) f)
    ∙ chosen_true kept (ruled form (plan_of (rows_of (table_of p)))) (refused 10) (true_of kept rules)
    ∙ ap (ruled form) (ap plan_of rows ∙ plan_of_rows_from 0 p fits)
    ∙ passes 3 (both (in_range p) (costs_fit form p)) (spawn_rules p) (join_rules p) p (both_intro (in_range p) (costs_fit form p) i c) s j
