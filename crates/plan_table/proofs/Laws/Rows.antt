-- The rows of a table: by their places, those of a plan's table, and the plan that rows make.
use Prim.Native.Nat.{ℕ, zero, suc, ◌+◌, ◌*◌, ◌≤◌, ◌<◌}
use mathlib.Core.Path.{◌≡◌, refl, ap, ap₂, sym, ◌∙◌}
use mathlib.Core.Bool.{Bool, true, false}
use mathlib.Core.List.{List, [], ◌∷◌, ◌++◌, append_assoc}
use native.Mathlib.Omega.{arith}
use native.Mathlib.Numerals.{add-one, add-two, add-three, add-four, add_five, towards_suc}
use native.Mathlib.Nat.{le_of_suc-le-suc, not-suc-le-zero, add_assoc, zero-add}
use lib.ListN.{length, get_or, take, drop, set, length-append, get_or-append}
use lib.Seq.{drop-cons, get_or-append-add, set_at, take-suc, length-take-le}
use lib.Dec.{T, eqb, eqb→eq}
use borrow.Author.Tests.{eqb-true, eqb-false}
use Rattle.plan.specs.declared.sheet.Sheet.{Sheet}
use Rattle.plan.specs.Test.{both, either, all}
use Rattle.plan.specs.Plan.{Action, Job, Plan, Placed, job, size, action, total, placed, no_action, no_placed}
use Rattle.plan_table.specs.Table.{
  table_in,
  table_from,
  table_of,
  Row,
  rows_of,
  goes_on,
  rising,
  small,
  row_rules,
  action_of,
  infront,
  plan_of,
}
use Rattle.plan_table.specs.GivenRows.{row_at, row_on, with_row, RowsGiven}
use Rattle.plan.specs.Sheet.{job_at}
use Rattle.plan.proofs.Laws.Lists.{both_left, both_right}
use Rattle.plan.proofs.Laws.Placed.{start, Stands, placed_of}
use Rattle.plan.proofs.Laws.Spawning.{jobs_in_range}

-- rows by their places

abbrev pub no_row : Row
no_row = record { job = 0; frame = 0; spawn = 0; join = 0; cost = 0 }

pub rows_of_drop : (t : List ℕ) (at : ℕ) → at + 5 ≤ length t → rows_of (drop at t) ≡ row_at t at ∷ rows_of (drop (at + 5) t)
rows_of_drop t at h =
    let a : at < length t = omega arith in
    let b : suc at < length t = omega arith in
    let c : suc (suc at) < length t = omega arith in
    let d : suc (suc (suc at)) < length t = omega arith in
    let e : suc (suc (suc (suc at))) < length t = omega arith in
    rw (
      add-one,
      add-two,
      add-three,
      add-four,
      add_five,
      drop-cons t at 0 a,
      drop-cons t (suc at) 0 b,
      drop-cons t (suc (suc at)) 0 c,
      drop-cons t (suc (suc (suc at))) 0 d,
      drop-cons t (suc (suc (suc (suc at)))) 0 e,
    )

pub rows_of_at : (t : List ℕ) (k : ℕ) → 5 * k + 5 ≤ length t → get_or (rows_of t) k no_row ≡ row_at t (5 * k)
rows_of_at [] k h = absurd (omega arith)
rows_of_at (j ∷ []) k h = absurd (omega arith)
rows_of_at (j ∷ (f ∷ [])) k h = absurd (omega arith)
rows_of_at (j ∷ (f ∷ (s ∷ []))) k h = absurd (omega arith)
rows_of_at (j ∷ (f ∷ (s ∷ (u ∷ [])))) k h = absurd (omega arith)
rows_of_at (j ∷ (f ∷ (s ∷ (u ∷ (c ∷ rest))))) zero h = refl
rows_of_at (j ∷ (f ∷ (s ∷ (u ∷ (c ∷ rest))))) (suc k) h =
    let e : 5 * suc k ≡ suc (suc (suc (suc (suc (5 * k))))) = omega arith in
    let r = rows_of_at rest k (omega arith) in
    rw e (simp towards_suc (simp towards_suc at r))

pub rows_of_length : (t : List ℕ) (n : ℕ) → length t ≡ 5 * n → length (rows_of t) ≡ n
rows_of_length [] n h = omega arith
rows_of_length (j ∷ []) n h = absurd (omega arith)
rows_of_length (j ∷ (f ∷ [])) n h = absurd (omega arith)
rows_of_length (j ∷ (f ∷ (s ∷ []))) n h = absurd (omega arith)
rows_of_length (j ∷ (f ∷ (s ∷ (u ∷ [])))) n h = absurd (omega arith)
rows_of_length (j ∷ (f ∷ (s ∷ (u ∷ (c ∷ rest))))) zero h = absurd (omega arith)
rows_of_length (j ∷ (f ∷ (s ∷ (u ∷ (c ∷ rest))))) (suc n) h = ap suc (rows_of_length rest n (omega arith))

-- the rows of a plan's table

abbrev pub row_of : ℕ → ℕ → Action → Row
row_of j f a = record { job = j; frame = f; spawn = a.spawn; join = a.join; cost = a.cost }

abbrev pub rows_in : ℕ → ℕ → List Action → List Row
rows_in j f [] = []
rows_in j f (a ∷ l) = row_of j f a ∷ rows_in j f l

abbrev pub rows_from : ℕ → List Job → List Row
rows_from j [] = []
rows_from j (b ∷ bs) = rows_in j b.frame b.actions ++ rows_from (suc j) bs

rows_of_table_in : (j f : ℕ) (l : List Action) (t : List ℕ) → rows_of (table_in j f l ++ t) ≡ rows_in j f l ++ rows_of t
rows_of_table_in j f [] t = refl
rows_of_table_in j f (a ∷ l) t = ap {B = List Row} (λ r. row_of j f a ∷ r) (rows_of_table_in j f l t)

rows_of_table_from : (j : ℕ) (p : List Job) → rows_of (table_from j p) ≡ rows_from j p
rows_of_table_from j [] = refl
rows_of_table_from j (b ∷ bs) = rw (rows_of_table_in, rows_of_table_from (suc j) bs)

pub table_rows : (p : Plan) → rows_of (table_of p) ≡ rows_from 0 p
unfolding table_of
table_rows p = rows_of_table_from 0 p

table_in_length : (j f : ℕ) (l : List Action) → length (table_in j f l) ≡ 5 * length l
table_in_length j f [] = refl
table_in_length j f (a ∷ l) = omega (arith, table_in_length j f l)

table_from_length : (j : ℕ) (p : List Job) → length (table_from j p) ≡ 5 * total p
table_from_length j [] = refl
table_from_length j (b ∷ bs) =
    rw length-append (omega (arith, table_in_length j b.frame b.actions, table_from_length (suc j) bs))

pub table_length : (p : Plan) → length (table_of p) ≡ 5 * total p
unfolding table_of
table_length p = table_from_length 0 p

rows_in_length : (j f : ℕ) (l : List Action) → length (rows_in j f l) ≡ length l
rows_in_length j f [] = refl
rows_in_length j f (a ∷ l) = ap suc (rows_in_length j f l)

pub rows_from_length : (j : ℕ) (p : List Job) → length (rows_from j p) ≡ total p
rows_from_length j [] = refl
rows_from_length j (b ∷ bs) = rw (length-append, rows_in_length, rows_from_length (suc j) bs)

rows_in_at : (j f : ℕ) (l : List Action) (i : ℕ) → i < length l → get_or (rows_in j f l) i no_row ≡ row_of j f (get_or l i no_action)
rows_in_at j f [] i h = absurd (not-suc-le-zero h)
rows_in_at j f (a ∷ l) zero h = refl
rows_in_at j f (a ∷ l) (suc i) h = rows_in_at j f l i (le_of_suc-le-suc h)

rows_from_at : (o : ℕ) (p : List Job) (j i n : ℕ) → j < length p → i < size p j → o + j ≡ n
    → get_or (rows_from o p) (start p j + i) no_row ≡ row_of n (job p j).frame (action p j i)
rows_from_at o [] j i n h b e = absurd (not-suc-le-zero h)
rows_from_at o (b ∷ bs) zero i n h l e =
    let f : i < length (rows_in o b.frame b.actions) = rw rows_in_length l in
    let e' : o ≡ n = omega arith in
    rw (zero-add, get_or-append (rows_in o b.frame b.actions) (rows_from (suc o) bs) no_row i f, e')
    (rows_in_at n b.frame b.actions i l)
rows_from_at o (b ∷ bs) (suc j) i n h l e =
    let s : length b.actions ≡ length (rows_in o b.frame b.actions) = sym (rows_in_length o b.frame b.actions) in
    rw (add_assoc, s, get_or-append-add (rows_in o b.frame b.actions) (rows_from (suc o) bs) (start bs j + i) no_row)
    (rows_from_at (suc o) bs j i n (le_of_suc-le-suc h) l (omega arith))

-- the row of action i of job j
row_at_lem : (p : Plan) (j i : ℕ) → j < length p → i < size p j
    → get_or (rows_from 0 p) (start p j + i) no_row ≡ row_of j (job p j).frame (action p j i)
row_at_lem p j i h b = rows_from_at 0 p j i j h b (zero-add j)

-- the row of the action at place k
abbrev pub row_placed : Plan → Placed → Row
row_placed p a = record { job = a.job; frame = (job p a.job).frame; spawn = a.spawn; join = a.join; cost = a.cost }

pub row_placed_lem : (p : Plan) (k : ℕ) → k < total p → get_or (rows_from 0 p) k no_row ≡ row_placed p (get_or (placed p) k no_placed)
row_placed_lem p k h = found (get_or (placed p) k no_placed) (placed_of p k h)
  where
    found : (a : Placed) → Stands p k a → get_or (rows_from 0 p) k no_row ≡ row_placed p a
    found a s = rw (s.place, row_at_lem p a.job a.position s.known s.within, s.spawn, s.join, s.cost)

-- what stands at 5 * k to 5 * k + 4 of a plan's table
table_at : (p : Plan) (k : ℕ) → k < total p → row_at (table_of p) (5 * k) ≡ row_placed p (get_or (placed p) k no_placed)
table_at p k h =
    sym (rows_of_at (table_of p) k (omega (arith, table_length p))) ∙ ap (λ l. get_or l k no_row) (table_rows p) ∙ row_placed_lem p k h

-- the k-th row of a plan's table, from the array that holds the plan
pub row_given : (p : Plan) (plan : Sheet) → RowsGiven plan p → (k : ℕ) → k < plan.actions
    → (job_at plan k < 256) × (row_at (table_of p) (5 * k) ≡ row_on plan k)
row_given p plan g k h =
    let l : k < total p = omega (arith, g.all) in
    let j = g.laid.owners k l in
    let s = placed_of p k l in (
      omega (arith, j, s.known, jobs_in_range p g.laid.range),
      table_at p k l ∙ rw (j, g.laid.children k l, g.laid.targets k l, g.laid.costs k l, g.laid.frames (get_or (placed p) k no_placed).job s.known),
    )

-- the plan that rows make

-- every job has an action
abbrev pub Filled : List Job → Type 0
Filled [] = Unit {0}
Filled (b ∷ bs) = (1 ≤ length b.actions) × Filled bs

pub filled_at : (p : List Job) → Filled p → (j : ℕ) → j < length p → 1 ≤ size p j
filled_at [] f j h = absurd (not-suc-le-zero h)
filled_at (b ∷ bs) f zero h = f.0
filled_at (b ∷ bs) f (suc j) h = filled_at bs f.1 j (le_of_suc-le-suc h)

either_left : (x y : Bool) → T (either x y) → (T y → ⊥) → T x
either_left true y t f = tt
either_left false y t f = f t

either_right : (x y : Bool) → T (either x y) → (T x → ⊥) → T y
either_right true y t f = absurd (f tt)
either_right false y t f = t

-- the rows from a on are those of the plan p, from job a .job on, whose first job has the frame of a
record Grouped (a : Row) (rows : List Row) (p : Plan) : Type 0 where
  first : Job
  others : List Job
  parts : p ≡ first ∷ others
  frame : first.frame ≡ a.frame
  made : rows_from a.job p ≡ a ∷ rows
  filled : Filled p

grouped_front : (a b : Row) (rows : List Row) (p : Plan) (c : Bool) → eqb a.job b.job ≡ c → T (goes_on a b) → Grouped b rows p
    → Grouped a (b ∷ rows) (elim c [ true ↦ infront a p | false ↦ record { frame = a.frame; actions = action_of a ∷ [] } ∷ p ])
grouped_front a b rows p true e t g =
    let next = eqb b.job (suc a.job) in
    let same = both (eqb b.job a.job) (eqb b.frame a.frame) in
    let j : a.job ≡ b.job = eqb-true a.job b.job e in
    let s = either_right next same t (λ n. omega (arith, eqb→eq b.job (suc a.job) n)) in
    let f : g.first.frame ≡ a.frame
    = g.frame ∙ eqb→eq b.frame a.frame (both_right (eqb b.job a.job) (eqb b.frame a.frame) s) in
    let l : Filled (g.first ∷ g.others) = rw g.parts at g.filled in
    record {
      first = record { frame = g.first.frame; actions = action_of a ∷ g.first.actions };
      others = g.others;
      parts = ap (infront a) g.parts;
      frame = f;
      made = ap (λ q. rows_from a.job (infront a q)) g.parts
          ∙ ap₂ {C = List Row} (λ f l. row_of a.job f (action_of a) ∷ l) f (ap₂ rows_from j (sym g.parts) ∙ g.made);
      filled = rw g.parts (omega arith, l.1);
    }
grouped_front a b rows p false e t g =
    let next = eqb b.job (suc a.job) in
    let same = both (eqb b.job a.job) (eqb b.frame a.frame) in
    let n = either_left next same t (λ s. eqb-false a.job b.job e
    (sym (eqb→eq b.job a.job (both_left (eqb b.job a.job) (eqb b.frame a.frame) s)))) in
    record {
      first = record { frame = a.frame; actions = action_of a ∷ [] };
      others = p;
      parts = refl;
      frame = refl;
      made = ap {B = List Row} (λ l. a ∷ l) (ap (λ j. rows_from j p) (sym (eqb→eq b.job (suc a.job) n)) ∙ g.made);
      filled = (omega arith, g.filled);
    }

grouped : (a : Row) (rows : List Row) → T (rising a rows) → Grouped a rows (plan_of (a ∷ rows))
grouped a [] t =
    record {
      first = record { frame = a.frame; actions = action_of a ∷ [] };
      others = [];
      parts = refl;
      frame = refl;
      made = refl;
      filled = (omega arith, tt);
    }
grouped a (b ∷ rows) t =
    grouped_front a b rows (plan_of (b ∷ rows)) (eqb a.job b.job) refl (both_left (goes_on a b) (rising b rows) t)
    (grouped b rows (both_right (goes_on a b) (rising b rows) t))

-- rows that keep the row rules are the rows of their plan, whose jobs all have actions
pub plan_rows : (l : List Row) → T (row_rules l) → (rows_from 0 (plan_of l) ≡ l) × Filled (plan_of l)
unfolding row_rules
plan_rows [] t = absurd t
plan_rows (a ∷ rows) t =
    let rest = both (rising a rows) (all small (a ∷ rows)) in
    let z = eqb→eq a.job 0 (both_left (eqb a.job 0) rest t) in
    let g = grouped a rows (both_left (rising a rows) (all small (a ∷ rows)) (both_right (eqb a.job 0) rest t)) in
    (ap (λ j. rows_from j (plan_of (a ∷ rows))) (sym z) ∙ g.made, g.filled)

-- a list that is written over another from the front: one number more, and one row more

written_more : (t r : List ℕ) (n m v : ℕ) → m ≡ n + 1 → n < length t → n < length r → get_or t n 0 ≡ v
    → set (take n t ++ drop n r) n v ≡ take m t ++ drop m r
written_more t r n m v i h b e =
    rw (i, add-one, drop-cons r n 0 b, set_at (take n t) (get_or r n 0) (drop (suc n) r) v n (length-take-le n t (omega arith)), take-suc t n 0 h, append_assoc, e)

pub written_row : (t r l : List ℕ) (at : ℕ) (a : Row) → at + 5 ≤ length t → at + 5 ≤ length r → row_at t at ≡ a
    → l ≡ take at t ++ drop at r → with_row l at a ≡ take (at + 5) t ++ drop (at + 5) r
written_row t r l at a h b e w =
    rw (
      w,
      written_more t r at (at + 1) a.job refl (omega arith) (omega arith) (ap (λ x. x.job) e),
      written_more t r (at + 1) (at + 2) a.frame (omega arith) (omega arith) (omega arith) (ap (λ x. x.frame) e),
      written_more t r (at + 2) (at + 3) a.spawn (omega arith) (omega arith) (omega arith) (ap (λ x. x.spawn) e),
      written_more t r (at + 3) (at + 4) a.join (omega arith) (omega arith) (omega arith) (ap (λ x. x.join) e),
    )
    (written_more t r (at + 4) (at + 5) a.cost (omega arith) (omega arith) (omega arith) (ap (λ x. x.cost) e))
