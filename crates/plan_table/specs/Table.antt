-- The open table (document 01, "Plan"): "one row an action, in job then position order, of .. 16-bit numbers: job, its frame (equal in
-- all its rows), child number plus 1 or 0, target plus 1 or 0." Document 02, L5: "The open table gains a fifth column, the cost; for form 1
-- it holds 1."
--   table_of p    == the table of a plan
--   Row, rows_of  == the table's rows
--   row_rules     == "The third and fourth are 0 to 256. The job column starts at 0 and rises by 0 or 1."
--   plan_of rows  == the plan whose table the rows are
--   read_table form t == the plan that a table of that form holds, or the refusal: 2, 10, 3, 4, 5
--   to_table, to_plan == what the two entries answer and leave in the lent buffer
use Rattle.std.specs.Prelude.{ℕ, suc, ◌%◌, Bool, true, false, List, [], ◌∷◌, ◌++◌, length, eqb, leb}
use Rattle.plan.specs.Refusal.{Outcome, refused, accepted}
use Rattle.plan.specs.Test.{both, either, all}
use Rattle.plan.specs.Plan.{Action, Job, Plan, total}
use Rattle.plan.specs.Rules.{in_range, costs_fit, spawn_rules, join_rules}
use Rattle.plan.specs.Reader.{Read, is_form, read_plan}
use Rattle.plan_writer.specs.Written.{Written, written, encoded}

-- the rows of the actions of job j, whose frame is f
abbrev pub table_in : ℕ → ℕ → List Action → List ℕ
table_in j f [] = []
table_in j f (a ∷ rest) = j ∷ f ∷ a.spawn ∷ a.join ∷ a.cost ∷ table_in j f rest

abbrev pub table_from : ℕ → List Job → List ℕ
table_from j [] = []
table_from j (b ∷ bs) = table_in j b.frame b.actions ++ table_from (suc j) bs

unfoldable pub table_of : Plan → List ℕ
table_of p = table_from 0 p

pub record Row : Type 0 where
  pub job : ℕ
  pub frame : ℕ
  pub spawn : ℕ
  pub join : ℕ
  pub cost : ℕ

-- five numbers a row; what is left of a last row that is not whole is no row
abbrev pub rows_of : List ℕ → List Row
rows_of [] = []
rows_of (j ∷ []) = []
rows_of (j ∷ (f ∷ [])) = []
rows_of (j ∷ (f ∷ (s ∷ []))) = []
rows_of (j ∷ (f ∷ (s ∷ (t ∷ [])))) = []
rows_of (j ∷ (f ∷ (s ∷ (t ∷ (c ∷ rest))))) = record { job = j; frame = f; spawn = s; join = t; cost = c } ∷ rows_of rest

-- a row may stand below the row a: the next job, or the same job with the same frame
abbrev pub goes_on : Row → Row → Bool
goes_on a b = either (eqb b.job (suc a.job)) (both (eqb b.job a.job) (eqb b.frame a.frame))

abbrev pub rising : Row → List Row → Bool
rising a [] = true
rising a (b ∷ rows) = both (goes_on a b) (rising b rows)

abbrev pub small : Row → Bool
small a = both (leb a.spawn 256) (leb a.join 256)

unfoldable pub row_rules : List Row → Bool
row_rules [] = false
row_rules (a ∷ rows) = both (eqb a.job 0) (both (rising a rows) (all small (a ∷ rows)))

abbrev pub action_of : Row → Action
action_of a = record { spawn = a.spawn; join = a.join; cost = a.cost }

-- one more action in front of the first job
abbrev pub infront : Row → List Job → List Job
infront a [] = []
infront a (b ∷ bs) = record { frame = b.frame; actions = action_of a ∷ b.actions } ∷ bs

-- rows of one job number are one job
abbrev pub plan_of : List Row → Plan
plan_of [] = []
plan_of (a ∷ []) = record { frame = a.frame; actions = action_of a ∷ [] } ∷ []
plan_of (a ∷ (b ∷ rows)) =
    elim (eqb a.job b.job) [
      | true ↦ infront a (plan_of (b ∷ rows))
      | false ↦ record { frame = a.frame; actions = action_of a ∷ [] } ∷ plan_of (b ∷ rows)
    ]

-- 3, also where "a cost outside 1 to 15, or in a form 1 table not 1"; then 4, then 5
unfoldable pub ruled : ℕ → Plan → Outcome Plan
unfolding in_range costs_fit spawn_rules join_rules
ruled form p =
    elim (both (in_range p) (costs_fit form p)) [
      | false ↦ refused 3
      | true ↦ elim (spawn_rules p) [ false ↦ refused 4 | true ↦ elim (join_rules p) [ false ↦ refused 5 | true ↦ accepted p ] ]
    ]

-- 2, "which a writer checks first"; 10: "open table empty, not whole rows, or breaks its row rules"
unfoldable pub read_table : ℕ → List ℕ → Outcome Plan
unfolding row_rules ruled
read_table form t =
    elim (is_form form) [
      | false ↦ refused 2
      | true ↦ elim (both (eqb (length t % 5) 0) (row_rules (rows_of t))) [ false ↦ refused 10 | true ↦ ruled form (plan_of (rows_of t)) ]
    ]

-- "reading into a table": 1 to 6, then 9; the answer is the number of rows
unfoldable pub tabled : Outcome Read → List ℕ → Written
unfolding written table_of
tabled (refused n) buffer = record { answer = refused n; buffer = buffer }
tabled (accepted r) buffer = written (table_of r.plan) (total r.plan) buffer

unfoldable pub to_table : List ℕ → List ℕ → Written
unfolding tabled read_plan
to_table bytes buffer = tabled (read_plan bytes) buffer

-- "writing from a table": 2, 10, 3, 4, 5, 9; the answer is the number of bytes
unfoldable pub to_plan : ℕ → List ℕ → List ℕ → Written
unfolding encoded read_table
to_plan form table buffer = encoded form (read_table form table) buffer
