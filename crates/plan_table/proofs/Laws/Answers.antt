-- What the two entries of the open table answer, by what was read.
use Prim.Native.Nat.{ℕ, ◌*◌, ◌%◌, ◌≤◌, ◌<◌}
use native.Mathlib.Omega.{arith}
use mathlib.Core.Path.{◌≡◌, sym, ◌∙◌}
use mathlib.Core.Bool.{true, false}
use mathlib.Core.List.{List, ◌++◌}
use lib.ListN.{length, drop}
use lib.Dec.{T, eqb}
use Rattle.plan.specs.declared.sheet.Sheet.{Sheet}
use Rattle.plan.specs.Refusal.{refused, accepted}
use Rattle.plan.specs.Plan.{Plan, total}
use Rattle.plan.specs.Reader.{is_form, read_plan}
use Rattle.plan.specs.Sheet.{PlanIn}
use Rattle.plan_writer.specs.Written.{written, encoded}
use Rattle.plan_table.specs.Table.{table_of, tabled, to_table, rows_of, row_rules, plan_of, ruled, read_table, to_plan}
use Rattle.plan.specs.Test.{both}
use Rattle.plan.specs.Rules.{in_range, costs_fit, spawn_rules, join_rules, Accepted}
use Rattle.plan_table.specs.GivenRows.{ranged, RowsGiven}
use Rattle.plan.proofs.Laws.Lists.{true_of, both_intro}
use Rattle.plan_writer.proofs.Laws.Answers.{written_short, written_whole}
use Rattle.plan_table.proofs.Laws.Rows.{table_length}

pub table_refused : (s buffer : List ℕ) (n : ℕ) → read_plan s ≡ refused n → record { answer = refused n; buffer = buffer } ≡ to_table s buffer
unfolding to_table tabled
table_refused s buffer n e = rw e

module _ (s buffer : List ℕ) (form : ℕ) (p : Plan) (e : read_plan s ≡ accepted (record { form = form; plan = p })) where
  tabled_plan : written (table_of p) (total p) buffer ≡ to_table s buffer
  unfolding to_table tabled
  tabled_plan = rw e

  pub table_short : length buffer < 5 * total p → record { answer = refused 9; buffer = buffer } ≡ to_table s buffer
  table_short h = sym (written_short (table_of p) (total p) buffer (omega (arith, table_length p))) ∙ tabled_plan

  pub table_whole : (n : ℕ) (l : List ℕ) → n ≡ total p → 5 * n ≤ length buffer → l ≡ table_of p ++ drop (5 * n) buffer
      → record { answer = accepted n; buffer = l } ≡ to_table s buffer
  table_whole n l a h w =
      rw (w, a, ← table_length p)
      (sym (written_whole (table_of p) (total p) buffer (omega (arith, table_length p))) ∙ tabled_plan)

-- what a plan answers in a form: 3, 4, 5, 9, or its bytes

module _ (form : ℕ) (p : Plan) (buffer : List ℕ) where
  out_of_range : ranged form p ≡ false → record { answer = refused 3; buffer = buffer } ≡ encoded form (ruled form p) buffer
  unfolding ruled encoded
  out_of_range e = rw (ruled, e)

  module _ (range : T (in_range p)) (costs : T (costs_fit form p)) where
    in_range_lem : ranged form p ≡ true
    in_range_lem = true_of (ranged form p) (both_intro (in_range p) (costs_fit form p) range costs)

    pub encoded_spawns : spawn_rules p ≡ false → record { answer = refused 4; buffer = buffer } ≡ encoded form (ruled form p) buffer
    unfolding ruled encoded
    encoded_spawns e = rw (ruled, in_range_lem, e)

    pub encoded_joins : T (spawn_rules p) → join_rules p ≡ false → record { answer = refused 5; buffer = buffer } ≡ encoded form (ruled form p) buffer
    unfolding ruled encoded
    encoded_joins s e = rw (ruled, in_range_lem, true_of (spawn_rules p) s, e)

  module _ (ok : Accepted p) (costs : T (costs_fit form p)) where
    pub encoded_plan : encoded form (accepted p) buffer ≡ encoded form (ruled form p) buffer
    unfolding ruled
    encoded_plan = rw (ruled, in_range_lem ok.range costs, true_of (spawn_rules p) ok.spawns, true_of (join_rules p) ok.joins)

-- what a table answers in a form: 2, 10, 3, or what its plan answers

module _ (form : ℕ) (t buffer : List ℕ) where
  pub form_refused : is_form form ≡ false → record { answer = refused 2; buffer = buffer } ≡ to_plan form t buffer
  unfolding to_plan read_table encoded
  form_refused e = rw (read_table, e)

  module _ (f : is_form form ≡ true) where
    pub plan_refused : both (eqb (length t % 5) 0) (row_rules (rows_of t)) ≡ false → record { answer = refused 10; buffer = buffer } ≡ to_plan form t buffer
    unfolding to_plan read_table encoded
    plan_refused e = rw (read_table, f, e)

    module _ (e : both (eqb (length t % 5) 0) (row_rules (rows_of t)) ≡ true) where
      pub plan_ruled : encoded form (ruled form (plan_of (rows_of t))) buffer ≡ to_plan form t buffer
      unfolding to_plan read_table
      plan_ruled = rw (read_table, f, e)

      pub plan_range : ranged form (plan_of (rows_of t)) ≡ false → record { answer = refused 3; buffer = buffer } ≡ to_plan form t buffer
      plan_range r = out_of_range form (plan_of (rows_of t)) buffer r ∙ plan_ruled

-- what the writer of rows is given

module _ {plan : Sheet} {p : Plan} (g : PlanIn plan p) where
  pub rows_given : RowsGiven plan p
  rows_given = record { all = g.all; laid = g.planned.laid }
