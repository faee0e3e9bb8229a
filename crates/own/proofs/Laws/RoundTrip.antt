-- What the first entry answered and left, and what the second one makes of it.
use Prim.Native.Nat.{ℕ, ◌*◌, ◌-◌, ◌/◌, ◌≤◌}
use Rattle.std.specs.Prelude.{Result, Ok, Err}
use native.Mathlib.Omega.{arith}
use mathlib.Core.Path.{◌≡◌, sym, ap, ◌∙◌}
use mathlib.Core.List.{List}
use lib.ListN.{length, get_or, take, drop, length-append}
use Rattle.plan.specs.declared.refusal.Refusal.{Refusal}
use Rattle.plan.specs.Refusal.{refused, number_of}
use Rattle.fields.specs.Field.{Bytes}
use Rattle.plan_writer.specs.Written.{Written, written, answer_of}
use Rattle.plan_table.specs.Table.{read_table, to_table, to_plan}
use Rattle.plan_table.proofs.Laws.Rows.{table_length}
use Rattle.plan_table.proofs.Laws.RoundTrip.{to_table_told, plan_table_plan, table_plan_table}
use Rattle.plan_writer.proofs.Laws.Answers.{encoded_room}
use Rattle.plan_writer.proofs.Laws.PlanBytes.{read_form}
use Rattle.own.specs.RoundTrip.{back, plan_back, table_back}

module _ (first : Written) (r : Result ℕ Refusal) (left : List ℕ) (e : record { answer = answer_of r; buffer = left } ≡ first) where
  pub left_is : left ≡ first.buffer
  left_is = ap (λ (w : Written). w.buffer) e

  pub answered : (a : Result ℕ Refusal) → r ≡ a → first.answer ≡ answer_of a
  answered a f = sym (ap (λ (w : Written). w.answer) e) ∙ ap answer_of f

  pub refused_back : (cause : Refusal) → r ≡ Err cause → (output : List ℕ) (n : ℕ) (buffer : List ℕ)
      → (record { answer = refused (number_of cause); buffer = buffer } ≡ back first.answer output n buffer) × (left ≡ first.buffer)
  unfolding back
  refused_back cause f output n buffer = (ap (λ o. back o output n buffer) (sym (answered (Err cause) f)), left_is)

  pub counted_back : (n : ℕ) → r ≡ Ok n → (second : Written) (output : List ℕ) (k : ℕ) (buffer : List ℕ)
      → second ≡ written output k buffer → (second ≡ back first.answer output k buffer) × (left ≡ first.buffer)
  unfolding back
  counted_back n f second output k buffer g = (g ∙ ap (λ o. back o output k buffer) (sym (answered (Ok n) f)), left_is)

-- a plan that was opened into n rows
module _ (plan rows left : List ℕ) (r : Result ℕ Refusal) (n : ℕ)
    (e : record { answer = answer_of r; buffer = left } ≡ to_table plan rows) (f : r ≡ Ok n) where
  pub rows_room : 5 * n ≤ length left
  rows_room =
      to_table_told plan rows n (answered _ r left e (Ok n) f) λ x _ k b.
      rw (left_is _ r left e, b, length-append) (omega (arith, table_length x.plan))

  -- it has a first byte
  pub plan_some : Bytes plan → 1 ≤ length plan
  plan_some h = to_table_told plan rows n (answered _ r left e (Ok n) f) λ x q _ _. (read_form plan x h q).0

  -- the table that is closed, in the form of the first byte, is the part from 0 to 5 * n
  pub plan_back_lem : Bytes plan → (bytes : List ℕ) (form : ℕ) → form ≡ get_or plan 0 0 → (second : Written)
      → second ≡ to_plan form (take (5 * n - 0) (drop 0 left)) bytes → (second ≡ plan_back plan rows bytes) × (left ≡ (to_table plan rows).buffer)
  plan_back_lem h bytes form i second g =
      to_table_told plan rows n (answered _ r left e (Ok n) f) λ x q _ _.
      let whole : 5 * n - 0 ≡ 5 * n = omega arith in
      let own : form ≡ x.form = i ∙ (read_form plan x h q).1 in
      counted_back _ r left e n f second plan (length plan) bytes
      (rw (whole, left_is _ r left e, own) at g ∙ plan_table_plan plan rows bytes n x h q (answered _ r left e (Ok n) f))

-- a table that was closed into n bytes
module _ (form : ℕ) (table bytes left : List ℕ) (r : Result ℕ Refusal) (n : ℕ)
    (e : record { answer = answer_of r; buffer = left } ≡ to_plan form table bytes) (f : r ≡ Ok n) where
  pub bytes_room : n ≤ length left
  unfolding to_plan
  bytes_room = rw (left_is _ r left e) (encoded_room form (read_table form table) bytes n (answered _ r left e (Ok n) f))

  -- the bytes that are opened are the part from 0 to n
  pub table_back_lem : (rows : List ℕ) (second : Written) → second ≡ to_table (take (n - 0) (drop 0 left)) rows
      → (second ≡ table_back form table bytes rows) × (left ≡ (to_plan form table bytes).buffer)
  table_back_lem rows second g =
      let whole : n - 0 ≡ n = omega arith in
      counted_back _ r left e n f second table (length table / 5) rows
      (rw (whole, left_is _ r left e) at g ∙ table_plan_table form table bytes rows n (answered _ r left e (Ok n) f))
