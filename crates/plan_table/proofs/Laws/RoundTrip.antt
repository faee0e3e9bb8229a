-- The two entries of the open table undo one another: from plan bytes to a table and back, and from a table to plan bytes and back.
use Prim.Native.Nat.{ℕ, ◌*◌, ◌/◌}
use native.Mathlib.Omega.{arith}
use mathlib.Core.Path.{◌≡◌, refl, sym, ap, ap₂, ◌∙◌}
use mathlib.Core.List.{List, ◌++◌}
use lib.ListN.{length, take, drop}
use lib.Seq.{take_at}
use Rattle.plan.specs.Refusal.{Outcome, refused, accepted}
use Rattle.plan.specs.Plan.{total}
use Rattle.fields.specs.Field.{Bytes}
use Rattle.plan.specs.Reader.{Read, read_plan}
use Rattle.plan_writer.specs.Written.{written, encoded}
use Rattle.plan_table.specs.Table.{table_of, read_table, tabled, to_table, to_plan}
use Rattle.plan.proofs.Laws.Accepted.{accepted_as}
use Rattle.plan.proofs.Laws.Outcomes.{refused_accepted, accepted_same}
use Rattle.plan_writer.proofs.Laws.Answers.{written_told, encoded_front}
use Rattle.plan_writer.proofs.Laws.PlanBytes.{read_write, write_read}
use Rattle.plan.proofs.Laws.Costs.{accepted_costs}
use Rattle.plan_table.proofs.Laws.Rows.{table_length}
use Rattle.plan_table.proofs.Laws.OpenTable.{table_read_write, table_write_read, read_table_rules}

pub to_table_told : {P : Type 0} (s rows : List ℕ) (n : ℕ) → (to_table s rows).answer ≡ accepted n
    → ((x : Read) → read_plan s ≡ accepted x → n ≡ total x.plan
    → (to_table s rows).buffer ≡ table_of x.plan ++ drop (length (table_of x.plan)) rows → P) → P
unfolding to_table tabled
to_table_told {P} s rows n e use-it = go (read_plan s) e use-it
  where
    go : (o : Outcome Read) → (tabled o rows).answer ≡ accepted n
        → ((x : Read) → o ≡ accepted x → n ≡ total x.plan
        → (tabled o rows).buffer ≡ table_of x.plan ++ drop (length (table_of x.plan)) rows → P) → P
    go (refused k) e use-it = refused_accepted e
    go (accepted x) e use-it = written_told (table_of x.plan) (total x.plan) rows n e (use-it x refl)

-- what was read of a plan's bytes is closed in its own form
pub plan_table_plan : (s rows bytes : List ℕ) (n : ℕ) (x : Read) → Bytes s → read_plan s ≡ accepted x → (to_table s rows).answer ≡ accepted n
    → to_plan x.form (take (5 * n) (to_table s rows).buffer) bytes ≡ written s (length s) bytes
unfolding to_plan encoded
plan_table_plan s rows bytes n x h r e =
    to_table_told s rows n e λ y q k b.
    let z : y ≡ x = accepted_same y x (sym q ∙ r) in
    let p = x.plan in
    let kept = accepted_as s x r in
    let c : total y.plan ≡ total p = ap (λ y. total y.plan) z in
    let t : take (5 * n) (to_table s rows).buffer ≡ table_of p
    = ap (take (5 * n)) b ∙ take_at (table_of y.plan) (drop (length (table_of y.plan)) rows) (5 * n) (omega (arith, table_length y.plan))
    ∙ ap (λ y. table_of y.plan) z in
    ap (λ t. to_plan x.form t bytes) t
    ∙ ap (λ o. encoded x.form o bytes) (table_write_read x.form p kept.1 (accepted_costs s x r) kept.0.range kept.0.spawns kept.0.joins)
    ∙ ap (λ o. written o (length o) bytes) (read_write s x h r)

pub table_plan_table : (form : ℕ) (t bytes rows : List ℕ) (n : ℕ) → (to_plan form t bytes).answer ≡ accepted n
    → to_table (take n (to_plan form t bytes).buffer) rows ≡ written t (length t / 5) rows
unfolding to_table tabled to_plan
table_plan_table form t bytes rows n e =
    encoded_front form (read_table form t) bytes n e λ p r s.
    let (range, spawns, joins, costs, passes) = read_table_rules form t p r in
    let w : table_of p ≡ t = table_read_write form t p r in
    let l : total p ≡ length t / 5 = omega (arith, table_length p, ap length w) in
    ap (λ s. to_table s rows) s
    ∙ ap (λ o. tabled o rows) (write_read form p passes costs range spawns joins)
    ∙ ap₂ (λ o k. written o k rows) w l
