-- What private functions that take rows over and write rows are given and answer. No public entry cites these.
--   RowsGiven plan p    == the arrays have the jobs and actions of the plan p, and their number of actions is its
--   row_on plan k       == the row of the action at place k, by the arrays
--   with_row t at a     == the table t with the five numbers of the row a at `at`
--   row_at t at         == the row whose five numbers stand at `at` of the table t
--   fits_at t at        == that row has small numbers and may stand where it stands: first, or below the row before it
--   TableKept t        == the table t has whole rows and keeps its row rules
--   cost_stands form c  == the cost c may stand in a table of that form
--   RowFits form p a k == the row a, at place k of the plan p, has its numbers and its place in its job in range
--   begun t k          == how many jobs the first k rows of the table t begin
--   ranged form p      == no number of the plan p is out of range, the costs not for a plan of that form either
--   RowsTaken form t k plan == the table t is kept and not too long, those rows fit, and the arrays have of their plan what they tell
--   RowTaken form t k r plan == what taking over row k, behind those, answers: so it is with row k, or a number is out of range
--   Taken form rows r plan == what taking all rows over answers: the arrays have their plan, of that form, or a number is out of range
--   LaidAs plan p       == the arrays have the plan p, whose costs fit the form that they tell, a byte
use Rattle.std.specs.Prelude.{ℕ, zero, suc, ◌+◌, ◌-◌, ◌*◌, ◌/◌, ◌%◌, ◌≤◌, ◌<◌, ◌≡◌, Bool, true, false, List, length, get_or, take, set, T, eqb, leb, Result, Ok, Err}
use Rattle.plan.specs.declared.sheet.Sheet.{Sheet}
use Rattle.plan.specs.declared.refusal.Refusal.{Refusal}
use Rattle.plan.specs.declared.refusal.Refusal.TheVariants.{Range}
use Rattle.plan.specs.Plan.{Plan, job, total}
use Rattle.plan.specs.Rules.{in_range, costs_fit}
use Rattle.plan.specs.Test.{both}
use Rattle.plan.specs.Sheet.{child_at, target_at, frame_of, first_of, spawn_of, job_at, cost_at, Sized, Laid, LaidIn}
use Rattle.plan_table.specs.Table.{Row, rows_of, small, goes_on, row_rules, plan_of}

pub record RowsGiven (plan : Sheet) (p : Plan) : Type 0 where
  pub all : plan.actions ≡ total p
  pub laid : Laid plan p

abbrev pub row_on : Sheet → ℕ → Row
row_on plan k =
    record { job = job_at plan k; frame = frame_of plan (job_at plan k); spawn = child_at plan k; join = target_at plan k; cost = cost_at plan k }

abbrev pub with_row : List ℕ → ℕ → Row → List ℕ
with_row t at a = set (set (set (set (set t at a.job) (at + 1) a.frame) (at + 2) a.spawn) (at + 3) a.join) (at + 4) a.cost

abbrev pub row_at : List ℕ → ℕ → Row
row_at t at =
    record { job = get_or t at 0; frame = get_or t (at + 1) 0; spawn = get_or t (at + 2) 0; join = get_or t (at + 3) 0; cost = get_or t (at + 4) 0 }

unfoldable pub fits_at : List ℕ → ℕ → Bool
fits_at t at =
    both (small (row_at t at)) (elim (eqb at 0) [ true ↦ eqb (get_or t at 0) 0 | false ↦ goes_on (row_at t (at - 5)) (row_at t at) ])

pub record TableKept (t : List ℕ) : Type 0 where
  pub whole : length t % 5 ≡ 0
  pub rules : T (row_rules (rows_of t))

unfoldable pub cost_stands : ℕ → ℕ → Bool
cost_stands form c = elim (eqb form 1) [ true ↦ eqb c 1 | false ↦ both (leb 1 c) (leb c 15) ]

pub record RowFits (form : ℕ) (p : Plan) (a : Row) (k : ℕ) : Type 0 where
  pub some : 1 ≤ a.frame
  pub word : a.frame ≤ 65535
  pub few : a.job < 256
  pub short : k < total (take a.job p) + 255
  pub stands : T (cost_stands form a.cost)

abbrev pub begun : List ℕ → ℕ → ℕ
begun t zero = 0
begun t (suc k) = suc (row_at t (5 * k)).job

abbrev pub ranged : ℕ → Plan → Bool
ranged form p = both (in_range p) (costs_fit form p)

pub record RowsTaken (form : ℕ) (t : List ℕ) (k : ℕ) (plan : Sheet) : Type 0 where
  pub kept : TableKept t
  pub few : length t / 5 ≤ 2048
  pub sized : Sized plan
  pub fit : (i : ℕ) → i < k → RowFits form (plan_of (rows_of t)) (row_at t (5 * i)) i
  pub frames : (j : ℕ) → j < begun t k → frame_of plan j ≡ (job (plan_of (rows_of t)) j).frame
  pub firsts : (j : ℕ) → j < begun t k → first_of plan j ≡ total (take j (plan_of (rows_of t)))
  pub end : first_of plan (begun t k) ≡ k
  pub owners : (i : ℕ) → i < k → job_at plan i ≡ (row_at t (5 * i)).job
  pub children : (i : ℕ) → i < k → child_at plan i ≡ (row_at t (5 * i)).spawn
  pub targets : (i : ℕ) → i < k → target_at plan i ≡ (row_at t (5 * i)).join
  pub costs : (i : ℕ) → i < k → cost_at plan i ≡ (row_at t (5 * i)).cost
  pub unspawned : (c : ℕ) → c < 256 → spawn_of plan c ≡ 0

abbrev pub RowTaken : ℕ → List ℕ → ℕ → Result Unit Refusal → Sheet → Type 0
RowTaken form t k (Ok done) plan = RowsTaken form t (suc k) plan
RowTaken form t k (Err cause) plan = (cause ≡ Range) × (ranged form (plan_of (rows_of t)) ≡ false)

abbrev pub Taken : ℕ → List Row → Result Unit Refusal → Sheet → Type 0
Taken form rows (Err cause) plan = (cause ≡ Range) × (ranged form (plan_of rows) ≡ false)
Taken form rows (Ok done) plan = LaidIn plan (plan_of rows) × T (costs_fit form (plan_of rows)) × (plan.form ≡ form)

pub record LaidAs (plan : Sheet) (p : Plan) : Type 0 where
  pub held : LaidIn plan p
  pub costs : T (costs_fit plan.form p)
  pub byte : plan.form < 256
