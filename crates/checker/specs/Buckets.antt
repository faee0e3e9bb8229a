-- The buckets that rows lie in. Private functions alone cite it.
--   more_of form         == how many blocks behind its last one a span of a plan of that form may be met: in form 1 none, else one
--   block_of more round  == the block of rounds that a round is of: 16 rounds are one, but where there are no more each is its own
--   bucket_of stride block worker == the bucket of a block and a worker
--   key_of more stride a == the bucket of a span
--   Meet a b            == two spans are of one worker and have a round in common
--   Met words plan i first row r == the answer r tells whether the span of row i meets that of another, which is given with its first round
--   Clear more block k span == of the rows before row k, each that meets it ends in that block or in an earlier one
use Rattle.std.specs.Prelude.{ℕ, ◌+◌, ◌*◌, ◌/◌, ◌%◌, ◌^◌, ◌≤◌, ◌<◌, ◌≡◌, Bool, true, false, List, eqb}
use Rattle.plan.specs.declared.sheet.Sheet.{Sheet}
use Rattle.plan.specs.Told.{Told}
use Rattle.courses.specs.Schedule.{Span}
use Rattle.checker.specs.Rows.{span_from, span_at}

abbrev pub more_of : ℕ → ℕ
more_of form = elim (eqb form 1) [ true ↦ 0 | false ↦ 1 ]

abbrev pub block_of : ℕ → ℕ → ℕ
block_of more round = round / 2 ^ (4 * more)

abbrev pub bucket_of : ℕ → ℕ → ℕ → ℕ
bucket_of stride block worker = (block + worker * stride) % 4096

abbrev pub key_of : ℕ → ℕ → Span → ℕ
key_of more stride a = bucket_of stride (block_of more a.last) a.worker

abbrev pub Meet : Span → Span → Type 0
Meet a b = (a.worker ≡ b.worker) × (a.first ≤ b.last) × (b.first ≤ a.last)

abbrev pub Met : List ℕ → Sheet → (i first row : ℕ) → Bool → Type 0
Met words plan i first row r =
    Told r (Meet (span_at words plan i) (span_from first row)) (Meet (span_at words plan i) (span_from first row) → ⊥)

abbrev pub Clear : ℕ → ℕ → ℕ → (ℕ → Span) → Type 0
Clear more block k span = (i : ℕ) → i < k → Meet (span i) (span k) → block_of more (span i).last ≤ block
