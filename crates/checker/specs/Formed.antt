-- What the test of a schedule's form answers: its worker count, if there is one. Private functions alone cite it.
--   WellFormed form s n r words == the bytes s are a schedule of that form and of r workers, at least one, for n actions, and the array has
--                                its rows
--   Formed form s n r words     == the answer r tells whether that is so
--   Headed form s n r           == the answer r tells whether the header is well formed, and then its worker count
--   WordsTold width s n words r == the answer r tells whether each of the n rows has a round that is not 0, and the array then has them
use Rattle.std.specs.Prelude.{ℕ, ◌≤◌, ◌<◌, ◌≡◌, Bool, List, length, Option, Some, None}
use Rattle.plan.specs.Refusal.{refused, accepted}
use Rattle.plan.specs.Told.{Told}
use Rattle.fields.specs.Field.{stop, step, then}
use Rattle.courses.specs.Row.{Row}
use Rattle.courses.specs.Schedule.{round_bits, rows_at, written_at, read_schedule}
use Rattle.checker.specs.Rows.{word, Words, RowsIn}

pub record WellFormed (form : ℕ) (s : List ℕ) (n workers : ℕ) (words : List ℕ) : Type 0 where
  pub rows : List Row
  pub read : read_schedule form s n ≡ accepted (record { workers = workers; rows = rows })
  pub held : RowsIn rows words
  pub all : length rows ≡ n
  pub some : 1 ≤ workers

abbrev pub Formed : ℕ → List ℕ → ℕ → Option ℕ → List ℕ → Type 0
Formed form s n None words = read_schedule form s n ≡ refused 11
Formed form s n (Some r) words = WellFormed form s n r words

abbrev pub Headed : ℕ → List ℕ → ℕ → Option ℕ → Type 0
Headed form s n None = (k : ℕ) × (written_at form s n ≡ stop k)
Headed form s n (Some r) =
    (1 ≤ r) × (written_at form s n ≡ then (rows_at (round_bits form) s n 32) (λ rows at. step (record { workers = r; rows = rows }) at))

abbrev pub WordsTold : ℕ → List ℕ → ℕ → List ℕ → Bool → Type 0
WordsTold width s n words r = Told r (Words width s n words) ((k : ℕ) × (k < n) × (word width s k < 16))
