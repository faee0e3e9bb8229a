-- The pool of a run: a set of 256 jobs, and how many children of each job live. The set is four words, job j as binary digit j % 64 of
-- word j / 64. Functions that are no entries cite this file.
--   pooled pool j          == job j is in the set
--   children_of pool j     == how many children of job j live
--   no_pool                == no job is in the set, and no child of any lives
--   Put j b pool pool'     == pool' is pool, but for job j, which is in the set where b is true and only there
--   First pool o           == o is the lowest job in the set, or none where the set is empty
--   Counted j n pool pool' == pool' is pool, but n children of job j live
use Rattle.std.specs.Prelude.{ℕ, ◌/◌, ◌%◌, ◌<◌, ◌≡◌, ◌≢◌, Bool, true, false, Option, Some, None, eqb, get_or, replicate}
use Rattle.crew.specs.Crew.{member, whether}
use Rattle.pool_set.specs.declared.Pool.{Pool}

abbrev pub pooled : Pool → ℕ → Bool
pooled pool j = member (get_or pool.ready (j / 64) 0) (j % 64)

abbrev pub children_of : Pool → ℕ → ℕ
children_of pool j = get_or pool.children j 0

abbrev pub no_pool : Pool
no_pool = record { ready = replicate 4 0; children = replicate 256 0 }

pub record Put (j : ℕ) (b : Bool) (pool pool' : Pool) : Type 0 where
  pub each : (i : ℕ) → i < 256 → pooled pool' i ≡ whether (eqb i j) b (pooled pool i)
  pub same : (i : ℕ) → children_of pool' i ≡ children_of pool i

abbrev pub First : Pool → Option ℕ → Type 0
First pool (Some r) = (r < 256) × (pooled pool r ≡ true) × ((i : ℕ) → i < r → pooled pool i ≡ false)
First pool None = (i : ℕ) → i < 256 → pooled pool i ≡ false

pub record Counted (j n : ℕ) (pool pool' : Pool) : Type 0 where
  pub here : children_of pool' j ≡ n
  pub others : (i : ℕ) → i ≢ j → children_of pool' i ≡ children_of pool i
  pub same : (i : ℕ) → i < 256 → pooled pool' i ≡ pooled pool i
