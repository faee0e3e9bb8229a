-- Places in chains by a key that each has, each chain from its latest place back. Private functions alone cite it.
--   entry l k                 == what stands at place k of an array
--   plus_one o                == a place plus 1, or 0 for none
--   Chains n key last earlier == the first n places lie in chains: `last` has of each key the latest place that has it, and
--                                `earlier` of each place the one before it that has its key, each as a place plus 1 or 0
--   Entered k b last earlier last' earlier' == the place k has come first in the chain of key b
--   Walk n key b Ok at        == on the way back along the chain of key b, among the first n places, those from `at` on are
--                                passed, each Ok; the chain goes on at the place before: `at` is a place plus 1, or 0 at its end
use Rattle.std.specs.Prelude.{ℕ, suc, ◌+◌, ◌≤◌, ◌<◌, ◌≡◌, List, length, get_or, Option, Some, None}

abbrev pub entry : List ℕ → ℕ → ℕ
entry l k = get_or l k 0

abbrev pub plus_one : Option ℕ → ℕ
plus_one None = 0
plus_one (Some i) = suc i

pub record Chains (n : ℕ) (key last earlier : ℕ → ℕ) : Type 0 where
  pub head : (b i : ℕ) → last b ≡ suc i → (i < n) × (key i ≡ b)
  pub all : (i : ℕ) → i < n → i < last (key i)
  pub link : (k i : ℕ) → k < n → earlier k ≡ suc i → (i < k) × (key i ≡ key k)
  pub chain : (i k : ℕ) → i < k → k < n → key i ≡ key k → i < earlier k

pub record Entered (k b : ℕ) (last earlier last' earlier' : List ℕ) : Type 0 where
  pub heads : length last' ≡ length last
  pub links : length earlier' ≡ length earlier
  pub chains : (key : ℕ → ℕ) → b ≡ key k → Chains k key (entry last) (entry earlier) → Chains (k + 1) key (entry last') (entry earlier')

pub record Walk (n : ℕ) (key : ℕ → ℕ) (b : ℕ) (Ok : ℕ → Type 0) (at : ℕ) : Type 0 where
  pub passed : (i : ℕ) → at ≤ i → i < n → key i ≡ b → Ok i
  pub stands : (i : ℕ) → at ≡ suc i → (i < n) × (key i ≡ b)
