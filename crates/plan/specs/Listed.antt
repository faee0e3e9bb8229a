-- Places listed in rising order: those below a bound where a function is not 0.
--   entry row k    == number k of a row
--   upto l m       == the place right after the m places that stand first in the list l
--   Listed f n count l == the first `count` numbers of the list are, in rising order, the places below n where f is not 0
use Rattle.std.specs.Prelude.{ℕ, zero, suc, ◌≤◌, ◌<◌, ◌≡◌, List, length, get_or}

abbrev pub entry : List ℕ → ℕ → ℕ
entry row k = get_or row k 0

abbrev pub upto : List ℕ → ℕ → ℕ
upto l zero = 0
upto l (suc m) = suc (get_or l m 0)

pub record Listed (f : ℕ → ℕ) (n count : ℕ) (l : List ℕ) : Type 0 where
  pub long : length l ≡ 2048
  pub few : count ≤ n
  pub below : (m : ℕ) → m < count → get_or l m 0 < n
  pub some : (m : ℕ) → m < count → f (get_or l m 0) ≡ 0 → ⊥
  pub rises : (m : ℕ) → m < count → upto l m ≤ get_or l m 0
  pub none : (m i : ℕ) → m < count → upto l m ≤ i → i < get_or l m 0 → f i ≡ 0
  pub rest : (i : ℕ) → upto l count ≤ i → i < n → f i ≡ 0
