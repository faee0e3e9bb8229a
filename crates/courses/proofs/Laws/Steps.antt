-- The two kinds of turn on cores that are lists: what a run stores.
--   worked j c         == c after a turn with job j that does not finish its next action
--   finished p r w j c == c after worker w finished the next action of job j in round r
--   worked_works, finished_ends == these are the turns of a course
--   zero_set           == what was set to 0 is 0, also past the end
use Prim.Native.Nat.{ℕ, zero, suc, ◌<◌, max}
use mathlib.Core.Path.{◌≡◌, refl}
use mathlib.Core.List.{List, [], ◌∷◌}
use native.Mathlib.Omega.{arith}
use lib.ListN.{length, get_or, set, length-set}
use lib.Seq.{get_or-set_same, get_or-set_other}
use Rattle.plan.specs.Plan.{Plan, size, total}
use Rattle.plan.proofs.Laws.Placed.{place_below}
use Rattle.courses.specs.Row.{no_row, place}
use Rattle.courses.specs.Ready.{weight}
use Rattle.courses.proofs.Laws.Course.{Core, next_in, spent_in, place_apart, Works, Ends}

abbrev pub worked : ℕ → Core → Core
worked j c = record {
  next = c.next;
  spent = set c.spent j (suc (spent_in c j));
  rows = c.rows;
  turns = suc c.turns;
  peak = c.peak;
}

abbrev pub finished : Plan → ℕ → ℕ → ℕ → Core → Core
finished p r w j c = record {
  next = set c.next j (suc (next_in c j));
  spent = set c.spent j 0;
  rows = set c.rows (place p j (next_in c j)) (record { round = r; worker = w });
  turns = suc c.turns;
  peak = max c.peak (weight p (set c.next j (suc (next_in c j))));
}

pub worked_works : (p : Plan) (j : ℕ) (c : Core) → j < length c.spent → Works p j c (worked j c)
worked_works p j c h = record {
  next = refl;
  rows = refl;
  turns = refl;
  peak = refl;
  spends = get_or-set_same c.spent j (suc (spent_in c j)) 0 h;
  others = λ x f. get_or-set_other c.spent j x (suc (spent_in c j)) 0 f;
}

pub zero_set : (l : List ℕ) (j : ℕ) → ◌≡◌ {A = ℕ} (get_or (set l j 0) j 0) 0
zero_set [] j = refl
zero_set (x ∷ l) zero = refl
zero_set (x ∷ l) (suc j) = zero_set l j

pub finished_ends : (p : Plan) (r w j : ℕ) (c : Core) → length c.next ≡ length p → length c.rows ≡ total p → j < length p
    → next_in c j < size p j → Ends p r w j c (finished p r w j c)
finished_ends p r w j c nexts rows known left = record {
  acts = record {
    known = known;
    left = left;
    acts = get_or-set_same c.next j (suc (next_in c j)) 0 (omega arith);
    rests = λ h f. get_or-set_other c.next j h (suc (next_in c j)) 0 f;
    writes = get_or-set_same c.rows (place p j (next_in c j)) (record { round = r; worker = w }) no_row
        (omega (arith, place_below p j (next_in c j) known left));
    keeps = λ h i l m f.
        get_or-set_other c.rows (place p j (next_in c j)) (place p h i) (record { round = r; worker = w }) no_row
        (λ q. f (place_apart p h i j (next_in c j) l m known left q));
  };
  long = length-set c.rows _ _;
  turns = refl;
  peak = refl;
  fresh = zero_set c.spent j;
  others = λ h f. get_or-set_other c.spent j h 0 0 f;
}
