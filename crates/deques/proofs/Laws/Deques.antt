-- A deque: what a job that comes and a top that moves on make of it; and the sixteen deques, one of which has changed.
--   restarted    == a deque without a job may start at its first place again
--   on_bottom    == a job that may go on the bottom goes there, to a place not above its number
--   top_leaves   == the top job leaves
--   all_empty    == sixteen deques as they are made hold no job
--   fitting_in   == of sixteen deques the one at w can take a job
--   pushed_in, bottom_in, top_in == such a job has gone on the bottom of one, or the bottom or the top job of one is taken
use Prim.Native.Nat.{ℕ, zero, suc, ◌+◌, ◌-◌, ◌≤◌, ◌<◌}
use mathlib.Core.Path.{◌≡◌, refl, ap, sym, ◌∙◌}
use mathlib.Core.Logic.{◌≢◌, by_cases}
use mathlib.Core.Bool.{Bool}
use mathlib.Core.List.{List, []}
use native.Mathlib.Numerals.{add-one}
use native.Mathlib.Omega.{arith}
use native.Mathlib.Decide.{ℕ_discrete}
use lib.ListN.{get_or, set, replicate, length-set, length-replicate, get_or-replicate}
use lib.Seq.{get_or-set_same, get_or-set_other}
use Rattle.std.specs.Prelude.{Result, Ok}
use Rattle.runs.specs.declared.miss.Miss.{Miss}
use Rattle.runs.specs.declared.worker.Worker.{Worker}
use Rattle.runs.specs.Steal.{drop_top, top_of}
use Rattle.deques.specs.declared.Deque.{Deque}
use Rattle.deques.specs.Dequed.{jobs_from, Stacked, Fitting, OnBottom, BottomTaken, TopTaken, empty, no_deque, deque_in, Dequed}
use Rattle.deques.specs.Dequed.{Pushing, Pushed, TookBottom, TookTop}

-- jobs are as their places are
jobs_same : (a b : List ℕ) (at n : ℕ) → ((i : ℕ) → i < n → get_or a (at + i) 0 ≡ get_or b (at + i) 0) → jobs_from a at n ≡ jobs_from b at n
jobs_same a b at zero h = refl
jobs_same a b at (suc n) h = rw (h n (omega arith), jobs_same a b at n (λ i l. h i (omega arith)))

-- the top job leaves
jobs_drop : (a : List ℕ) (at n : ℕ) → drop_top (jobs_from a at (suc n)) ≡ jobs_from a (suc at) n
jobs_drop a at zero = refl
jobs_drop a at (suc n) =
    let e : at + suc n ≡ suc at + n = omega arith in
    rw (← e, ← jobs_drop a at n)

-- the top job stands at the top
jobs_top : (a : List ℕ) (at n : ℕ) → top_of (get_or a (at + n) 0) (jobs_from a at n) ≡ get_or a at 0
jobs_top a at zero = let e : at + 0 ≡ at = omega arith in rw e
jobs_top a at (suc n) = jobs_top a at n

module _ {j : ℕ} {q : Deque} {d : List ℕ} (p : Fitting j q d) where
  pub restarted : q.len ≡ 0 → Fitting j (record q { top = 0 }) d
  restarted e = record {
    stacked = record {
      long = p.stacked.long;
      holds = rw (e, ← p.stacked.holds, e) refl;
      low = λ i l. omega (arith, e);
      room = omega (arith, e);
    };
    small = p.small;
    below = p.below;
  }

  -- where the job goes is not above its number
  place : (n : ℕ) → n ≡ q.len → (q.len ≡ 0 → q.top ≡ 0) → q.top + n ≤ j
  place zero e h = omega (arith, h (sym e))
  place (suc m) e h = omega (arith, p.stacked.low m (omega arith), p.below _ _ (sym (ap (jobs_from q.jobs q.top) e ∙ p.stacked.holds)))

  pub on_bottom : (q.len ≡ 0 → q.top ≡ 0) → OnBottom j (record q { jobs = set q.jobs (q.top + q.len) j; len = q.len + 1 }) d
  on_bottom h =
      rw add-one record {
        long = simp length-set p.stacked.long;
        holds = rw (here, jobs_same _ q.jobs q.top q.len there, p.stacked.holds) refl;
        low = λ i l. by_cases (ℕ_discrete i q.len) (λ e. rw (e, here) fits) (λ f. rw (there i (omega arith)) (p.stacked.low i (omega arith)));
        room = omega (arith, fits, p.small);
      }
    where
      fits : q.top + q.len ≤ j
      fits = place q.len refl h

      here : get_or (set q.jobs (q.top + q.len) j) (q.top + q.len) 0 ≡ j
      here = get_or-set_same q.jobs (q.top + q.len) j 0 (omega (arith, fits, p.small, p.stacked.long))

      there : (i : ℕ) → i < q.len → get_or (set q.jobs (q.top + q.len) j) (q.top + i) 0 ≡ get_or q.jobs (q.top + i) 0
      there i l = get_or-set_other q.jobs (q.top + q.len) (q.top + i) j 0 (λ x. omega arith)

pub top_leaves : {q : Deque} {d : List ℕ} → Stacked q d → (n : ℕ) → n ≡ q.len → n ≢ 0 → (held : Bool)
    → TopTaken held (Ok (get_or q.jobs q.top 0)) (record q { top = q.top + 1; len = q.len - 1 }) d
top_leaves s zero e f held = absurd (f refl)
top_leaves {q} s (suc m) e f held =
    let z : suc m - 1 ≡ m = omega arith in
    rw (← s.holds, ← e, z, add-one) (
      ap Ok (sym (jobs_top q.jobs q.top m)),
      record {
        long = s.long;
        holds = sym (jobs_drop q.jobs q.top m);
        low = λ i l. let x : suc q.top + i ≡ q.top + suc i = omega arith in rw x (s.low (suc i) (omega arith));
        room = omega (arith, s.room);
      },
    )

pub all_empty : Dequed (replicate 16 empty) (replicate 16 [])
all_empty = record {
  sixteen = refl;
  long = refl;
  holds = λ w h. rw (get_or-replicate 16 w empty no_deque h, get_or-replicate {A = List ℕ} 16 w [] [] h) (record {
    long = length-replicate {A = ℕ} 256 0;
    holds = refl;
    low = λ i k. absurd (omega arith);
    room = omega arith;
  });
}

module _ {ds : List (List ℕ)} {deques : List Deque} where
  pub fitting_in : {w j : ℕ} → Pushing w j deques ds → Fitting j (deque_in deques w) (get_or ds w [])
  fitting_in {w} p = record { stacked = p.dequed.holds w p.known; small = p.small; below = p.below }

  -- one of the deques has changed, and the others stay
  changed_in : Dequed deques ds → {w : ℕ} → w < 16 → {deque : Deque} {d : List ℕ} → Stacked deque d
      → Dequed (set deques w deque) (set ds w d)
  changed_in q {w} h {deque} {d} s = record {
    sixteen = simp length-set q.sixteen;
    long = simp length-set q.long;
    holds = λ v b. by_cases (ℕ_discrete v w)
        (λ e. rw (e, get_or-set_same ds w d [] (omega (arith, q.sixteen)), get_or-set_same deques w deque no_deque (omega (arith, q.long))) s)
        (λ f. rw (get_or-set_other ds w v d [] f, get_or-set_other deques w v deque no_deque f) (q.holds v b));
  }

  pub pushed_in : {w j : ℕ} {deque : Deque} → Pushing w j deques ds → OnBottom j deque (get_or ds w []) → Pushed w j (set deques w deque) ds
  pushed_in p s = changed_in p.dequed p.known s

  pub bottom_in : {w : ℕ} {x : Worker} {deque : Deque} → Dequed deques ds → w < 16 → BottomTaken x deque (get_or ds w [])
      → TookBottom w x (set deques w deque) ds
  bottom_in q h (is, s) = (is, changed_in q h s)

  pub top_in : {v : ℕ} (held : Bool) {x : Result ℕ Miss} {deque : Deque} → Dequed deques ds → v < 16
      → TopTaken held x deque (get_or ds v []) → TookTop v held x (set deques v deque) ds
  top_in held q h (is, s) = (is, changed_in q h s)
