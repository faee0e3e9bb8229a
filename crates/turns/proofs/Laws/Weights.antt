-- How an action changes the weight of the living frames: one that spawns adds the child's frame, a job's last action takes its
-- own away, and any other leaves it as it is.
--   weight_small                          == the living frames of any state fit
--   last_spawns_none                      == a job's last action spawns none
--   weight_spawn, weight_end, weight_same == the weight after an action, in this order
use Prim.Native.Nat.{ℕ, zero, suc, ◌+◌, ◌-◌, ◌*◌, ◌≤◌, ◌<◌}
use mathlib.Core.Path.{◌≡◌, refl, ap, sym, ◌∙◌}
use mathlib.Core.Logic.{◌⊎◌, inl, inr, ◌≢◌, by_cases}
use mathlib.Core.List.{List}
use native.Mathlib.Omega.{arith}
use native.Mathlib.Nat.{not-suc-le-zero, le_of_suc-le-suc, eq-or-lt_of_le, le_refl, le_trans}
use native.Mathlib.Decide.{ℕ_discrete}
use lib.ListN.{length, get_or, set}
use Rattle.plan.specs.Plan.{Plan, job, size, action, parent, spawn_at}
use Rattle.plan.specs.Rules.{Accepted}
use Rattle.plan.proofs.Laws.Valid.{jobs_range, size_range, frame_range, older, spawned_there, spawned_once_lem, join_target, last_sends_lem}
use Rattle.courses.specs.Ready.{weight}
use Rattle.lines.proofs.Laws.Act.{Act}
use Rattle.lines.proofs.Laws.Shape.{Living, living?}
use Rattle.lines.proofs.Laws.Sum.{sum, only, only_yes, only_no, sum_same, sum_bound}
use Rattle.lines.proofs.Laws.Weight.{held}
use Rattle.courses.proofs.Laws.PlanShape.{shape, weight_held}

-- one term of a sum changes
sum_change : (n : ℕ) (f g : ℕ → ℕ) (c : ℕ) → c < n → ((k : ℕ) → k < n → k ≢ c → g k ≡ f k) → sum n g + f c ≡ sum n f + g c
unfolding sum
sum_change zero f g c b h = absurd (not-suc-le-zero b)
sum_change (suc n) f g c b h = go (sum_change n f g c) (eq-or-lt_of_le (le_of_suc-le-suc b))
  where
    go : (c < n → ((k : ℕ) → k < n → k ≢ c → g k ≡ f k) → sum n g + f c ≡ sum n f + g c) → (c ≡ n) ⊎ (c < n)
        → sum n g + g n + f c ≡ sum n f + f n + g c
    go rec (inr l) = omega (arith, rec l (λ k i q. h k (omega arith) q), h n (le_refl (suc n)) (λ q. omega arith))
    go rec (inl e) = omega (arith, sum_same n g f (λ k i. h k (omega arith) (λ q. omega arith)), ap f e, ap g e)

only_same : {A B : Type 0} (d : Dec A) (e : Dec B) (a : ℕ) → (A → B) → (B → A) → only d a ≡ only e a
unfolding only
only_same (yes x) e a f g = sym (only_yes e a (f x))
only_same (no m) e a f g = sym (only_no e a (λ y. m (g y)))

only_most : {A : Type 0} (d : Dec A) (a m : ℕ) → a ≤ m → only d a ≤ m
unfolding only
only_most (yes x) a m h = h
only_most (no f) a m h = omega arith

module _ (p : Plan) (ok : Accepted p) where
  pub weight_small : (next : List ℕ) → weight p next ≤ 256 * 65535
  unfolding held
  weight_small next =
      rw (weight_held p next)
      (le_trans (sum_bound (length p) (λ k. only (living? (shape p) (λ i. get_or next i 0) k) (job p k).frame) 65535
      (λ k h. only_most (living? (shape p) (λ i. get_or next i 0) k) (job p k).frame 65535 (frame_range p ok k h).1))
      (omega (arith, jobs_range p ok)))

  -- a job's last action spawns none: a child's last action joins a later action of its parent than its spawn
  pub last_spawns_none : (j i : ℕ) → j < length p → suc i ≡ size p j → (action p j i).spawn ≡ 0
  last_spawns_none j i h e = go (action p j i).spawn refl
    where
      child : (c : ℕ) → (action p j i).spawn ≡ suc c → (x : ℕ) → (action p c (size p c - 1)).join ≡ x → ⊥
      child c q zero z =
          let (o, b, m, a) = spawned_once_lem p ok j i c h (omega arith) q in
          omega (arith, last_sends_lem p ok c o b)
      child c q (suc t) z =
          let (o, b, m, a) = spawned_once_lem p ok j i c h (omega arith) q in
          omega (arith, join_target p ok c (size p c - 1) t b (omega (arith, size_range p ok c b)) z, ap (size p) m)

      go : (x : ℕ) → (action p j i).spawn ≡ x → x ≡ 0
      go zero q = refl
      go (suc c) q = absurd (child c q (action p c (size p c - 1)).join refl)

-- job j, which can, does its next action
module _ {p : Plan} (ok : Accepted p) (next : List ℕ) {j : ℕ}
    (act : Act (shape p) (λ k. get_or next k 0) (λ k. get_or (set next j (suc (get_or next j 0))) k 0) j) where
  abbrev now : ℕ → ℕ
  now k = get_or next k 0

  -- the counts after it
  abbrev done : List ℕ
  done = set next j (suc (now j))

  known : (j < length p) × (now j < size p j) × (1 ≤ j → spawn_at p j < now (parent p j))
  known = (act.lives.below, act.lives.left, act.lives.begun)

  after : ℕ → ℕ
  after k = get_or done k 0

  here : after j ≡ suc (now j)
  unfolding after
  here = act.acts

  other : (k : ℕ) → k ≢ j → after k ≡ now k
  unfolding after
  other = act.others

  more : (k : ℕ) → now k ≤ after k
  more k = by_cases (ℕ_discrete k j) (λ e. rw e (omega (arith, here))) (λ f. omega (arith, other k f))

  -- a job that this action neither spawns nor ends lives as before
  lives_on : (k : ℕ) → (k ≡ j → suc (now j) ≢ size p j) → Living (shape p) now k → Living (shape p) after k
  lives_on k goes a = record {
    below = a.below;
    begun = λ o. omega (arith, a.begun o, more (parent p k));
    left = by_cases (ℕ_discrete k j) (λ e. rw e (omega (arith, here, known, goes e))) (λ f. omega (arith, other k f, a.left));
  }

  lived : (k : ℕ) → (action p j (now j)).spawn ≢ suc k → Living (shape p) after k → Living (shape p) now k
  lived k none a = record {
    below = a.below;
    begun = λ o. by_cases (ℕ_discrete (parent p k) j) (λ e.
        let f : spawn_at p k ≢ now j = λ q. none (rw (← q, ← e) (spawned_there p ok k o a.below).1) in
        omega (arith, a.begun o, ap after e, ap now e, here)) (λ f. omega (arith, a.begun o, other (parent p k) f));
    left = omega (arith, a.left, more k);
  }

  -- what a job weighs before and after
  weighs : ℕ → ℕ
  weighs k = only (living? (shape p) now k) (job p k).frame

  weighs' : ℕ → ℕ
  weighs' k = only (living? (shape p) after k) (job p k).frame

  same : (k : ℕ) → (action p j (now j)).spawn ≢ suc k → (k ≡ j → suc (now j) ≢ size p j) → weighs' k ≡ weighs k
  unfolding weighs weighs'
  same k none goes =
      only_same (living? (shape p) after k) (living? (shape p) now k) (job p k).frame (lived k none) (lives_on k goes)

  weighed : weight p next ≡ sum (length p) weighs
  unfolding weighs held
  weighed = weight_held p next

  weighed' : weight p done ≡ sum (length p) weighs'
  unfolding weighs' after held
  weighed' = weight_held p done

  pub weight_spawn : (c : ℕ) → (action p j (now j)).spawn ≡ suc c → weight p done ≡ weight p next + (job p c).frame
  unfolding weighs weighs'
  weight_spawn c e =
      let (o, b, m, a) = spawned_once_lem p ok j (now j) c known.0 known.1 e in
      let last : suc (now j) ≢ size p j = λ q. omega (arith, last_spawns_none p ok j (now j) known.0 q) in
      let none : weighs c ≡ 0 = only_no (living? (shape p) now c) (job p c).frame
      (λ l. omega (arith, l.begun o, ap now m)) in
      let fresh : ¬ (0 < now c) = λ l. omega (arith, act.closed.started c o b l, ap now m) in
      let f : c ≢ j = λ q. omega (arith, older p ok c o b) in
      let born : weighs' c ≡ (job p c).frame = only_yes (living? (shape p) after c) (job p c).frame (record {
        below = b;
        begun = λ x. omega (arith, here, ap after m);
        left = omega (arith, other c f, size_range p ok c b);
      }) in
      omega (arith, weighed, weighed', sum_change (length p) weighs weighs' c b (λ k h d. same k (λ q. d (omega arith)) (λ x. last)))

  pub weight_end : suc (now j) ≡ size p j → weight p next ≡ weight p done + (job p j).frame
  unfolding weighs weighs'
  weight_end e =
      let z = last_spawns_none p ok j (now j) known.0 e in
      let held : weighs j ≡ (job p j).frame = only_yes (living? (shape p) now j) (job p j).frame
      (record { below = known.0; begun = known.2; left = known.1 }) in
      let ended : weighs' j ≡ 0 = only_no (living? (shape p) after j) (job p j).frame (λ l. omega (arith, l.left, here)) in
      let change = sum_change (length p) weighs weighs' j known.0 (λ k h d. same k (λ q. omega arith) (λ x. absurd (d x))) in
      omega (arith, weighed, weighed')

  pub weight_same : (action p j (now j)).spawn ≡ 0 → suc (now j) ≢ size p j → weight p done ≡ weight p next
  weight_same e f = weighed' ∙ sum_same (length p) weighs' weighs (λ k h. same k (λ q. omega arith) (λ x. f)) ∙ sym weighed
