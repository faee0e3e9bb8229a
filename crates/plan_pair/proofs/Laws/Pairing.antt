-- Two plans below one root: what every law of this crate speaks of. A law is said of the one plan and holds of the other by
-- `swapped`.
--   Part d s p r           == the plan p stands in the plan r from job d on, and the action at position s of r's root spawns its root
--   part_size, .., root_last == what stands there, by job and position
--   Whose d e p q j        == whose job j is: the new root, or a job of p or of q, which stand from jobs d and e on
--   Pairing d e s u p q r  == the plan r is a root of five actions of cost 1 with p and q below it
--   paired_length, paired_total, paired_placed == the pair's counts, and its actions in plan order
--   paired_pairing         == it is such a plan
use Prim.Native.Nat.{ℕ, zero, suc, ◌+◌, ◌-◌, ◌≤◌, ◌<◌}
use mathlib.Core.Path.{◌≡◌, refl, ap, sym, ◌∙◌}
use mathlib.Core.Logic.{◌≢◌}
use mathlib.Core.Bool.{Bool}
use mathlib.Core.List.{◌++◌}
use native.Mathlib.Omega.{arith}
use native.Mathlib.Decide.{dec_lt}
use lib.ListN.{length, get_or, length-append, get_or-append}
use lib.Seq.{get_or-append-add}
use Rattle.plan.specs.Test.{count}
use Rattle.plan.specs.Plan.{Plan, Placed, job, size, action, total, placed, placed_in, placed_from, no_action, no_job}
use Rattle.plan.proofs.Laws.Counts.{count_append}
use Rattle.plan.proofs.Laws.Placed.{placed_from_append, total_append}
use Rattle.plan_pair.specs.Pair.{under, new_root, paired}
use Rattle.plan_pair.proofs.Laws.Under.{under_length, under_size, under_frame, under_cost, under_none, under_child, under_join, under_last, under_total}

pub record Part (d s : ℕ) (p r : Plan) : Type 0 where
  pub some : 1 ≤ d
  pub room : d + length p ≤ length r
  pub jobs : (k : ℕ) → k < length p → job r (d + k) ≡ job (under d p) k
  pub born : (action r 0 s).spawn ≡ suc d
  pub soon : s < 3

module _ {d s : ℕ} {p r : Plan} (t : Part d s p r) (k : ℕ) (h : k < length p) where
  pub part_size : size r (d + k) ≡ size p k
  part_size = ap (λ b. length b.actions) (t.jobs k h) ∙ under_size d p k

  pub part_frame : (job r (d + k)).frame ≡ (job p k).frame
  part_frame = ap (λ b. b.frame) (t.jobs k h) ∙ under_frame d p k

  module _ (i : ℕ) where
    pub part_action : action r (d + k) i ≡ action (under d p) k i
    part_action = ap (λ b. get_or b.actions i no_action) (t.jobs k h)

    pub part_cost : (action r (d + k) i).cost ≡ (action p k i).cost
    part_cost = ap (λ a. a.cost) part_action ∙ under_cost d p k i

    pub part_none : (action p k i).spawn ≡ 0 → (action r (d + k) i).spawn ≡ 0
    part_none e = ap (λ a. a.spawn) part_action ∙ under_none d p k i e

    pub part_child : (c : ℕ) → (action p k i).spawn ≡ suc c → (action r (d + k) i).spawn ≡ suc (d + c)
    part_child c e = ap (λ a. a.spawn) part_action ∙ under_child d p k i c e

    pub part_join : 1 ≤ k → (action r (d + k) i).join ≡ (action p k i).join
    part_join l = ap (λ a. a.join) part_action ∙ under_join d p k i l

module _ {d s : ℕ} {p r : Plan} (t : Part d s p r) (h : 0 < length p) (i : ℕ) where
  pub root_last : suc i ≡ size p 0 → (action r (d + 0) i).join ≡ 5
  root_last e = ap (λ a. a.join) (part_action t 0 h i) ∙ under_last d p i e

pub data Whose (d e : ℕ) (p q : Plan) (j : ℕ) : Type 0 where
  top : j ≡ 0 → Whose d e p q j
  mine : (k : ℕ) → k < length p → j ≡ d + k → Whose d e p q j
  theirs : (k : ℕ) → k < length q → j ≡ e + k → Whose d e p q j

pub record Pairing (d e s u : ℕ) (p q r : Plan) : Type 0 where
  pub one : Part d s p r
  pub two : Part e u q r
  pub apart : (j k : ℕ) → j < length p → k < length q → d + j ≢ e + k
  pub whose : (j : ℕ) → j < length r → Whose d e p q j
  pub five : size r 0 ≡ 5
  pub spawns_none : (i : ℕ) → i ≢ s → i ≢ u → (action r 0 i).spawn ≡ 0
  pub sends_none : (i : ℕ) → (action r 0 i).join ≡ 0
  pub costs_one : (i : ℕ) → i < 5 → (action r 0 i).cost ≡ 1
  pub counts : (f : Placed → Bool) → count f (placed r)
      ≡ count f (placed_in 0 0 (job r 0).actions) + count f (placed_from d (under d p)) + count f (placed_from e (under e q))

pub swapped : {d e s u : ℕ} {p q r : Plan} → Pairing d e s u p q r → Pairing e d u s q p r
swapped {d} {e} {s} {u} {p} {q} {r} t = record {
  one = t.two;
  two = t.one;
  apart = λ j k h b x. t.apart k j b h (sym x);
  whose = λ j h. other j (t.whose j h);
  five = t.five;
  spawns_none = λ i f g. t.spawns_none i g f;
  sends_none = t.sends_none;
  costs_one = t.costs_one;
  counts = λ f. omega (arith, t.counts f);
}
  where
    other : (j : ℕ) → Whose d e p q j → Whose e d q p j
    other j (top x) = top x
    other j (mine k h x) = theirs k h x
    other j (theirs k h x) = mine k h x

module _ (frame : ℕ) (p q : Plan) where
  pub paired_length : length (paired frame p q) ≡ 1 + length p + length q
  unfolding paired
  paired_length = omega (arith, length-append (under 1 p) (under (1 + length p) q), under_length 1 p, under_length (1 + length p) q)

  pub paired_total : total (paired frame p q) ≡ 5 + total p + total q
  unfolding paired
  paired_total = omega (arith, total_append (under 1 p) (under (1 + length p) q), under_total 1 p, under_total (1 + length p) q)

  first_there : (k : ℕ) → k < length p → job (paired frame p q) (1 + k) ≡ job (under 1 p) k
  unfolding paired
  first_there k h =
      let e : 1 + k ≡ suc k = omega arith in
      rw e (get_or-append (under 1 p) (under (1 + length p) q) no_job k (omega (arith, under_length 1 p)))

  second_there : (k : ℕ) → k < length q → job (paired frame p q) (1 + length p + k) ≡ job (under (1 + length p) q) k
  unfolding paired
  second_there k h =
      let e : 1 + length p + k ≡ suc (length (under 1 p) + k) = omega (arith, under_length 1 p) in
      rw e (get_or-append-add (under 1 p) (under (1 + length p) q) k no_job)

  whose_is : (j : ℕ) → j < length (paired frame p q) → Whose 1 (1 + length p) p q j
  whose_is zero h = top refl
  whose_is (suc j) h = go (dec_lt j (length p))
    where
      go : Dec (j < length p) → Whose 1 (1 + length p) p q (suc j)
      go (yes l) = mine j l (omega arith)
      go (no n) = theirs (j - length p) (omega (arith, paired_length)) (omega arith)

  nothing_else : (i : ℕ) → i ≢ 0 → i ≢ 2 → (action (paired frame p q) 0 i).spawn ≡ 0
  unfolding paired
  nothing_else zero f g = absurd (f refl)
  nothing_else (suc zero) f g = refl
  nothing_else (suc (suc zero)) f g = absurd (g refl)
  nothing_else (suc (suc (suc zero))) f g = refl
  nothing_else (suc (suc (suc (suc zero)))) f g = refl
  nothing_else (suc (suc (suc (suc (suc i))))) f g = refl

  no_join : (i : ℕ) → (action (paired frame p q) 0 i).join ≡ 0
  unfolding paired
  no_join zero = refl
  no_join (suc zero) = refl
  no_join (suc (suc zero)) = refl
  no_join (suc (suc (suc zero))) = refl
  no_join (suc (suc (suc (suc zero)))) = refl
  no_join (suc (suc (suc (suc (suc i))))) = refl

  cost_one : (i : ℕ) → i < 5 → (action (paired frame p q) 0 i).cost ≡ 1
  unfolding paired
  cost_one zero h = refl
  cost_one (suc zero) h = refl
  cost_one (suc (suc zero)) h = refl
  cost_one (suc (suc (suc zero))) h = refl
  cost_one (suc (suc (suc (suc zero)))) h = refl
  cost_one (suc (suc (suc (suc (suc i))))) h = absurd (omega arith)

  pub paired_placed : placed (paired frame p q)
      ≡ placed_in 0 0 (new_root frame (length p)).actions ++ (placed_from 1 (under 1 p) ++ placed_from (1 + length p) (under (1 + length p) q))
  unfolding paired
  paired_placed =
      let e : 1 + length (under 1 p) ≡ 1 + length p = omega (arith, under_length 1 p) in
      ap (λ l. placed_in 0 0 (new_root frame (length p)).actions ++ l)
      (placed_from_append 1 (under 1 p) (under (1 + length p) q) ∙ rw e)

  pub paired_pairing : Pairing 1 (1 + length p) 0 2 p q (paired frame p q)
  unfolding paired
  paired_pairing = record {
    one = record { some = omega arith; room = omega (arith, paired_length); jobs = first_there; born = refl; soon = omega arith };
    two = record { some = omega arith; room = omega (arith, paired_length); jobs = second_there; born = refl; soon = omega arith };
    apart = λ j k h b x. omega arith;
    whose = whose_is;
    five = refl;
    spawns_none = nothing_else;
    sends_none = no_join;
    costs_one = cost_one;
    counts = λ f.
        ap (count f) paired_placed
        ∙ omega (
          arith,
          count_append f (placed_in 0 0 (new_root frame (length p)).actions) (placed_from 1 (under 1 p) ++ placed_from (1 + length p) (under (1 + length p) q)),
          count_append f (placed_from 1 (under 1 p)) (placed_from (1 + length p) (under (1 + length p) q)),
        );
  }
