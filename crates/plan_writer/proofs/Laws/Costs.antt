-- The costs that may stand in a plan of a form: in form 1, which writes none, each is 1.
--   one a       == the action costs 1
--   Ones form l == in form 1 each of the actions l does
--   costs_ones, ones_costs == that is what it is for a plan's costs to fit the form
--   costs_place, costs_at, costs_by == the same by place, of each action, and the other way round
--   ones_front, ones_back, ones_first, ones_rest == of lists one behind another, and of a job's first action
use Prim.Native.Nat.{ℕ, suc, ◌+◌, ◌<◌}
use mathlib.Core.Path.{◌≡◌, ap, sym, ◌∙◌}
use mathlib.Core.Bool.{Bool, true}
use mathlib.Core.List.{List, [], ◌∷◌, ◌++◌}
use native.Mathlib.Omega.{arith}
use lib.ListN.{length, get_or}
use lib.Dec.{T, eqb, eqb→eq, eqb_refl}
use borrow.Author.Tests.{eqb-true, eq-eqb}
use Rattle.plan.specs.Test.{all}
use Rattle.plan.specs.Plan.{Action, Plan, Placed, size, action, total, no_placed, placed_in, placed}
use Rattle.plan.specs.Rules.{costs_fit}
use Rattle.plan.proofs.Laws.Lists.{both_intro, both_left, both_right, all_at, all_by}
use Rattle.plan.proofs.Laws.Placed.{start, placed_length, placed_at, place_below}
use Rattle.plan.proofs.Laws.Steps.{bool_cases}

abbrev pub one : Placed → Bool
one a = eqb a.cost 1

-- the cost 1 is one
pub cost_one : (c : ℕ) → c ≡ 1 → T (eqb c 1)
cost_one c e = rw e (eqb_refl 1)

module _ (form : ℕ) where
  abbrev pub Ones : List Placed → Type 0
  Ones l = eqb form 1 ≡ true → T (all one l)

  pub ones_front : (l r : List Placed) → Ones (l ++ r) → Ones l
  ones_front [] r f e = tt
  ones_front (a ∷ l) r f e =
      both_intro (one a) (all one l) (both_left (one a) (all one (l ++ r)) (f e)) (ones_front l r (λ e. both_right (one a) (all one (l ++ r)) (f e)) e)

  pub ones_back : (l r : List Placed) → Ones (l ++ r) → Ones r
  ones_back [] r f e = f e
  ones_back (a ∷ l) r f e = ones_back l r (λ e. both_right (one a) (all one (l ++ r)) (f e)) e

  -- the first action of a job, and the others
  pub ones_first : (j i : ℕ) (a : Action) (l : List Action) → Ones (placed_in j i (a ∷ l)) → eqb form 1 ≡ true → a.cost ≡ 1
  ones_first j i a l f e = eqb→eq a.cost 1 (both_left (eqb a.cost 1) (all one (placed_in j (suc i) l)) (f e))

  pub ones_rest : (j i : ℕ) (a : Action) (l : List Action) → Ones (placed_in j i (a ∷ l)) → Ones (placed_in j (suc i) l)
  ones_rest j i a l f e = both_right (eqb a.cost 1) (all one (placed_in j (suc i) l)) (f e)

  module _ (p : Plan) where
    pub costs_ones : T (costs_fit form p) → Ones (placed p)
    unfolding costs_fit
    costs_ones t e = rw (costs_fit, e) at t

    pub ones_costs : Ones (placed p) → T (costs_fit form p)
    unfolding costs_fit
    ones_costs f = bool_cases (eqb form 1) (λ e. rw (costs_fit, e) (f e)) (λ e. rw (costs_fit, e) tt)

    pub costs_place : T (costs_fit form p) → (k : ℕ) → k < total p → form ≡ 1 → (get_or (placed p) k no_placed).cost ≡ 1
    costs_place t k h e =
        eqb→eq (get_or (placed p) k no_placed).cost 1
        (all_at one (placed p) (costs_ones t (eq-eqb form 1 e)) no_placed k (omega (arith, placed_length p)))

    pub costs_at : T (costs_fit form p) → (j i : ℕ) → j < length p → i < size p j → form ≡ 1 → (action p j i).cost ≡ 1
    costs_at t j i h b e = sym (ap (λ a. a.cost) (placed_at p j i h b)) ∙ costs_place t (start p j + i) (place_below p j i h b) e

    pub costs_by : ((k : ℕ) → k < total p → form ≡ 1 → (get_or (placed p) k no_placed).cost ≡ 1) → T (costs_fit form p)
    costs_by f =
        ones_costs (λ e.
        all_by one (placed p) no_placed (λ k h. cost_one (get_or (placed p) k no_placed).cost (f k (omega (arith, placed_length p)) (eqb-true form 1 e))))
