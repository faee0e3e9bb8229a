-- The measures of a plan (document 01, "Plan"; document 02, L5 and L7).
--   costs l          == the costs of the actions l, added up
--   work p           == T1
--   must_follow p x y == x must follow y: y is "the one before it, its spawner (for position 0)" or a sender of a join into it
--   Chain p l        == l is a chain: "a list of one or more actions, of any jobs, in which each but the first must
--                       follow the one before it"
--   Longest p n      == n is the largest cost of a chain
--   after p n x      == the largest cost of a chain of at most n actions that ends in x
--   longest p        == T∞, the largest cost of a chain: no chain has more actions than the plan
--   path p j         == the path weight of job j: "its own frame plus its parent's path weight"
--   heaviest p       == S1, the largest path weight
--   parallel, rest p == "T1 divided by T∞ as a whole quotient and a remainder"
--   measures s       == the number of actions, T1, T∞, S1, the quotient and the remainder of the plan that the bytes s hold, or the
--                       refusal
--   Quotient a b q r == a divided by b is q, and r remains
--   Divided r        == so it is of the measures that were answered
use Rattle.std.specs.Prelude.{ℕ, zero, suc, ◌+◌, ◌*◌, ◌/◌, ◌%◌, ◌≤◌, ◌<◌, ◌≡◌, ◌⊎◌, Bool, true, false, List, [], ◌∷◌, length, T, eqb, leb, Result, Ok, Err}
use Rattle.plan_measure.specs.declared.Measures.{Measures}
use Rattle.plan.specs.declared.refusal.Refusal.{Refusal}
use Rattle.plan.specs.Refusal.{Outcome, refused, accepted, number_of}
use Rattle.plan.specs.Test.{both, either, largest, below}
use Rattle.plan.specs.Plan.{Plan, Placed, job, total, placed, parent, enters}
use Rattle.plan.specs.Reader.{Read, read_plan}

abbrev pub costs : List Placed → ℕ
costs [] = 0
costs (x ∷ l) = x.cost + costs l

-- "T1 becomes the sum of costs"
unfoldable pub work : Plan → ℕ
work p = costs (placed p)

unfoldable pub must_follow : Plan → Placed → Placed → Bool
unfolding enters
must_follow p x y =
    either (both (eqb y.job x.job) (eqb (suc y.position) x.position))
    (either (both (both (leb 1 x.job) (eqb x.position 0)) (eqb y.spawn (suc x.job)))
    (enters p x.job x.position y))

abbrev pub Member : {A : Type 0} → A → List A → Type 0
Member x [] = ⊥
Member x (y ∷ l) = (x ≡ y) ⊎ Member x l

abbrev pub Chain : Plan → List Placed → Type 0
Chain p [] = ⊥
Chain p (x ∷ []) = Member x (placed p)
Chain p (x ∷ (y ∷ l)) = Member x (placed p) × T (must_follow p y x) × Chain p (y ∷ l)

-- "T∞ the chain of largest cost"
pub record Longest (p : Plan) (n : ℕ) : Type 0 where
  pub none_longer : (l : List Placed) → Chain p l → costs l ≤ n
  pub one : (l : List Placed) × Chain p l × (costs l ≡ n)

unfoldable pub after : Plan → ℕ → Placed → ℕ
unfolding must_follow
after p zero x = 0
after p (suc n) x = x.cost + largest (λ y. elim (must_follow p x y) [ true ↦ after p n y | false ↦ 0 ]) (placed p)

unfoldable pub longest : Plan → ℕ
unfolding after
longest p = largest (after p (total p)) (placed p)

-- over at most n jobs, from job j up to the root
unfoldable pub path_over : Plan → ℕ → ℕ → ℕ
unfolding parent
path_over p zero j = 0
path_over p (suc n) j = (job p j).frame + elim (eqb j 0) [ true ↦ 0 | false ↦ path_over p n (parent p j) ]

unfoldable pub path : Plan → ℕ → ℕ
unfolding path_over
path p j = path_over p (length p) j

unfoldable pub heaviest : Plan → ℕ
unfolding path
heaviest p = largest (path p) (below (length p))

unfoldable pub parallel : Plan → ℕ
unfolding work longest
parallel p = work p / longest p

unfoldable pub rest : Plan → ℕ
unfolding work longest
rest p = work p % longest p

unfoldable pub measures_of : Plan → Measures
unfolding work longest heaviest parallel rest
measures_of p =
    record { total = total p; work = work p; longest = longest p; path = heaviest p; parallel = parallel p; rest = rest p }

unfoldable pub measured : Outcome Read → Outcome Measures
unfolding measures_of
measured (refused n) = refused n
measured (accepted r) = accepted (measures_of r.plan)

unfoldable pub measures : List ℕ → Outcome Measures
unfolding measured read_plan
measures s = measured (read_plan s)

-- the outcome that an answer stands for
abbrev pub told : Result Measures Refusal → Outcome Measures
told (Err cause) = refused (number_of cause)
told (Ok m) = accepted m

pub record Quotient (work longest parallel rest : ℕ) : Type 0 where
  -- "so that quotient × T∞ + remainder = T1 and the remainder is below T∞"
  pub whole : parallel * longest + rest ≡ work
  pub rest_below : rest < longest
  -- "T∞ is never 0"
  pub some : 1 ≤ longest

abbrev pub Divided : Result Measures Refusal → Type 0
Divided r = (m : Measures) → r ≡ Ok m → Quotient m.work m.longest m.parallel m.rest
