-- Writing plan bytes (document 01, "Plan"; document 02, L5).
--   number_bits v     == the bits of a number plus 1, or 0: a bit, and if it is 1 the number in 8
--   cost_bits form c  == the bits of a cost: none in form 1, and 4 in form 2
--   plan_bits form p  == all bits of a plan in that form; its fields in order, each most significant first
--   plan_bytes form p == the plan's bytes in that form: "Zero bits fill the last byte; nothing follows"
use Rattle.std.specs.Prelude.{ℕ, zero, suc, ◌+◌, ◌/◌, true, false, List, [], ◌∷◌, ◌++◌, length, eqb}
use Rattle.plan.specs.Plan.{Action, Job, Plan}
use Rattle.fields.specs.Field.{bits_of, pack}

abbrev pub number_bits : ℕ → List ℕ
number_bits zero = 0 ∷ []
number_bits (suc v) = 1 ∷ bits_of 8 v

-- "Plan form 2 has a cost of 4 bits, 1 to 15, after each action's join part."
abbrev pub cost_bits : ℕ → ℕ → List ℕ
cost_bits form c = elim (eqb form 1) [ true ↦ [] | false ↦ bits_of 4 c ]

unfoldable pub actions_bits : ℕ → List Action → List ℕ
actions_bits form [] = []
actions_bits form (a ∷ rest) = number_bits a.spawn ++ (number_bits a.join ++ (cost_bits form a.cost ++ actions_bits form rest))

unfoldable pub jobs_bits : ℕ → List Job → List ℕ
unfolding actions_bits
jobs_bits form [] = []
jobs_bits form (b ∷ bs) = bits_of 16 b.frame ++ (bits_of 8 (length b.actions) ++ (actions_bits form b.actions ++ jobs_bits form bs))

unfoldable pub plan_bits : ℕ → Plan → List ℕ
unfolding jobs_bits
plan_bits form p = bits_of 8 form ++ (bits_of 9 (length p) ++ jobs_bits form p)

unfoldable pub plan_bytes : ℕ → Plan → List ℕ
unfolding plan_bits pack
plan_bytes form p = pack ((length (plan_bits form p) + 7) / 8) (plan_bits form p)
