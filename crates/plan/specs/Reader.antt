-- Reading plan bytes (document 01, "Plan" and "Turned down"; document 02, L5).
-- "Order for plan bytes: 1, 2 and 3 field by field as read (the sum at each action count), then 6, 4, 5."
--   number_at s at      == a bit, and if it is 1 a number of 8 bits: that number plus 1, or 0
--   cost_in form s at   == the cost of an action: in form 1 none is written, and it is 1; "Plan form 2 has a cost of 4 bits, 1 to 15"
--   action_at form s at == "a spawn bit, child number 8 if it is 1, a join bit, target position 8 if it is 1", and the cost "after each
--                         action's join part"
--   actions_at form s n at == n actions
--   jobs_at form s n k at  == n jobs, where k actions were read before: "frame 16, action count 8, and per action .."
--   Read               == what plan bytes hold: a form and a plan
--   is_form form        == the form is one that is read
--   plan_at s           == "form 8 bits ..; jobs 9; then per job ..", up to its last action
--   fills s at         == "Zero bits fill the last byte; nothing follows"
--   read_plan s         == what the bytes s hold, or the refusal
use Rattle.std.specs.Prelude.{ℕ, zero, suc, ◌+◌, ◌*◌, Bool, true, false, List, [], ◌∷◌, length, drop, eqb, ltb}
use Rattle.plan.specs.Refusal.{Outcome, refused, accepted}
use Rattle.plan.specs.Test.{both, either}
use Rattle.plan.specs.Plan.{Action, Job, Plan}
use Rattle.plan.specs.Rules.{spawn_rules, join_rules}
use Rattle.fields.specs.Field.{Step, stop, step, then, field_at, bits, number}

unfoldable pub number_at : List ℕ → ℕ → Step ℕ
number_at s at =
    then (field_at s 1 at) (λ there at. elim there [ zero ↦ step 0 at | suc one ↦ then (field_at s 8 at) (λ v at. step (suc v) at) ])

-- "a cost outside 1 to 15 .. is 3"; four bits hold no more than 15
unfoldable pub cost_in : ℕ → List ℕ → ℕ → Step ℕ
cost_in form s at =
    elim (eqb form 1) [
      | true ↦ step 1 at
      | false ↦ then (field_at s 4 at) (λ cost at. elim (eqb cost 0) [ true ↦ stop 3 | false ↦ step cost at ])
    ]

unfoldable pub action_at : ℕ → List ℕ → ℕ → Step Action
unfolding number_at cost_in
action_at form s at =
    then (number_at s at) (λ spawn at.
    then (number_at s at) (λ join at.
    then (cost_in form s at) (λ cost at. step (record { spawn = spawn; join = join; cost = cost }) at)))

unfoldable pub actions_at : ℕ → List ℕ → ℕ → ℕ → Step (List Action)
unfolding action_at
actions_at form s zero at = step [] at
actions_at form s (suc n) at = then (action_at form s at) (λ a at. then (actions_at form s n at) (λ rest at. step (a ∷ rest) at))

unfoldable pub jobs_at : ℕ → List ℕ → ℕ → ℕ → ℕ → Step (List Job)
unfolding actions_at field_at
jobs_at form s zero k at = step [] at
jobs_at form s (suc n) k at =
    then (field_at s 16 at) (λ frame at.
    elim (eqb frame 0) [
      | true ↦ stop 3
      | false ↦ then (field_at s 8 at) (λ size at.
          elim (either (eqb size 0) (ltb 2048 (k + size))) [
            | true ↦ stop 3
            | false ↦ then (actions_at form s size at) (λ actions at.
                then (jobs_at form s n (k + size) at) (λ bs at. step (record { frame = frame; actions = actions } ∷ bs) at))
          ])
    ])

pub record Read : Type 0 where
  pub form : ℕ
  pub plan : Plan

-- "forms 1 and 2 pass 2"
abbrev pub is_form : ℕ → Bool
is_form form = either (eqb form 1) (eqb form 2)

unfoldable pub plan_at : List ℕ → Step Read
unfolding jobs_at field_at
plan_at s =
    then (field_at s 8 0) (λ form at.
    elim (is_form form) [
      | false ↦ stop 2
      | true ↦ then (field_at s 9 at) (λ jobs at.
          elim (either (eqb jobs 0) (ltb 256 jobs)) [
            | true ↦ stop 3
            | false ↦ then (jobs_at form s jobs 0 at) (λ p at. step (record { form = form; plan = p }) at)
          ])
    ])

unfoldable pub fills : List ℕ → ℕ → Bool
unfolding bits
fills s at = both (ltb (8 * length s) (at + 8)) (eqb (number (drop at (bits s))) 0)

-- 6, then 4, then 5
unfoldable pub judged : List ℕ → Step Read → Outcome Read
unfolding fills spawn_rules join_rules
judged s (stop n) = refused n
judged s (step r at) =
    elim (fills s at) [
      | false ↦ refused 6
      | true ↦ elim (spawn_rules r.plan) [ false ↦ refused 4 | true ↦ elim (join_rules r.plan) [ false ↦ refused 5 | true ↦ accepted r ] ]
    ]

unfoldable pub read_plan : List ℕ → Outcome Read
unfolding plan_at judged
read_plan s = judged s (plan_at s)
