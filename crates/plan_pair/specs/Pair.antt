-- Two families in one build (document 02, L9).
--   raised_child d n  == the number plus 1, or 0 for none, of a child whose number rises by d
--   raised d a       == the action a, its child's number raised by d
--   raised_job d b    == the job b, its actions so raised
--   joining l        == the row of actions l, the last of which sends a join to position 4
--   under d p        == the jobs of the plan p below the new root, their numbers plus d
--   plain_action n    == an action of cost 1 that sends no join; n is the number plus 1 of the job that it spawns, or 0
--   new_root frame m  == the new root, where the first plan has m jobs
--   paired frame p q == the plans p and q under the new root
--   pair_form a b     == the form of the result of two plans of the forms a and b
--   in_limits frame jobs actions == the frame is in its range, and so many jobs and actions pass no limit
--   pair_fits frame r == 17 does not apply to the result r
--   pair_of frame a b == what comes of reading the two plans, a and b: the result with its form, or the refusal
--   written_out o buffer       == the bytes of the plan o, in its form, or its refusal
--   pair_into frame s t buffer == what the entry answers and leaves in the lent buffer
--   Together frame p q r      == what is proved of the result r
--   Result frame s t written  == the bytes `written` hold the result of the plans that s and t hold, of which that is so
--   Paired frame s t r bytes  == so it is with the first of those bytes, as many as the answer r tells
use Rattle.std.specs.Prelude.{ℕ, zero, suc, ◌+◌, max, ◌≡◌, Bool, true, false, List, [], ◌∷◌, ◌++◌, map, length, take, eqb, leb, Ok}
use Rattle.std.specs.Prelude.{Result as Returned}
use Rattle.plan.specs.Test.{both}
use Rattle.plan.specs.Refusal.{Outcome, refused, accepted}
use Rattle.plan.specs.Plan.{Action, Job, Plan, total}
use Rattle.plan.specs.Reader.{Read, read_plan}
use Rattle.plan.specs.declared.refusal.Refusal.{Refusal}
use Rattle.plan_writer.specs.Written.{Written, encoded}
use Rattle.plan_measure.specs.Measure.{work, longest, heaviest}

abbrev pub raised_child : ℕ → ℕ → ℕ
raised_child d zero = 0
raised_child d (suc c) = suc (d + c)

abbrev pub raised : ℕ → Action → Action
raised d a = record { spawn = raised_child d a.spawn; join = a.join; cost = a.cost }

abbrev pub raised_job : ℕ → Job → Job
raised_job d b = record { frame = b.frame; actions = map (raised d) b.actions }

-- "the last action of each old root now sends a join to position 4"
abbrev pub joining : List Action → List Action
joining [] = []
joining (a ∷ []) = record { spawn = a.spawn; join = suc 4; cost = a.cost } ∷ []
joining (a ∷ (b ∷ l)) = a ∷ joining (b ∷ l)

abbrev pub under : ℕ → Plan → Plan
under d [] = []
under d (b ∷ bs) = record { frame = b.frame; actions = joining (map (raised d) b.actions) } ∷ map (raised_job d) bs

abbrev pub plain_action : ℕ → Action
plain_action n = record { spawn = n; join = 0; cost = 1 }

-- "A new root with a given frame W has five actions of cost 1, spawns the first plan's root at 0 and the second's at 2, and waits for
-- both at 4"
abbrev pub new_root : ℕ → ℕ → Job
new_root frame m =
    record { frame = frame; actions = plain_action (suc 1) ∷ plain_action 0 ∷ plain_action (suc (1 + m)) ∷ plain_action 0 ∷ plain_action 0 ∷ [] }

-- "Numbers of the first plan rise by 1, of the second by 1 plus the first's job count."
unfoldable pub paired : ℕ → Plan → Plan → Plan
paired frame p q = new_root frame (length p) ∷ (under 1 p ++ under (1 + length p) q)

-- "Two form 1 plans give form 1, otherwise form 2."
unfoldable pub pair_form : ℕ → ℕ → ℕ
pair_form a b = elim (both (eqb a 1) (eqb b 1)) [ true ↦ 1 | false ↦ 2 ]

-- "17: W is outside 1 to 65,535, or the result passes a limit of jobs or actions"
unfoldable pub in_limits : (frame jobs actions : ℕ) → Bool
in_limits frame jobs actions = both (both (leb 1 frame) (leb frame 65535)) (both (leb jobs 256) (leb actions 2048))

unfoldable pub pair_fits : ℕ → Plan → Bool
unfolding in_limits
pair_fits frame r = in_limits frame (length r) (total r)

-- "after both plans are read, the first plan's number going before the second's, and before 9"
unfoldable pub pair_of : ℕ → Outcome Read → Outcome Read → Outcome Read
unfolding paired pair_form pair_fits
pair_of frame (refused k) b = refused k
pair_of frame (accepted a) (refused k) = refused k
pair_of frame (accepted a) (accepted b) =
    elim (pair_fits frame (paired frame a.plan b.plan)) [
      | false ↦ refused 17
      | true ↦ accepted (record { form = pair_form a.form b.form; plan = paired frame a.plan b.plan })
    ]

unfoldable pub written_out : Outcome Read → List ℕ → Written
unfolding encoded
written_out (refused k) buffer = record { answer = refused k; buffer = buffer }
written_out (accepted r) buffer = encoded r.form (accepted r.plan) buffer

unfoldable pub pair_into : ℕ → List ℕ → List ℕ → List ℕ → Written
unfolding pair_of read_plan written_out
pair_into frame s t buffer = written_out (pair_of frame (read_plan s) (read_plan t)) buffer

-- "Prove that the result .. has T1 = the two sums + 5, S1 = W + the greater S1, and T∞ = the greater of the first's + 2 and the
-- second's + 4."
pub record Together (frame : ℕ) (p q r : Plan) : Type 0 where
  pub sum : work r ≡ work p + work q + 5
  pub space : heaviest r ≡ frame + max (heaviest p) (heaviest q)
  pub chain : longest r ≡ max (longest p + 2) (longest q + 4)

-- "Prove that the result is accepted"
pub record Result (frame : ℕ) (s t written : List ℕ) : Type 0 where
  pub first : Read
  pub second : Read
  pub first_read : read_plan s ≡ accepted first
  pub second_read : read_plan t ≡ accepted second
  pub accepted_too : read_plan written
      ≡ accepted (record { form = pair_form first.form second.form; plan = paired frame first.plan second.plan })
  pub together : Together frame first.plan second.plan (paired frame first.plan second.plan)

abbrev pub Paired : ℕ → List ℕ → List ℕ → Returned ℕ Refusal → List ℕ → Type 0
Paired frame s t r bytes = (n : ℕ) → r ≡ Ok n → Result frame s t (take n bytes)
