-- What the run of a plan that was read is given, and what it leaves. Functions that are no entries cite this file; an
-- entry's promise speaks of the plan's bytes.
--   RunsIn plan entering p == what it is given: what all rounds are (`rounds` S/Rounds), and a form that the plan can have
--   Answered form n choices before r after p == the answer r and the schedule `after` are those of a run of p, and the claim of
--                                     demand 3 holds of them
use Rattle.std.specs.Prelude.{ℕ, ◌<◌, ◌≡◌, List, T, Result as Returned, Ok}
use Rattle.plan.specs.declared.sheet.Sheet.{Sheet}
use Rattle.plan.specs.declared.refusal.Refusal.{Refusal}
use Rattle.plan.specs.Refusal.{accepted}
use Rattle.plan.specs.Plan.{Plan}
use Rattle.runs.specs.declared.tally.Tally.{Tally}
use Rattle.runs.specs.Setting.{setting}
use Rattle.runs.specs.Run.{admitted}
use Rattle.runs.specs.Claim.{Bounded}
use Rattle.plan.specs.Rules.{costs_fit}
use Rattle.rounds.specs.Rounds.{RunIn}
use Rattle.scheduler.specs.Entry.{Result, resulted, made, ran_of}

pub record RunsIn (plan : Sheet) (entering : List ℕ) (p : Plan) : Type 0 where
  pub runs : RunIn plan entering p
  pub byte : plan.form < 256
  pub costs : T (costs_fit plan.form p)

abbrev pub Answered : ℕ → ℕ → List ℕ → List ℕ → Returned Tally Refusal → List ℕ → Plan → Type 0
Answered form n choices before r after p =
    (◌≡◌ {A = Result} (record { answer = ran_of r; schedule = after })
    (resulted form (made (admitted (accepted (record { form = form; plan = p })) n choices)) n before))
    × ((t : Tally) → r ≡ Ok t → Bounded (setting p n choices) form after t)
