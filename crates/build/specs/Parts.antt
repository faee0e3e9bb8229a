-- What the build of a plan that was read is given, and what it answers. Functions that are no entries cite this file; an entry's
-- promise speaks of the input's bytes.
--   BuildIn plan entering p      == the plan p that the arrays hold can be measured and run, and have their form
--   BuiltFrom form n choices r p == the answer r has the counts of a run of p, or is the refusal
use Rattle.std.specs.Prelude.{ℕ, ◌≡◌, List, Result}
use Rattle.plan.specs.declared.sheet.Sheet.{Sheet}
use Rattle.plan.specs.declared.refusal.Refusal.{Refusal}
use Rattle.plan.specs.Refusal.{accepted}
use Rattle.plan.specs.Plan.{Plan}
use Rattle.plan.specs.Reader.{Read}
use Rattle.plan.specs.Sheet.{PlanIn}
use Rattle.runs.specs.Run.{admitted}
use Rattle.scheduler.specs.RunRead.{RunsIn}
use Rattle.build.specs.declared.Counts.{Counts}
use Rattle.build.specs.Build.{counts_of, built_of}

pub record BuildIn (plan : Sheet) (entering : List ℕ) (p : Plan) : Type 0 where
  pub held : PlanIn plan p
  pub runs : RunsIn plan entering p

abbrev pub BuiltFrom : ℕ → ℕ → List ℕ → Result Counts Refusal → Plan → Type 0
BuiltFrom form n choices r p =
    let x : Read = record { form = form; plan = p } in
    built_of r ≡ counts_of (accepted x) (admitted (accepted x) n choices)
