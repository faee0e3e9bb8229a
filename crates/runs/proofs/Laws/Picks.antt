-- Whom a victim serves. What a service keeps it keeps for any pick; the rule by which a run picks is opened in Least, and cited in
-- Served, which says when a request is due, in Plain and in the law below.
--   pick_of_picks == the pick of a run is one of those that wait on the victim
use Prim.Native.Nat.{ℕ}
use mathlib.Core.List.{List}
use Rattle.runs.specs.declared.worker.Worker.{Worker}
use Rattle.runs.specs.Setting.{Setting, count_in}
use Rattle.runs.specs.Parts.{Picks, pick_of}
use Rattle.runs.proofs.Laws.Fit.{Fit, count_most}
use Rattle.runs.proofs.Laws.Least.{oldest_waits}

pub pick_of_picks : {S : Setting} → Fit S → (r v : ℕ) (ws : List Worker) → Picks v (count_in S r) ws (pick_of S r v ws)
pick_of_picks {S} fit r v ws w = oldest_waits v (count_in S r) ws (count_most fit r)
