-- The account of a run: what each event makes of it. Functions that are no entries cite this file.
--   is_idle x            == the worker x is idle: it neither holds a job nor waits for one
--   opened n weight     == the account as a run of n workers begins, where job 0's frame weighs so much
--   rested a r turns    == the account a after so many idle turns of round r, one of whose turns has been taken
--   Turnable, TurnNoted == worker w is about to be noted after its turn in round r, and `gap` idle turns before it; a' has noted it
--   Layable, LayNoted   == the same of a request of worker w at victim v
--   Servable, ServiceNoted == the same of a service of victim v, which gave worker w what was taken and has so many requests left
--   Serving a v lines q == .. of the oldest request of the line q at victim v
use Rattle.std.specs.Prelude.{ℕ, ◌-◌, ◌^◌, ◌≤◌, ◌<◌, ◌≡◌, Result, Bool, true, false, List, ltb, get_or}
use Rattle.crew.specs.Crew.{member, Marked}
use Rattle.crew.specs.declared.line.Lines.{Lines}
use Rattle.crew.specs.Line.{Leaving}
use Rattle.runs.specs.declared.miss.Miss.{Miss}
use Rattle.runs.specs.declared.worker.Worker.{Worker}
use Rattle.runs.specs.declared.worker.Worker.TheVariants.{Idle, Holding, Waiting}
use Rattle.runs.specs.State.{holds}
use Rattle.runs.specs.Tally.{no_counts, with_action, with_request, with_service}
use Rattle.runs.specs.Steal.{thief}
use Rattle.turns.specs.Count.{Countable, Restable, with_idles}
use Rattle.rounds.specs.declared.account.Account.{Account}

abbrev pub is_idle : Worker → Bool
is_idle Idle = true
is_idle (Holding j) = false
is_idle (Waiting v l) = false

abbrev pub opened : ℕ → ℕ → Account
opened n weight = record { weight = weight; holders = 1; idlers = 2 ^ n - 2; victims = 0; tally = no_counts weight }

abbrev pub rested : Account → ℕ → ℕ → Account
rested a r turns = record {
  weight = a.weight;
  holders = a.holders;
  idlers = a.idlers;
  victims = a.victims;
  tally = with_idles a.tally r turns;
}

pub record Turnable (a : Account) (r w gap : ℕ) : Type 0 where
  pub known : w < 16
  pub early : r < 4294967296
  pub small : gap ≤ 16
  pub countable : Countable a.tally
  pub restable : Restable a.tally gap
  pub held : member a.holders w ≡ true
  pub busy : member a.idlers w ≡ false

pub record TurnNoted (a : Account) (r w gap : ℕ) (x : Worker) (weighs : ℕ) (a' : Account) : Type 0 where
  pub weighed : a'.weight ≡ weighs
  pub counts : a'.tally ≡ with_idles (with_action a.tally r weighs) r gap
  pub holders : Marked w (holds x) a.holders a'.holders
  pub idlers : Marked w (is_idle x) a.idlers a'.idlers
  pub victims : a'.victims ≡ a.victims

pub record Layable (a : Account) (w v : ℕ) : Type 0 where
  pub known : w < 16
  pub there : v < 16
  pub countable : Countable a.tally

pub record LayNoted (a : Account) (w v : ℕ) (a' : Account) : Type 0 where
  pub weighed : a'.weight ≡ a.weight
  pub counts : a'.tally ≡ with_request a.tally
  pub holders : a'.holders ≡ a.holders
  pub idlers : Marked w false a.idlers a'.idlers
  pub victims : Marked v true a.victims a'.victims

pub record Servable (a : Account) (v w : ℕ) : Type 0 where
  pub known : w < 16
  pub there : v < 16
  pub countable : Countable a.tally
  pub waits : (member a.holders w ≡ false) × (member a.idlers w ≡ false)
  pub victims : member a.victims v ≡ true

pub record Serving (a : Account) (v : ℕ) (lines : Lines) (q : List ℕ) : Type 0 where
  pub leaving : Leaving v 0 lines q
  pub servable : Servable a v (get_or q 0 0)

pub record ServiceNoted (a : Account) (v left w : ℕ) (x : Result ℕ Miss) (a' : Account) : Type 0 where
  pub weighed : a'.weight ≡ a.weight
  pub counts : a'.tally ≡ with_service a.tally x
  pub holders : Marked w (holds (thief x)) a.holders a'.holders
  pub idlers : Marked w (is_idle (thief x)) a.idlers a'.idlers
  pub victims : Marked v (ltb 0 left) a.victims a'.victims
