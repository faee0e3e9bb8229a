-- What the updates of the tally ask. Functions that are no entries cite this file.
--   Countable t         == each count that an event moves by 1 has a next one in 32 bits
--   Restable t turns    == so many idle turns more can be counted in 32 bits
--   recounted t r idle  == the tally t with other counts of rounds and idle turns
--   with_idles t r turns == the tally t after so many idle turns of round r, one of whose turns has been taken
use Rattle.std.specs.Prelude.{ℕ, ◌+◌, ◌<◌}
use Rattle.runs.specs.declared.tally.Tally.{Tally}

pub record Countable (t : Tally) : Type 0 where
  pub actions : t.actions < 4294967295
  pub requests : t.requests < 4294967295
  pub steals : t.steals < 4294967295
  pub bare : t.bare < 4294967295
  pub idle_victim : t.idle_victim < 4294967295

abbrev pub Restable : Tally → ℕ → Type 0
Restable t turns = t.idle + turns < 4294967296

abbrev pub recounted : Tally → ℕ → ℕ → Tally
recounted t r idle = record {
  rounds = r;
  actions = t.actions;
  idle = idle;
  requests = t.requests;
  steals = t.steals;
  bare = t.bare;
  idle_victim = t.idle_victim;
  peak = t.peak;
}

abbrev pub with_idles : Tally → ℕ → ℕ → Tally
with_idles t r turns = recounted t r (t.idle + turns)
