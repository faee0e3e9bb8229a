-- What each event makes of the counts (document 01, "Worker and round"; document 02, L2). A count stands in the record `Tally` of src/, in
-- `no_counts` and in the updates below; beside them a tally is written out in `recounted` (`turns` S/Count) alone, for several idle turns
-- at once.
--   no_counts frame        == the counts as a run begins, where job 0 has that frame
--   with_action t r weight == after a turn of round r in which an action was worked on, after which the living frames weigh `weight`
--   with_idle t r          == after a turn of round r of a worker that held nothing when the round began
--   with_request t         == after a request
--   with_steal t           == after a service that gave the top job of the victim's deque
--   with_bare t            == after a service that gave none, of a victim that holds a job
--   with_idle_victim t      == after a service that gave none, of a victim that holds none
--   with_service t x       == after a service, by what was taken
use Rattle.std.specs.Prelude.{ℕ, suc, max, Result, Ok, Err}
use Rattle.runs.specs.declared.miss.Miss.{Miss}
use Rattle.runs.specs.declared.miss.Miss.TheVariants.{Bare, IdleVictim}
use Rattle.runs.specs.declared.tally.Tally.{Tally}

abbrev pub no_counts : ℕ → Tally
no_counts frame = record { rounds = 0; actions = 0; idle = 0; requests = 0; steals = 0; bare = 0; idle_victim = 0; peak = frame }

abbrev pub with_action : Tally → ℕ → ℕ → Tally
with_action t r weight = record {
  rounds = r;
  actions = suc t.actions;
  idle = t.idle;
  requests = t.requests;
  steals = t.steals;
  bare = t.bare;
  idle_victim = t.idle_victim;
  peak = max t.peak weight;
}

abbrev pub with_idle : Tally → ℕ → Tally
with_idle t r = record {
  rounds = r;
  actions = t.actions;
  idle = suc t.idle;
  requests = t.requests;
  steals = t.steals;
  bare = t.bare;
  idle_victim = t.idle_victim;
  peak = t.peak;
}

abbrev pub with_request : Tally → Tally
with_request t = record {
  rounds = t.rounds;
  actions = t.actions;
  idle = t.idle;
  requests = suc t.requests;
  steals = t.steals;
  bare = t.bare;
  idle_victim = t.idle_victim;
  peak = t.peak;
}

abbrev pub with_steal : Tally → Tally
with_steal t = record {
  rounds = t.rounds;
  actions = t.actions;
  idle = t.idle;
  requests = t.requests;
  steals = suc t.steals;
  bare = t.bare;
  idle_victim = t.idle_victim;
  peak = t.peak;
}

abbrev pub with_bare : Tally → Tally
with_bare t = record {
  rounds = t.rounds;
  actions = t.actions;
  idle = t.idle;
  requests = t.requests;
  steals = t.steals;
  bare = suc t.bare;
  idle_victim = t.idle_victim;
  peak = t.peak;
}

abbrev pub with_idle_victim : Tally → Tally
with_idle_victim t = record {
  rounds = t.rounds;
  actions = t.actions;
  idle = t.idle;
  requests = t.requests;
  steals = t.steals;
  bare = t.bare;
  idle_victim = suc t.idle_victim;
  peak = t.peak;
}

abbrev pub with_service : Tally → Result ℕ Miss → Tally
with_service t (Ok j) = with_steal t
with_service t (Err Bare) = with_bare t
with_service t (Err IdleVictim) = with_idle_victim t
