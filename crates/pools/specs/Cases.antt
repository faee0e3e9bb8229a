-- Worked examples of runs from a pool (document 02, L1) and of deadlines (L11), of the plan E of document 01, of E with costs (L5), of a
-- plan of one action, and of one that four workers run in more rounds than three. Laws/Worked.antt has the theorems.
--   Case == plan bytes, P, the counts and the rows; passes c == the meanings give the case's counts and rows
--   K == job 0, frame 1, five actions, spawns 2 at 0 and 1 at 1; job 1, frame 1, five, spawns 3 at 0, last joins position 4; job 2, frame
--        1, four, spawns 4 at 0, joins position 3 at 1, last joins 4; job 3, frame 1, one, joins position 3; job 4, frame 1, two, last
--        joins position 3. T1 17, T∞ 8
--   pool_cases == the examples of runs
--   slower_cases == runs of K, by three workers and by four
--   Deadline == plan bytes, a round count, and the fewest workers or the refusal; meets c == the meanings give that
--   deadline_cases == the examples of deadlines
use Rattle.std.specs.Prelude.{ℕ, Bool, false, List, [], ◌∷◌, eqb}
use Rattle.plan.specs.Refusal.{Outcome, refused, accepted}
use Rattle.plan.specs.Test.{both}
use Rattle.courses.specs.Row.{Row}
use Rattle.runs.specs.Cases.{E, E2, one_action, row, same_rows}
use Rattle.pools.specs.State.{State}
use Rattle.pools.specs.Run.{pool_of}
use Rattle.pools.specs.Fewest.{fewest_of}

pub record Case : Type 0 where
  pub plan : List ℕ
  pub workers : ℕ
  pub rounds : ℕ
  pub idle : ℕ
  pub peak : ℕ
  pub rows : List Row

abbrev pub fits : Case → Outcome State → Bool
fits c (refused k) = false
fits c (accepted s) =
    let t = s.tally in
    both (both (eqb t.rounds c.rounds) (eqb t.idle c.idle)) (both (eqb t.peak c.peak) (same_rows s.rows c.rows))

unfoldable pub passes : Case → Bool
unfolding pool_of
passes c = fits c (pool_of c.plan c.workers)

unfoldable pub K : List ℕ
K =
    0x01 ∷ 0x02 ∷ 0x80 ∷ 0x00 ∷ 0x82 ∷ 0xC0 ∷ 0x90 ∷ 0x10 ∷ 0x00 ∷ 0x00 ∷ 0x20 ∷ 0xB0 ∷ 0x30 ∷ 0x08 ∷ 0x20 ∷ 0x00
    ∷ 0x08 ∷ 0x24 ∷ 0x10 ∷ 0x81 ∷ 0x88 ∷ 0x20 ∷ 0x00 ∷ 0x08 ∷ 0x0A ∷ 0x06 ∷ 0x00 ∷ 0x02 ∷ 0x04 ∷ 0x20 ∷ 0x60 ∷ []

unfoldable pub pool_cases : List Case
unfolding E E2 one_action
pool_cases =
    record {
      plan = E;
      workers = 1;
      rounds = 8;
      idle = 0;
      peak = 7;
      rows = row 1 0 ∷ row 4 0 ∷ row 5 0 ∷ row 7 0 ∷ row 8 0 ∷ row 2 0 ∷ row 3 0 ∷ row 6 0 ∷ [];
    }
    ∷ record {
      plan = E;
      workers = 2;
      rounds = 5;
      idle = 2;
      peak = 7;
      rows = row 1 0 ∷ row 2 1 ∷ row 3 1 ∷ row 4 0 ∷ row 5 1 ∷ row 2 0 ∷ row 3 0 ∷ row 4 1 ∷ [];
    }
    ∷ record {
      plan = E;
      workers = 3;
      rounds = 5;
      idle = 7;
      peak = 7;
      rows = row 1 0 ∷ row 2 1 ∷ row 3 1 ∷ row 4 0 ∷ row 5 1 ∷ row 2 0 ∷ row 3 0 ∷ row 4 1 ∷ [];
    }
    ∷ record {
      plan = E2;
      workers = 2;
      rounds = 13;
      idle = 7;
      peak = 9;
      rows = row 2 0 ∷ row 3 1 ∷ row 6 1 ∷ row 8 0 ∷ row 13 1 ∷ row 6 0 ∷ row 7 0 ∷ row 11 1 ∷ [];
    }
    ∷ record { plan = one_action; workers = 16; rounds = 1; idle = 15; peak = 1; rows = row 1 0 ∷ [] }
    ∷ []

unfoldable pub slower_cases : List Case
unfolding K
slower_cases =
    record {
      plan = K;
      workers = 3;
      rounds = 8;
      idle = 7;
      peak = 5;
      rows = row 1 0 ∷ row 2 1 ∷ row 3 2 ∷ row 6 1 ∷ row 8 2 ∷ row 3 1 ∷ row 4 2 ∷ row 5 2 ∷ row 6 2 ∷ row 7 2 ∷ row 2 0 ∷ row 5 0 ∷ row 6 0
          ∷ row 7 0 ∷ row 4 1 ∷ row 3 0 ∷ row 4 0 ∷ [];
    }
    ∷ record {
      plan = K;
      workers = 4;
      rounds = 9;
      idle = 19;
      peak = 5;
      rows = row 1 0 ∷ row 2 1 ∷ row 3 2 ∷ row 4 2 ∷ row 9 1 ∷ row 3 1 ∷ row 5 1 ∷ row 6 1 ∷ row 7 1 ∷ row 8 1 ∷ row 2 0 ∷ row 3 3 ∷ row 4 3
          ∷ row 5 3 ∷ row 4 1 ∷ row 3 0 ∷ row 4 0 ∷ [];
    }
    ∷ []

pub record Deadline : Type 0 where
  pub plan : List ℕ
  pub rounds : ℕ
  pub answer : Outcome ℕ

abbrev pub same : Outcome ℕ → Outcome ℕ → Bool
same (refused k) (refused j) = eqb k j
same (refused k) (accepted n) = false
same (accepted n) (refused k) = false
same (accepted n) (accepted m) = eqb n m

unfoldable pub meets : Deadline → Bool
unfolding fewest_of
meets c = same (fewest_of c.plan c.rounds) c.answer

unfoldable pub deadline_cases : List Deadline
unfolding E E2 one_action K
deadline_cases =
    record { plan = K; rounds = 7; answer = refused 18 }
    ∷ record { plan = K; rounds = 8; answer = accepted 3 }
    ∷ record { plan = K; rounds = 9; answer = accepted 3 }
    ∷ record { plan = K; rounds = 10; answer = accepted 2 }
    ∷ record { plan = K; rounds = 16; answer = accepted 2 }
    ∷ record { plan = K; rounds = 17; answer = accepted 1 }
    ∷ record { plan = E; rounds = 4; answer = refused 18 }
    ∷ record { plan = E; rounds = 5; answer = accepted 2 }
    ∷ record { plan = E; rounds = 8; answer = accepted 1 }
    ∷ record { plan = E2; rounds = 12; answer = refused 18 }
    ∷ record { plan = E2; rounds = 13; answer = accepted 2 }
    ∷ record { plan = one_action; rounds = 0; answer = refused 18 }
    ∷ record { plan = one_action; rounds = 1; answer = accepted 1 }
    ∷ record { plan = one_action; rounds = 4294967295; answer = accepted 1 }
    ∷ record { plan = []; rounds = 0; answer = refused 1 }
    ∷ []
