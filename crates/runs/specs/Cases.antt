-- The twelve starred cases of document 01 as one table: plan bytes, P, choices and the answer; beside them worked examples of document 02.
-- Laws/Starred.antt has the theorems.
--   Count, value_of == a count by the name that `buildrun` prints, and its value; `misses` is the sum of the two that it prints
--   Case           == a row of the table; passes c == the meanings give the row's answer
use Rattle.std.specs.Prelude.{ℕ, ◌+◌, Bool, true, false, List, [], ◌∷◌, eqb}
use Rattle.plan.specs.Refusal.{Outcome, refused, accepted}
use Rattle.plan.specs.Test.{both, all}
use Rattle.plan.specs.Plan.{Plan}
use Rattle.plan.specs.Reader.{Read, read_plan}
use Rattle.plan_measure.specs.Measure.{longest, heaviest, parallel, rest}
use Rattle.courses.specs.Row.{Row}
use Rattle.runs.specs.State.{State}
use Rattle.runs.specs.Run.{run_of}
use Rattle.courses.specs.Schedule.{checked}

pub data Count : Type 0 where
  rounds actions longest' path parallel' rest' peak idle requests steals misses bare idle_victim : Count

unfoldable pub value_of : Count → Plan → State → ℕ
unfolding longest heaviest parallel rest
value_of rounds p s = s.tally.rounds
value_of actions p s = s.tally.actions
value_of longest' p s = longest p
value_of path p s = heaviest p
value_of parallel' p s = parallel p
value_of rest' p s = rest p
value_of peak p s = s.tally.peak
value_of idle p s = s.tally.idle
value_of requests p s = s.tally.requests
value_of steals p s = s.tally.steals
value_of misses p s = s.tally.bare + s.tally.idle_victim
value_of bare p s = s.tally.bare
value_of idle_victim p s = s.tally.idle_victim

pub record Told : Type 0 where
  pub count : Count
  pub value : ℕ

-- what a case gives: counts, counts with the rows, a refusal of the run, or the checker's refusal of a schedule
pub data Answer : Type 0 where
  counts : List Told → Answer
  with_rows : List Told → List Row → Answer
  number : ℕ → Answer
  schedule : List ℕ → ℕ → Answer

pub record Case : Type 0 where
  pub plan : List ℕ
  pub workers : ℕ
  pub choices : List ℕ
  pub answer : Answer

abbrev pub same_rows : List Row → List Row → Bool
same_rows [] [] = true
same_rows [] (b ∷ bs) = false
same_rows (a ∷ l) [] = false
same_rows (a ∷ l) (b ∷ bs) = both (both (eqb a.round b.round) (eqb a.worker b.worker)) (same_rows l bs)

abbrev pub counted : Outcome Read → Outcome State → List Told → Bool
counted (refused k) o told = false
counted (accepted r) (refused k) told = false
counted (accepted r) (accepted s) told = all (λ t. eqb (value_of t.count r.plan s) t.value) told

abbrev pub rowed : Outcome State → List Row → Bool
rowed (refused k) rows = false
rowed (accepted s) rows = same_rows s.rows rows

abbrev pub turned_down : {A : Type 0} → Outcome A → ℕ → Bool
turned_down (refused k) n = eqb k n
turned_down (accepted a) n = false

abbrev pub answers : List ℕ → ℕ → List ℕ → Answer → Bool
answers plan n choices (counts told) = counted (read_plan plan) (run_of plan n choices) told
answers plan n choices (with_rows told rows) = both (counted (read_plan plan) (run_of plan n choices) told) (rowed (run_of plan n choices) rows)
answers plan n choices (number k) = turned_down (run_of plan n choices) k
answers plan n choices (schedule bytes k) = turned_down (checked plan bytes) k

unfoldable pub passes : Case → Bool
unfolding value_of run_of checked read_plan
passes c = answers c.plan c.workers c.choices c.answer

-- "E is `01 01 80 02 02 C0 44 08 00 00 60 42 08 00 04 02 82 00` (hexadecimal)"; case 8 changes its last byte, case 9 its last
-- two, which hold the target of job 2's join
unfoldable pub E : List ℕ
E =
    0x01 ∷ 0x01 ∷ 0x80 ∷ 0x02 ∷ 0x02 ∷ 0xC0 ∷ 0x44 ∷ 0x08 ∷ 0x00 ∷ 0x00 ∷ 0x60 ∷ 0x42 ∷ 0x08 ∷ 0x00 ∷ 0x04 ∷ 0x02 ∷ 0x82 ∷ 0x00 ∷ []

unfoldable pub E-last_byte : List ℕ
E-last_byte =
    0x01 ∷ 0x01 ∷ 0x80 ∷ 0x02 ∷ 0x02 ∷ 0xC0 ∷ 0x44 ∷ 0x08 ∷ 0x00 ∷ 0x00 ∷ 0x60 ∷ 0x42 ∷ 0x08 ∷ 0x00 ∷ 0x04 ∷ 0x02 ∷ 0x82 ∷ 0x01 ∷ []

unfoldable pub E-position_3 : List ℕ
E-position_3 =
    0x01 ∷ 0x01 ∷ 0x80 ∷ 0x02 ∷ 0x02 ∷ 0xC0 ∷ 0x44 ∷ 0x08 ∷ 0x00 ∷ 0x00 ∷ 0x60 ∷ 0x42 ∷ 0x08 ∷ 0x00 ∷ 0x04 ∷ 0x02 ∷ 0x81 ∷ 0x80 ∷ []

-- "F: job 0, frame 1, three actions, spawns 1 at 0; job 1, frame 1, four, last joins position 2."
unfoldable pub F : List ℕ
F = 0x01 ∷ 0x01 ∷ 0x00 ∷ 0x00 ∷ 0x81 ∷ 0xC0 ∷ 0x40 ∷ 0x00 ∷ 0x02 ∷ 0x08 ∷ 0x02 ∷ 0x04 ∷ []

unfoldable pub one_action : List ℕ
one_action = 0x01 ∷ 0x00 ∷ 0x80 ∷ 0x00 ∷ 0x80 ∷ 0x80 ∷ []

abbrev pub row : ℕ → ℕ → Row
row r w = record { round = r; worker = w }

-- case 4's schedule, in which job 1's action 0 (round 2) is given to worker 1
unfoldable pub E-schedule_clash : List ℕ
E-schedule_clash =
    0x01 ∷ 0x10 ∷ 0x04 ∷ 0x00 ∷ 0x00 ∷ 0x10 ∷ 0x00 ∷ 0x21 ∷ 0x00 ∷ 0x31 ∷ 0x00 ∷ 0x51 ∷ 0x00 ∷ 0x61 ∷ 0x00 ∷ 0x21 ∷ 0x00 ∷ 0x30 ∷ 0x00 ∷ 0x41 ∷ []

abbrev is : Count → ℕ → Told
is c n = record { count = c; value = n }

unfoldable pub starred : List Case
unfolding E E-last_byte E-position_3 F one_action E-schedule_clash
starred =
    record { plan = one_action; workers = 1; choices = []; answer = counts (is rounds 1 ∷ is idle 0 ∷ []) }
    ∷ record { plan = one_action; workers = 16; choices = 0 ∷ []; answer = counts (is rounds 1 ∷ is idle 15 ∷ is requests 0 ∷ []) }
    ∷ record { plan = E; workers = 1; choices = []; answer = counts (is rounds 8 ∷ is peak 7 ∷ is idle 0 ∷ []) }
    ∷ record {
      plan = E;
      workers = 2;
      choices = 0 ∷ 1 ∷ [];
      answer =
          with_rows
          (is rounds 6
          ∷ is actions 8
          ∷ is longest' 5
          ∷ is path 7
          ∷ is peak 7
          ∷ is idle 4
          ∷ is requests 3
          ∷ is steals 1
          ∷ is misses 2
          ∷ [])
          (row 1 0 ∷ row 2 1 ∷ row 3 1 ∷ row 5 1 ∷ row 6 1 ∷ row 2 0 ∷ row 3 0 ∷ row 4 1 ∷ []);
    }
    ∷ record { plan = F; workers = 2; choices = 0 ∷ []; answer = counts (is rounds 6 ∷ is idle 5 ∷ is requests 4 ∷ is steals 1 ∷ is misses 3 ∷ []) }
    ∷ record { plan = F; workers = 3; choices = 0 ∷ []; answer = counts (is rounds 6 ∷ is idle 11 ∷ is requests 6 ∷ is steals 1 ∷ is misses 4 ∷ []) }
    ∷ record { plan = []; workers = 1; choices = []; answer = number 1 }
    ∷ record { plan = E-last_byte; workers = 1; choices = []; answer = number 6 }
    ∷ record { plan = E-position_3; workers = 1; choices = []; answer = number 5 }
    ∷ record { plan = E; workers = 2; choices = []; answer = number 8 }
    ∷ record { plan = E; workers = 0; choices = []; answer = number 7 }
    ∷ record { plan = E; workers = 2; choices = 0 ∷ 1 ∷ []; answer = schedule E-schedule_clash 12 }
    ∷ []

-- document 02, L2: the misses of cases 4, 5 and 6 by their kind. In case 4 worker 0 asks worker 1, which holds job 0, and then itself;
-- in the others worker 0, whom all ask, holds a job to the end. L7: 8 divided by 5, and 7 by 6
unfoldable pub worked : List Case
unfolding E F
worked =
    record {
      plan = E;
      workers = 2;
      choices = 0 ∷ 1 ∷ [];
      answer = counts (is parallel' 1 ∷ is rest' 3 ∷ is steals 1 ∷ is bare 1 ∷ is idle_victim 1 ∷ []);
    }
    ∷ record {
      plan = F;
      workers = 2;
      choices = 0 ∷ [];
      answer = counts (is parallel' 1 ∷ is rest' 1 ∷ is steals 1 ∷ is bare 3 ∷ is idle_victim 0 ∷ []);
    }
    ∷ record { plan = F; workers = 3; choices = 0 ∷ []; answer = counts (is steals 1 ∷ is bare 4 ∷ is idle_victim 0 ∷ []) }
    ∷ []

-- document 02, L5: E in form 2, with the costs 2 1 3 1 2 of job 0, 4 1 of job 1 and 5 of job 2
unfoldable pub E2 : List ℕ
E2 =
    0x02 ∷ 0x01 ∷ 0x80 ∷ 0x02 ∷ 0x02 ∷ 0xC0 ∷ 0x44 ∷ 0x0C ∷ 0x08 ∷ 0x60 ∷ 0x84 ∷ 0x00 ∷ 0x06 ∷ 0x04 ∷ 0x22 ∷ 0x08 ∷ 0x20 ∷ 0x00 ∷ 0x40 ∷ 0x28 ∷ 0x22 ∷ 0x80 ∷ []

-- one job of one action, which takes three rounds
unfoldable pub one_of_3 : List ℕ
one_of_3 = 0x02 ∷ 0x00 ∷ 0x80 ∷ 0x00 ∷ 0x80 ∷ 0x86 ∷ []

-- the schedule of the run of E2 by two workers below, in which 0.3 (round 9) is given to worker 1, which works on 2.0 from round 8 to 12
unfoldable pub E2-schedule_clash : List ℕ
E2-schedule_clash =
    0x02 ∷ 0x10 ∷ 0x04 ∷ 0x00 ∷ 0x00 ∷ 0x02 ∷ 0x00 ∷ 0x00 ∷ 0x41 ∷ 0x00 ∷ 0x07 ∷ 0x10 ∷ 0x00 ∷ 0x91 ∷ 0x00 ∷ 0x0E ∷ 0x10 ∷ 0x00 ∷ 0x60 ∷ 0x00 ∷ 0x07 ∷ 0x00 ∷ 0x00 ∷ 0xC1 ∷ []

unfoldable pub costed : List Case
unfolding E2 one_of_3 E2-schedule_clash
costed =
    record {
      plan = one_of_3;
      workers = 1;
      choices = [];
      answer = counts (is rounds 3 ∷ is actions 3 ∷ is longest' 3 ∷ is parallel' 1 ∷ is rest' 0 ∷ is idle 0 ∷ []);
    }
    ∷ record {
      plan = E2;
      workers = 1;
      choices = [];
      answer =
          counts (is rounds 19 ∷ is actions 19 ∷ is longest' 13 ∷ is path 7 ∷ is parallel' 1 ∷ is rest' 6 ∷ is peak 7 ∷ is idle 0 ∷ []);
    }
    ∷ record {
      plan = E2;
      workers = 2;
      choices = 0 ∷ 1 ∷ [];
      answer =
          with_rows
          (is rounds 14
          ∷ is actions 19
          ∷ is longest' 13
          ∷ is path 7
          ∷ is parallel' 1
          ∷ is rest' 6
          ∷ is peak 7
          ∷ is idle 9
          ∷ is requests 8
          ∷ is steals 2
          ∷ is bare 3
          ∷ is idle_victim 3
          ∷ [])
          (row 2 0 ∷ row 4 1 ∷ row 7 1 ∷ row 9 0 ∷ row 14 1 ∷ row 6 0 ∷ row 7 0 ∷ row 12 1 ∷ []);
    }
    ∷ record { plan = E2; workers = 2; choices = 0 ∷ 1 ∷ []; answer = schedule E2-schedule_clash 12 }
    ∷ []
