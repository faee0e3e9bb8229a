-- Why an input is turned down (document 01, "Turned down"; document 02), and what an entry answers.
--   number_of cause == the number of a cause, as document 01's table or a request of document 02 has it
--   Outcome A      == the number of a refusal, or what was asked for
use Rattle.std.specs.Prelude.{ℕ}
use Rattle.plan.specs.declared.refusal.Refusal.{Refusal}
use Rattle.plan.specs.declared.refusal.Refusal.TheVariants.{
  RanOut,
  Form,
  Range,
  Spawn,
  Join,
  Fill,
  Workers,
  Choices,
  Short,
  Table,
  Schedule,
  Rule,
  Name,
  Round,
  Cost,
  Changes,
  Pair,
  Deadline,
  Windows,
  Clock,
}

abbrev pub number_of : Refusal → ℕ
-- bits run out in a plan
number_of RanOut = 1
-- form is neither 1 nor 2 (document 02, L5), or "of the form not expected" (L6)
number_of Form = 2
-- job count, frame, action count, sum or cost outside its range; in a form 1 table a cost that is not 1
number_of Range = 3
-- a spawn rule is broken
number_of Spawn = 4
-- a join rule is broken
number_of Join = 5
-- fill bit not 0, or bytes left over
number_of Fill = 6
-- worker count 0 or above 16
number_of Workers = 7
-- choice not below P, over 4,096 choices, or none with P above 1
number_of Choices = 8
-- output buffer too short
number_of Short = 9
-- open table empty, not whole rows, or breaks its row rules
number_of Table = 10
-- schedule length, form (another than the plan's), worker count, action count, zero bits, fill bits with them, or a round of 0
number_of Schedule = 11
-- a schedule rule is broken
number_of Rule = 12
-- document 02, of which 15 and 17 are given so far: "name unset, malformed or a ninth" (L3)
number_of Name = 13
-- "the round is after the run's end" (L3)
number_of Round = 14
-- "the form 2 plan has a cost other than 1" (L6)
number_of Cost = 15
-- "the list breaks these rules" (L8)
number_of Changes = 16
-- "W is outside 1 to 65,535, or the result passes a limit of jobs or actions" (L9)
number_of Pair = 17
-- "no P from 1 to 16 does" (L11)
number_of Deadline = 18
-- "the windows break their rules" (L13)
number_of Windows = 19
-- "the run's end would be past clock round 2^32 − 1" (L13)
number_of Clock = 20

pub data Outcome (A : Type 0) : Type 0 where
  refused : ℕ → Outcome A
  accepted : A → Outcome A
