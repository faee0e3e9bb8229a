-- "Their sum is the old count" (document 02, L2): bare and idle-victim misses together are the services that met an empty deque.
--   both_of t      == the misses that the tally t has, of both kinds
--   serves_misses_lem, round_misses_lem, rounds_misses_lem == they grow by those of the services of a round, of the round, of so many rounds
--   run_misses     == so those of a run are its misses
use Prim.Native.Nat.{ℕ, zero, suc, ◌+◌}
use mathlib.Core.Path.{◌≡◌, refl, ◌∙◌}
use mathlib.Core.Bool.{Bool, true, false}
use mathlib.Core.List.{List, [], ◌∷◌}
use native.Mathlib.Omega.{arith}
use lib.ListN.{get_or}
use Rattle.plan.specs.Plan.{Plan}
use Rattle.plan_measure.specs.Measure.{work}
use Rattle.runs.specs.declared.tally.Tally.{Tally}
use Rattle.runs.specs.declared.worker.Worker.{Worker}
use Rattle.runs.specs.declared.worker.Worker.TheVariants.{Idle, Holding, Waiting}
use Rattle.runs.specs.Setting.{Setting, count_in}
use Rattle.runs.specs.State.{State, worker_of, holds, deque_of, start}
use Rattle.runs.specs.Turn.{turns}
use Rattle.runs.specs.Tally.{with_service}
use Rattle.runs.specs.Steal.{laid, lay, lays, oldest, take_top, given, serve, serves}
use Rattle.runs.specs.Run.{ended, round, rounds, run}
use Rattle.runs.specs.Misses.{miss, serves_misses, round_misses, rounds_misses, misses}
use Rattle.runs.proofs.Laws.Rests.{turn_took}

abbrev both_of : Tally → ℕ
both_of t = t.bare + t.idle_victim

turns_misses : (p : Plan) (r k : ℕ) (b : List Worker) (s : State) → both_of (turns p r k b s).tally ≡ both_of s.tally
unfolding turns
turns_misses p r zero b s = refl
turns_misses p r (suc k) b s =
    let q = turn_took p r k (get_or b k Idle) (turns p r k b s) in omega (arith, q.bare, q.idle_victim, turns_misses p r k b s)

lay_misses : (S : Setting) (r w : ℕ) (x : Worker) (s : State) → both_of (lay S r w x s).tally ≡ both_of s.tally
unfolding lay laid
lay_misses S r w Idle s = refl
lay_misses S r w (Holding j) s = refl
lay_misses S r w (Waiting v l) s = refl

lays_misses : (S : Setting) (r k : ℕ) (b : List Worker) (s : State) → both_of (lays S r k b s).tally ≡ both_of s.tally
unfolding lays
lays_misses S r zero b s = refl
lays_misses S r (suc k) b s = lay_misses S r k (get_or b k Idle) (lays S r k b s) ∙ lays_misses S r k b s

serve_misses : (v who : ℕ) (s : State) → both_of (serve v who s).tally ≡ both_of s.tally + miss who (deque_of s v)
unfolding serve given
serve_misses v zero s = omega arith
serve_misses v (suc w) s = go (deque_of s v) (holds (worker_of s v))
  where
    go : (d : List ℕ) (held : Bool) → both_of (with_service s.tally (take_top d held)) ≡ both_of s.tally + miss (suc w) d
    go (x ∷ d) held = omega arith
    go [] true = omega arith
    go [] false = omega arith

module _ (S : Setting) where
  open S use {plan}

  serves_misses_lem : (r k : ℕ) (s : State) → both_of (serves S r k s).tally ≡ both_of s.tally + serves_misses S r k s
  unfolding serves serves_misses
  serves_misses_lem r zero s = omega arith
  serves_misses_lem r (suc k) s =
      let t = serves S r k s in
      omega (arith, serve_misses k (oldest k (count_in S r) t.workers).who t, serves_misses_lem r k s)

  round_misses_lem : (s : State) → both_of (round S s).tally ≡ both_of s.tally + round_misses S s
  unfolding round round_misses
  round_misses_lem s = go (ended plan half)
    where
      r : ℕ
      r = suc s.tally.rounds

      n : ℕ
      n = count_in S r

      half : State
      half = turns plan r n s.workers s

      all : State
      all = lays S r n s.workers half

      go : (x : Bool) → let t : State = elim x [ true ↦ half | false ↦ serves S r n all ] in
          both_of t.tally ≡ both_of s.tally + elim x [ true ↦ 0 | false ↦ serves_misses S r n all ]
      go true = omega (arith, turns_misses plan r n s.workers s)
      go false =
          omega (arith, serves_misses_lem r n all, lays_misses S r n s.workers half, turns_misses plan r n s.workers s)

  rounds_misses_lem : (k : ℕ) (s : State) → both_of (rounds k S s).tally ≡ both_of s.tally + rounds_misses k S s
  unfolding rounds rounds_misses
  rounds_misses_lem zero s = omega arith
  rounds_misses_lem (suc k) s = go (ended plan s) (rounds_misses_lem k (round S s))
    where
      rest : State
      rest = rounds k S (round S s)

      more : ℕ
      more = rounds_misses k S (round S s)

      go : (x : Bool) → both_of rest.tally ≡ both_of (round S s).tally + more
          → let t : State = elim x [ true ↦ s | false ↦ rest ] in
          both_of t.tally ≡ both_of s.tally + elim x [ true ↦ 0 | false ↦ round_misses S s + more ]
      go true e = omega arith
      go false e = omega (arith, round_misses_lem s)

  pub run_misses : (run S).tally.bare + (run S).tally.idle_victim ≡ misses S
  unfolding run misses start
  run_misses = omega (arith, rounds_misses_lem (work plan) (start plan))
