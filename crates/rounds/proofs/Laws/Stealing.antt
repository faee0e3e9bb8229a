-- A request and a service, and what each makes of the runner's objects.
--   idle_is       == the test of idle workers holds of no other
--   laid_manned   == the account and the workers after a request
--   given_manned  == the account and the workers after a service
--   asked_marked  == the set of the victims that have a request, where the line of one has changed
use Prim.Native.Nat.{ℕ, ◌≤◌, ◌<◌}
use mathlib.Core.Path.{◌≡◌, refl, sym, ap, ◌∙◌}
use mathlib.Core.Bool.{Bool, true, true≢false}
use mathlib.Core.List.{List}
use native.Mathlib.Omega.{arith}
use lib.Dec.{ltb}
use lib.ListN.{length, set}
use Rattle.plan.specs.Plan.{Plan}
use Rattle.std.specs.Prelude.{Result}
use Rattle.runs.specs.declared.miss.Miss.{Miss}
use Rattle.runs.specs.declared.tally.Tally.{Tally}
use Rattle.runs.specs.declared.worker.Worker.{Worker}
use Rattle.runs.specs.declared.worker.Worker.TheVariants.{Idle, Holding, Waiting}
use Rattle.runs.specs.Setting.{Setting}
use Rattle.runs.specs.State.{State, worker_of, holds}
use Rattle.runs.specs.Tally.{with_request, with_service}
use Rattle.runs.specs.Steal.{laid, thief, given}
use Rattle.runs.proofs.Laws.Stores.{victim_of}
use Rattle.crew.specs.Crew.{Marked}
use Rattle.crew.specs.Line.{waiting_at, Beside}
use Rattle.crew.proofs.Laws.Walks.{Crewed}
use Rattle.crew.proofs.Laws.Crews.{crewed_at, crewed_mark, crewed_same}
use Rattle.crew.specs.declared.line.Lines.{Lines}
use Rattle.rounds.specs.declared.account.Account.{Account}
use Rattle.rounds.specs.Account.{is_idle, LayNoted, ServiceNoted}
use Rattle.rounds.proofs.Laws.Standing.{asked_in, Manned}

pub idle_is : (x : Worker) → is_idle x ≡ true → x ≡ Idle
idle_is Idle e = refl
idle_is (Holding j) e = absurd (true≢false (sym e))
idle_is (Waiting v l) e = absurd (true≢false (sym e))

module _ {n : ℕ} {p : Plan} {s : State} {a : Account} {workers : List Worker} (m : Manned n a workers p s)
    (sixteen : length s.workers ≡ 16) {w : ℕ} (known : w < n) (most : n ≤ 16) where
  inside : w < length s.workers
  inside = omega arith

  pub laid_manned : (S : Setting) (r : ℕ) → worker_of s w ≡ Idle → {v : ℕ} → v ≡ victim_of S s → {a' : Account} → LayNoted a w v a'
      → Manned n a' (set workers w (Waiting v r)) p (laid S r w s)
  unfolding laid
  laid_manned S r was {v} e {a'} q = rw (← e) (record {
    seated = ap (λ ws. set ws w (Waiting v r)) m.seated;
    weighs = q.weighed ∙ m.weighs;
    counts = q.counts ∙ ap with_request m.counts;
    holders = rw q.holders (crewed_same holds s.workers Idle (Waiting v r) m.holders inside known (sym (ap holds was)));
    idlers = crewed_mark is_idle s.workers Idle (Waiting v r) m.idlers inside q.idlers known;
  })

  pub given_manned : (v more : ℕ) (x : Result ℕ Miss) {a' : Account} → ServiceNoted a v more w x a'
      → Manned n a' (set workers w (thief x)) p (given v w x s)
  unfolding given
  given_manned v more x q = record {
    seated = ap (λ ws. set ws w (thief x)) m.seated;
    weighs = q.weighed ∙ m.weighs;
    counts = q.counts ∙ ap (λ (t : Tally). with_service t x) m.counts;
    holders = crewed_mark holds s.workers Idle (thief x) m.holders inside q.holders known;
    idlers = crewed_mark is_idle s.workers Idle (thief x) m.idlers inside q.idlers known;
  }

-- the line of v alone has changed
pub asked_marked : {v : ℕ} {lines lines' : Lines} → Beside v lines lines' → {n victims victims' : ℕ} {b : Bool}
    → Crewed (asked_in lines) n victims → v < n → Marked v b victims victims' → ltb 0 (waiting_at lines' v) ≡ b
    → Crewed (asked_in lines') n victims'
asked_marked beside q h m e = crewed_at q m h e (λ u d. ap (ltb 0) (beside.lens u d))
