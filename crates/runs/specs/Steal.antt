-- Requests and services, the second half of a round (document 01, "Worker and round"; document 02, L2).
--   lay S r w x s  == in round r worker w, which was x when it began, lays a request if x is idle; lays S r k b s == those below k
--   oldest v k ws  == which of the workers below k has the request that victim v serves: the worker's number plus 1, or 0
--   take_top d held == what taking the top of the deque d gives, whose owner holds a job or not: a job, or which of the two misses it is;
--                     taken_from s v == of the deque of victim v
--   thief x        == the worker that was served, by what was taken; given v w x s == the state, of victim v and worker w
--   serve v q s    == victim v serves the worker of number q - 1, or none if q is 0; serves S r k s == the victims below k
--   waits x        == 1 where the worker x waits with a request, or 0
--   waiting k ws   == how many requests wait, of the workers below k
use Rattle.std.specs.Prelude.{ℕ, zero, suc, ◌+◌, ◌%◌, Result, Ok, Err, Bool, true, false, List, [], ◌∷◌, length, get_or, set, eqb, ltb}
use Rattle.runs.specs.declared.miss.Miss.{Miss}
use Rattle.runs.specs.declared.miss.Miss.TheVariants.{Bare, IdleVictim}
use Rattle.runs.specs.declared.worker.Worker.{Worker}
use Rattle.runs.specs.declared.worker.Worker.TheVariants.{Idle, Holding, Waiting}
use Rattle.runs.specs.Setting.{Setting, count_in}
use Rattle.runs.specs.Tally.{with_request, with_service}
use Rattle.runs.specs.State.{State, worker_of, holds, deque_of}

-- "request number k (from 0) reads entry k modulo the length"
unfoldable pub laid : Setting → ℕ → ℕ → State → State
laid S r w s =
    let t = s.tally in
    let choices = S.choices in
    record {
      next = s.next;
      spent = s.spent;
      workers = set s.workers w (Waiting (get_or choices (t.requests % length choices) 0) r);
      deques = s.deques;
      rows = s.rows;
      tally = with_request t;
    }

-- "the other workers that hold nothing since the round's start .. each lay a request if they have none"
unfoldable pub lay : Setting → ℕ → ℕ → Worker → State → State
unfolding laid
lay S r w Idle s = laid S r w s
lay S r w (Holding j) s = s
lay S r w (Waiting v l) s = s

unfoldable pub lays : Setting → ℕ → ℕ → List Worker → State → State
unfolding lay
lays S r zero began s = s
lays S r (suc k) began s = lay S r k (get_or began k Idle) (lays S r k began s)

pub record Pick : Type 0 where
  pub who : ℕ
  pub laid : ℕ

-- "the oldest by round, then the lowest worker": worker w's request against the best of the workers below it
unfoldable pub older : ℕ → ℕ → Worker → Pick → Pick
older v w Idle best = best
older v w (Holding j) best = best
older v w (Waiting u l) best =
    elim (eqb u v) [
      | false ↦ best
      | true ↦ elim best.who [
        | zero ↦ record { who = suc w; laid = l }
        | suc x ↦ elim (ltb l best.laid) [ true ↦ record { who = suc w; laid = l } | false ↦ best ]
      ]
    ]

unfoldable pub oldest : ℕ → ℕ → List Worker → Pick
unfolding older
oldest v zero ws = record { who = 0; laid = 0 }
oldest v (suc k) ws = older v k (get_or ws k Idle) (oldest v k ws)

-- the deque without its top job, and the top job
abbrev pub drop_top : List ℕ → List ℕ
drop_top [] = []
drop_top (x ∷ []) = []
drop_top (x ∷ (y ∷ d)) = x ∷ drop_top (y ∷ d)

abbrev pub top_of : ℕ → List ℕ → ℕ
top_of x [] = x
top_of x (y ∷ d) = top_of y d

-- "Taking the top of a deque now tells which": "`bare` (the victim holds a job at that moment) and `idle-victim`"
abbrev pub take_top : List ℕ → Bool → Result ℕ Miss
take_top (x ∷ d) held = Ok (top_of x d)
take_top [] true = Err Bare
take_top [] false = Err IdleVictim

-- the same of the deque of victim v
abbrev pub taken_from : State → ℕ → Result ℕ Miss
taken_from s v = take_top (deque_of s v) (holds (worker_of s v))

abbrev pub thief : Result ℕ Miss → Worker
thief (Ok j) = Holding j
thief (Err m) = Idle

-- "The top job of the victim's deque goes to that worker, or it is a miss." An empty deque stays empty.
unfoldable pub given : ℕ → ℕ → Result ℕ Miss → State → State
given v w taken s =
    record {
      next = s.next;
      spent = s.spent;
      workers = set s.workers w (thief taken);
      deques = set s.deques v (drop_top (deque_of s v));
      rows = s.rows;
      tally = with_service s.tally taken;
    }

unfoldable pub serve : ℕ → ℕ → State → State
unfolding given
serve v zero s = s
serve v (suc w) s = given v w (taken_from s v) s

-- "every victim, in rising number, serves one request"
unfoldable pub serves : Setting → ℕ → ℕ → State → State
unfolding serve oldest
serves S r zero s = s
serves S r (suc k) s = let t = serves S r k s in serve k (oldest k (count_in S r) t.workers).who t

-- "requests still waiting": a worker has at most one
abbrev pub waits : Worker → ℕ
waits Idle = 0
waits (Holding j) = 0
waits (Waiting v l) = 1

abbrev pub waiting : ℕ → List Worker → ℕ
waiting zero ws = 0
waiting (suc k) ws = waiting k ws + waits (get_or ws k Idle)
