-- What `buildrun` prints (document 01, "Cases"): "reads P (one byte), the choice count (two bytes, high first), the choices,
-- and the plan that begins in the middle of its input".
--   ran_with plan n choices  == the twelve counts of a run, or the refusal: 1 to 6, then 7, 8
--   build_of input           == "Before the plan is looked at, in this order: P or the count missing prints `refused 1`, a count
--                              above 4,096 `refused 8` even if choices are missing too, missing choices `refused 1`."
--   built_of r               == the outcome that an answer stands for
--   plan_in, choices_in input == the plan and the choices of an input
--   CountBounds S c         == demand 3's claim, as far as counts can tell, and the sums, of the run of S; and T1 divided by T∞
--   Claimed input r         == so it is of the counts that were answered
use Rattle.std.specs.Prelude.{ℕ, ◌+◌, ◌-◌, ◌*◌, ◌≤◌, ◌≡◌, true, false, List, length, get_or, take, drop, ltb, Result, Ok, Err}
use Rattle.plan.specs.declared.refusal.Refusal.{Refusal}
use Rattle.plan.specs.Refusal.{Outcome, refused, accepted, number_of}
use Rattle.plan.specs.Plan.{size}
use Rattle.plan.specs.Reader.{Read, read_plan}
use Rattle.plan_measure.specs.Measure.{work, longest, heaviest, parallel, rest, Quotient}
use Rattle.build.specs.declared.Counts.{Counts}
use Rattle.runs.specs.State.{State, next_of}
use Rattle.runs.specs.Setting.{Setting, setting}
use Rattle.runs.specs.Steal.{waiting}
use Rattle.runs.specs.Run.{run, run_of}
use Rattle.runs.specs.Misses.{misses}

unfoldable pub counts_of : Outcome Read → Outcome State → Outcome Counts
unfolding longest heaviest parallel rest
counts_of (refused k) o = refused k
counts_of (accepted x) (refused k) = refused k
counts_of (accepted x) (accepted s) =
    let t = s.tally in
    accepted (record {
      rounds = t.rounds;
      actions = t.actions;
      longest = longest x.plan;
      path = heaviest x.plan;
      parallel = parallel x.plan;
      rest = rest x.plan;
      peak = t.peak;
      idle = t.idle;
      requests = t.requests;
      steals = t.steals;
      bare = t.bare;
      idle_victim = t.idle_victim;
    })

unfoldable pub ran_with : List ℕ → ℕ → List ℕ → Outcome Counts
unfolding counts_of read_plan run_of
ran_with plan n choices = counts_of (read_plan plan) (run_of plan n choices)

-- the choice count, high byte first
abbrev pub choice_count : List ℕ → ℕ
choice_count input = get_or input 1 0 * 256 + get_or input 2 0

-- the plan and the choices
abbrev pub plan_in : List ℕ → List ℕ
plan_in input = drop (3 + choice_count input) input

abbrev pub choices_in : List ℕ → List ℕ
choices_in input = take (choice_count input) (drop 3 input)

unfoldable pub build_of : List ℕ → Outcome Counts
unfolding ran_with
build_of input =
    elim (ltb (length input) 3) [
      | true ↦ refused 1
      | false ↦ elim (ltb 4096 (choice_count input)) [
        | true ↦ refused 8
        | false ↦ elim (ltb (length input) (3 + choice_count input)) [
          | true ↦ refused 1
          | false ↦ ran_with (plan_in input) (get_or input 0 0) (choices_in input)
        ]
      ]
    ]

abbrev pub built_of : Result Counts Refusal → Outcome Counts
built_of (Err cause) = refused (number_of cause)
built_of (Ok c) = accepted c

module _ (S : Setting) where
  open S use {plan, workers}

  pub record CountBounds (c : Counts) : Type 0 where
    -- `actions` is T1, `longest` T∞ and `path` S1
    pub actions : c.actions ≡ work plan
    pub longest_chain : c.longest ≡ longest plan
    pub heaviest_path : c.path ≡ heaviest plan
    -- the build ends, in at most T1 rounds and at least T∞
    pub over : size plan 0 ≤ next_of (run S) 0
    pub most_rounds : c.rounds ≤ c.actions
    pub least_rounds : c.longest ≤ c.rounds
    -- the frames of living jobs never weigh more than P × S1
    pub space : c.peak ≤ workers * c.path
    -- with one worker the peak is S1 and the rounds are T1
    pub lone_peak : workers ≡ 1 → c.peak ≡ c.path
    pub lone_rounds : workers ≡ 1 → c.rounds ≡ c.actions
    -- "P × rounds = actions + idle turns", "requests = steals + misses + requests still waiting"; document 02, L2, of bare and
    -- idle-victim: "Their sum is the old count."
    pub turns : workers * c.rounds ≡ c.actions + c.idle
    pub requests : c.requests ≡ c.steals + c.bare + c.idle_victim + waiting workers (run S).workers
    pub misses_split : c.bare + c.idle_victim ≡ misses S
    -- document 02, L7: T1 divided by T∞, and what it says of idle turns
    pub quotient : Quotient c.actions c.longest c.parallel c.rest
    pub spare : (workers - c.parallel) * c.longest ≤ c.idle + c.rest

-- where counts are answered, the plan was accepted, and the claim holds of them
abbrev pub Claimed : List ℕ → Result Counts Refusal → Type 0
Claimed input r =
    (c : Counts) → r ≡ Ok c
    → (x : Read) × (read_plan (plan_in input) ≡ accepted x) × CountBounds (setting x.plan (get_or input 0 0) (choices_in input)) c
