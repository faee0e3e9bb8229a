-- The schedule's bytes and the checker's rules (document 01, "Schedule"; document 02, L5).
--   round_bits form   == how many bits a round has: 12, and 16 in form 2
--   schedule_bits, schedule_bytes == "Form 8 bits .., workers 5 .., actions 12, 7 zero bits; then per action, in plan order,
--                                  round 12 bits .. and worker 4"; in form 2 "the last round of each action with 16 bits and the worker
--                                  with 4, and zero bits fill its last byte"
--   row_of p rows x   == the row of action x
--   span_of p rows x  == its span: the rounds in which it is worked on, as many as its cost, and the worker
--   keeps p m rows   == the rules: no span begins before round 1; no two spans of one worker have a round in common; each begins after
--                       the last round of all that its action must follow; workers below m
--   read_schedule form s n == the worker count and the rows of well-formed bytes of that form for n actions
--   checked          == what the checker answers for a plan: 11, then 12
use Rattle.std.specs.Prelude.{ℕ, zero, suc, ◌+◌, ◌-◌, ◌*◌, ◌/◌, Bool, true, false, not, List, [], ◌∷◌, ◌++◌, length, get_or, eqb, leb, ltb}
use Rattle.plan.specs.Test.{both, either, all}
use Rattle.plan.specs.Refusal.{Outcome, refused, accepted}
use Rattle.plan.specs.Plan.{Plan, Placed, total, placed}
use Rattle.fields.specs.Field.{bits_of, pack, Step, stop, step, then, field_at}
use Rattle.plan.specs.Reader.{Read, fills, read_plan}
use Rattle.plan_measure.specs.Measure.{must_follow}
use Rattle.courses.specs.Row.{Row, no_row, place}

abbrev pub round_bits : ℕ → ℕ
round_bits form = elim (eqb form 1) [ true ↦ 12 | false ↦ 16 ]

-- rows whose rounds have b bits each
unfoldable pub rows_bits : ℕ → List Row → List ℕ
rows_bits b [] = []
rows_bits b (a ∷ rows) = bits_of b a.round ++ (bits_of 4 a.worker ++ rows_bits b rows)

unfoldable pub schedule_bits : ℕ → ℕ → List Row → List ℕ
unfolding rows_bits
schedule_bits form n rows =
    bits_of 8 form ++ (bits_of 5 n ++ (bits_of 12 (length rows) ++ (bits_of 7 0 ++ rows_bits (round_bits form) rows)))

-- four bytes, and the rows' bits rounded up to whole bytes: in form 1 "exactly 4 + 2 × actions bytes long"
unfoldable pub schedule_length : ℕ → ℕ → ℕ
schedule_length form n = 4 + ((round_bits form + 4) * n + 7) / 8

unfoldable pub schedule_bytes : ℕ → ℕ → List Row → List ℕ
unfolding schedule_bits schedule_length pack
schedule_bytes form n rows = pack (schedule_length form (length rows)) (schedule_bits form n rows)

abbrev pub row_of : Plan → List Row → Placed → Row
row_of p rows x = get_or rows (place p x.job x.position) no_row

pub record Span : Type 0 where
  pub first : ℕ
  pub last : ℕ
  pub worker : ℕ

-- "A worker holds an action for that many rounds"; a first round of 0 stands for any before round 1
abbrev pub span_of : Plan → List Row → Placed → Span
span_of p rows x =
    let a = row_of p rows x in
    record { first = suc a.round - x.cost; last = a.round; worker = a.worker }

-- "no worker does two actions in one round": two spans of one worker have a round in common
abbrev pub clash : Span → Span → Bool
clash a b = both (eqb a.worker b.worker) (both (leb a.first b.last) (leb b.first a.last))

abbrev pub alone : Plan → List Row → List Placed → Bool
alone p rows [] = true
alone p rows (x ∷ l) = both (all (λ y. not (clash (span_of p rows x) (span_of p rows y))) l) (alone p rows l)

-- "each action's round is later than that of everything it must follow"; "The checker tests the whole span"
unfoldable pub in_order : Plan → List Row → Bool
unfolding must_follow
in_order p rows =
    all (λ x. all (λ y. either (not (must_follow p x y)) (ltb (span_of p rows y).last (span_of p rows x).first)) (placed p)) (placed p)

-- "one that starts before round 1 is 12"; "each worker number is below the header's worker count"
unfoldable pub keeps : Plan → ℕ → List Row → Bool
unfolding in_order
keeps p m rows =
    both (all (λ x. leb 1 (span_of p rows x).first) (placed p))
    (both (alone p rows (placed p)) (both (in_order p rows) (all (λ a. ltb a.worker m) rows)))

-- a schedule's worker count and rows
pub record Written : Type 0 where
  pub workers : ℕ
  pub rows : List Row

-- rows whose rounds have b bits each; a round is not 0
unfoldable pub rows_at : ℕ → List ℕ → ℕ → ℕ → Step (List Row)
unfolding field_at
rows_at b s zero at = step [] at
rows_at b s (suc n) at =
    then (field_at s b at) (λ r at.
    elim (eqb r 0) [
      | true ↦ stop 11
      | false ↦ then (field_at s 4 at) (λ w at. then (rows_at b s n at) (λ rows at. step (record { round = r; worker = w } ∷ rows) at))
    ])

-- "schedule length, form, worker count, action count, zero bits or a round of 0"; "a schedule of another form than the plan's is 11"
unfoldable pub written_at : ℕ → List ℕ → ℕ → Step Written
unfolding rows_at field_at
written_at form s n =
    then (field_at s 8 0) (λ f at.
    then (field_at s 5 at) (λ workers at.
    then (field_at s 12 at) (λ actions at.
    then (field_at s 7 at) (λ zeros at.
    elim (both (both (eqb f form) (both (leb 1 workers) (leb workers 16))) (both (eqb actions n) (eqb zeros 0))) [
      | false ↦ stop 11
      | true ↦ then (rows_at (round_bits form) s n at) (λ rows at. step (record { workers = workers; rows = rows }) at)
    ]))))

unfoldable pub read_schedule : ℕ → List ℕ → ℕ → Outcome Written
unfolding written_at schedule_length fills
read_schedule form s n =
    elim (eqb (length s) (schedule_length form n)) [
      | false ↦ refused 11
      | true ↦ elim (written_at form s n) [
        | stop k ↦ refused 11
        | step w at ↦ elim (fills s at) [ false ↦ refused 11 | true ↦ accepted w ]
      ]
    ]

-- 12: "a schedule rule is broken"; 0 stands for accepted
unfoldable pub ruled : Plan → Outcome Written → Outcome ℕ
unfolding keeps
ruled p (refused k) = refused k
ruled p (accepted w) = elim (keeps p w.workers w.rows) [ false ↦ refused 12 | true ↦ accepted 0 ]

unfoldable pub judged_by : Outcome Read → List ℕ → Outcome ℕ
unfolding ruled read_schedule
judged_by (refused k) schedule = refused k
judged_by (accepted r) schedule = ruled r.plan (read_schedule r.form schedule (total r.plan))

-- "11 then 12 for the checker", after the plan's own
unfoldable pub checked : List ℕ → List ℕ → Outcome ℕ
unfolding judged_by read_plan
checked plan schedule = judged_by (read_plan plan) schedule
