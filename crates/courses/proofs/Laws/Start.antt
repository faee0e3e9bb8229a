-- Where nothing is done just job 0 lives, and its frame is all the weight.
--   none_weight == the weight where nothing is done is the frame of job 0
use Prim.Native.Nat.{ℕ, suc, ◌+◌, ◌≤◌, ◌<◌}
use mathlib.Core.Path.{◌≡◌, refl}
use mathlib.Core.Bool.{Bool, true, false}
use mathlib.Core.List.{List, [], ◌∷◌}
use native.Mathlib.Omega.{arith}
use native.Mathlib.Nat.{not-suc-le-zero}
use lib.ListN.{length, get_or}
use Rattle.plan.specs.Plan.{Plan, Job, job, parent}
use Rattle.plan.specs.Rules.{Accepted}
use Rattle.plan.proofs.Laws.Lists.{true_of, false_of}
use Rattle.plan.proofs.Laws.Valid.{jobs_range, size_range}
use Rattle.courses.specs.Ready.{frames, living, weight}
use Rattle.lines.proofs.Laws.Shape.{Living}
use Rattle.courses.proofs.Laws.PlanShape.{shape, living_is, living_by}

-- the frames where no job, or just the first, passes
frames_none : (f : ℕ → Bool) (j : ℕ) (l : List Job) → ((k : ℕ) → j ≤ k → k < j + length l → f k ≡ false) → frames f j l ≡ 0
frames_none f j [] h = refl
frames_none f j (b ∷ l) h =
    let e : f j ≡ false = h j (omega arith) (omega arith) in
    rw (frames, e) (frames_none f (suc j) l (λ k m n. h k (omega arith) (omega arith)))

frames_first : (f : ℕ → Bool) (p : Plan) → 1 ≤ length p → f 0 ≡ true → ((k : ℕ) → 1 ≤ k → k < length p → f k ≡ false)
    → frames f 0 p ≡ (job p 0).frame
frames_first f [] b e h = absurd (not-suc-le-zero b)
frames_first f (x ∷ l) b e h = rw (frames, e) (omega (arith, frames_none f 1 l (λ k m n. h k m (omega arith))))

pub none_weight : (p : Plan) → Accepted p → (l : List ℕ) → ((j : ℕ) → get_or l j 0 ≡ 0) → weight p l ≡ (job p 0).frame
unfolding weight
none_weight p ok l none =
    let b = (jobs_range p ok).0 in
    let root : Living (shape p) (λ j. get_or l j 0) 0 =
    record { below = b; begun = λ o. absurd (omega arith); left = omega (arith, none 0, size_range p ok 0 b) } in
    frames_first (living p l) p b (true_of (living p l 0) (living_by p l 0 root))
    (λ k o h. false_of (living p l k) (λ t. let a = living_is p l k h t in omega (arith, a.begun o, none (parent p k))))
