-- T1 divided by T∞ (document 02, L7).
--   longest_some     == T∞ is at least 1: the root's last action costs that much or more
--   quotient         == so T1 can be divided by it
--   measures_divided == and is, in all measures that the entry answers
--   spare_turns      == where T∞ ≤ rounds and P × rounds = T1 + idle turns: (P − quotient) × T∞ ≤ idle turns + remainder
use Prim.Native.Nat.{ℕ, ◌+◌, ◌-◌, ◌*◌, ◌≤◌}
use mathlib.Core.Path.{◌≡◌, refl, sym, ap, ◌∙◌}
use mathlib.Core.List.{List}
use native.Mathlib.Omega.{arith}
use native.Mathlib.Decide.{dec_le}
use native.Mathlib.Nat.{mod-lt, div-add-mod', add-mul, mul-le-mul_left}
use Rattle.plan.specs.Refusal.{Outcome, refused, accepted}
use Rattle.plan.specs.Plan.{Plan, size}
use Rattle.plan.specs.Reader.{Read, read_plan}
use Rattle.plan.specs.Rules.{Accepted}
use Rattle.plan.proofs.Laws.Accepted.{accepted_kept}
use Rattle.plan.proofs.Laws.Outcomes.{refused_accepted}
use Rattle.plan.proofs.Laws.Spawning.{cost_in_range_lem}
use Rattle.plan.proofs.Laws.Valid.{size_range, jobs_range}
use Rattle.std.specs.Prelude.{Result}
use Rattle.plan.specs.declared.refusal.Refusal.{Refusal}
use Rattle.plan_measure.specs.declared.Measures.{Measures}
use Rattle.plan_measure.specs.Measure.{work, longest, parallel, rest, measures_of, measured, measures, told, Quotient, Divided}
use Rattle.plan_measure.proofs.Laws.Times.{begins_before, longest_ends}

module _ (p : Plan) (ok : Accepted p) where
  pub longest_some : 1 ≤ longest p
  longest_some =
      let h = (jobs_range p ok).0 in
      let s = size_range p ok 0 h in
      let i = size p 0 - 1 in
      omega (arith, longest_ends p ok, begins_before p ok 0 i h (omega arith), cost_in_range_lem p ok.range 0 h i (omega arith))

  pub quotient : Quotient (work p) (longest p) (parallel p) (rest p)
  unfolding parallel rest
  quotient = record { whole = div-add-mod' (work p) (longest p); rest_below = mod-lt (work p) longest_some; some = longest_some }

pub measures_divided : (s : List ℕ) (r : Result Measures Refusal) → told r ≡ measures s → Divided r
unfolding measures measured measures_of
measures_divided s r e m f = by (read_plan s) refl (sym (ap told f) ∙ e)
  where
    by : (o : Outcome Read) → read_plan s ≡ o → accepted m ≡ measured o → Quotient m.work m.longest m.parallel m.rest
    by (refused k) g e = refused_accepted (sym e)
    by (accepted x) g e =
        let h : m ≡ measures_of x.plan = cc in
        rw h (quotient x.plan (accepted_kept s x g))

pub spare_turns : (n idle : ℕ) {t₁ t∞ q r rounds : ℕ} → Quotient t₁ t∞ q r → t∞ ≤ rounds → n * rounds ≡ t₁ + idle
    → (n - q) * t∞ ≤ idle + r
spare_turns n idle {t₁} {t∞} {q} {r} {rounds} d least turns = by (dec_le q n)
  where
    by : Dec (q ≤ n) → (n - q) * t∞ ≤ idle + r
    by (yes h) =
        let all : n - q + q ≡ n = omega arith in
        omega (arith, rw all at (add-mul (n - q) q t∞), mul-le-mul_left n least, d.whole)
    by (no h) = let none : n - q ≡ 0 = omega arith in rw none (omega arith)
