-- The peak of a course is no less than what its living frames weigh.
use Prim.Native.Nat.{ℕ, ◌≤◌}
use native.Mathlib.Omega.{arith}
use Rattle.plan.specs.Rules.{Accepted}
use Rattle.courses.specs.Ready.{weight}
use Rattle.courses.proofs.Laws.Course.{Core, Terms, Course, begins, next_round, rests, works, ends}
use Rattle.courses.proofs.Laws.Start.{none_weight}

module _ (e : Terms) (ok : Accepted e.plan) where
  pub course_weighs : {r m k : ℕ} {b : ℕ → ℕ} {c : Core} → Course e r m k b c → weight e.plan c.next ≤ c.peak
  course_weighs (begins {c = c} idle s h) = omega (arith, s.peak, none_weight e.plan ok c.next s.none)
  course_weighs (next_round t s h) = course_weighs t
  course_weighs (rests t q) = course_weighs t
  course_weighs (works t mine h s) = rw (s.next, s.peak) (course_weighs t)
  course_weighs (ends t mine h s l) = omega (arith, s.peak)
