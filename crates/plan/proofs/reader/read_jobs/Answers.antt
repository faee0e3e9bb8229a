-- `reader::read_jobs` meets its contract. The loop's invariant: the jobs p are read and written, and what `jobs_at` gives is p and
-- then what it gives of the rest.
use Prim.Native.Nat.{ℕ, suc, ◌+◌, ◌-◌, ◌<◌}
use native.Mathlib.Nat.{sub-zero}
use native.Mathlib.Omega.{arith}
use mathlib.Core.Path.{◌≡◌, refl, ap, sym, ◌∙◌}
use mathlib.Core.List.{List, [], ◌∷◌, ◌++◌, append-nil}
use lib.ListN.{length, length-append}
use Rattle.std.specs.Prelude.{Ok}
use Rattle.std.proofs.lemmas.Result.{err_from_is_err_and}
use Rattle.plan.specs.declared.sheet.Sheet.{Sheet}
use Rattle.plan.specs.declared.reader.Header.{Header}
use Rattle.plan.specs.Plan.{Job, total}
use Rattle.fields.specs.Field.{Step, stop, step}
use Rattle.plan.specs.Reader.{jobs_at}
use Rattle.plan.specs.Progress.{formed, JobRead, one_job_at, with_job}
use Rattle.plan.proofs.Laws.Steps.{after, job_next, jobs_more, jobs_stop}
use Rattle.plan.proofs.Laws.Placed.{total_append}
use Rattle.plan.proofs.Laws.Sheets.{jobs_one_more}
use Rattle.plan.proofs.reader.read_jobs.Goals as goal
use Rattle.plan.proofs.reader.read_jobs.Invariants.{Begun}

begin : (form : ℕ) (s : List ℕ) (at jobs : ℕ) (plan : Sheet) → Begun form s at jobs plan plan at 0 0
begin form s at jobs plan =
    record {
      p = [];
      rest = rw sub-zero (go (jobs_at form s jobs 0 at));
      count = refl;
      all = refl;
      low = omega arith;
      near = omega arith;
      written = refl;
    }
  where
    go : (x : Step (List Job)) → x ≡ after [] x
    go (stop n) = refl
    go (step l n) = refl

module _ (form : ℕ) (s : List ℕ) (at jobs : ℕ) (plan₀ plan : Sheet) (place actions j : ℕ) (h : Begun form s at jobs plan₀ plan place actions j) (t : j < jobs) where
  here : jobs - j ≡ suc (jobs - (j + 1))
  here = omega arith

  stopped : (m : ℕ) → one_job_at form s actions place ≡ stop m → jobs_at form s jobs 0 at ≡ stop m
  stopped m e = h.rest ∙ rw here (jobs_stop form s h.p m (jobs - (j + 1)) actions place e)

  went_on : (plan' : Sheet) (job : Header) → JobRead form s place j actions plan plan' (Ok job) → Begun form s at jobs plan₀ plan' job.next job.size (j + 1)
  went_on plan' job (x, e, f, w) =
      let r = job_next form s actions place x job.next e in
      let a : 0 + total h.p ≡ actions = omega (arith, h.all) in
      let b : 0 + length h.p ≡ j = omega (arith, h.count) in
      record {
        p = h.p ++ (x ∷ []);
        rest = h.rest ∙ rw (here, f) (jobs_more form s h.p x (jobs - (j + 1)) actions place job.next e);
        count = omega (arith, h.count, length-append h.p (x ∷ []));
        all = omega (arith, h.all, total_append h.p (x ∷ []));
        low = omega (arith, r.1);
        near = omega (arith, r.2, h.near);
        written = w ∙ ap (λ q. with_job q actions j x) h.written ∙ sym (jobs_one_more plan₀ 0 0 h.p x ∙ rw (a, b));
      }

pub loop-j-init : goal.loop-j-init
loop-j-init c = begin _ _ _ _ _

pub read_job-requires : goal.read_job-requires
read_job-requires c =
    let h = c.loop-j.invariant in
    let p = c.requires in
    (omega (arith, h.near, h.low, p.0, p.1, c.loop-j-test.true), omega (arith, p.1, c.loop-j-test.true), h.low)

pub returns-in_err-job : goal.returns-in_err-job
returns-in_err-job c =
    let p = err_from_is_err_and c.from_residual.result c.from_residual.ensures.1 in
    rw (p.1, p.2) (ap (formed _) (stopped _ _ _ _ _ _ _ _ _ c.loop-j.invariant c.loop-j-test.true _ c.in_err-job.ensures))

pub loop-j-preserved : goal.loop-j-preserved
loop-j-preserved c = went_on _ _ _ _ _ _ _ _ _ c.loop-j.invariant c.loop-j-test.true _ _ c.in_ok-job.ensures

pub returns : goal.returns
unfolding jobs_at
returns c =
    let h = c.loop-j.invariant in
    let n : c.loop-j.j ≡ c.args.jobs = omega (arith, c.loop-j-test.false) in
    let m : c.args.jobs - c.loop-j.j ≡ 0 = omega (arith, n) in
    let a = c.args in
    let e : jobs_at a.form a.s.now a.jobs 0 a.at ≡ step h.p c.loop-j.next = h.rest ∙ rw (m, append-nil) in (
      a.form,
      h.p,
      ap (formed a.form) e,
      c.set_counts.ensures ∙ rw (h.written, h.all, sym n ∙ h.count),
    )
