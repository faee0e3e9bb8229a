-- Reading a plan and laying it below the new root, by what was read.
--   took_by    == what is told of it; read_few == it has at most 256 jobs and 2,048 actions
--   lays_by    == within the limits there is room for it
--   took_kept, took_few == what a caller has of the plan that was read
--   both_laid  == both plans laid, and the new root: the arrays have the result
use Prim.Native.Nat.{ℕ, ◌+◌, ◌≤◌}
use mathlib.Core.Path.{◌≡◌, refl, ap, ap₂, sym, ◌∙◌}
use mathlib.Core.Bool.{true}
use mathlib.Core.List.{List, ◌++◌}
use native.Mathlib.Omega.{arith}
use lib.Dec.{T}
use lib.ListN.{length}
use Rattle.plan.specs.declared.sheet.Sheet.{Sheet}
use Rattle.plan.specs.Plan.{Plan, total}
use Rattle.plan.specs.Found.{ReadPlan}
use Rattle.plan.specs.Progress.{with_job, with_jobs}
use Rattle.plan.specs.Rules.{Accepted}
use Rattle.plan.specs.Sheet.{with_counts, Blank, RuledIn}
use Rattle.plan.proofs.Laws.Accepted.{accepted_kept}
use Rattle.plan.proofs.Laws.Found.{counts_few}
use Rattle.plan.proofs.Laws.Lists.{of_true}
use Rattle.plan.proofs.Laws.Sheets.{jobs_append, laid_all}
use Rattle.plan.proofs.Laws.Valid.{jobs_range, total_range}
use Rattle.plan_pair.specs.Pair.{under, new_root, paired, pair_fits, in_limits}
use Rattle.plan_pair.specs.Given.{Lays, LaidBelow, Took}
use Rattle.plan_pair.proofs.Laws.Aside.{root_last}
use Rattle.plan_pair.proofs.Laws.Accepting.{fits_told, pair_accepted}
use Rattle.plan_pair.proofs.Laws.Limits.{limits_told, limits_less, fits_limits}
use Rattle.plan_pair.proofs.Laws.Pairing.{paired_length, paired_total}
use Rattle.plan_pair.proofs.Laws.Under.{under_length, under_total}

module _ {s : List ℕ} {plan : Sheet} {entering : List ℕ} (r : ReadPlan s plan entering) where
  pub took_by : {Left : Plan → Type 0} → Left r.is → Took s plan.form plan.jobs plan.actions Left
  took_by left = record { is = r.is; read = r.read; count = r.held.count; all = r.held.all; left = left }

  pub read_few : (plan.jobs ≤ 256) × (plan.actions ≤ 2048)
  read_few = counts_few plan r.is r.held

  module _ (frame d from : ℕ) where
    pub lays_by : in_limits frame (d + plan.jobs) (from + plan.actions) ≡ true → Lays d from plan r.is
    lays_by e =
        let w = limits_told frame (d + plan.jobs) (from + plan.actions) (of_true _ e) in
        record {
          rules = r.held.planned.rules;
          count = r.held.count;
          laid = r.held.planned.laid;
          jobs = omega (arith, w, r.held.count);
          actions = omega (arith, w, r.held.all);
        }

module _ {s : List ℕ} {form jobs actions : ℕ} {Left : Plan → Type 0} (k : Took s form jobs actions Left) where
  pub took_kept : Accepted k.is
  took_kept = accepted_kept s (record { form = form; plan = k.is }) k.read

  pub took_few : (jobs ≤ 256) × (actions ≤ 2048)
  took_few = omega (arith, k.count, k.all, jobs_range k.is took_kept, total_range k.is took_kept)

-- the arrays after both and the new root, where they were new
module _ (frame : ℕ) (p q : Plan) (sheet first second sheet' : Sheet) (blank : Blank sheet) (ok : Accepted p) (ok' : Accepted q)
    (fits : T (pair_fits frame (paired frame p q))) where
  kept : Accepted (paired frame p q)
  kept = pair_accepted frame p q ok ok' (fits_told frame (paired frame p q) fits)

  within : T (in_limits frame (1 + length p + length q) (5 + total p + total q))
  within = rw (fits_limits frame p q (1 + length p + length q) (5 + total p + total q) refl refl) fits

  laid_as : first ≡ with_jobs sheet 5 1 (under 1 p) → second ≡ with_jobs first (5 + total p) (1 + length p) (under (1 + length p) q)
      → sheet' ≡ with_job second 0 0 (new_root frame (length p))
      → (form : ℕ) → RuledIn (with_counts sheet' form (1 + length p + length q) (5 + total p + total q)) (paired frame p q)
  unfolding paired
  laid_as f g h form =
      let front = under 1 p in
      let back = under (1 + length p) q in
      let root = new_root frame (length p) in
      let k : 5 + total front ≡ 5 + total p = ap (λ n. 5 + n) (under_total 1 p) in
      let j : 1 + length front ≡ 1 + length p = ap (λ n. 1 + n) (under_length 1 p) in
      let w = limits_told frame _ _ within in
      let few : 1 + length (front ++ back) ≤ 256 = omega (arith, w, paired_length frame p q) in
      let room : 5 + total (front ++ back) ≤ 2048 = omega (arith, w, paired_total frame p q) in
      let below : second ≡ with_jobs sheet 5 1 (front ++ back)
      = g ∙ rw f (ap₂ (λ (x y : ℕ). with_jobs (with_jobs sheet 5 1 front) x y back) (sym k) (sym j)) ∙ sym (jobs_append sheet 5 1 front back) in
      let e : sheet' ≡ with_jobs sheet 0 0 (paired frame p q)
      = h ∙ rw below (sym (root_last 1 (front ++ back) (omega arith) 5 (omega arith) sheet frame (length p))) in
      let l = laid_all sheet (paired frame p q) form blank kept.range in
      let a : 1 + length p + length q ≡ length (paired frame p q) = sym (paired_length frame p q) in
      let b : 5 + total p + total q ≡ total (paired frame p q) = sym (paired_total frame p q) in
      rw (e, a, b) (record { count = l.count; all = l.all; rules = kept; laid = l.laid })

  pub both_laid : (jobs actions more further : ℕ) → jobs ≡ length p → actions ≡ total p → more ≡ length q → further ≡ total q
      → LaidBelow frame 1 5 sheet first p → LaidBelow frame (1 + jobs) (5 + actions) first second q
      → sheet' ≡ with_job second 0 0 (new_root frame jobs)
      → (form : ℕ) → RuledIn (with_counts sheet' form (1 + jobs + more) (5 + actions + further)) (paired frame p q)
  both_laid jobs actions more further a b c d f g h form =
      rw (a, b, c, d) (laid_as (f (limits_less frame _ _ _ _ within (omega arith) (omega arith))) (rw (a, b) at g within) (rw a at h) form)
