-- `measure::time_job` meets its contract: before each action the times of those before it and when joins came are known.
use Prim.Native.Nat.{◌<◌}
use native.Mathlib.Omega.{arith}
use lib.ListN.{length, length-set}
use lib.Seq.{get_or-set_same, get_or-set_other}
use Rattle.plan_measure.specs.Times.{at}
use Rattle.plan_measure.proofs.Laws.Largest.{max_told}
use Rattle.plan_measure.proofs.Laws.Clock.{job_places, place_first, place_last, place_small, place_given, place_next}
use Rattle.plan_measure.proofs.time_job.Goals as goal

pub loop-k-init : goal.loop-k-init
loop-k-init c =
    let (of, g) = c.requires in
    let b = job_places _ _ _ _ _ of g in
    (g.long.0, g.long.1, b.1, λ of g. place_first _ _ _ _ _ of g)

pub overflow_add-done : goal.overflow_add-done
overflow_add-done c =
    let (of, g) = c.requires in
    omega (
      arith,
      max_told,
      c.cost_at.ensures.0,
      place_small _ _ _ _ _ of g _ _ _ _ c.loop-k.auto.k (omega arith) (c.loop-k.invariant.3 of g),
    )

pub pass_child-requires : goal.pass_child-requires
pass_child-requires c =
    let (of, g) = c.requires in (
      c.loop-k.invariant.1,
      place_given _ _ _ _ _ of g _ _ (at c.loop-k.time) _ c.loop-k.auto.k (omega arith) (c.loop-k.invariant.3 of g)
          _ (omega (arith, max_told, c.cost_at.ensures.0)) _
          (get_or-set_same c.loop-k.time _ _ 0 (omega arith)) (λ n d. get_or-set_other c.loop-k.time _ n _ 0 d),
    )

pub loop-k-preserved : goal.loop-k-preserved
loop-k-preserved c =
    let b : c.loop-k.k < length c.loop-k.time = omega arith in
    let h : c.loop-k.k < c.args.end = omega arith in (
      simp length-set c.loop-k.invariant.0,
      c.pass_child.ensures.0,
      c.loop-k.invariant.2,
      λ of g.
          place_next _ _ _ _ _ of g _ _ (at c.loop-k.time) _ c.loop-k.auto.k h (c.loop-k.invariant.3 of g)
          _ (omega (arith, max_told, c.cost_at.ensures.0)) _
          (get_or-set_same c.loop-k.time _ _ 0 b) (λ n d. get_or-set_other c.loop-k.time _ n _ 0 d) _ c.pass_child.ensures.1,
    )

pub returns : goal.returns
returns c =
    let l = c.loop-k in
    λ of g. place_last _ _ _ _ _ of g l.k _ _ _ (omega (arith, (job_places _ _ _ _ _ of g).0)) l.invariant.0 l.invariant.1 (l.invariant.3 of g)
