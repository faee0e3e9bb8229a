-- `measure::heaviest` meets its contract: path weights are filled in from the root on, since parents are below children.
use Prim.Native.Nat.{◌<◌}
use mathlib.Core.Path.{◌≡◌, refl, ap, ◌∙◌}
use native.Mathlib.Omega.{arith}
use lib.ListN.{length, length-set}
use lib.Seq.{get_or-set_same, get_or-set_other}
use Rattle.plan.specs.Plan.{Plan, job, parent}
use Rattle.plan_measure.specs.Measure.{heaviest}
use Rattle.plan_measure.specs.Times.{at, PlanOf}
use Rattle.plan.proofs.Laws.Valid.{older, jobs_range}
use Rattle.plan_measure.proofs.Laws.Paths.{weighed_root, weighed_more, path_small}
use Rattle.plan_measure.proofs.heaviest.Goals as goal
use Rattle.plan_measure.proofs.heaviest.Goals.{After-frame_of}

pub loop-j-init : goal.loop-j-init
loop-j-init c =
    let (p, g) = c.requires in
    let r = jobs_range p g.planned.rules in (
      omega (arith, g.count),
      refl,
      λ p g.
          let ok = g.planned.rules in
          weighed_root p ok _ _ (c.frame_of-root.ensures.0 ∙ g.planned.laid.frames 0 (jobs_range p ok).0) refl,
    )

-- the parent of the job that the loop is at, which stands below it
parent-here : (c : After-frame_of) (p : Plan)
    → PlanOf c.args.plan.now p
    → (c.parent_of-q.result ≡ parent p c.loop-j.j)
    × (parent p c.loop-j.j < c.loop-j.j)
parent-here c p g =
    let l = c.loop-j in
    let b : l.j < length p = omega (arith, g.count, c.loop-j-test.true) in
    (c.parent_of-q.ensures.0 ∙ g.planned.spawned.parents l.j c.loop-j.auto.j b, older p g.planned.rules l.j c.loop-j.auto.j b)

pub bounds-path-q : goal.bounds-path-q
bounds-path-q c =
    let (p, g) = c.requires in
    omega (arith, parent-here c p g, c.loop-j-test.true, c.loop-j.invariant)

pub overflow_add-weight : goal.overflow_add-weight
overflow_add-weight c =
    let l = c.loop-j in
    let (p, g) = c.requires in
    let (q, o) = parent-here c p g in
    let b : l.j < length p = omega (arith, g.count, c.loop-j-test.true) in
    omega (
      arith,
      c.frame_of.ensures,
      ap (at l.path) q,
      (l.invariant.2 p g).weights (parent p l.j) o,
      path_small p g.planned.rules (parent p l.j) (omega arith),
      jobs_range p g.planned.rules,
    )

pub loop-j-preserved : goal.loop-j-preserved
loop-j-preserved c =
    let l = c.loop-j in
    let taken = c.loop-j-test.true in (
      l.invariant.0,
      simp length-set l.invariant.1,
      λ p g.
          let ok = g.planned.rules in
          let b : l.j < length p = omega (arith, g.count) in
          let (q, o) = parent-here (goal.at.loop-j-preserved c).After-frame_of p g in
          let f : c.frame_of.result ≡ (job p l.j).frame = c.frame_of.ensures.0 ∙ g.planned.laid.frames l.j b in
          rw c.max-most.ensures (weighed_more p ok l.j l.most _ (at l.path) _ (l.invariant.2 p g) c.loop-j.auto.j b
          (omega (arith, f, ap (at l.path) q)) (get_or-set_same l.path l.j _ 0 (omega (arith, l.invariant, taken)))
          (λ k h. get_or-set_other l.path l.j k _ 0 (omega arith))),
    )

pub returns : goal.returns
unfolding heaviest
returns c = λ p g.
    let e : c.loop-j.j ≡ length p = omega (arith, g.count, c.loop-j-test.false, jobs_range p g.planned.rules) in
    rw e at (c.loop-j.invariant.2 p g).largest
