-- The pair of two accepted plans, within the limits, is accepted.
--   Within frame r == what the test of 17 tells: fits_told
--   pair_accepted  == the pair keeps all rules
use Prim.Native.Nat.{ℕ, ◌+◌, ◌≤◌, ◌<◌}
use native.Mathlib.Omega.{arith}
use lib.Dec.{T}
use lib.ListN.{length}
use Rattle.plan.specs.Plan.{Job, Plan, job, size, action, total}
use Rattle.plan.specs.Rules.{in_range, Accepted}
use Rattle.plan.proofs.Laws.Ruling.{ranged_by}
use Rattle.plan.proofs.Laws.Spawning.{cost_in_range_lem}
use Rattle.plan.proofs.Laws.Valid.{size_range, frame_range}
use Rattle.plan_pair.specs.Pair.{paired, pair_fits, in_limits}
use Rattle.plan_pair.proofs.Laws.Limits.{limits_told}
use Rattle.plan_pair.proofs.Laws.Pairing.{Part, part_size, part_frame, part_cost, Whose, top, mine, theirs, Pairing, paired_pairing, paired_length}
use Rattle.plan_pair.proofs.Laws.Spawns.{pair_spawns}
use Rattle.plan_pair.proofs.Laws.Joins.{pair_joins}

pub record Within (frame : ℕ) (r : Plan) : Type 0 where
  pub some : 1 ≤ frame
  pub word : frame ≤ 65535
  pub jobs : length r ≤ 256
  pub actions : total r ≤ 2048

pub fits_told : (frame : ℕ) (r : Plan) → T (pair_fits frame r) → Within frame r
unfolding pair_fits in_limits
fits_told frame r t =
    let (a, b, c, d) = limits_told frame (length r) (total r) t in
    record { some = a; word = b; jobs = c; actions = d }

-- the numbers of a job
abbrev InRange : Job → Type 0
InRange b = (1 ≤ b.frame) × (b.frame ≤ 65535) × (1 ≤ length b.actions) × (length b.actions ≤ 255)

module _ {d s : ℕ} {p r : Plan} (t : Part d s p r) (ok : Accepted p) (k : ℕ) (h : k < length p) where
  part_range : InRange (job r (d + k))
  part_range = omega (arith, frame_range p ok k h, size_range p ok k h, part_frame t k h, part_size t k h)

  part_costs : (i : ℕ) → i < size r (d + k) → (1 ≤ (action r (d + k) i).cost) × ((action r (d + k) i).cost ≤ 15)
  part_costs i l = omega (arith, part_cost t k h i, cost_in_range_lem p ok.range k h i (omega (arith, part_size t k h)))

module _ (frame : ℕ) (p q : Plan) (ok : Accepted p) (ok' : Accepted q) (w : Within frame (paired frame p q)) where
  abbrev r : Plan
  r = paired frame p q

  t : Pairing 1 (1 + length p) 0 2 p q r
  t = paired_pairing frame p q

  each_range : (j : ℕ) → Whose 1 (1 + length p) p q j → InRange (job r j)
  unfolding paired
  each_range j (top x) = rw x (w.some, w.word, omega arith, omega arith)
  each_range j (mine k h x) = rw x (part_range t.one ok k h)
  each_range j (theirs k h x) = rw x (part_range t.two ok' k h)

  each_cost : (j i : ℕ) → i < size r j → Whose 1 (1 + length p) p q j → (1 ≤ (action r j i).cost) × ((action r j i).cost ≤ 15)
  each_cost j i l (top x) = rw x (omega (arith, t.costs_one i (omega (arith, rw x at l, t.five))))
  each_cost j i l (mine k h x) = rw x (part_costs t.one ok k h i (rw x at l))
  each_cost j i l (theirs k h x) = rw x (part_costs t.two ok' k h i (rw x at l))

  pair_range : T (in_range r)
  pair_range =
      ranged_by r (omega (arith, paired_length frame p q)) w.jobs (λ j h. each_range j (t.whose j h)) (λ j i h l. each_cost j i l (t.whose j h))
      w.actions

  pub pair_accepted : Accepted r
  pair_accepted = record {
    range = pair_range;
    spawns = pair_spawns t ok ok';
    joins = pair_joins t ok ok';
  }
