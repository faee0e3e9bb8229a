-- The numbers of a plan that keeps the rules fit the fields of its bytes and the columns of its table.
use Prim.Native.Nat.{ℕ, zero, suc, ◌-◌, ◌≤◌, ◌<◌}
use native.Mathlib.Omega.{arith}
use mathlib.Core.Bool.{Bool, true}
use mathlib.Core.List.{List, [], ◌∷◌, ◌++◌}
use lib.ListN.{length, get_or}
use lib.Dec.{T, eqb, leb, ltb, ltb→lt, leb→le, le→leb}
use Rattle.plan.specs.Test.{both, all, below}
use Rattle.plan.specs.Plan.{Action, Job, Plan, Placed, no_placed, size, action, placed_in, placed_from, placed, parent, spawn_at}
use Rattle.plan.specs.Rules.{
  cost_in_range,
  job_in_range,
  in_range,
  spawn_fits,
  spawned_once,
  spawn_rules,
  join_fits,
  few_enter,
  last_sends,
  join_rules,
}
use Rattle.plan.proofs.Laws.Lists.{both_intro, both_left, both_right, all_at, all_by}
use Rattle.plan.proofs.Laws.Spawning.{job_in_range_lem, costs_in_range, each_in_range, jobs_in_range}

abbrev pub Small : List Action → Type 0
Small [] = Unit {0}
Small (a ∷ l) = (a.spawn ≤ 256) × (a.join ≤ 256) × (1 ≤ a.cost) × (a.cost ≤ 15) × Small l

pub record JobFits (b : Job) : Type 0 where
  pub some_frame : 1 ≤ b.frame
  pub frame : b.frame < 65536
  pub some_action : 1 ≤ length b.actions
  pub actions : length b.actions < 256
  pub small : Small b.actions

abbrev pub Fits : List Job → Type 0
Fits [] = Unit {0}
Fits (b ∷ bs) = JobFits b × Fits bs

abbrev placed_small : Placed → Bool
placed_small a = both (leb a.spawn 256) (leb a.join 256)

all_front : {A : Type 0} (f : A → Bool) (l r : List A) → T (all f (l ++ r)) → T (all f l)
all_front f [] r t = tt
all_front f (x ∷ l) r t =
    both_intro (f x) (all f l) (both_left (f x) (all f (l ++ r)) t) (all_front f l r (both_right (f x) (all f (l ++ r)) t))

all_back : {A : Type 0} (f : A → Bool) (l r : List A) → T (all f (l ++ r)) → T (all f r)
all_back f [] r t = t
all_back f (x ∷ l) r t = all_back f l r (both_right (f x) (all f (l ++ r)) t)

actions_small : (j i : ℕ) (l : List Action) → T (all cost_in_range l) → T (all placed_small (placed_in j i l)) → Small l
actions_small j i [] c t = tt
actions_small j i (a ∷ l) c t =
    let rest = all placed_small (placed_in j (suc i) l) in
    let b = both_left (both (leb a.spawn 256) (leb a.join 256)) rest t in
    let d = both_left (cost_in_range a) (all cost_in_range l) c in (
      leb→le a.spawn 256 (both_left (leb a.spawn 256) (leb a.join 256) b),
      leb→le a.join 256 (both_right (leb a.spawn 256) (leb a.join 256) b),
      leb→le 1 a.cost (both_left (leb 1 a.cost) (leb a.cost 15) d),
      leb→le a.cost 15 (both_right (leb 1 a.cost) (leb a.cost 15) d),
      actions_small j (suc i) l (both_right (cost_in_range a) (all cost_in_range l) c) (both_right (both (leb a.spawn 256) (leb a.join 256)) rest t),
    )

jobs_fit : (j : ℕ) (p : List Job) → T (all job_in_range p) → T (all placed_small (placed_from j p)) → Fits p
jobs_fit j [] r t = tt
jobs_fit j (b ∷ bs) r t =
    let f = job_in_range_lem b (both_left (job_in_range b) (all job_in_range bs) r) in (
      record {
        some_frame = f.0;
        frame = omega (arith, f);
        some_action = f.2;
        actions = omega (arith, f);
        small = actions_small j 0 b.actions (costs_in_range b (both_left (job_in_range b) (all job_in_range bs) r)) (all_front placed_small (placed_in j 0 b.actions) (placed_from (suc j) bs) t);
      },
      jobs_fit (suc j) bs (both_right (job_in_range b) (all job_in_range bs) r) (all_back placed_small (placed_in j 0 b.actions) (placed_from (suc j) bs) t),
    )

size_few : (p : List Job) → T (all job_in_range p) → (q : ℕ) → size p q < 256
size_few [] r q = omega arith
size_few (b ∷ bs) r zero = omega (arith, job_in_range_lem b (both_left (job_in_range b) (all job_in_range bs) r))
size_few (b ∷ bs) r (suc q) = size_few bs (both_right (job_in_range b) (all job_in_range bs) r) q

spawn_small : (jobs : ℕ) (a : Placed) → jobs ≤ 256 → T (spawn_fits jobs a) → a.spawn ≤ 256
spawn_small jobs a h t = go a.spawn t
  where
    go : (c : ℕ) → T (elim c [ zero ↦ true | suc c ↦ both (leb 1 c) (both (ltb c jobs) (ltb a.job c)) ]) → c ≤ 256
    go zero t = omega arith
    go (suc c) t =
        let b = both_right (leb 1 c) (both (ltb c jobs) (ltb a.job c)) t in
        let l = ltb→lt c jobs (both_left (ltb c jobs) (ltb a.job c) b) in
        omega arith

join_small : (p : Plan) (a : Placed) → ((q : ℕ) → size p q < 256) → T (join_fits p a) → a.join ≤ 256
join_small p a h t = go a.join t
  where
    q : ℕ
    q = parent p a.job

    later : ℕ → Bool
    later t = both (ltb (spawn_at p a.job) t) (eqb (action p q (t - 1)).spawn 0)

    go : (t : ℕ) → T (elim t [ zero ↦ true | suc t ↦ both (leb 1 a.job) (both (ltb t (size p q)) (later t)) ]) → t ≤ 256
    go zero t = omega arith
    go (suc t) b =
        let l = ltb→lt t (size p q) (both_left (ltb t (size p q)) (later t) (both_right (leb 1 a.job) (both (ltb t (size p q)) (later t)) b)) in
        omega (arith, h q)

pub plan_fits : (p : Plan) → T (in_range p) → T (spawn_rules p) → T (join_rules p) → Fits p
unfolding spawn_rules join_rules
plan_fits p r s j = jobs_fit 0 p each (all_by placed_small (placed p) no_placed small)
  where
    each : T (all job_in_range p)
    each = each_in_range p r

    small : (k : ℕ) → k < length (placed p) → T (placed_small (get_or (placed p) k no_placed))
    small k h =
        let a = get_or (placed p) k no_placed in
        let x = all_at (spawn_fits (length p)) (placed p) (both_left (all (spawn_fits (length p)) (placed p)) (all (spawned_once p) (below (length p))) s) no_placed k h in
        let y = all_at (λ a. both (join_fits p a) (both (few_enter p a) (last_sends p a))) (placed p) j no_placed k h in
        both_intro (leb a.spawn 256) (leb a.join 256)
        (le→leb a.spawn 256 (spawn_small (length p) a (jobs_in_range p r).1 x))
        (le→leb a.join 256 (join_small p a (size_few p each) (both_left (join_fits p a) (both (few_enter p a) (last_sends p a)) y)))
