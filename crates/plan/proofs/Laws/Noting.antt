-- A plan's arrays with a spawn noted: what is noted there, and that all else stays.
use Prim.Native.Nat.{ℕ, ◌≤◌, ◌<◌}
use mathlib.Core.Path.{◌≡◌, ◌∙◌}
use mathlib.Core.Logic.{◌≢◌}
use native.Mathlib.Omega.{arith}
use lib.ListN.{length, length-set}
use lib.Seq.{get_or-set_same, get_or-set_other}
use Rattle.plan.specs.declared.sheet.Sheet.{Sheet}
use Rattle.plan.specs.Plan.{Plan}
use Rattle.plan.specs.Sheet.{parent_of, spawn_of, with_spawner, Laid}
use Rattle.plan.proofs.Laws.Spawning.{jobs_in_range}

module _ (plan : Sheet) (p : Plan) (g : Laid plan p) (c q x : ℕ) (h : c < length p) where
  few : length p ≤ 256
  few = (jobs_in_range p g.range).1

  pub noted_parent : parent_of (with_spawner plan c q x) c ≡ q
  noted_parent = get_or-set_same plan.parents c q 0 (omega (arith, g.sized.parents, few))

  pub noted_spawn : spawn_of (with_spawner plan c q x) c ≡ x
  noted_spawn = get_or-set_same plan.spawns c x 0 (omega (arith, g.sized.spawns, few))

  -- the parents and spawns of other jobs
  pub noted_other : (d : ℕ) → d ≢ c → (parent_of (with_spawner plan c q x) d ≡ parent_of plan d) × (spawn_of (with_spawner plan c q x) d ≡ spawn_of plan d)
  noted_other d n = (get_or-set_other plan.parents c d q 0 n, get_or-set_other plan.spawns c d x 0 n)

  -- they have the same jobs and actions
  pub noted_laid : Laid (with_spawner plan c q x) p
  noted_laid =
      let s = g.sized in
      record {
        sized = record {
          children = s.children;
          targets = s.targets;
          owners = s.owners;
          costs = s.costs;
          frames = s.frames;
          firsts = s.firsts;
          parents = length-set plan.parents c q ∙ s.parents;
          spawns = length-set plan.spawns c x ∙ s.spawns;
        };
        range = g.range;
        frames = g.frames;
        firsts = g.firsts;
        owners = g.owners;
        children = g.children;
        targets = g.targets;
        costs = g.costs;
      }
