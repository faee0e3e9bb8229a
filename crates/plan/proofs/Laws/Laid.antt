-- What stands in a plan's arrays, by job and position.
use Prim.Native.Nat.{ℕ, suc, ◌+◌, ◌<◌}
use mathlib.Core.Path.{◌≡◌, ap, ◌∙◌}
use Rattle.plan.specs.declared.sheet.Sheet.{Sheet}
use native.Mathlib.Numerals.{add-one}
use lib.ListN.{length}
use Rattle.plan.specs.Plan.{Plan, size, action}
use Rattle.plan.specs.Sheet.{child_at, target_at, job_at, cost_at, first_of, Laid}
use Rattle.plan.proofs.Laws.Placed.{start, placed_at, place_below, start_suc}

module _ (plan : Sheet) (p : Plan) (g : Laid plan p) (j : ℕ) (h : j < length p) where
  pub laid_end : first_of plan (j + 1) ≡ start p j + size p j
  laid_end = ap (first_of plan) (add-one j) ∙ g.firsts (suc j) h ∙ start_suc p j h

  module _ (i : ℕ) (b : i < size p j) where
    pub laid_owner : job_at plan (start p j + i) ≡ j
    laid_owner = g.owners (start p j + i) (place_below p j i h b) ∙ ap (λ a. a.job) (placed_at p j i h b)

    pub laid_child : child_at plan (start p j + i) ≡ (action p j i).spawn
    laid_child = g.children (start p j + i) (place_below p j i h b) ∙ ap (λ a. a.spawn) (placed_at p j i h b)

    pub laid_target : target_at plan (start p j + i) ≡ (action p j i).join
    laid_target = g.targets (start p j + i) (place_below p j i h b) ∙ ap (λ a. a.join) (placed_at p j i h b)

    pub laid_cost : cost_at plan (start p j + i) ≡ (action p j i).cost
    laid_cost = g.costs (start p j + i) (place_below p j i h b) ∙ ap (λ a. a.cost) (placed_at p j i h b)
