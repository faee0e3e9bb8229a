-- `plan_table::close` meets its contract: each answer by what the rules and the writer tell of the plan.
use mathlib.Core.Path.{refl, sym, ◌∙◌}
use Rattle.plan.specs.Plan.{Plan}
use Rattle.plan.specs.Sheet.{PlanIn}
use Rattle.plan_table.specs.GivenRows.{LaidAs}
use Rattle.plan.proofs.Laws.Found.{ruled_in}
use Rattle.plan.proofs.Laws.Lists.{of_true}
use Rattle.plan.proofs.Laws.Sheets.{planned_by}
use Rattle.plan_table.proofs.Laws.Answers.{encoded_spawns, encoded_joins, encoded_plan}
use Rattle.plan_table.proofs.close.Goals as goal
use Rattle.plan_table.proofs.close.Goals.{Else-not-join_rules}

-- both rules hold
planned : (c : Else-not-join_rules) (p : Plan) → LaidAs c.args.plan.now p → PlanIn c.spawn_rules.new.plan p
planned c p g =
    let h = (c.spawn_rules.ensures.told p g.held).1 (of_true _ c.if-not-spawn_rules.false) in
    planned_by _ p h (of_true _ (sym (c.join_rules.ensures p h).0 ∙ c.if-not-join_rules.false))

pub spawn_rules-requires : goal.spawn_rules-requires
spawn_rules-requires c = let q = c.requires in (q.0, q.1.held)

pub returns-then-not-spawn_rules : goal.returns-then-not-spawn_rules
returns-then-not-spawn_rules c p g =
    encoded_spawns _ p _ g.held.laid.range g.costs (sym (c.spawn_rules.ensures.told p g.held).0 ∙ c.if-not-spawn_rules.true)

pub join_rules-requires : goal.join_rules-requires
join_rules-requires c =
    let (p, g) = c.requires in
    ((p, (c.spawn_rules.ensures.told p g.held).1 (of_true _ c.if-not-spawn_rules.false)), refl)

pub returns-then-not-join_rules : goal.returns-then-not-join_rules
returns-then-not-join_rules c p g =
    let h = (c.spawn_rules.ensures.told p g.held).1 (of_true _ c.if-not-spawn_rules.false) in
    encoded_joins _ p _ g.held.laid.range g.costs h.parented.rules (sym (c.join_rules.ensures p h).0 ∙ c.if-not-join_rules.true)

pub encode-requires : goal.encode-requires
encode-requires c =
    let (p, g) = c.requires in
    ((p, ruled_in (planned (goal.at.encode-requires c).Else-not-join_rules p g)), rw c.spawn_rules.ensures.same_form g.byte)

pub returns : goal.returns
returns c p g =
    let h = planned (goal.at.returns c).Else-not-join_rules p g in
    rw c.spawn_rules.ensures.same_form at (c.encode.ensures p (ruled_in h)) ∙ encoded_plan _ p _ h.planned.rules g.costs
