-- `reader::read_into` meets its contract: what it answers at each test is what `read_plan` gives there, and where it accepts, the
-- array holds the plan that `plan_at` reads.
use Prim.Native.Nat.{ℕ, ◌*◌, ◌^◌, ◌≤◌, ◌<◌}
use mathlib.Core.Path.{◌≡◌, sym, ◌∙◌}
use mathlib.Core.Bool.{Bool, true, false}
use mathlib.Core.List.{List}
use lib.ListN.{length}
use lib.Dec.{T}
use Rattle.std.specs.Prelude.{Ok}
use Rattle.std.proofs.lemmas.Result.{err_from_is_err_and}
use Rattle.plan.specs.declared.sheet.Sheet.{Sheet}
use Rattle.plan.specs.Refusal.{refused}
use Rattle.plan.specs.Plan.{Plan}
use Rattle.fields.specs.Field.{step}
use Rattle.plan.specs.Rules.{spawn_rules, join_rules}
use Rattle.plan.specs.Reader.{Read, plan_at, fills, read_plan}
use Rattle.plan.specs.Sheet.{LaidIn, SpawnedIn}
use Rattle.plan.specs.Entering.{Entered}
use Rattle.plan.specs.Progress.{PlanRead}
use Rattle.plan.specs.Found.{ReadPlan}
use Rattle.plan.proofs.Laws.Steps.{plan_next}
use Rattle.plan.proofs.Laws.Accepted.{read_stop, read_fill, read_spawn, read_join, read_all}
use Rattle.plan.proofs.Laws.Sheets.{laid_all, planned_by}
use Rattle.plan.proofs.reader.read_into.Goals as goal
use Rattle.plan.proofs.reader.read_into.Goals.{In_ok-end}

-- the plan that was read
record Body-read (s : List ℕ) (next : ℕ) (plan : Sheet) : Type 0 where
  p : Plan
  is : plan_at s ≡ step (record { form = plan.form; plan = p }) next
  laid : LaidIn plan p

module _ (s : List ℕ) (next : ℕ) (plan : Sheet) (b : Body-read s next plan) where
  abbrev read : Read
  read = record { form = plan.form; plan = b.p }

  ends : (next < 2 ^ 16) × (next ≤ 8 * length s)
  ends = let r = plan_next s read next b.is in (r.1, r.2)

  module _ (full : Bool) (e : full ≡ fills s next) where
    no_fill : full ≡ false → read_plan s ≡ refused 6
    no_fill f = read_fill s read next b.is (sym e ∙ f)

    module _
        (f : full ≡ true)
        (kept : Bool)
        (plan' : Sheet)
        (same : plan'.form ≡ plan.form)
        (q : (p : Plan) → LaidIn plan p → (kept ≡ spawn_rules p) × (T kept → SpawnedIn plan' p)) where
      filled : fills s next ≡ true
      filled = sym e ∙ f

      no_spawns : kept ≡ false → read_plan s ≡ refused 4
      no_spawns g = read_spawn s read next b.is filled (sym (q b.p b.laid).0 ∙ g)

      module _ (g : kept ≡ true) where
        keeps_spawns : spawn_rules b.p ≡ true
        keeps_spawns = sym (q b.p b.laid).0 ∙ g

        spawned : SpawnedIn plan' b.p
        spawned = (q b.p b.laid).1 (rw g tt)

        module _
            (kept' : Bool)
            (entering : List ℕ)
            (q' : (p : Plan) → SpawnedIn plan' p → (kept' ≡ join_rules p) × (T kept' → Entered p entering × (length entering ≡ 2048))) where
          no_joins : kept' ≡ false → read_plan s ≡ refused 5
          no_joins h = read_join s read next b.is filled keeps_spawns (sym (q' b.p spawned).0 ∙ h)

          all_kept : kept' ≡ true → ReadPlan s plan' entering
          unfolding read_plan
          all_kept h =
              let j : join_rules b.p ≡ true = sym (q' b.p spawned).0 ∙ h in
              let r = (q' b.p spawned).1 (rw h tt) in
              record {
                is = b.p;
                read = rw same (read_all s read next b.is filled keeps_spawns j);
                held = planned_by plan' b.p spawned (rw j tt);
                entered = r.0;
                whole = r.1;
              }

-- the arrays that `read_body` leaves have the plan read
body_read : (c : In_ok-end) → Body-read c.args.s.now c.in_ok-end.end c.read_body.new.plan
body_read c = go c.in_ok-end.ensures
  where
    go : PlanRead (plan_at c.args.s.now) c.args.plan.now c.read_body.new.plan (Ok c.in_ok-end.end)
        → Body-read c.args.s.now c.in_ok-end.end c.read_body.new.plan
    go (form, p, e, w) =
        rw w (record { p = p; is = e; laid = laid_all c.args.plan.now p form c.requires.0 (plan_next _ _ _ e).0 })

pub filled-requires : goal.filled-requires
filled-requires c = ends _ _ _ (body_read (goal.at.filled-requires c).In_ok-end)

pub returns-then-not-filled : goal.returns-then-not-filled
unfolding read_plan
returns-then-not-filled c =
    no_fill _ _ _ (body_read (goal.at.returns-then-not-filled c).In_ok-end) _ c.filled.ensures c.if-not-filled.true

pub spawn_rules-requires : goal.spawn_rules-requires
spawn_rules-requires c =
    let b = body_read (goal.at.spawn_rules-requires c).In_ok-end in
    (b.p, b.laid)

pub returns-then-not-spawn_rules : goal.returns-then-not-spawn_rules
unfolding read_plan
returns-then-not-spawn_rules c =
    no_spawns _ _ _ (body_read (goal.at.returns-then-not-spawn_rules c).In_ok-end) _ c.filled.ensures c.if-not-filled.false _ _ c.spawn_rules.ensures.same_form c.spawn_rules.ensures.told c.if-not-spawn_rules.true

pub join_rules-requires : goal.join_rules-requires
join_rules-requires c =
    let b = body_read (goal.at.join_rules-requires c).In_ok-end in
    ((b.p, spawned _ _ _ b _ c.filled.ensures c.if-not-filled.false _ _ c.spawn_rules.ensures.same_form c.spawn_rules.ensures.told c.if-not-spawn_rules.false), c.requires.1)

pub returns-then-not-join_rules : goal.returns-then-not-join_rules
unfolding read_plan
returns-then-not-join_rules c =
    no_joins _ _ _ (body_read (goal.at.returns-then-not-join_rules c).In_ok-end) _ c.filled.ensures c.if-not-filled.false _ _ c.spawn_rules.ensures.same_form c.spawn_rules.ensures.told c.if-not-spawn_rules.false _ _ c.join_rules.ensures c.if-not-join_rules.true

pub returns-in_err-end : goal.returns-in_err-end
unfolding read_plan
returns-in_err-end c =
    let p = err_from_is_err_and c.from_residual.result c.from_residual.ensures.1 in
    rw (p.1, p.2) (read_stop c.args.s.now _ c.in_err-end.ensures)

pub returns : goal.returns
returns c =
    all_kept _ _ _ (body_read (goal.at.returns c).In_ok-end) _ c.filled.ensures c.if-not-filled.false _ _ c.spawn_rules.ensures.same_form c.spawn_rules.ensures.told c.if-not-spawn_rules.false _ _ c.join_rules.ensures c.if-not-join_rules.false
