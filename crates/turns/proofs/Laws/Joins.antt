-- An action that is done over the arrays: it is counted, and its join is taken from those that are missing.
--   finish_job, finish_room           == the job has an action left, and its number and place are small
--   finish_counts                     == the action can be counted
--   finish_skips                      == the action sends no join
--   finish_parent, finish_place       == the parent's number is small, and at the place of the target a join is missing
--   finish-sent                       == the join is sent
--   finish_stalls, finish_told        == it was not the last one missing; it was, and whether it was to the parent's next action
use Prim.Native.Nat.{ℕ, suc, ◌+◌, ◌-◌, ◌≤◌, ◌<◌}
use mathlib.Core.Path.{◌≡◌, refl, ap, ap₂, sym, ◌∙◌}
use mathlib.Core.Logic.{◌≢◌, by_cases}
use mathlib.Core.Bool.{false}
use native.Mathlib.Omega.{arith}
use native.Mathlib.Decide.{ℕ_discrete}
use lib.Dec.{T, eqb, eqb→eq, eqb_refl}
use lib.ListN.{length, get_or, length-set}
use lib.Seq.{get_or-set_same, get_or-set_other}
use Rattle.plan.specs.Plan.{Plan, size, action, total, parent}
use Rattle.plan.specs.Rules.{Accepted}
use Rattle.plan.specs.declared.sheet.Sheet.{Sheet}
use Rattle.plan.specs.Sheet.{first_of, target_at, parent_of}
use Rattle.plan.proofs.Laws.Counts.{equal_tests}
use Rattle.plan.proofs.Laws.Laid.{laid_target}
use Rattle.plan.proofs.Laws.Lists.{false_of}
use Rattle.plan.proofs.Laws.Placed.{place_below}
use Rattle.plan.proofs.Laws.Valid.{jobs_range, size_range, total_range, older, join_target}
use Rattle.courses.specs.Row.{place}
use Rattle.courses.proofs.Laws.Course.{place_apart}
use Rattle.courses.proofs.Laws.PlanShape.{shape}
use Rattle.lines.proofs.Laws.Act.{Wakes}
use Rattle.runs.specs.Turn.{wakes}
use Rattle.runs.proofs.Laws.Waking.{woken_is, woken_by}
use Rattle.turns.specs.Finish.{Deed, done_in, after_in, Finishing, Finished}
use Rattle.turns.specs.declared.progress.Progress.{Progress}
use Rattle.turns.specs.Progress.{done_of, with_done, missing_at, with_missing, missing_to, Sized, Progressed, spent_at}
use Rattle.turns.proofs.Laws.Missing.{missing_none, missing_no, missing_sent, missing_kept}

module _ {k j : ℕ} {plan : Sheet} {progress : Progress} {d : Deed} (g : Finishing k j plan progress d) where
  abbrev p : Plan
  p = d.plan

  abbrev i : ℕ
  i = done_in d j

  ok : Accepted p
  ok = g.planned.rules

  pub finish_job : (j < length p) × (i < size p j)
  finish_job = (g.act.lives.below, g.act.lives.left)

  pub finish_room : (j < 256) × (k < total p) × (k < 2048) × (i < 255)
  finish_room =
      let (h, l) = finish_job in
      let below = place_below p j i h l in
      omega (arith, size_range p ok j h, jobs_range p ok, total_range p ok, g.here)

  target_is : target_at plan k ≡ (action p j i).join
  target_is = rw g.here (laid_target plan p g.planned.laid j finish_job.0 i finish_job.1)

  pub finish_counts : (j < 256) × (done_of progress j < 255)
  finish_counts = omega (arith, finish_room, g.progressed.counts j finish_job.0)

  Woken : Type 0
  Woken = Wakes (shape p) (done_in d) (λ h. get_or (after_in d j) h 0) j

  none_woken : (Woken → ⊥) → false ≡ wakes p d.next (after_in d j) j i
  unfolding Woken
  none_woken f = sym (false_of _ (λ t. f (woken_is ok d.next (after_in d j) g.act t)))

  kept : (h x : ℕ) → ((h ≡ parent p j) × ((action p j i).join ≡ suc x) → ⊥) → missing_to p (after_in d j) h x ≡ missing_to p d.next h x
  kept = missing_kept p ok d.next (after_in d j) j i finish_job.0 finish_job.1 refl g.act.acts g.act.others

  -- the action is counted
  module _ {counted : Progress} (is : counted ≡ with_done progress j) where
    sized : Sized counted
    sized = let t = g.progressed.sized in rw is (record { done = length-set _ _ _ ∙ t.done; spent = t.spent; missing = t.missing })

    done : (h : ℕ) → h < length p → done_of counted h ≡ get_or (after_in d j) h 0
    done h l =
        rw is (by_cases (ℕ_discrete h j)
        (λ e. rw (e, get_or-set_same progress.done j (done_of progress j + 1) 0 (omega (arith, g.progressed.sized.done, finish_room)))
        (omega (arith, g.act.acts, g.progressed.counts j finish_job.0)))
        (λ f. get_or-set_other progress.done j h _ 0 f ∙ (g.progressed.counts h l ∙ sym (g.act.others h f))))

    spends : (h : ℕ) → h < length p → spent_at counted h ≡ get_or d.spent h 0
    spends h l = rw is (g.progressed.spends h l)

    misses : (h x : ℕ) → h < length p → x < size p h → missing_at counted (place p h x) ≡ missing_to p d.next h x
    misses h x l b = rw is (g.progressed.misses h x l b)

    -- the action sends no join
    pub finish_skips : target_at plan k ≡ 0 → Finished j false counted d
    unfolding Woken
    finish_skips e =
        let z : (action p j i).join ≡ 0 = sym target_is ∙ e in
        record {
          progressed = record {
            sized = sized;
            counts = done;
            spends = spends;
            misses = λ h x l b. misses h x l b ∙ sym (kept h x (λ t. omega (arith, t.1)));
          };
          told = none_woken (λ t. omega (arith, t.sends));
        }

    -- it sends one to position sent - 1 of the parent, q, whose first action stands at place f
    module _ {sent q : ℕ} (e : sent ≡ target_at plan k) (some : sent ≢ 0) (y : q ≡ parent_of plan j) where
      sends : (action p j i).join ≡ suc (sent - 1)
      sends = omega (arith, target_is)

      target : (1 ≤ j) × (sent - 1 < size p (parent p j)) × (parent p j < j) × (parent p j < length p)
      target =
          let z = join_target p ok j i (sent - 1) finish_job.0 finish_job.1 sends in
          let o = older p ok j z.0 finish_job.0 in
          (z.0, z.1, o, omega (arith, finish_job.0))

      is_parent : q ≡ parent p j
      is_parent = y ∙ g.planned.spawned.parents j target.0 finish_job.0

      pub finish_parent : q < 255
      finish_parent = omega (arith, is_parent, target, finish_room)

      module _ {f : ℕ} (u : f ≡ first_of plan q) where
        abbrev at : ℕ
        at = f + (sent - 1)

        is_place : at ≡ place p (parent p j) (sent - 1)
        is_place = omega (arith, ap (first_of plan) is_parent, g.planned.laid.firsts (parent p j) (omega (arith, target)))

        -- one less is missing there
        sent_misses : missing_at counted at ≡ suc (missing_to p (after_in d j) (parent p j) (sent - 1))
        sent_misses =
            rw is_place (misses (parent p j) (sent - 1) target.3 target.1
            ∙ missing_sent p ok d.next (after_in d j) j i finish_job.0 finish_job.1 refl g.act.acts g.act.others
            (sent - 1) sends)

        pub finish_place : (at < 2048) × (missing_at counted at ≢ 0)
        finish_place = (
          omega (arith, is_place, place_below p (parent p j) (sent - 1) target.3 target.1, total_range p ok),
          λ z. omega (arith, sent_misses),
        )

        module _ {left : ℕ} {after : Progress} (v : (left ≡ missing_at counted at - 1) × (after ≡ with_missing counted at left)) where
          sent_progress : Progressed p (after_in d j) d.spent after
          sent_progress = record {
            sized = rw v.1 (record { done = sized.done; spent = sized.spent; missing = length-set _ _ _ ∙ sized.missing });
            counts = λ h l. rw v.1 (done h l);
            spends = λ h l. rw v.1 (spends h l);
            misses = λ h x l b. rw v.1 (by_cases (ℕ_discrete (place p h x) at) (there h x l b) (λ y.
                get_or-set_other counted.missing at (place p h x) left 0 y
                ∙ (misses h x l b ∙ sym (kept h x (λ c. y (same h x c ∙ sym is_place))))));
          }
            where
              there : (h x : ℕ) → h < length p → x < size p h → place p h x ≡ at
                  → missing_at (with_missing counted at left) (place p h x) ≡ missing_to p (after_in d j) h x
              there h x l b y =
                  let (c, z) = place_apart p h x (parent p j) (sent - 1) l b target.3 target.1 (y ∙ is_place) in
                  rw y (get_or-set_same counted.missing at left 0 (omega (arith, sized.missing, finish_place.0))
                  ∙ (omega (arith, sent_misses) ∙ sym (ap₂ (missing_to p (after_in d j)) c z)))

              same : (h x : ℕ) → (h ≡ parent p j) × ((action p j i).join ≡ suc x) → place p h x ≡ place p (parent p j) (sent - 1)
              same h x (c, z) = let y : x ≡ sent - 1 = omega (arith, sends) in ap₂ (place p) c y

          parent_next : get_or (after_in d j) (parent p j) 0 ≡ done_in d (parent p j)
          parent_next = g.act.others (parent p j) (λ z. omega (arith, target))

          is_next_lem : done_of after q ≡ done_in d (parent p j)
          is_next_lem = rw is_parent (sent_progress.counts (parent p j) target.3 ∙ parent_next)

          -- more are missing there
          pub finish_stalls : left ≢ 0 → Finished j false after d
          unfolding Woken
          finish_stalls y = record {
            progressed = sent_progress;
            told = none_woken (λ c.
                let x : done_in d (parent p j) ≡ sent - 1 = omega (arith, c.sends, sends) in
                let z : missing_to p (after_in d j) (parent p j) (sent - 1) ≡ 0 = rw (parent_next, x) at
                (missing_no p ok (after_in d j) (parent p j) (get_or (after_in d j) (parent p j) 0) c.ready) in
                y (omega (arith, sent_misses)));
          }

          -- none is: the parent is woken where that is its next action
          pub finish_told : left ≡ 0 → {x : ℕ} → x ≡ done_of after q → Finished j (eqb x (sent - 1)) after d
          finish_told z e = record {
            progressed = sent_progress;
            told = equal_tests (eqb _ (sent - 1)) (wakes p d.next (after_in d j) j i)
                (λ t. wakes_it (sym e ∙ eqb→eq _ (sent - 1) t))
                (λ n t. n (rw (e ∙ is_next_by (woken_is ok d.next (after_in d j) g.act t)) (eqb_refl (sent - 1))));
          }
            where
              is_next_by : Wakes (shape p) (done_in d) (λ h. get_or (after_in d j) h 0) j → done_of after q ≡ sent - 1
              is_next_by c = omega (arith, is_next_lem, c.sends, sends)

              wakes_it : done_of after q ≡ sent - 1 → T (wakes p d.next (after_in d j) j i)
              wakes_it y =
                  let x : done_in d (parent p j) ≡ sent - 1 = sym is_next_lem ∙ y in
                  woken_by ok d.next (after_in d j) g.act (record {
                    sends = omega (arith, sends);
                    ready = missing_none p ok (after_in d j) (parent p j) (get_or (after_in d j) (parent p j) 0)
                        (rw (parent_next, x) (omega (arith, sent_misses)));
                  })

          pub finish_next : (done_of after q < 256)
          finish_next = omega (arith, is_next_lem, size_range p ok (parent p j) target.3, g.act.closed.bound (parent p j) target.3)
