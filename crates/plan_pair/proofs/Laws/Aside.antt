-- The new root is laid last, at places where no job of a plan below it is laid.
--   actions_framed, actions_ended == an action leaves the frames and the first places to others
--   action_last, frame_last, first_last == an action, a frame or a first place before those of the jobs laid may be laid after them
--   root_last == so it makes no difference whether the new root is laid before the jobs or after
use Prim.Native.Nat.{ℕ, suc, ◌+◌, ◌≤◌, ◌<◌}
use mathlib.Core.Path.{◌≡◌, refl, ap, ◌∙◌}
use mathlib.Core.Logic.{◌≢◌}
use mathlib.Core.List.{List, [], ◌∷◌}
use native.Mathlib.Omega.{arith}
use lib.ListN.{length}
use Rattle.std.proofs.lemmas.List.{set_comm}
use Rattle.plan.specs.declared.sheet.Sheet.{Sheet}
use Rattle.plan.specs.Plan.{Action, Plan}
use Rattle.plan.specs.Sheet.{with_action, with_frame, with_first}
use Rattle.plan.specs.Progress.{with_actions, with_job, with_jobs}
use Rattle.plan_pair.specs.Pair.{new_root}

actions_framed : (sheet : Sheet) (i w k j : ℕ) (l : List Action) → with_actions (with_frame sheet i w) k j l ≡ with_frame (with_actions sheet k j l) i w
actions_framed sheet i w k j [] = refl
actions_framed sheet i w k j (x ∷ l) = actions_framed (with_action sheet k j x.spawn x.join x.cost) i w (suc k) j l

actions_ended : (sheet : Sheet) (i w k j : ℕ) (l : List Action) → with_actions (with_first sheet i w) k j l ≡ with_first (with_actions sheet k j l) i w
actions_ended sheet i w k j [] = refl
actions_ended sheet i w k j (x ∷ l) = actions_ended (with_action sheet k j x.spawn x.join x.cost) i w (suc k) j l

-- an action at place n, before those laid
module _ (n o child target cost : ℕ) where
  actions_last : (sheet : Sheet) (k j : ℕ) (l : List Action) → n < k
      → with_actions (with_action sheet n o child target cost) k j l ≡ with_action (with_actions sheet k j l) n o child target cost
  actions_last sheet k j [] h = refl
  actions_last sheet k j (x ∷ l) h =
      let ne : n ≢ k = omega arith in
      ap (λ s. with_actions s (suc k) j l)
      (λ i. record sheet {
        children = set_comm sheet.children n k child x.spawn ne i;
        targets = set_comm sheet.targets n k target x.join ne i;
        owners = set_comm sheet.owners n k o j ne i;
        costs = set_comm sheet.costs n k cost x.cost ne i;
      })
      ∙ actions_last (with_action sheet k j x.spawn x.join x.cost) (suc k) j l (omega arith)

  action_last : (sheet : Sheet) (k j : ℕ) (l : Plan) → n < k
      → with_jobs (with_action sheet n o child target cost) k j l ≡ with_action (with_jobs sheet k j l) n o child target cost
  action_last sheet k j [] h = refl
  action_last sheet k j (x ∷ l) h =
      let end = k + length x.actions in
      ap (λ s. with_jobs (with_first s (j + 1) end) end (suc j) l) (actions_last (with_frame sheet j x.frame) k j x.actions h)
      ∙ action_last (with_job sheet k j x) end (suc j) l (omega arith)

-- a frame of a job before those laid
frame_last : (sheet : Sheet) (i w k j : ℕ) (l : Plan) → i < j → with_jobs (with_frame sheet i w) k j l ≡ with_frame (with_jobs sheet k j l) i w
frame_last sheet i w k j [] h = refl
frame_last sheet i w k j (x ∷ l) h =
    let end = k + length x.actions in
    let ne : i ≢ j = omega arith in
    ap (λ s. with_jobs (with_first s (j + 1) end) end (suc j) l)
    (ap (λ s. with_actions s k j x.actions) (λ t. record sheet { frames = set_comm sheet.frames i j w x.frame ne t })
    ∙ actions_framed (with_frame sheet j x.frame) i w k j x.actions)
    ∙ frame_last (with_job sheet k j x) i w end (suc j) l (omega arith)

-- the place where a job before those laid ends
first_last : (sheet : Sheet) (i w k j : ℕ) (l : Plan) → i ≤ j → with_jobs (with_first sheet i w) k j l ≡ with_first (with_jobs sheet k j l) i w
first_last sheet i w k j [] h = refl
first_last sheet i w k j (x ∷ l) h =
    let end = k + length x.actions in
    let ne : i ≢ j + 1 = omega arith in
    let framed = with_frame sheet j x.frame in
    let rows = with_actions framed k j x.actions in
    ap (λ s. with_jobs s end (suc j) l)
    (ap (λ s. with_first s (j + 1) end) (actions_ended framed i w k j x.actions)
    ∙ (λ t. record rows { firsts = set_comm rows.firsts i (j + 1) w end ne t }))
    ∙ first_last (with_job sheet k j x) i w end (suc j) l (omega arith)

module _ (d : ℕ) (l : Plan) (some : 1 ≤ d) (k : ℕ) (behind : 5 ≤ k) where
  pub root_last : (sheet : Sheet) (frame m : ℕ) → with_jobs (with_job sheet 0 0 (new_root frame m)) k d l ≡ with_job (with_jobs sheet k d l) 0 0 (new_root frame m)
  root_last sheet frame m =
      let framed = with_frame sheet 0 frame in
      let one = with_action framed 0 0 2 0 1 in
      let two = with_action one 1 0 0 0 1 in
      let three = with_action two 2 0 (suc (1 + m)) 0 1 in
      let four = with_action three 3 0 0 0 1 in
      let five = with_action four 4 0 0 0 1 in
      first_last five 1 5 k d l some
      ∙ ap (λ s. with_first s 1 5) (
      action_last 4 0 0 0 1 four k d l (omega arith) ∙ ap (λ s. with_action s 4 0 0 0 1) (
      action_last 3 0 0 0 1 three k d l (omega arith) ∙ ap (λ s. with_action s 3 0 0 0 1) (
      action_last 2 0 (suc (1 + m)) 0 1 two k d l (omega arith) ∙ ap (λ s. with_action s 2 0 (suc (1 + m)) 0 1) (
      action_last 1 0 0 0 1 one k d l (omega arith) ∙ ap (λ s. with_action s 1 0 0 0 1) (
      action_last 0 0 2 0 1 framed k d l (omega arith) ∙ ap (λ s. with_action s 0 0 2 0 1) (
      frame_last sheet 0 frame k d l some))))))
