-- The frames of the living jobs weigh at most as much as one path of the tree for each line that is not empty.
--   full l           == 1 if the list l has an element, 0 if not
--   filled size line == how many of the lines below size are not empty
--   path P h         == the weight of the frames on the path from the root to job h
--   reach P l        == the path of the first job of the line l, and 0 if it has none
--   held P next      == the weight of the living jobs' frames
use mathlib.Core.Path.{◌≡◌, refl, sym, ap, ◌∙◌}
use mathlib.Core.List.{List, [], ◌∷◌, cons-ne-nil}
use Prim.Native.Nat.{ℕ, zero, suc, ◌+◌, ◌*◌, ◌≤◌, ◌<◌, zero-le}
use native.Mathlib.Nat.{le_trans, le_of_eq, le_refl, lt_of_not-le}
use native.Mathlib.Omega.{arith}
use native.Mathlib.Decide.{ℕ_discrete}
use Rattle.lines.proofs.Laws.Shape.{Shape, Valid, Living, living?, Closed, Leaves}
use Rattle.lines.proofs.Laws.Cover.{Above, self, up, cover}
use Rattle.lines.proofs.Laws.Progress.{parent_lives}
use Rattle.lines.proofs.Laws.Sum.{sum, only, only_yes, sum_le, sum_add, sum_zero, sum_swap, sum_term, sum_mono, sum_bound}
use Rattle.lines.proofs.Laws.Sum.{sum_times, sum_only}

unfoldable pub full : List ℕ → ℕ
full [] = 0
full (x ∷ l) = 1

unfoldable pub filled : ℕ → (ℕ → List ℕ) → ℕ
unfolding full
filled size line = sum size (λ w. full (line w))

pub filled_most : (size : ℕ) (line : ℕ → List ℕ) → filled size line ≤ size
unfolding filled full
filled_most size line = omega (arith, sum_bound size (λ w. full (line w)) 1 (λ w b. each (line w)))
  where
    each : (l : List ℕ) → full l ≤ 1
    each [] = zero-le
    each (x ∷ l) = le_refl 1

module _ (P : Shape) where
  open P use {jobs, parent, frame}

  -- the weight of the path from the root to h, whose first d + 1 jobs from below count
  path_in : ℕ → ℕ → ℕ
  path_in zero h = frame h
  path_in (suc d) zero = frame 0
  path_in (suc d) (suc h) = frame (suc h) + path_in d (parent (suc h))

  unfoldable pub path : ℕ → ℕ
  unfolding path_in
  path h = path_in h h

  -- the part of it that is x's
  share : ℕ → ℕ → ℕ → ℕ
  share zero h x = only (ℕ_discrete x h) (frame x)
  share (suc d) zero x = only (ℕ_discrete x 0) (frame x)
  share (suc d) (suc h) x = only (ℕ_discrete x (suc h)) (frame x) + share d (parent (suc h)) x

  shares : (d h : ℕ) → sum jobs (share d h) ≤ path_in d h
  unfolding share path_in
  shares zero h = sum_only jobs frame h
  shares (suc d) zero = sum_only jobs frame 0
  shares (suc d) (suc h) =
      let r = shares d (parent (suc h)) in
      omega (arith, sum_add jobs (λ x. only (ℕ_discrete x (suc h)) (frame x)) (share d (parent (suc h))), sum_only jobs frame (suc h))

  unfoldable pub held : (ℕ → ℕ) → ℕ
  held next = sum jobs (λ j. only (living? P next j) (frame j))

  own : (d x h : ℕ) → x ≡ h → frame x ≤ share d h x
  unfolding share
  own zero x h e = le_of_eq (sym (only_yes (ℕ_discrete x h) (frame x) e))
  own (suc d) x zero e = le_of_eq (sym (only_yes (ℕ_discrete x 0) (frame x) e))
  own (suc d) x (suc h) e = omega (arith, only_yes (ℕ_discrete x (suc h)) (frame x) e)

  unfoldable pub reach : List ℕ → ℕ
  unfolding path
  reach [] = 0
  reach (h ∷ l) = path h

  part : List ℕ → ℕ → ℕ
  part [] x = 0
  part (h ∷ l) x = share h h x

  parts : (l : List ℕ) → sum jobs (part l) ≤ reach l
  unfolding part reach
  parts [] = le_of_eq (sum_zero jobs)
  parts (h ∷ l) = shares h h

  module _ (ok : Valid P) where
    -- more depth than the job's number changes nothing
    enough : (d e j : ℕ) → j ≤ d → j ≤ e → j < jobs → path_in d j ≡ path_in e j
    unfolding path_in
    enough zero zero j h k b = refl
    enough zero (suc e) zero h k b = refl
    enough zero (suc e) (suc j) h k b = absurd (omega arith)
    enough (suc d) zero zero h k b = refl
    enough (suc d) zero (suc j) h k b = absurd (omega arith)
    enough (suc d) (suc e) zero h k b = refl
    enough (suc d) (suc e) (suc j) h k b =
        let o = ok.older (suc j) (omega arith) b in
        ap (λ p. frame (suc j) + p) (enough d e (parent (suc j)) (omega arith) (omega arith) (omega arith))

    pub path_root : path 0 ≡ frame 0
    unfolding path
    path_root = refl

    pub path_child : (j : ℕ) → 1 ≤ j → j < jobs → path j ≡ frame j + path (parent j)
    unfolding path
    path_child zero h b = absurd (omega arith)
    path_child (suc j) h b =
        let o = ok.older (suc j) h b in
        ap (λ p. frame (suc j) + p) (enough j (parent (suc j)) (parent (suc j)) (omega arith) (le_refl (parent (suc j))) (omega arith))

    above_share : (x d h : ℕ) → h < jobs → h ≤ d → Above P x h → frame x ≤ share d h x
    unfolding share
    above_share x d h b l (self e) = own d x h e
    above_share x zero h b l (up m a) = absurd (omega arith)
    above_share x (suc d) zero b l (up m a) = absurd (omega arith)
    above_share x (suc d) (suc h) b l (up m a) =
        let o = ok.older (suc h) m b in
        let r = above_share x d (parent (suc h)) (omega arith) (omega arith) a in
        omega arith

    module _ {next : ℕ → ℕ} {line : ℕ → List ℕ} (leaves : Leaves P next line) (size : ℕ) (past : (w : ℕ) → size ≤ w → line w ≡ []) where
      covered : (x : ℕ) → Living P next x → frame x ≤ sum size (λ w. part (line w) x)
      unfolding part
      covered x a =
          let (w, h, l, e, s) = cover P ok next line leaves x a in
          let b : h < jobs = leaves.known w h l e in
          let i : w < size = lt_of_not-le (λ (g : size ≤ w). cons-ne-nil h l (sym e ∙ past w g)) in
          le_trans (above_share x h h b (le_refl h) s) (rw e at (sum_term size (λ v. part (line v) x) w i))

      pub held_reach : held next ≤ sum size (λ w. reach (line w))
      unfolding held only
      held_reach =
          le_trans (sum_le jobs (λ x. only (living? P next x) (frame x)) (λ x. sum size (λ w. part (line w) x))
          (λ x b. each x (living? P next x)))
          (le_trans (le_of_eq (sum_swap jobs size (λ x w. part (line w) x)))
          (sum_le size (λ w. sum jobs (part (line w))) (λ w. reach (line w)) (λ w b. parts (line w))))
        where
          each : (x : ℕ) (d : Dec (Living P next x)) → only d (frame x) ≤ sum size (λ w. part (line w) x)
          each x (yes a) = covered x a
          each x (no f) = zero-le

      -- the space of the living jobs, where no path weighs more than s: one path for each line that is not empty
      pub space : (s : ℕ) → ((j : ℕ) → j < jobs → path j ≤ s) → held next ≤ filled size line * s
      unfolding reach full filled
      space s h =
          le_trans held_reach (le_trans (sum_le size (λ w. reach (line w)) (λ w. full (line w) * s) (λ w b. each w (line w) refl))
          (le_of_eq (sum_times size (λ w. full (line w)) s)))
        where
          each : (w : ℕ) (l : List ℕ) → line w ≡ l → reach l ≤ full l * s
          each w [] e = zero-le
          each w (x ∷ l) e = omega (arith, h x (leaves.known w x l e))

    module _ (next : ℕ → ℕ) (closed : Closed P next) where
      -- a living job's ancestors live, so their frames are held
      path_below : (d h : ℕ) → Living P next h → path_in d h ≤ sum (suc h) (λ x. only (living? P next x) (frame x))
      unfolding path_in sum
      path_below zero h a = omega (arith, only_yes (living? P next h) (frame h) a)
      path_below (suc d) zero a = omega (arith, only_yes (living? P next 0) (frame 0) a)
      path_below (suc d) (suc h) a =
          let q = parent (suc h) in
          let o = ok.older (suc h) (omega arith) a.below in
          let r = path_below d q (parent_lives P ok next closed (suc h) (omega arith) a) in
          let m = sum_mono (suc q) (suc h) (λ x. only (living? P next x) (frame x)) o in
          omega (arith, only_yes (living? P next (suc h)) (frame (suc h)) a)

      pub path_held : (h : ℕ) → Living P next h → path h ≤ held next
      unfolding path held
      path_held h a = le_trans (path_below h h a) (sum_mono (suc h) jobs (λ x. only (living? P next x) (frame x)) a.below)
