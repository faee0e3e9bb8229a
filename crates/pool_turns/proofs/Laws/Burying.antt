-- A job has ended: its parent loses a living child, and the worker takes it if that was the last and nobody holds it.
--   bury_small             == the job's number is small
--   bury_root              == job 0 has no parent
--   bury_parent, bury_room == the parent's number is small, and it has a living child
--   bury_others            == another child of it lives
--   bury_held              == none does, but somebody holds it
--   bury_raised            == nobody does: the worker takes it
use Prim.Native.Nat.{ℕ, suc, ◌-◌, ◌≤◌, ◌<◌}
use mathlib.Core.Path.{◌≡◌, refl, ap, sym, ◌∙◌}
use mathlib.Core.Logic.{◌≢◌, by_cases}
use mathlib.Core.Bool.{true, false, true≢false}
use mathlib.Core.List.{List}
use native.Mathlib.Omega.{arith}
use native.Mathlib.Decide.{ℕ_discrete}
use borrow.Author.Tests.{eqb-true, eqb-false}
use lib.Dec.{T, eqb}
use lib.ListN.{length, get_or, set}
use Rattle.plan.specs.Plan.{parent}
use Rattle.plan.specs.declared.sheet.Sheet.{Sheet}
use Rattle.plan.specs.Sheet.{parent_of}
use Rattle.plan.proofs.Laws.Lists.{true_of, of_true}
use Rattle.plan.proofs.Laws.Valid.{jobs_range, older}
use Rattle.courses.proofs.Laws.PlanShape.{shape, shape_valid}
use Rattle.lines.proofs.Laws.Act.{parent_stays}
use Rattle.lines.proofs.Laws.Leaves.{ready_of}
use Rattle.lines.proofs.Laws.Shape.{Lone}
use Rattle.runs.specs.declared.worker.Worker.{Worker}
use Rattle.runs.specs.declared.worker.Worker.TheVariants.{Idle, Holding}
use Rattle.pools.specs.Take.{waits}
use Rattle.pools.specs.Turn.{heirless}
use Rattle.pools.proofs.Laws.Passing.{hand_raised, hand_dead, heirless_is, heirless_by}
use Rattle.pools.proofs.Laws.Tests.{Free, lone_is, lone_by, waits_is, waits_by}
use Rattle.pool_set.specs.declared.Pool.{Pool}
use Rattle.pool_set.specs.Pool.{pooled, children_of, Put, Counted}
use Rattle.pool_turns.specs.Pooled.{heirs, Counts}
use Rattle.pool_turns.specs.Moments.{Moment, Held, Ending, Buried}
use Rattle.pool_turns.proofs.Laws.Heirs.{heirs_lone, lone_heirs, heirs_end, heirs_end_other}
use Rattle.pool_turns.proofs.Laws.Handing.{p, s, ws, i, after, ok, act, handed_self, handed_other, handed_none, held_none, between_pooled}
use Rattle.pool_turns.proofs.Laws.Sending.{put_here, put_other}

module _ {j : ℕ} {plan : Sheet} {pool : Pool} {m : Moment} (g : Ending j plan pool m) where
  abbrev a : Held g.place j plan m
  a = g.held

  known : j < length (p a)
  known = (act a).lives.below

  pub bury_small : j < 256
  bury_small = omega (arith, known, jobs_range (p a) (ok a))

  -- job j lives no more
  gone : (ws : List Worker) → Free (p a) (after a) ws j → ⊥
  gone ws f = omega (arith, f.living.left, (act a).acts, g.last)

  -- the worker is idle
  left : (T (heirless (p a) (after a) (ws a) j) → ⊥) → {pool' : Pool}
      → ((x : ℕ) → x < 256 → pooled pool' x ≡ pooled pool x) → Counts (p a) (after a) pool' → Buried j Idle pool' m
  left f same counts = record {
    worker = sym (hand_dead (p a) (after a) (ws a) j (i a) g.none g.last f);
    pooled = between_pooled a g.between g.none Idle (λ x e. absurd (omega arith)) (handed_none a Idle (gone _)) same counts;
  }

  pub bury_root : j ≡ 0 → Buried j Idle pool m
  bury_root e =
      left (λ t. omega (arith, (heirless_is (p a) (after a) (ws a) j (i a) t).0)) (λ x h. refl)
      (λ q h. g.between.counts q h
      ∙ sym (heirs_end_other (ok a) (s a).next (act a) g.none g.last q (λ o. absurd (omega arith))))

  module _ (some : j ≢ 0) {q : ℕ} (y : q ≡ parent_of plan j) where
    child : 1 ≤ j
    child = omega arith

    is_parent : q ≡ parent (p a) j
    is_parent = y ∙ a.planned.spawned.parents j child known

    below : parent (p a) j < j
    below = older (p a) (ok a) j child known

    pub bury_parent : q < 256
    bury_parent = omega (arith, is_parent, below, known, jobs_range (p a) (ok a))

    parent_known : parent (p a) j < length (p a)
    parent_known = omega (arith, below, known)

    ended : heirs (p a) (s a).next (parent (p a) j) ≡ suc (heirs (p a) (after a) (parent (p a) j))
    ended = heirs_end (ok a) (s a).next (act a) g.none g.last child

    had : children_of pool q ≡ suc (heirs (p a) (after a) (parent (p a) j))
    had = ap (children_of pool) is_parent ∙ g.between.counts (parent (p a) j) parent_known ∙ ended

    pub bury_room : children_of pool q ≢ 0
    bury_room e = omega (arith, had)

    -- the count is one less
    module _ {pool₁ : Pool} (n : Counted q (children_of pool q - 1) pool pool₁) where
      counts : Counts (p a) (after a) pool₁
      counts x h = by_cases (ℕ_discrete x q)
          (λ z. rw z (n.here ∙ omega (arith, had) ∙ sym (ap (heirs (p a) (after a)) is_parent)))
          (λ z. n.others x z ∙ g.between.counts x h
          ∙ sym (heirs_end_other (ok a) (s a).next (act a) g.none g.last x (λ o e. z (e ∙ sym is_parent))))

      alone : eqb (children_of pool q - 1) 0 ≡ true → Lone (shape (p a)) (λ k. get_or (after a) k 0) (parent (p a) j)
      alone e =
          let z : heirs (p a) (after a) (parent (p a) j) ≡ 0 = omega (arith, eqb-true (children_of pool q - 1) 0 e, had) in
          lone_is (p a) (after a) (parent (p a) j) (heirs_lone (p a) (after a) (parent (p a) j) z)

      pub bury_others : eqb (children_of pool q - 1) 0 ≡ false → Buried j Idle pool₁ m
      bury_others e =
          left (λ t.
          let l = (heirless_is (p a) (after a) (ws a) j (i a) t).1 in
          eqb-false (children_of pool q - 1) 0 e
          (omega (arith, had, lone_heirs (p a) (after a) (parent (p a) j) (lone_by (p a) (after a) (parent (p a) j) l))))
          n.same counts

      -- whether the parent waits
      set_is : pooled pool₁ q ≡ waits (p a) (after a) (ws a) (parent (p a) j)
      set_is =
          n.same q bury_parent ∙ ap (pooled pool) is_parent
          ∙ g.between.waiting (parent (p a) j) parent_known (λ e. omega (arith, g.none))

      module _ (lost : eqb (children_of pool q - 1) 0 ≡ true) where
        pub bury_held : pooled pool₁ q ≡ false → Buried j Idle pool₁ m
        bury_held e = left heir n.same counts
          where
            heir : T (heirless (p a) (after a) (ws a) j) → ⊥
            heir t =
                let (o, l, u) = heirless_is (p a) (after a) (ws a) j (i a) t in
                let free : T (waits (p a) (after a) (ws a) (parent (p a) j)) = waits_by (p a) (ok a) (after a) (ws a) (parent (p a) j) (record {
                  living = (parent_stays (act a) (shape_valid (p a) (ok a)) child).1;
                  ready = ready_of (shape (p a)) (shape_valid (p a) (ok a)) (λ k. get_or (after a) k 0) (parent (p a) j) l;
                  unheld = u;
                }) in
                true≢false (sym (true_of _ free) ∙ sym set_is ∙ e)

        pub bury_raised : pooled pool₁ q ≡ true → {pool₂ : Pool} → Put q false pool₁ pool₂ → {x : ℕ} → x ≡ q → Buried j (Holding x) pool₂ m
        bury_raised e {pool₂} put {x} v =
            let z : x ≡ parent (p a) j = v ∙ is_parent in
            rw z (record {
              worker = sym (hand_raised (p a) (after a) (ws a) j (i a) g.none g.last heir);
              pooled = record {
                waiting = λ x h. by_cases (ℕ_discrete x q)
                    (λ z. rw z (put_here put bury_parent ∙ sym (ap (waits (p a) (after a) (set (ws a) m.worker raised)) is_parent
                    ∙ handed_self a raised (parent (p a) j) parent_known refl)))
                    (λ z. put_other put x (omega (arith, jobs_range (p a) (ok a))) z ∙ n.same x (omega (arith, jobs_range (p a) (ok a)))
                    ∙ g.between.waiting x h (λ e. omega (arith, g.none)) ∙ by_cases (ℕ_discrete x j)
                    (λ y. rw y (held_none a ∙ sym (handed_none a raised (gone _))))
                    (λ y. sym (handed_other a raised x h y (λ e. z (sym (let w : parent (p a) j ≡ x = omega arith in w) ∙ sym is_parent)))));
                past = λ x h l.
                    put_other put x l (λ z. omega (arith, is_parent, parent_known)) ∙ n.same x l ∙ g.between.past x h l;
                counts = λ x h. put.same x ∙ counts x h;
              };
            })
          where
            raised : Worker
            raised = Holding (parent (p a) j)

            free : Free (p a) (after a) (ws a) (parent (p a) j)
            free = waits_is (p a) (ok a) (after a) (ws a) (parent (p a) j) parent_known (of_true _ (sym set_is ∙ e))

            heir : T (heirless (p a) (after a) (ws a) j)
            heir = heirless_by (p a) (after a) (ws a) j (i a) child (alone lost) free.unheld
