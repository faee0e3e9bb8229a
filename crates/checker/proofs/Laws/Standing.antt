-- The walk over the actions of a plan: where it stands before each, and what the round that it carries tells (`Stood`).
--   stood_first == before the first action
--   stood_on    == behind an action, in its job
--   next_known, stood_born == past the end of a job's actions there is a next job, and it stands there
--   stand_given == what the test of the rules is given, and so carries, is what the walk is given
--   row_within  == a row's place is one of the array
--   job_small, parent_small, spawn_some, spawn_within, spawn_round_is == what is read of a job's spawn is in range, and is its round
use Prim.Native.Nat.{ℕ, suc, ◌+◌, ◌-◌, ◌/◌, ◌≤◌, ◌<◌}
use mathlib.Core.Path.{◌≡◌, ap, sym, ◌∙◌}
use mathlib.Core.Logic.{by_cases}
use mathlib.Core.List.{List}
use native.Mathlib.Numerals.{add-one}
use native.Mathlib.Omega.{arith}
use native.Mathlib.Decide.{ℕ_discrete}
use lib.ListN.{length, get_or}
use Rattle.plan.specs.declared.sheet.Sheet.{Sheet}
use Rattle.plan.specs.Plan.{Plan, size, total, placed, no_placed, parent, spawn_at}
use Rattle.plan.specs.Rules.{Accepted}
use Rattle.plan.specs.Sheet.{first_of, parent_of, spawn_of}
use Rattle.plan.proofs.Laws.Placed.{start, start_suc, start_all, start_below, placed_at, place_below}
use Rattle.plan.proofs.Laws.Valid.{jobs_range, size_range, total_range, older, spawned_there}
use Rattle.checker.specs.declared.rules.Standing.{Standing}
use Rattle.courses.specs.Schedule.{Span}
use Rattle.checker.specs.Chains.{entry}
use Rattle.checker.specs.Rows.{span_at}
use Rattle.checker.specs.Given.{Task, Tasked, SpawnGiven, StandGiven, RulesGiven}
use Rattle.checker.specs.Judging.{spawn_round, Stood}
use Rattle.checker.proofs.Laws.Following.{before_next, before_root, before_born}

module _ (p : Plan) (ok : Accepted p) (span : ℕ → Span) where
  -- whose action stands at a place
  job_of : (j k : ℕ) → j < length p → start p j ≤ k → k < start p j + size p j → (get_or (placed p) k no_placed).job ≡ j
  job_of j k h l b =
      let e : k ≡ start p j + (k - start p j) = omega arith in
      ap (λ n. (get_or (placed p) n no_placed).job) e ∙ ap (λ a. a.job) (placed_at p j (k - start p j) h (omega arith))

  start_next : (j : ℕ) → j < length p → start p (j + 1) ≡ start p j + size p j
  start_next j h = ap (start p) (add-one j) ∙ start_suc p j h

  below : (j k : ℕ) → j < length p → k < start p j + size p j → k < total p
  below j k h b = omega (arith, start_next j h, start_below p (j + 1))

  pub stood_first : (f : ℕ) → f ≡ start p 0 + size p 0 → Stood p span 0 (record { job = 0; end = f; round = 0 })
  stood_first f e =
      let n = jobs_range p ok in
      record {
        known = omega (arith, n);
        begun = omega arith;
        ends = e;
        near = omega arith;
        told = λ l.
            let d = job_of 0 0 (omega (arith, n)) (omega arith) (omega arith) in
            before_root p ok span 0 (omega (arith, total_range p ok)) (omega arith) d;
      }

  module _ (k : ℕ) (s : Standing) (at : Stood p span k s) where
    pub stood_on : k < s.end → (r : ℕ) → r ≡ (span k).last → Stood p span (k + 1) (record { job = s.job; end = s.end; round = r })
    stood_on l r e =
        record {
          known = at.known;
          begun = omega (arith, at.begun);
          ends = at.ends;
          near = omega arith;
          told = λ b.
              let d = job_of s.job (k + 1) at.known (omega (arith, at.begun)) (omega (arith, at.ends)) in
              before_next p ok span (k + 1) (below s.job (k + 1) at.known (omega (arith, at.ends))) r
              (omega (arith, at.begun, ap (start p) d)) (e ∙ ap (λ n. (span n).last) (omega arith));
        }

    -- past the end of the job's actions
    module _ (h : k < total p) (past : s.end ≤ k) where
      pub next_known : s.job + 1 < length p
      next_known =
          by_cases (ℕ_discrete (s.job + 1) (length p))
          (λ e. absurd (omega (arith, at.ends, start_next s.job at.known, ap (start p) e, start_all p)))
          (λ d. omega (arith, at.known))

      pub stood_born : (f r : ℕ) → f ≡ start p (s.job + 1) + size p (s.job + 1) → r ≡ spawn_round p span (s.job + 1)
          → (k < f) × Stood p span k (record { job = s.job + 1; end = f; round = r })
      stood_born f r e m =
          let begins : k ≡ start p (s.job + 1) = omega (arith, at.ends, at.near, start_next s.job at.known) in
          let some = size_range p ok (s.job + 1) next_known in
          let d = job_of (s.job + 1) k next_known (omega arith) (omega (arith, some)) in (
            omega (arith, some),
            record {
              known = next_known;
              begun = omega arith;
              ends = e;
              near = omega (arith, some);
              told = λ l. before_born p ok span k h (omega (arith, ap (start p) d)) r (omega (arith, d)) (m ∙ ap (spawn_round p span) (sym d));
            },
          )

-- over the arrays
module _ (words : List ℕ) (plan : Sheet) (t : Task) where
  abbrev p : Plan
  p = t.plan

  pub row_within : Tasked words plan t → (x : ℕ) → x < total p → x < 2048
  row_within g x h = omega (arith, total_range p g.planned.rules)

  pub stand_given : (k : ℕ) {workers : ℕ} → RulesGiven workers words plan t → k < plan.actions
      → {at : Standing} → Stood p (span_at words plan) k at → StandGiven k at words plan t
  stand_given k g l at = record { within = omega (arith, g.count); stood = at; tasked = g.tasked }

  -- the spawn of a job
  module _ (j : ℕ) (g : SpawnGiven j words plan t) where
    parent_older : parent p j < j
    parent_older = older p g.tasked.planned.rules j g.later g.known

    pub job_small : j < 256
    job_small = omega (arith, jobs_range p g.tasked.planned.rules, g.known)

    module _ (q : ℕ) (m : q ≡ parent_of plan j) where
      parent_is : q ≡ parent p j
      parent_is = m ∙ g.tasked.planned.spawned.parents j g.later g.known

      pub parent_small : q < 257
      parent_small = omega (arith, parent_is, parent_older, job_small)

      module _ (u : ℕ) (n : u ≡ first_of plan q) (i : ℕ) (d : i ≡ spawn_of plan j) where
        spawn_is : i ≡ suc (spawn_at p j)
        spawn_is = d ∙ g.tasked.planned.spawned.spawns j g.later g.known

        pub spawn_some : 1 ≤ i
        spawn_some = omega (arith, spawn_is)

        place_is : u + (i - 1) ≡ start p (parent p j) + spawn_at p j
        place_is =
            omega (
              arith,
              spawn_is,
              n ∙ ap (first_of plan) parent_is ∙ g.tasked.planned.laid.firsts (parent p j) (omega (arith, parent_older, g.known)),
            )

        pub spawn_within : u + (i - 1) < total p
        spawn_within =
            omega (
              arith,
              place_is,
              place_below p (parent p j) (spawn_at p j) (omega (arith, parent_older, g.known))
                  (spawned_there p g.tasked.planned.rules j g.later g.known).0,
            )

        pub spawn_round_is : (w : ℕ) → w ≡ entry words (u + (i - 1)) → w / 16 ≡ spawn_round p (span_at words plan) j
        spawn_round_is w e = ap (λ n. n / 16) e ∙ ap (λ n. entry words n / 16) place_is
