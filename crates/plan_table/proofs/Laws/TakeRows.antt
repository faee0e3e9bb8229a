-- Taking the rows of a table over into the arrays, row by row.
--   taken plan k a == the arrays with the row a taken over at place k
--   row_begins     == the arrays have the place where the job of the next row begins
--   rows_none, rows_more, rows_all == what the arrays have before the first row, with one row more, and after the last
use Prim.Native.Nat.{ℕ, zero, suc, ◌+◌, ◌-◌, ◌*◌, ◌/◌, ◌≤◌, ◌<◌}
use mathlib.Core.Path.{◌≡◌, ap, sym, ◌∙◌}
use mathlib.Core.Logic.{◌≢◌}
use mathlib.Core.List.{List}
use native.Mathlib.Omega.{arith}
use native.Mathlib.Nat.{not-suc-le-zero}
use native.Mathlib.Numerals.{add-one}
use native.Mathlib.Decide.{dec_lt, ℕ_discrete}
use lib.ListN.{length, get_or, length-set}
use lib.Seq.{get_or-set_same, get_or-set_other}
use lib.Dec.{T}
use borrow.Author.Count.{below_more}
use Rattle.plan.specs.declared.sheet.Sheet.{Sheet}
use Rattle.plan.specs.Plan.{total, placed, no_placed}
use Rattle.plan.specs.Rules.{in_range, costs_fit}
use Rattle.plan.specs.Sheet.{child_at, target_at, frame_of, first_of, job_at, cost_at, with_action, with_frame, with_first, with_counts, Blank, Sized, LaidIn}
use Rattle.plan_table.specs.Table.{Row, rows_of, plan_of}
use Rattle.plan_table.specs.GivenRows.{row_at, TableKept, RowFits, begun, RowsTaken}
use Rattle.plan.proofs.Laws.Lists.{zeros_at}
use Rattle.plan.proofs.Laws.Placed.{start, start_suc, start_all, start_rises}
use Rattle.plan.proofs.Laws.Sheets.{At, action_sized, action_kept, action_there, blank_sized}
use Rattle.plan.proofs.Laws.Spawning.{jobs_in_range}
use Rattle.plan_table.proofs.Laws.Rows.{row_placed, filled_at}
use Rattle.plan_table.proofs.Laws.RowsInRange.{table_filled, table_total, table_placed, table_sits, table_fits, table_costs}

-- the jobs that the first rows begin

module _ {t : List ℕ} (g : TableKept t) where
  reached : (k : ℕ) → k ≤ length t / 5
      → (k ≤ start (plan_of (rows_of t)) (begun t k)) × (begun t k ≤ length (plan_of (rows_of t)))
  reached zero h = (omega arith, omega arith)
  reached (suc k) h =
      let s = table_sits g k h in
      (omega (arith, s.place, s.within, start_suc (plan_of (rows_of t)) (row_at t (5 * k)).job s.known), s.known)

  -- row k is of a job begun or begins the next
  row_next : (k : ℕ) → k < length t / 5 → let j = (row_at t (5 * k)).job in
      (j ≤ begun t k) × (j ≡ begun t k → start (plan_of (rows_of t)) j ≡ k)
  row_next k h = go (dec_lt (begun t k) (row_at t (5 * k)).job)
    where
      go : let j = (row_at t (5 * k)).job in Dec (begun t k < j)
          → (j ≤ begun t k) × (j ≡ begun t k → start (plan_of (rows_of t)) j ≡ k)
      go (yes n) =
          let p = plan_of (rows_of t) in
          let j = (row_at t (5 * k)).job in
          let s = table_sits g k h in
          let b : begun t k < length p = omega (arith, s.known) in
          absurd (omega (arith, (reached k (omega arith)).0, s.place, start_suc p (begun t k) b, filled_at p (table_filled g) (begun t k) b, start_rises p (suc (begun t k)) j n (omega (arith, s.known))))
      go (no n) =
          let p = plan_of (rows_of t) in
          let s = table_sits g k h in
          (omega arith, λ e. omega (arith, (reached k (omega arith)).0, s.place, ap (start p) e))

  -- after all rows every job has begun
  begun_all : begun t (length t / 5) ≡ length (plan_of (rows_of t))
  begun_all = go (dec_lt (begun t (length t / 5)) (length (plan_of (rows_of t))))
    where
      go : Dec (begun t (length t / 5) < length (plan_of (rows_of t))) → begun t (length t / 5) ≡ length (plan_of (rows_of t))
      go (yes h) =
          let p = plan_of (rows_of t) in
          let b = begun t (length t / 5) in
          absurd (omega (arith, (reached (length t / 5) (omega arith)).0, start_suc p b h, filled_at p (table_filled g) b h, start_rises p (suc b) (length p) h (omega arith), start_all p, table_total g))
      go (no h) = omega (arith, (reached (length t / 5) (omega arith)).1)

pub begun_last : (t : List ℕ) (k : ℕ) → 1 ≤ k → begun t k ≡ get_or t (5 * k - 5) 0 + 1
begun_last t zero h = absurd (not-suc-le-zero h)
begun_last t (suc k) h = let e : 5 * suc k - 5 ≡ 5 * k = omega arith in rw (e, add-one)

-- the arrays with one row more: its job's frame, the place behind it, and its action

module _ (plan : Sheet) (k : ℕ) (a : Row) where
  abbrev framed : Sheet
  framed = with_frame plan a.job a.frame

  abbrev ended : Sheet
  ended = with_first framed (a.job + 1) (k + 1)

  abbrev taken : Sheet
  taken = with_action ended k a.job a.spawn a.join a.cost

  -- the actions' arrays at another place
  row_beside : (i : ℕ) → i ≢ k → At taken i (child_at plan i) (target_at plan i) (job_at plan i) (cost_at plan i)
  row_beside i n = action_kept ended k a.job a.spawn a.join a.cost i n

  module _ (s : Sized plan) (few : k < 2048) (small : a.job < 256) where
    ended_sized : Sized ended
    ended_sized =
        record {
          children = s.children;
          targets = s.targets;
          owners = s.owners;
          costs = s.costs;
          frames = length-set plan.frames a.job a.frame ∙ s.frames;
          firsts = length-set plan.firsts (a.job + 1) (k + 1) ∙ s.firsts;
          parents = s.parents;
          spawns = s.spawns;
        }

    frame_there : frame_of taken a.job ≡ a.frame
    frame_there = get_or-set_same plan.frames a.job a.frame 0 (omega (arith, s.frames))

    first_there : first_of taken (suc a.job) ≡ suc k
    first_there =
        rw (← add-one a.job, ← add-one k) (get_or-set_same plan.firsts (a.job + 1) (k + 1) 0 (omega (arith, s.firsts)))

    row_there : At taken k a.spawn a.join a.job a.cost
    row_there = action_there ended k a.job a.spawn a.join a.cost ended_sized few

below_suc : (P : ℕ → Type 0) (k : ℕ) → ((i : ℕ) → i < k → P i) → P k → (i : ℕ) → i < suc k → P i
below_suc P k f x i h = below_more P k f x i (omega arith)

pub rows_none : (form : ℕ) (t : List ℕ) (plan : Sheet) → TableKept t → length t / 5 ≤ 2048 → Blank plan → RowsTaken form t 0 plan
rows_none form t plan g h e =
    record {
      kept = g;
      few = h;
      sized = blank_sized plan e;
      fit = λ i h. absurd (not-suc-le-zero h);
      frames = λ j h. absurd (not-suc-le-zero h);
      firsts = λ j h. absurd (not-suc-le-zero h);
      end = rw e (zeros_at 257 0);
      owners = λ i h. absurd (not-suc-le-zero h);
      children = λ i h. absurd (not-suc-le-zero h);
      targets = λ i h. absurd (not-suc-le-zero h);
      costs = λ i h. absurd (not-suc-le-zero h);
      unspawned = λ c h. rw e (zeros_at 256 c);
    }

module _ {form : ℕ} {t : List ℕ} {k : ℕ} {plan : Sheet} (g : RowsTaken form t k plan) (h : k < length t / 5) where
  pub row_begins : let j = (row_at t (5 * k)).job in
      (first_of plan j ≡ start (plan_of (rows_of t)) j) × (start (plan_of (rows_of t)) j ≤ k)
  row_begins = (go (ℕ_discrete (row_at t (5 * k)).job (begun t k)), omega (arith, (table_sits g.kept k h).place))
    where
      go : let j = (row_at t (5 * k)).job in Dec (j ≡ begun t k) → first_of plan j ≡ start (plan_of (rows_of t)) j
      go (yes e) = ap (first_of plan) e ∙ g.end ∙ sym ((row_next g.kept k h).1 e)
      go (no n) =
          let r = row_next g.kept k h in
          g.firsts (row_at t (5 * k)).job (omega (arith, r.0))

  pub rows_more : RowFits form (plan_of (rows_of t)) (row_at t (5 * k)) k → RowsTaken form t (suc k) (taken plan k (row_at t (5 * k)))
  rows_more f =
      let a = row_at t (5 * k) in
      let b : k < 2048 = omega (arith, g.few) in
      let s = table_sits g.kept k h in
      let r = row_next g.kept k h in
      let same = row_beside plan k a in
      let z = row_there plan k a g.sized b f.few in
      record {
        kept = g.kept;
        few = g.few;
        sized = action_sized (ended plan k a) k a.job a.spawn a.join a.cost (ended_sized plan k a g.sized b f.few);
        fit = below_suc _ k g.fit f;
        frames = below_suc _ a.job (λ j l. get_or-set_other plan.frames a.job j a.frame 0 (omega arith) ∙ g.frames j (omega (arith, r.0)))
            (frame_there plan k a g.sized b f.few ∙ s.frame);
        firsts = λ j l.
            get_or-set_other plan.firsts (a.job + 1) j (k + 1) 0 (omega arith)
            ∙ below_suc _ a.job (λ j l. g.firsts j (omega (arith, r.0))) row_begins.0 j l;
        end = first_there plan k a g.sized b f.few;
        children = below_suc _ k (λ i l. (same i (omega arith)).0 ∙ g.children i l) z.0;
        targets = below_suc _ k (λ i l. (same i (omega arith)).1 ∙ g.targets i l) z.1;
        owners = below_suc _ k (λ i l. (same i (omega arith)).2 ∙ g.owners i l) z.2;
        costs = below_suc _ k (λ i l. (same i (omega arith)).3 ∙ g.costs i l) z.3;
        unspawned = g.unspawned;
      }

module _ {form : ℕ} {t : List ℕ} {plan : Sheet} (g : RowsTaken form t (length t / 5) plan) where
  pub rows_costs : T (costs_fit form (plan_of (rows_of t)))
  rows_costs = table_costs g.kept form g.fit

  pub rows_all : (jobs : ℕ) → jobs ≡ begun t (length t / 5) → LaidIn (with_counts plan form jobs (length t / 5)) (plan_of (rows_of t))
  rows_all jobs e =
      record {
        count = e ∙ all;
        all = sym n;
        laid = record {
          sized = record {
            children = g.sized.children;
            targets = g.sized.targets;
            owners = g.sized.owners;
            costs = g.sized.costs;
            frames = g.sized.frames;
            firsts = g.sized.firsts;
            parents = g.sized.parents;
            spawns = g.sized.spawns;
          };
          range = range;
          frames = λ j h. g.frames j (omega (arith, all));
          firsts = λ j h. begins j h (ℕ_discrete j (length (plan_of (rows_of t))));
          owners = λ i h. g.owners i (omega (arith, n)) ∙ ap (λ a. a.job) (row i (omega (arith, n)));
          children = λ i h. g.children i (omega (arith, n)) ∙ ap (λ a. a.spawn) (row i (omega (arith, n)));
          targets = λ i h. g.targets i (omega (arith, n)) ∙ ap (λ a. a.join) (row i (omega (arith, n)));
          costs = λ i h. g.costs i (omega (arith, n)) ∙ ap (λ a. a.cost) (row i (omega (arith, n)));
        };
        unspawned = λ c h. g.unspawned c (omega (arith, jobs_in_range (plan_of (rows_of t)) range));
      }
    where
      n : total (plan_of (rows_of t)) ≡ length t / 5
      n = table_total g.kept

      all : begun t (length t / 5) ≡ length (plan_of (rows_of t))
      all = begun_all g.kept

      range : T (in_range (plan_of (rows_of t)))
      range = table_fits g.kept form g.few g.fit

      row : (i : ℕ) → i < length t / 5 → row_at t (5 * i) ≡ row_placed (plan_of (rows_of t)) (get_or (placed (plan_of (rows_of t))) i no_placed)
      row = table_placed g.kept

      begins : (j : ℕ) → j ≤ length (plan_of (rows_of t)) → Dec (j ≡ length (plan_of (rows_of t))) → first_of plan j ≡ start (plan_of (rows_of t)) j
      begins j h (yes e) =
          ap (first_of plan) (e ∙ sym all) ∙ g.end ∙ sym n ∙ sym (start_all (plan_of (rows_of t))) ∙ ap (start (plan_of (rows_of t))) (sym e)
      begins j h (no d) = g.firsts j (omega (arith, all))
