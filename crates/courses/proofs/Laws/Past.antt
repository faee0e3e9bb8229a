-- The past of a course: for every turn there are counts of what was done by then.
--   not_after_lem, by_then == the test not_after: a row is of an earlier round, or of the same round and no later worker
--   Past e c r w l == l counts for each job the actions that were done by the turn of worker w in round r, as the rows of the later core c
--                     tell it
--   Moment p c a   == row a stands for the start, or it is the row of an action that is done
--   Peaked e c     == the peak of the core c is the weight of its past at such a moment
--   history        == every core of a course has its past for every turn
--   peaked         == the peak of every core of a course was reached
use Prim.Native.Nat.{ℕ, suc, ◌≤◌, ◌<◌}
use mathlib.Core.Path.{◌≡◌, refl, ap, sym, ◌∙◌}
use mathlib.Core.Logic.{◌⊎◌, inl, inr, ⊎_elim, by_cases}
use mathlib.Core.Bool.{Bool, true, false}
use mathlib.Core.List.{List}
use native.Mathlib.Omega.{arith}
use native.Mathlib.Nat.{le_trans}
use native.Mathlib.Decide.{dec_lt, dec_le}
use lib.Dec.{T, eqb, leb, ltb, leb→le, le→leb, ltb→lt, lt→ltb, eqb→eq, eqb_refl}
use lib.ListN.{length, get_or}
use Rattle.plan.specs.Test.{both, either}
use Rattle.plan.specs.Plan.{Plan}
use Rattle.plan.specs.Rules.{Accepted}
use Rattle.plan.proofs.Laws.Lists.{both_intro}
use Rattle.plan.proofs.Laws.Counts.{dec_t, either_left, either_right}
use Rattle.plan_measure.proofs.Laws.Follows.{act}
use Rattle.courses.specs.Row.{Row, no_row}
use Rattle.courses.specs.Ready.{weight}
use Rattle.courses.specs.Living.{not_after}
use Rattle.lines.proofs.Laws.Shape.{Closed}
use Rattle.lines.proofs.Laws.Start.{none_closed}
use Rattle.courses.proofs.Laws.PlanShape.{shape}
use Rattle.courses.proofs.Laws.Course.{Core, cost, next_in, spent_in, row_in, acted, acts_kept, Terms, Begins, Works, Ends}
use Rattle.courses.proofs.Laws.Course.{Course, begins, next_round, rests, works, ends}
use Rattle.courses.proofs.Laws.Start.{none_weight}
use Rattle.courses.proofs.Laws.Kept.{Done, Kept, course_kept}

-- turns in order of round, then worker
pub not_after_lem : (a : Row) (r w : ℕ) → a.round ≤ r → (a.round ≡ r → a.worker ≤ w) → T (not_after a r w)
not_after_lem a r w h f =
    by_cases (dec_lt a.round r) (λ l. either_left (ltb a.round r) _ (lt→ltb a.round r l))
    (λ m. let e : a.round ≡ r = omega arith in
    either_right (ltb a.round r) _ (both_intro (eqb a.round r) (leb a.worker w) (rw e (eqb_refl r)) (le→leb a.worker w (f e))))

pub by_then : (a : Row) (r w : ℕ) → T (not_after a r w) → (a.round ≤ r) × (a.round ≡ r → a.worker ≤ w)
by_then a r w t =
    go (ltb a.round r) (eqb a.round r) (leb a.worker w) (ltb→lt a.round r) (eqb→eq a.round r) (leb→le a.worker w) t
  where
    go : (x y z : Bool) → (T x → a.round < r) → (T y → a.round ≡ r) → (T z → a.worker ≤ w) → T (either x (both y z))
        → (a.round ≤ r) × (a.round ≡ r → a.worker ≤ w)
    go true y z f g h t = let l = f tt in (omega arith, λ e. absurd (omega arith))
    go false true z f g h t = (omega (arith, g tt), λ e. h t)
    go false false z f g h t = absurd t

module _ {n r k : ℕ} {a : Row} where
  -- a turn is later than the rows of what was done before it
  row_before : Done n r k a → T (not_after (record { round = r; worker = k }) a.round a.worker) → ⊥
  row_before d t =
      let u = by_then (record { round = r; worker = k }) a.round a.worker t in
      let g : r ≡ a.round = omega (arith, d.latest, u.0) in
      omega (arith, u.1 g, d.turn (sym g))

  -- and no earlier than they are
  row_by : (r' w' : ℕ) → Done n r (suc k) a → T (not_after (record { round = r; worker = k }) r' w') → T (not_after a r' w')
  row_by r' w' d t =
      let u = by_then (record { round = r; worker = k }) r' w' t in
      not_after_lem a r' w' (omega (arith, d.latest, u.0))
      (λ e. let g : r ≡ r' = omega (arith, d.latest, u.0) in omega (arith, u.1 g, d.turn (e ∙ sym g)))

abbrev pub Moment : Plan → Core → Row → Type 0
Moment p c a = (a ≡ no_row) ⊎ ((j : ℕ) × (i : ℕ) × (j < length p) × (i < next_in c j) × (row_in p c j i ≡ a))

module _ (e : Terms) where
  open e use {plan, bound}

  pub record Past (c : Core) (r w : ℕ) (l : List ℕ) : Type 0 where
    pub closed : Closed (shape plan) (λ j. get_or l j 0)
    pub within : weight plan l ≤ bound r
    pub light : weight plan l ≤ c.peak
    pub done : (j i : ℕ) → j < length plan → i < get_or l j 0 → (i < next_in c j) × T (not_after (row_in plan c j i) r w)
    pub every : (j i : ℕ) → j < length plan → i < next_in c j → T (not_after (row_in plan c j i) r w) → i < get_or l j 0

  pub record Peaked (c : Core) : Type 0 where
    pub row : Row
    pub counts : List ℕ
    pub past : Past c row.round row.worker counts
    pub reached : weight plan counts ≡ c.peak
    pub when : Moment plan c row

  -- a turn that finishes no action keeps the past
  works_past : {j : ℕ} {c c' : Core} → Works plan j c c' → {r w : ℕ} {l : List ℕ} → Past c r w l → Past c' r w l
  works_past s past = record {
    closed = past.closed;
    within = past.within;
    light = rw s.peak past.light;
    done = rw (s.next, s.rows) past.done;
    every = rw (s.next, s.rows) past.every;
  }

  works_peaked : {j : ℕ} {c c' : Core} → Works plan j c c' → Peaked c → Peaked c'
  works_peaked s m = record {
    row = m.row;
    counts = m.counts;
    past = works_past s m.past;
    reached = m.reached ∙ sym s.peak;
    when = rw (s.next, s.rows) m.when;
  }

  module _ (ok : Accepted plan) (grows : (r r' : ℕ) → r ≤ r' → bound r ≤ bound r') where
    -- a turn that finishes an action
    module _ {r m k j : ℕ} {b : ℕ → ℕ} {c c' : Core} (t : Course e r m k b c) (mine : b k ≡ suc j)
        (paid : suc (spent_in c j) ≡ cost (act plan j (next_in c j))) (s : Ends plan r k j c c')
        (light : weight plan c'.next ≤ bound r) where
      o : Kept e r k b c
      o = course_kept e ok t

      o' : Kept e r (suc k) b c'
      o' = course_kept e ok (ends t mine paid s light)

      abbrev here : Row
      here = record { round = r; worker = k }

      -- a turn keeps the past of the turns before it
      ends_past : (r' w' : ℕ) → (T (not_after here r' w') → ⊥) → (l : List ℕ) → Past c r' w' l → Past c' r' w' l
      ends_past r' w' later l past = record {
        closed = past.closed;
        within = past.within;
        light = omega (arith, past.light, s.peak);
        done = λ h i z d.
            let x = past.done h i z d in
            let q = acts_kept s.acts o.closed.bound h i z x.0 in
            (q.0, rw q.1 x.1);
        every = λ h i z d q.
            ⊎_elim (λ u. absurd (later (rw (u.0, u.1, s.acts.writes) at q))) (λ u. past.every h i z u.0 (rw u.1 at q))
            (acted s.acts o.closed.bound h i z d);
      }

      -- what is done after it, for the turn itself and later ones
      now_past : (r' w' : ℕ) → T (not_after here r' w') → Past c' r' w' c'.next
      now_past r' w' q = record {
        closed = o'.closed;
        within = le_trans light (grows r r' (by_then here r' w' q).0);
        light = omega (arith, s.peak);
        done = λ h i z d. (d, row_by r' w' (o'.done h i z d) q);
        every = λ h i z d t. d;
      }

      ends_history : (r' w' : ℕ) → (l : List ℕ) × Past c r' w' l → (l : List ℕ) × Past c' r' w' l
      ends_history r' w' old =
          by_cases (dec_t (not_after here r' w')) (λ q. (c'.next, now_past r' w' q)) (λ q. (old.0, ends_past r' w' q old.0 old.1))

      ends_peaked : Peaked c → Peaked c'
      ends_peaked m = go (dec_le (weight plan c'.next) c.peak)
        where
          later : Moment plan c m.row → T (not_after here m.row.round m.row.worker) → ⊥
          later (inl q) x = omega (arith, o.first k j mine, ap (λ z. z.round) q, (by_then here m.row.round m.row.worker x).0)
          later (inr q) x = row_before (o.done q.0 q.1 q.2 q.3) (rw (← q.4) at x)

          old : Moment plan c m.row → Moment plan c' m.row
          old (inl q) = inl q
          old (inr q) =
              let d = acts_kept s.acts o.closed.bound q.0 q.1 q.2 q.3 in
              inr (q.0, q.1, q.2, d.0, d.1 ∙ q.4)

          go : Dec (weight plan c'.next ≤ c.peak) → Peaked c'
          go (yes h) = record {
            row = m.row;
            counts = m.counts;
            past = ends_past m.row.round m.row.worker (later m.when) m.counts m.past;
            reached = omega (arith, m.reached, s.peak);
            when = old m.when;
          }
          go (no h) = record {
            row = here;
            counts = c'.next;
            past = now_past r k (not_after_lem here r k (omega arith) (λ z. omega arith));
            reached = omega (arith, s.peak);
            when = inr (j, next_in c j, s.acts.known, omega (arith, s.acts.acts), s.acts.writes);
          }

    start_past : (c : Core) → Begins plan c → weight plan c.next ≤ bound 0 → (r w : ℕ) → Past c r w c.next
    start_past c s h r w = record {
      closed = none_closed (shape plan) (next_in c) s.none;
      within = le_trans h (grows 0 r (omega arith));
      light = omega (arith, s.peak, none_weight plan ok c.next s.none);
      done = λ j i z d. absurd (omega (arith, s.none j));
      every = λ j i z d t. d;
    }

    -- every core of a course has its past for every turn
    pub history : {r m k : ℕ} {b : ℕ → ℕ} {c : Core} → Course e r m k b c → (r' w' : ℕ) → (l : List ℕ) × Past c r' w' l
    history (begins {b} {c} idle s h) r' w' = (c.next, start_past c s h r' w')
    history (next_round t s h) r' w' = history t r' w'
    history (rests t q) r' w' = history t r' w'
    history (works t mine h s) r' w' = let (l, past) = history t r' w' in (l, works_past s past)
    history (ends t mine h s l) r' w' = ends_history t mine h s l r' w' (history t r' w')

    -- the peak of every core was reached
    pub peaked : {r m k : ℕ} {b : ℕ → ℕ} {c : Core} → Course e r m k b c → Peaked c
    peaked (begins {b} {c} idle s h) = record {
      row = no_row;
      counts = c.next;
      past = start_past c s h 0 0;
      reached = none_weight plan ok c.next s.none ∙ sym s.peak;
      when = inl refl;
    }
    peaked (next_round t s h) = peaked t
    peaked (rests t q) = peaked t
    peaked (works t mine h s) = works_peaked s (peaked t)
    peaked (ends t mine h s l) = ends_peaked t mine h s l (peaked t)
