-- What holds of every core of a course: what is done is closed, each done action has a row of a past turn, and each came at least as
-- many rounds after all that it must follow as it takes turns.
--   Done n r k a   == row a is of one of n workers, and stands before the turn of worker k in round r
--   Free e r c j   == all that the next action of job j must follow, and the turns that it has had, came before round r
--   Later e c j i  == all that action i of job j must follow was done at least as many rounds before it as it takes turns
--   Kept e r k b c == what holds of the core c of a course in round r, which has the hands b, when the workers below k have had their turns
--   course_kept    == it holds of every core of a course
--   course_done    == when job 0 has ended, all is done
use Prim.Native.Nat.{ℕ, suc, ◌+◌, ◌-◌, ◌≤◌, ◌<◌}
use mathlib.Core.Path.{◌≡◌, refl, ap, ◌∙◌}
use mathlib.Core.Logic.{◌⊎◌, inl, inr, ◌≢◌, ⊎_elim, by_cases}
use native.Mathlib.Omega.{arith}
use native.Mathlib.Nat.{eq-zero-or-pos}
use native.Mathlib.Decide.{ℕ_discrete, dec_le}
use lib.ListN.{length, get_or}
use Rattle.plan.specs.Plan.{size, total}
use Rattle.plan.specs.Rules.{Accepted}
use Rattle.plan.proofs.Laws.Valid.{jobs_range, size_range, spawned_once_lem, join_target}
use Rattle.plan_measure.proofs.Laws.Follows.{act, Follows, next, born, joined}
use Rattle.courses.specs.Row.{Row}
use Rattle.lines.proofs.Laws.Shape.{Living, Ready, Closed}
use Rattle.lines.proofs.Laws.Start.{none_closed}
use Rattle.lines.proofs.Laws.Progress
use Rattle.lines.proofs.Laws.Act.{Act, acted_closed, stays}
use Rattle.courses.proofs.Laws.PlanShape.{shape, shape_valid}
use Rattle.courses.proofs.Laws.Course.{Core, cost, next_in, spent_in, row_in, New, Old, acted, acts_new, acts_kept}
use Rattle.courses.proofs.Laws.Course.{Terms, Begins, Hands, Works, Ends, Course, begins, next_round, rests, works, ends}

pub record Done (n r k : ℕ) (a : Row) : Type 0 where
  pub first : 1 ≤ a.round
  pub known : a.worker < n
  pub latest : a.round ≤ r
  pub turn : a.round ≡ r → a.worker < k

pub done_on : {n r k k' : ℕ} {a : Row} → k ≤ k' → Done n r k a → Done n r k' a
done_on l d = record { first = d.first; known = d.known; latest = d.latest; turn = λ z. omega (arith, d.turn z) }

module _ (e : Terms) where
  open e use {plan, workers}

  pub record Free (r : ℕ) (c : Core) (j : ℕ) : Type 0 where
    pub early : spent_in c j < r
    pub after : (h m : ℕ) → h < length plan → m < size plan h → Follows plan (act plan j (next_in c j)) (act plan h m)
        → (m < next_in c h) × ((row_in plan c h m).round + spent_in c j < r)

  abbrev pub Later : Core → ℕ → ℕ → Type 0
  Later c j i = (h m : ℕ) → h < length plan → m < size plan h → Follows plan (act plan j i) (act plan h m)
      → (m < next_in c h) × ((row_in plan c h m).round + cost (act plan j i) ≤ (row_in plan c j i).round)

  pub record Kept (r k : ℕ) (b : ℕ → ℕ) (c : Core) : Type 0 where
    pub first : (w j : ℕ) → b w ≡ suc j → 1 ≤ r
    pub known : (w j : ℕ) → b w ≡ suc j → w < workers
    pub once : (v w j : ℕ) → b v ≡ suc j → b w ≡ suc j → v ≡ w
    pub long : length c.rows ≡ total plan
    pub closed : Closed (shape plan) (next_in c)
    pub done : (j i : ℕ) → j < length plan → i < next_in c j → Done workers r k (row_in plan c j i)
    -- an action takes its turns, after all that it must follow
    pub worth : (j i : ℕ) → j < length plan → i < next_in c j
        → (1 ≤ cost (act plan j i)) × (cost (act plan j i) ≤ (row_in plan c j i).round)
    pub later : (j i : ℕ) → j < length plan → i < next_in c j → Later c j i
    -- the job of a worker that has not had its turn
    pub lives : (w j : ℕ) → k ≤ w → b w ≡ suc j → Living (shape plan) (next_in c) j
    pub free : (w j : ℕ) → k ≤ w → b w ≡ suc j → Free r c j
    -- a job whose next action was begun
    pub begun : (j : ℕ) → 1 ≤ spent_in c j → Free (suc r) c j
    pub unpaid : (j : ℕ) → 1 ≤ spent_in c j → (next_in c j < size plan j) × (spent_in c j < cost (act plan j (next_in c j)))

  -- another worker has another job
  pub other : {r k j : ℕ} {b : ℕ → ℕ} {c : Core} → Kept r k b c → b k ≡ suc j → (w x : ℕ) → w ≢ k → b w ≡ suc x → x ≢ j
  other {k = k} {j = j} o mine w x f q z = f (o.once w k j (q ∙ ap suc z) mine)

  -- a job stays free if it has had no turn, and what was done is done, with the row that it had
  free_on : {r x : ℕ} {c c' : Core} → spent_in c' x ≡ spent_in c x → next_in c' x ≡ next_in c x
      → ((h m : ℕ) → h < length plan → m < next_in c h → (m < next_in c' h) × (row_in plan c' h m ≡ row_in plan c h m))
      → Free r c x → Free r c' x
  free_on spent same old f = record {
    early = omega (arith, spent, f.early);
    after = λ h m l i g.
        let d = f.after h m l i (rw same at g) in
        let q = old h m l d.0 in
        (q.0, rw (q.1, spent) d.1);
  }

  module _ (ok : Accepted plan) where
    -- a free job is ready
    free_ready : {r : ℕ} {c : Core} {j : ℕ} → Free r c j → Ready (shape plan) (next_in c) j
    free_ready {c = c} {j = j} f h b m l q i = (f.after h m b l (joined (join_target plan ok h m (next_in c j) b l i).0 q i)).0

    -- all that a ready job must follow is done
    ready_done : (c : Core) {j : ℕ} → Living (shape plan) (next_in c) j → Ready (shape plan) (next_in c) j
        → (h m : ℕ) → h < length plan → m < size plan h → Follows plan (act plan j (next_in c j)) (act plan h m) → m < next_in c h
    ready_done c a r h m b l (next q i) = omega (arith, ap (next_in c) q)
    ready_done c {j} a r h m b l (born o i q) =
        let s = spawned_once_lem plan ok h m j b l q in
        omega (arith, a.begun o, ap (next_in c) s.2, s.3)
    ready_done c a r h m b l (joined o q i) = r h b m l q i

    start_kept : {b : ℕ → ℕ} {c : Core} → ((w : ℕ) → b w ≡ 0) → Begins plan c → Kept 0 0 b c
    start_kept {c = c} idle s = record {
      first = λ w j q. absurd (omega (arith, idle w));
      known = λ w j q. absurd (omega (arith, idle w));
      once = λ v w j q i. absurd (omega (arith, idle w));
      long = s.long;
      closed = none_closed (shape plan) (next_in c) s.none;
      done = λ j i l d. absurd (omega (arith, s.none j));
      worth = λ j i l d. absurd (omega (arith, s.none j));
      later = λ j i l d. absurd (omega (arith, s.none j));
      lives = λ w j l q. absurd (omega (arith, idle w));
      free = λ w j l q. absurd (omega (arith, idle w));
      begun = λ j l. absurd (omega (arith, s.fresh j));
      unpaid = λ j l. absurd (omega (arith, s.fresh j));
    }

    next_kept : {r k : ℕ} {b b' : ℕ → ℕ} {c : Core} → Kept r k b c → Hands e k b b' c → Kept (suc r) 0 b' c
    next_kept {r} {k} {b} {b'} {c} o s = record {
      first = λ w j q. omega arith;
      known = s.known;
      once = s.once;
      long = o.long;
      closed = o.closed;
      done = λ j i l d.
          let x = o.done j i l d in
          record { first = x.first; known = x.known; latest = omega (arith, x.latest); turn = λ z. omega (arith, x.latest) };
      worth = o.worth;
      later = o.later;
      lives = λ w j l q. s.lives w j q;
      free = λ w j l q. ⊎_elim (fresh w j q) (o.begun j) (eq-zero-or-pos (spent_in c j));
      begun = λ j l.
          let f = o.begun j l in
          record { early = omega (arith, f.early); after = λ h m z i g. let x = f.after h m z i g in (x.0, omega (arith, x.1)) };
      unpaid = o.unpaid;
    }
      where
        fresh : (w j : ℕ) → b' w ≡ suc j → spent_in c j ≡ 0 → Free (suc r) c j
        fresh w j q z = record {
          early = omega arith;
          after = λ h m l i g.
              let d = ready_done c (s.lives w j q) (s.ready w j q) h m l i g in
              (d, omega (arith, (o.done h m l d).latest));
        }

    rests_kept : {r k : ℕ} {b : ℕ → ℕ} {c : Core} → Kept r k b c → Kept r (suc k) b c
    rests_kept o = record {
      first = o.first;
      known = o.known;
      once = o.once;
      long = o.long;
      closed = o.closed;
      done = λ j i l d. done_on (omega arith) (o.done j i l d);
      worth = o.worth;
      later = o.later;
      lives = λ w j l q. o.lives w j (omega arith) q;
      free = λ w j l q. o.free w j (omega arith) q;
      begun = o.begun;
      unpaid = o.unpaid;
    }

    module _ {r k j : ℕ} {b : ℕ → ℕ} {c c' : Core} (o : Kept r k b c) (mine : b k ≡ suc j)
        (left : suc (spent_in c j) < cost (act plan j (next_in c j))) (s : Works plan j c c') where
      free_works : {x y : ℕ} → x ≢ j → Free y c x → Free y c' x
      free_works {x} z = free_on (s.others x z) (ap (λ l. get_or l x 0) s.next) (rw (s.next, s.rows) (λ h i l d. (d, refl)))

      works_kept : Kept r (suc k) b c'
      works_kept = record {
        first = o.first;
        known = o.known;
        once = o.once;
        long = rw s.rows o.long;
        closed = rw s.next o.closed;
        done = λ h i l d. rw s.rows (done_on (omega arith) (o.done h i l (rw s.next at d)));
        worth = rw (s.next, s.rows) o.worth;
        later = rw (s.next, s.rows) o.later;
        lives = λ w x l q. rw s.next (o.lives w x (omega arith) q);
        free = λ w x l q. free_works (other o mine w x (λ z. omega arith) q) (o.free w x (omega arith) q);
        begun = λ x l. by_cases (ℕ_discrete x j) (λ z. rw z spent) (λ z. free_works z (o.begun x (omega (arith, s.others x z))));
        unpaid = λ x l. rw s.next (by_cases (ℕ_discrete x j)
            (λ z. rw z ((o.lives k j (omega arith) mine).left, omega (arith, s.spends)))
            (λ z. rw (s.others x z) (o.unpaid x (omega (arith, s.others x z)))));
      }
        where
          spent : Free (suc r) c' j
          spent =
              let f = o.free k j (omega arith) mine in
              record {
                early = omega (arith, s.spends, f.early);
                after = λ h m l i g.
                    let x = f.after h m l i (rw s.next at g) in
                    rw (s.next, s.rows, s.spends) (x.0, omega (arith, x.1));
              }

    module _ {r k j : ℕ} {b : ℕ → ℕ} {c c' : Core} (o : Kept r k b c) (mine : b k ≡ suc j)
        (paid : suc (spent_in c j) ≡ cost (act plan j (next_in c j))) (s : Ends plan r k j c c') where
      me : Free r c j
      me = o.free k j (omega arith) mine

      bounded : (h : ℕ) → h < length plan → next_in c h ≤ size plan h
      bounded = o.closed.bound

      action : Act (shape plan) (next_in c) (next_in c') j
      action = record {
        closed = o.closed;
        lives = o.lives k j (omega arith) mine;
        ready = free_ready me;
        acts = s.acts.acts;
        others = s.acts.rests;
      }

      free_ends : {x y : ℕ} → x ≢ j → Free y c x → Free y c' x
      free_ends {x} z = free_on (s.others x z) (s.acts.rests x z) (acts_kept s.acts bounded)

      ends_done : (h i : ℕ) → h < length plan → i < next_in c' h → Done workers r (suc k) (row_in plan c' h i)
      ends_done h i l d =
          ⊎_elim (λ q. rw (acts_new s.acts h i q) now) (λ q. rw q.1 (done_on (omega arith) (o.done h i l q.0)))
          (acted s.acts bounded h i l d)
        where
          now : Done workers r (suc k) (record { round = r; worker = k })
          now = record { first = o.first k j mine; known = o.known k j mine; latest = omega arith; turn = λ z. omega arith }

      ends_worth : (h i : ℕ) → h < length plan → i < next_in c' h
          → (1 ≤ cost (act plan h i)) × (cost (act plan h i) ≤ (row_in plan c' h i).round)
      ends_worth h i l d =
          ⊎_elim (λ q. rw (acts_new s.acts h i q, q.0, q.1) (omega (arith, me.early), omega (arith, me.early)))
          (λ q. rw q.1 (o.worth h i l q.0)) (acted s.acts bounded h i l d)

      ends_later : (x i : ℕ) → x < length plan → i < next_in c' x → Later c' x i
      ends_later x i l d h m z y f = go (acted s.acts bounded x i l d)
        where
          go : New j c x i ⊎ Old plan c c' x i
              → (m < next_in c' h) × ((row_in plan c' h m).round + cost (act plan x i) ≤ (row_in plan c' x i).round)
          go (inl u) =
              let t = me.after h m z y (rw (u.0, u.1) at f) in
              let q = acts_kept s.acts bounded h m z t.0 in
              (q.0, rw (acts_new s.acts x i u, q.1, u.0, u.1) (omega (arith, t.1)))
          go (inr u) =
              let t = o.later x i l u.0 h m z y f in
              let q = acts_kept s.acts bounded h m z t.0 in
              (q.0, rw (q.1, u.1) t.1)

      ends_kept : Kept r (suc k) b c'
      ends_kept = record {
        first = o.first;
        known = o.known;
        once = o.once;
        long = s.long ∙ o.long;
        closed = acted_closed action;
        done = ends_done;
        worth = ends_worth;
        later = ends_later;
        lives = λ w x l q. stays action x (other o mine w x (λ z. omega arith) q) (o.lives w x (omega arith) q);
        free = λ w x l q. free_ends (other o mine w x (λ z. omega arith) q) (o.free w x (omega arith) q);
        begun = λ x l.
            let z : x ≢ j = λ q. omega (arith, ap (spent_in c') q, s.fresh) in
            free_ends z (o.begun x (omega (arith, s.others x z)));
        unpaid = λ x l.
            let z : x ≢ j = λ q. omega (arith, ap (spent_in c') q, s.fresh) in
            rw (s.acts.rests x z, s.others x z) (o.unpaid x (omega (arith, s.others x z)));
      }

    pub course_kept : {r m k : ℕ} {b : ℕ → ℕ} {c : Core} → Course e r m k b c → Kept r k b c
    course_kept (begins idle s h) = start_kept idle s
    course_kept (next_round t s h) = next_kept (course_kept t) s
    course_kept (rests t q) = rests_kept (course_kept t)
    course_kept (works t mine h s) = works_kept (course_kept t) mine h s
    course_kept (ends t mine h s l) = ends_kept (course_kept t) mine h s

    -- when job 0 has ended, all is done
    pub course_done : {r m k : ℕ} {b : ℕ → ℕ} {c : Core} → Course e r m k b c → size plan 0 ≤ next_in c 0
        → (j : ℕ) → j < length plan → next_in c j ≡ size plan j
    course_done {c = c} t = Progress.all_done (shape plan) (shape_valid plan ok) (next_in c) (course_kept t).closed

    -- so every action is
    pub course_all : {r m k : ℕ} {b : ℕ → ℕ} {c : Core} → Course e r m k b c → size plan 0 ≤ next_in c 0
        → (j i : ℕ) → j < length plan → i < size plan j → i < next_in c j
    course_all t ended j i l m = omega (arith, course_done t ended j l)

    -- and the last action of job 0 was done in this round
    pub course_ended : {r m k : ℕ} {b : ℕ → ℕ} {c : Core} → Course e r m k b c → size plan 0 ≤ next_in c 0
        → (row_in plan c 0 (size plan 0 - 1)).round ≡ r
    course_ended (begins idle s h) g =
        let z = (jobs_range plan ok).0 in
        absurd (omega (arith, s.none 0, size_range plan ok 0 z))
    course_ended (next_round t s h) g = absurd (omega (arith, s.goes))
    course_ended (rests t q) g = course_ended t g
    course_ended (works t mine h s) g = rw s.rows (course_ended t (rw s.next at g))
    course_ended (ends {r} {m} {k} {j} {b} {c} {c'} t mine h s l) g = go (dec_le (size plan 0) (next_in c 0)) (course_ended t)
      where
        z : 0 < length plan
        z = (jobs_range plan ok).0

        last : size plan 0 - 1 < next_in c' 0
        last = omega (arith, size_range plan ok 0 z)

        go : Dec (size plan 0 ≤ next_in c 0) → (size plan 0 ≤ next_in c 0 → (row_in plan c 0 (size plan 0 - 1)).round ≡ r)
            → (row_in plan c' 0 (size plan 0 - 1)).round ≡ r
        go (yes x) rec =
            rw (acts_kept s.acts (course_kept t).closed.bound 0 (size plan 0 - 1) z (omega (arith, size_range plan ok 0 z))).1 (rec x)
        go (no x) rec =
            ⊎_elim (λ q. rw (acts_new s.acts 0 (size plan 0 - 1) q) refl) (λ q. absurd (omega (arith, q.0, size_range plan ok 0 z)))
            (acted s.acts (course_kept t).closed.bound 0 (size plan 0 - 1) z last)
