-- A central pool is a course, whatever the rule by which idle workers take jobs that are ready and that nobody has: after its turn a
-- worker has the job that was spawned, or its own if it goes on, or the parent of its own once that has ended and no child keeps it.
--   line_of h w             == the job that worker w has, as a line; h w is suc j where it has job j, and 0 where it has none
--   Takes p n h h' c       == before a round workers that have no job take living, ready jobs that nobody has
--   Has p j c c' h x       == why a worker has job x after it finished an action of job j: the action spawned it, or it is j and goes
--                             on, or it is j's parent, no child of which lives and which nobody had
--   Passes p w j c c' h h' == worker w, which finished an action of job j, then has such a job, or none; it has the one that was spawned,
--                             or j if it goes on; and somebody has j's parent if j ended and no child of the parent lives
--   Pool p n r k b h c == c is the core of a pool's run of n workers in round r when the workers below k have had their turns; b are
--                             the hands as the round began, and h those by now
--   Manned p n k b h c == what holds of such a core and such hands
--   pool_manned, pool_busy == so it is of a pool; while job 0 has not ended, somebody has a job
--   pool_course            == the run of a pool is a course, steady and with the weight of n heaviest paths as its bound
use Prim.Native.Nat.{ℕ, zero, suc, ◌*◌, ◌≤◌, ◌<◌}
use mathlib.Core.Path.{◌≡◌, refl, ap, sym, ◌∙◌}
use mathlib.Core.Logic.{inl, ◌≢◌, ⊎_elim, by_cases}
use mathlib.Core.Bool.{true}
use mathlib.Core.List.{List, [], ◌∷◌, cons-ne-nil, head-eq_of_cons-eq}
use native.Mathlib.Omega.{arith}
use native.Mathlib.Nat.{le_refl, le_trans, mul-le-mul, eq-zero-or-pos}
use native.Mathlib.Decide.{ℕ_discrete}
use Rattle.plan.specs.Plan.{Plan, size, action, parent}
use Rattle.plan.specs.Rules.{Accepted}
use Rattle.plan.proofs.Laws.Valid.{jobs_range, size_range}
use Rattle.plan_measure.specs.Measure.{heaviest}
use Rattle.plan_measure.proofs.Laws.Follows.{act}
use Rattle.courses.specs.Ready.{weight}
use Rattle.lines.proofs.Laws.Shape.{Living, Ready, Closed, Lone, Leaves, Good}
use Rattle.lines.proofs.Laws.Start.{start_good}
use Rattle.lines.proofs.Laws.Leaves.{ready_of, good_leaves}
use Rattle.lines.proofs.Laws.Cover
use Rattle.lines.proofs.Laws.Act.{Goes, Act, stays, ready_stays, goes_lives, acted_closed, parent_stays, not_born, born_good}
use Rattle.lines.proofs.Laws.Pool.{pool_leaves}
use Rattle.lines.proofs.Laws.Weight.{filled_most}
use Rattle.courses.proofs.Laws.PlanShape.{shape, shape_valid}
use Rattle.courses.proofs.Laws.Course.{Core, cost, next_in, spent_in, Terms, Begins, Works, Ends, Hands, Course}
use Rattle.courses.proofs.Laws.Kept.{course_kept}
use Rattle.courses.proofs.Laws.Space.{leaves_space}

abbrev line_in : ℕ → List ℕ
line_in zero = []
line_in (suc j) = j ∷ []

abbrev pub line_of : (ℕ → ℕ) → ℕ → List ℕ
line_of h w = line_in (h w)

line_is : (x j : ℕ) (l : List ℕ) → line_in x ≡ j ∷ l → x ≡ suc j
line_is zero j l e = absurd (cons-ne-nil j l (sym e))
line_is (suc i) j l e = ap suc (head-eq_of_cons-eq e)

line_by : (x j : ℕ) → x ≡ suc j → line_in x ≡ j ∷ []
line_by x j e = rw e refl

module _ (p : Plan) where
  pub record Takes (n : ℕ) (h h' : ℕ → ℕ) (c : Core) : Type 0 where
    pub keeps : (w j : ℕ) → h w ≡ suc j → h' w ≡ suc j
    pub free : (w j : ℕ) → h w ≡ 0 → h' w ≡ suc j
        → (w < n) × (Living (shape p) (next_in c) j × Ready (shape p) (next_in c) j × ((v : ℕ) → h v ≢ suc j))
    pub apart : (v w j : ℕ) → h v ≡ 0 → h w ≡ 0 → h' v ≡ suc j → h' w ≡ suc j → v ≡ w

  -- why the worker has job x
  pub data Has (j : ℕ) (c c' : Core) (h : ℕ → ℕ) (x : ℕ) : Type 0 where
    child : (action p j (next_in c j)).spawn ≡ suc x → Has j c c' h x
    same : x ≡ j → Goes (shape p) (next_in c') j → Has j c c' h x
    raised : x ≡ parent p j → 1 ≤ j → Lone (shape p) (next_in c') x → ((v : ℕ) → h v ≢ suc x) → Has j c c' h x

  pub record Passes (w j : ℕ) (c c' : Core) (h h' : ℕ → ℕ) : Type 0 where
    pub rest : (v : ℕ) → v ≢ w → h' v ≡ h v
    pub has : (x : ℕ) → h' w ≡ suc x → Has j c c' h x
    pub spawns : (x : ℕ) → (action p j (next_in c j)).spawn ≡ suc x → h' w ≡ suc x
    pub goes : (action p j (next_in c j)).spawn ≡ 0 → Goes (shape p) (next_in c') j → h' w ≡ suc j
    pub dies : 1 ≤ j → size p j ≤ next_in c' j → Lone (shape p) (next_in c') (parent p j) → (v : ℕ) × (h' v ≡ suc (parent p j))

  module _ (n : ℕ) where
    pub data Pool : ℕ → ℕ → (ℕ → ℕ) → (ℕ → ℕ) → Core → Type 0 where
      starts : {h : ℕ → ℕ} {c : Core} → Begins p c → h 0 ≡ 1 → ((w : ℕ) → w ≢ 0 → h w ≡ 0) → Pool 1 0 h h c
      idles : {r k : ℕ} {b h : ℕ → ℕ} {c : Core} → Pool r k b h c → b k ≡ 0 → Pool r (suc k) b h c
      works : {r k j : ℕ} {b h : ℕ → ℕ} {c c' : Core} → Pool r k b h c → b k ≡ suc j → suc (spent_in c j) < cost (act p j (next_in c j))
          → Works p j c c' → Pool r (suc k) b h c'
      passes : {r k j : ℕ} {b h h' : ℕ → ℕ} {c c' : Core} → Pool r k b h c → b k ≡ suc j → suc (spent_in c j) ≡ cost (act p j (next_in c j))
          → Ends p r k j c c' → Passes k j c c' h h' → Pool r (suc k) b h' c'
      takes : {r : ℕ} {b h h' : ℕ → ℕ} {c : Core} → Pool r n b h c → next_in c 0 < size p 0 → Takes n h h' c → Pool (suc r) 0 h' h' c

    abbrev pub terms : Terms
    terms = record { plan = p; workers = n; bound = λ r. n * heaviest p; steady = true }

    pub record Manned (k : ℕ) (b h : ℕ → ℕ) (c : Core) : Type 0 where
      pub closed : Closed (shape p) (next_in c)
      pub leaves : Leaves (shape p) (next_in c) (line_of h)
      pub known : (w j : ℕ) → h w ≡ suc j → w < n
      pub lives : (w j : ℕ) → h w ≡ suc j → Living (shape p) (next_in c) j
      pub ready : (w j : ℕ) → h w ≡ suc j → Ready (shape p) (next_in c) j
      pub once : (v w j : ℕ) → h v ≡ suc j → h w ≡ suc j → v ≡ w
      -- a worker that has not had its turn has the job that it had as the round began, and a job that was begun is with its worker
      pub ahead : (w : ℕ) → k ≤ w → h w ≡ b w
      pub begun : (j : ℕ) → 1 ≤ spent_in c j → (w : ℕ) × (b w ≡ suc j) × (h w ≡ suc j)

    module _ (ok : Accepted p) (some : 1 ≤ n) where
      start_manned : {h : ℕ → ℕ} {c : Core} → Begins p c → h 0 ≡ 1 → ((w : ℕ) → w ≢ 0 → h w ≡ 0) → Manned 0 h h c
      start_manned {h} {c} s root idle = record {
        closed = good.closed;
        leaves = good_leaves (shape p) (shape_valid p ok) (next_in c) (line_of h) good;
        known = λ w j q. rw (zeroth w j q).0 some;
        lives = λ w j q. (good.here w j (rw (line_by (h w) j q) (inl refl))).0;
        ready = λ w j q. (good.here w j (rw (line_by (h w) j q) (inl refl))).1;
        once = λ v w j q i. (zeroth v j q).0 ∙ sym (zeroth w j i).0;
        ahead = λ w l. refl;
        begun = λ j l. absurd (omega (arith, s.fresh j));
      }
        where
          zeroth : (w j : ℕ) → h w ≡ suc j → (w ≡ 0) × (j ≡ 0)
          zeroth w j q = by_cases (ℕ_discrete w 0) (λ z. (z, omega (arith, ap h z))) (λ f. absurd (omega (arith, idle w f)))

          good : Good (shape p) (next_in c) (line_of h)
          good =
              start_good (shape p) (shape_valid p ok) (next_in c) (line_of h) s.none (line_by (h 0) 0 root) (λ w f. ap line_in (idle w f))

      takes_manned : {b h h' : ℕ → ℕ} {c : Core} → Takes n h h' c → Manned n b h c → Manned 0 h' h' c
      takes_manned {b} {h} {h'} {c} s o = record {
        closed = o.closed;
        leaves = record {
          known = λ w x l e. (lives' w x (line_is (h' w) x l e)).0.below;
          leaf = λ x a f.
              let (w, l, e) = o.leaves.leaf x a f in
              (w, [], line_by (h' w) x (s.keeps w x (line_is (h w) x l e)));
        };
        known = λ w j q. ⊎_elim (λ z. (s.free w j z q).0) (λ z. o.known w j (old w j z q)) (eq-zero-or-pos (h w));
        lives = λ w j q. (lives' w j q).0;
        ready = λ w j q. (lives' w j q).1;
        once = λ v w j q i. ⊎_elim
            (λ z. ⊎_elim (λ y. s.apart v w j z y q i) (λ y. absurd ((s.free v j z q).1.2 w (old w j y i))) (eq-zero-or-pos (h w)))
            (λ z. ⊎_elim (λ y. absurd ((s.free w j y i).1.2 v (old v j z q)))
            (λ y. o.once v w j (old v j z q) (old w j y i)) (eq-zero-or-pos (h w)))
            (eq-zero-or-pos (h v));
        ahead = λ w l. refl;
        begun = λ j l. let (w, q, i) = o.begun j l in (w, s.keeps w j i, s.keeps w j i);
      }
        where
          old : (w j : ℕ) → 0 < h w → h' w ≡ suc j → h w ≡ suc j
          old w j z q = go (h w) refl z
            where
              go : (x : ℕ) → h w ≡ x → 0 < x → h w ≡ suc j
              go zero e z = absurd (omega arith)
              go (suc i) e z = omega (arith, s.keeps w i e)

          lives' : (w j : ℕ) → h' w ≡ suc j → Living (shape p) (next_in c) j × Ready (shape p) (next_in c) j
          lives' w j q =
              ⊎_elim (λ z. let f = (s.free w j z q).1 in (f.0, f.1)) (λ z. (o.lives w j (old w j z q), o.ready w j (old w j z q)))
              (eq-zero-or-pos (h w))

      works_manned : {k j : ℕ} {b h : ℕ → ℕ} {c c' : Core} → b k ≡ suc j → Works p j c c' → Manned k b h c → Manned (suc k) b h c'
      works_manned {k} {j} mine s o = record {
        closed = rw s.next o.closed;
        leaves = rw s.next o.leaves;
        known = o.known;
        lives = rw s.next o.lives;
        ready = rw s.next o.ready;
        once = o.once;
        ahead = λ w l. o.ahead w (omega arith);
        begun = λ x l.
            by_cases (ℕ_discrete x j) (λ z. rw z (k, mine, o.ahead k (omega arith) ∙ mine))
            (λ z. o.begun x (omega (arith, s.others x z)));
      }

      module _ {r k j : ℕ} {b h h' : ℕ → ℕ} {c c' : Core} (mine : b k ≡ suc j) (s : Ends p r k j c c') (t : Passes k j c c' h h')
          (o : Manned k b h c) where
        has : h k ≡ suc j
        has = o.ahead k (omega arith) ∙ mine

        step : Act (shape p) (next_in c) (next_in c') j
        step = record {
          closed = o.closed;
          lives = o.lives k j has;
          ready = o.ready k j has;
          acts = s.acts.acts;
          others = s.acts.rests;
        }

        -- a job that the worker has after its turn lives, is ready, and no other worker had it
        now : (x : ℕ) → Has j c c' h x
            → Living (shape p) (next_in c') x × (Ready (shape p) (next_in c') x × ((v : ℕ) → v ≢ k → h v ≢ suc x))
        now x (child e) =
            let g = born_good step (shape_valid p ok) x e in
            (g.0, (g.1, λ v f i. not_born step (shape_valid p ok) x e (o.lives v x i)))
        now x (same e g) = (rw e (goes_lives step g.left), (rw e g.ready, λ v f i. f (o.once v k j (i ∙ ap suc e) has)))
        now x (raised e l none free) =
            (rw e (parent_stays step (shape_valid p ok) l).1, (ready_of (shape p) (shape_valid p ok) (next_in c') x none, λ v f. free v))

        after : (w x : ℕ) → h' w ≡ suc x → Living (shape p) (next_in c') x × Ready (shape p) (next_in c') x
        after w x q = by_cases (ℕ_discrete w k) (λ z. let g = now x (t.has x (rw z at q)) in (g.0, g.1.0)) other
          where
            other : w ≢ k → Living (shape p) (next_in c') x × Ready (shape p) (next_in c') x
            other z =
                let i : h w ≡ suc x = sym (t.rest w z) ∙ q in
                let f : x ≢ j = λ y. z (o.once w k j (i ∙ ap suc y) has) in
                (stays step x f (o.lives w x i), ready_stays step x f (o.ready w x i))

        passes_manned : Manned (suc k) b h' c'
        passes_manned = record {
          closed = acted_closed step;
          leaves = pool_leaves (shape_valid p ok) step o.leaves (record {
            worker = k;
            above = [];
            first = line_by (h k) j has;
            rest = λ v f. ap line_in (t.rest v f);
            known = λ x l e. (after k x (line_is (h' k) x l e)).0.below;
            spawns = λ x e. (k, [], line_by (h' k) x (t.spawns x e));
            goes = λ e g. (k, [], line_by (h' k) j (t.goes e g));
            dies = λ l d none. let (v, q) = t.dies l d none in (v, [], line_by (h' v) (parent p j) q);
          });
          known = λ w x q. by_cases (ℕ_discrete w k) (λ z. rw z (o.known k j has)) (λ z. o.known w x (sym (t.rest w z) ∙ q));
          lives = λ w x q. (after w x q).0;
          ready = λ w x q. (after w x q).1;
          once = λ v w x q i. go v w x q i (ℕ_discrete v k) (ℕ_discrete w k);
          ahead = λ w l. t.rest w (λ z. omega arith) ∙ o.ahead w (omega arith);
          begun = λ x l.
              let f : x ≢ j = λ z. omega (arith, ap (spent_in c') z, s.fresh) in
              let (w, q, i) = o.begun x (omega (arith, s.others x f)) in
              (w, q, t.rest w (λ z. f (omega (arith, ap b z))) ∙ i);
        }
          where
            go : (v w x : ℕ) → h' v ≡ suc x → h' w ≡ suc x → Dec (v ≡ k) → Dec (w ≡ k) → v ≡ w
            go v w x q i (yes y) (yes z) = y ∙ sym z
            go v w x q i (yes y) (no z) = absurd ((now x (t.has x (rw y at q))).1.1 w z (sym (t.rest w z) ∙ i))
            go v w x q i (no y) (yes z) = absurd ((now x (t.has x (rw z at i))).1.1 v y (sym (t.rest v y) ∙ q))
            go v w x q i (no y) (no z) = o.once v w x (sym (t.rest v y) ∙ q) (sym (t.rest w z) ∙ i)

      pub pool_manned : {r k : ℕ} {b h : ℕ → ℕ} {c : Core} → Pool r k b h c → Manned k b h c
      pool_manned (starts s q i) = start_manned s q i
      pool_manned (idles t q) =
          let o = pool_manned t in
          record {
            closed = o.closed;
            leaves = o.leaves;
            known = o.known;
            lives = o.lives;
            ready = o.ready;
            once = o.once;
            ahead = λ w l. o.ahead w (omega arith);
            begun = o.begun;
          }
      pool_manned (works t q i s) = works_manned q s (pool_manned t)
      pool_manned (passes t q i s u) = passes_manned q s u (pool_manned t)
      pool_manned (takes t q s) = takes_manned s (pool_manned t)

      -- no more jobs are in hand than there are workers
      light : {k : ℕ} {b h : ℕ → ℕ} {c : Core} → Manned k b h c → weight p c.next ≤ n * heaviest p
      light {h = h} {c = c} o =
          le_trans (leaves_space p ok c.next (line_of h) o.leaves n (λ w l. none w l (h w) refl))
          (mul-le-mul (filled_most n (line_of h)) (le_refl (heaviest p)))
        where
          none : (w : ℕ) → n ≤ w → (x : ℕ) → h w ≡ x → line_in x ≡ []
          none w l zero e = refl
          none w l (suc j) e = absurd (omega (arith, o.known w j e))

      -- some job is in hand while job 0 lives
      pub pool_busy : {k : ℕ} {b h : ℕ → ℕ} {c : Core} → Manned k b h c → next_in c 0 < size p 0 → (w : ℕ) × (j : ℕ) × (h w ≡ suc j)
      pool_busy {h = h} {c = c} o l =
          let (w, x, r, e) = Cover.busy (shape p) (shape_valid p ok) (next_in c) (line_of h) o.leaves
          (record { below = (jobs_range p ok).0; begun = λ z. absurd (omega arith); left = l }) in
          (w, x, line_is (h w) x r e)

      hands : {k : ℕ} {b h : ℕ → ℕ} {c : Core} → Manned 0 h h c → ((w j : ℕ) → b w ≡ suc j → w < k) → next_in c 0 < size p 0
          → ((w j : ℕ) → h w ≡ suc j → 1 ≤ spent_in c j → b w ≡ suc j) → Hands terms k b h c
      hands o over goes stays = record {
        over = over;
        goes = goes;
        known = o.known;
        lives = o.lives;
        ready = o.ready;
        once = o.once;
        stays = λ z. stays;
      }

      pub pool_course : {r k : ℕ} {b h : ℕ → ℕ} {c : Core} → Pool r k b h c → Course terms r 0 k b c
      pool_course (starts {h} {c} s q i) =
          let o = start_manned s q i in
          let goes : next_in c 0 < size p 0 = omega (arith, s.none 0, size_range p ok 0 (jobs_range p ok).0) in
          Course.next_round (Course.begins {b = λ w. 0} (λ w. refl) s (light o))
          (hands o (λ w j q. absurd (omega arith)) goes (λ w j q l. absurd (omega (arith, s.fresh j)))) (inl (refl, pool_busy o goes))
      pool_course (idles t q) = Course.rests (pool_course t) q
      pool_course (works t q i s) = Course.works (pool_course t) q i s
      pool_course (passes t q i s u) = Course.ends (pool_course t) q i s (light (passes_manned q s u (pool_manned t)))
      pool_course (takes t q s) =
          let o = pool_manned t in
          let o' = takes_manned s o in
          Course.next_round (pool_course t)
          (hands o' (course_kept terms ok (pool_course t)).known q
          (λ w j i l. let (v, y, z) = o.begun j l in rw (← o'.once v w j (s.keeps v j z) i) y)) (inl (refl, pool_busy o' q))
