-- The requests at each victim in the order in which they are served: a request that is laid goes behind the others, one that is served
-- was the first, and the first is the one that `oldest` picks.
--   queue_room              == where a worker does not wait, each line has room for one more
--   queue_first, queue_none == the pick of a victim is the first of its line, and where there is none nobody is picked
--   queued_later            == the lines, where later requests may have come
--   queued_push, queued_pop == .. after a request, and after a service
--   turns_queued            == .. after turns
use Prim.Native.Nat.{ℕ, zero, suc, ◌≤◌, ◌<◌}
use mathlib.Core.Path.{◌≡◌, refl, sym, ap, ◌∙◌}
use mathlib.Core.Logic.{inl, inr, ⊎_elim, ◌≢◌, by_cases}
use mathlib.Core.List.{List, [], ◌∷◌, ◌++◌}
use native.Mathlib.Nat.{le_refl}
use native.Mathlib.Omega.{arith}
use native.Mathlib.Decide.{ℕ_discrete, dec_lt}
use lib.ListN.{length, get_or, set, length-set}
use lib.Seq.{get_or-set_same, get_or-set_other}
use Rattle.lines.proofs.Laws.Member.{◌∈◌, in_front, in_back}
use Rattle.runs.specs.declared.worker.Worker.{Worker}
use Rattle.runs.specs.declared.worker.Worker.TheVariants.{Idle, Holding, Waiting}
use Rattle.runs.specs.Setting.{Setting, count_in}
use Rattle.runs.specs.State.{State}
use Rattle.runs.specs.Turn.{turns}
use Rattle.runs.specs.Steal.{oldest, waits, waiting}
use Rattle.runs.specs.Trace.{turning, Trace}
use Rattle.runs.proofs.Laws.Fit.{Fit}
use Rattle.runs.proofs.Laws.Sound.{trace_sound}
use Rattle.runs.proofs.Laws.Began.{trace_began}
use Rattle.runs.proofs.Laws.Stores.{turned_workers}
use Rattle.runs.proofs.Laws.Whole.{turns_trace}
use Rattle.runs.proofs.Laws.Least.{rank, Best, oldest_best}
use Rattle.crew.specs.Line.{waiting_at, LineAt, LinedUp, Gone, Beside}
use Rattle.crew.proofs.Laws.Lines.{line_beside}
use Rattle.crew.specs.declared.line.Lines.{Lines}
use Rattle.rounds.proofs.Laws.Standing.{Ranked, Queue, Queued}

-- how many wait of sixteen
waits_most : (x : Worker) → waits x ≤ 1
waits_most Idle = omega arith
waits_most (Holding j) = omega arith
waits_most (Waiting v l) = omega arith

waiting_most : (ws : List Worker) (k : ℕ) → waiting k ws ≤ k
waiting_most ws zero = omega arith
waiting_most ws (suc k) = omega (arith, waiting_most ws k, waits_most (get_or ws k Idle))

waiting_less : (ws : List Worker) (w : ℕ) → waits (get_or ws w Idle) ≡ 0 → (k : ℕ) → w < k → waiting k ws < k
waiting_less ws w c zero h = absurd (omega arith)
waiting_less ws w c (suc k) h =
    by_cases (ℕ_discrete k w) (λ e. omega (arith, waiting_most ws k, ap (λ u. waits (get_or ws u Idle)) e))
    (λ f. omega (arith, waiting_less ws w c k (omega (arith, f)), waits_most (get_or ws k Idle)))

module _ (ws : List Worker) (u : ℕ) where
  waiting_below : (k : ℕ) → k ≤ u → waiting k (set ws u Idle) ≡ waiting k ws
  waiting_below zero h = refl
  waiting_below (suc k) h = omega (arith, waiting_below k (omega arith), ap waits (get_or-set_other ws u k Idle Idle (λ e. omega arith)))

  waiting_out : u < length ws → waits (get_or ws u Idle) ≡ 1 → (k : ℕ) → u < k → suc (waiting k (set ws u Idle)) ≡ waiting k ws
  waiting_out b c zero h = absurd (omega arith)
  waiting_out b c (suc k) h = by_cases (ℕ_discrete k u)
      (λ e. omega (
        arith,
        waiting_below k (omega arith),
        ap (λ w. waits (get_or (set ws u Idle) w Idle)) e,
        ap waits (get_or-set_same ws u Idle Idle b),
        ap (λ w. waits (get_or ws w Idle)) e,
      ))
      (λ f. omega (arith, waiting_out b c k (omega (arith, f)), ap waits (get_or-set_other ws u k Idle Idle f)))

module _ (v : ℕ) (ws : List Worker) where
  -- each worker of a line waits on the line's victim
  ranked_waits : (lo hi : ℕ) (q : List ℕ) → Ranked v ws lo hi q → (u : ℕ) → u ∈ q
      → (l : ℕ) × (u < 16) × (get_or ws u Idle ≡ Waiting v l) × (lo ≤ rank l u)
  ranked_waits lo hi [] r u s = absurd s
  ranked_waits lo hi (w ∷ q) (l, b, e, h, t) u (inl i) = rw i (l, b, e, h)
  ranked_waits lo hi (w ∷ q) (l, b, e, h, t) u (inr s) =
      let (m, c, f, k) = ranked_waits (suc (rank l w)) hi q t u s in (m, c, f, omega arith)

  ranked_wider : (lo lo' hi hi' : ℕ) (q : List ℕ) → Ranked v ws lo hi q → lo' ≤ lo → hi ≤ hi' → Ranked v ws lo' hi' q
  ranked_wider lo lo' hi hi' [] r h k = omega arith
  ranked_wider lo lo' hi hi' (w ∷ q) (l, b, e, i, t) h k =
      (l, b, e, omega arith, ranked_wider (suc (rank l w)) (suc (rank l w)) hi hi' q t (le_refl _) k)

  ranked_set : (lo hi : ℕ) (q : List ℕ) (w : ℕ) (x : Worker) → Ranked v ws lo hi q → (w ∈ q → ⊥) → Ranked v (set ws w x) lo hi q
  ranked_set lo hi [] w x r f = r
  ranked_set lo hi (u ∷ q) w x (l, b, e, h, t) f =
      (l, b, get_or-set_other ws w u x Idle (λ i. f (inl (sym i))) ∙ e, h, ranked_set (suc (rank l u)) hi q w x t (λ s. f (inr s)))

  ranked_push : (lo hi : ℕ) (q : List ℕ) (w l : ℕ) → Ranked v ws lo hi q → w < 16 → get_or ws w Idle ≡ Waiting v l → hi ≤ rank l w
      → Ranked v ws lo (suc (rank l w)) (q ++ (w ∷ []))
  ranked_push lo hi [] w l r b e h = (l, b, e, omega arith, le_refl _)
  ranked_push lo hi (u ∷ q) w l (m, c, f, k, t) b e h = (m, c, f, k, ranked_push (suc (rank m u)) hi q w l t b e h)

  -- the first of a line does not stand behind itself
  ranked_once : (hi w l : ℕ) (q : List ℕ) → get_or ws w Idle ≡ Waiting v l → Ranked v ws (suc (rank l w)) hi q → w ∈ q → ⊥
  ranked_once hi w l q e t s =
      let (m, c, f, k) = ranked_waits (suc (rank l w)) hi q t w s in let i : l ≡ m = cc in omega arith

-- so a line is no longer than there are workers that wait
ranked_long : (v : ℕ) (ws : List Worker) (lo hi : ℕ) (q : List ℕ) → length ws ≡ 16 → Ranked v ws lo hi q → length q ≤ waiting 16 ws
ranked_long v ws lo hi [] e r = omega arith
ranked_long v ws lo hi (w ∷ q) e (l, b, i, h, t) =
    let behind = ranked_set v ws (suc (rank l w)) hi q w Idle t (ranked_once v ws hi w l q i t) in
    let rest = ranked_long v (set ws w Idle) (suc (rank l w)) hi q (length-set ws w Idle ∙ e) behind in
    omega (arith, rest, waiting_out ws w (omega arith) (ap waits i) 16 b)

-- the first of a line: the worker's number plus 1, or 0
abbrev front_of : List ℕ → ℕ
front_of [] = 0
front_of (w ∷ q) = suc w

-- a victim's line
module _ {v : ℕ} {ws : List Worker} {hi : ℕ} {lines : Lines} (queue : Queue v ws hi lines) where
  queue_waits : (u : ℕ) → u ∈ queue.line → (l : ℕ) × (u < 16) × (get_or ws u Idle ≡ Waiting v l)
  queue_waits u s = let (l, b, e, h) = ranked_waits v ws 0 hi queue.line queue.ranked u s in (l, b, e)

  calm_out : (w : ℕ) → waits (get_or ws w Idle) ≡ 0 → w ∈ queue.line → ⊥
  calm_out w c s = let (l, b, e) = queue_waits w s in omega (arith, ap waits e)

  queue_later : (hi' : ℕ) → hi ≤ hi' → Queue v ws hi' lines
  queue_later hi' h = record {
    line = queue.line;
    lined = queue.lined;
    ranked = ranked_wider v ws 0 0 hi hi' queue.line queue.ranked (le_refl 0) h;
    whole = queue.whole;
  }

  module _ (sixteen : length ws ≡ 16) (w : ℕ) (b : w < 16) where
    pub queue_room : waits (get_or ws w Idle) ≡ 0 → length queue.line < 16
    queue_room c =
        omega (arith, ranked_long v ws 0 hi queue.line sixteen queue.ranked, waiting_less ws w c 16 b)

    elsewhere : (x : Worker) (u m : ℕ) → u ≢ w → get_or (set ws w x) u Idle ≡ Waiting v m → u ∈ queue.line
    elsewhere x u m d e = queue.whole u m (sym (get_or-set_other ws w u x Idle d) ∙ e)

    stored : (x : Worker) (u m : ℕ) → u ≡ w → get_or (set ws w x) u Idle ≡ Waiting v m → x ≡ Waiting v m
    stored x u m i e = sym (get_or-set_same ws w x Idle (omega arith)) ∙ ap (λ k. get_or (set ws w x) k Idle) (sym i) ∙ e

    -- a worker that does not wait on v changes to another that does not
    stays : (x : Worker) → (w ∈ queue.line → ⊥) → ((l : ℕ) → x ≡ Waiting v l → ⊥) → {lines' : Lines} → LineAt v lines' queue.line
        → Queue v (set ws w x) hi lines'
    stays x f g t = record {
      line = queue.line;
      lined = t;
      ranked = ranked_set v ws 0 hi queue.line w x queue.ranked f;
      whole = λ u m e. by_cases (ℕ_discrete u w) (λ i. absurd (g m (stored x u m i e))) (λ d. elsewhere x u m d e);
    }

    -- a request that is laid at v
    queue_push : (l : ℕ) → waits (get_or ws w Idle) ≡ 0 → hi ≤ rank l w → {lines' : Lines} → LinedUp v w lines' queue.line
        → Queue v (set ws w (Waiting v l)) (suc (rank l w)) lines'
    queue_push l c h t = record {
      line = queue.line ++ (w ∷ []);
      lined = t;
      ranked = ranked_push v (set ws w (Waiting v l)) 0 hi queue.line w l
          (ranked_set v ws 0 hi queue.line w (Waiting v l) queue.ranked (calm_out w c)) b
          (get_or-set_same ws w (Waiting v l) Idle (omega arith)) h;
      whole = λ u m e.
          by_cases (ℕ_discrete u w) (λ i. rw i (in_back queue.line (w ∷ []) w (inl refl)))
          (λ d. in_front queue.line (w ∷ []) u (elsewhere (Waiting v l) u m d e));
    }

    -- the first request of v is served
    queue_pop : (x : Worker) → waits x ≡ 0 → 0 < length queue.line → {lines' : Lines} → Gone v 0 w lines' queue.line
        → Queue v (set ws w x) hi lines'
    queue_pop x c some {lines'} gone = go queue.line some gone queue.ranked queue.whole
      where
        go : (q : List ℕ) → 0 < length q → Gone v 0 w lines' q → Ranked v ws 0 hi q → ((u l : ℕ) → get_or ws u Idle ≡ Waiting v l → u ∈ q)
            → Queue v (set ws w x) hi lines'
        go [] k t r f = absurd (omega arith)
        go (y ∷ q) k t (l, a, i, h, r) f = record { line = q; lined = t.line; ranked = ranked'; whole = whole' }
          where
            here : y ≡ w
            here = sym t.who

            is : get_or ws w Idle ≡ Waiting v l
            is = rw here at i

            ranked' : Ranked v (set ws w x) 0 hi q
            ranked' =
                ranked_set v ws 0 hi q w x (ranked_wider v ws (suc (rank l y)) 0 hi hi q r (omega arith) (le_refl hi))
                (ranked_once v ws hi w l q is (rw here at r))

            whole' : (u m : ℕ) → get_or (set ws w x) u Idle ≡ Waiting v m → u ∈ q
            whole' u m j =
                by_cases (ℕ_discrete u w) (λ n. absurd (omega (arith, ap waits (stored x u m n j))))
                (λ d. ⊎_elim (λ n. absurd (d (n ∙ here))) (λ s. s) (f u m (sym (get_or-set_other ws w u x Idle d) ∙ j)))

    module _ {a : ℕ} (d : a ≢ v) {lines' : Lines} (t : LineAt v lines' queue.line) where
      -- a request that is laid at another victim
      queue_beside : (l : ℕ) → waits (get_or ws w Idle) ≡ 0 → Queue v (set ws w (Waiting a l)) hi lines'
      queue_beside l c = stays (Waiting a l) (calm_out w c) (λ m i. d (cc)) t

      -- and one that is served there
      queue_aside : (l : ℕ) (x : Worker) → get_or ws w Idle ≡ Waiting a l → waits x ≡ 0 → Queue v (set ws w x) hi lines'
      queue_aside l x e c = stays x (λ s. let (m, k, i) = queue_waits w s in d (cc)) (λ m i. omega (arith, ap waits i)) t

  -- the first of the line is the request that v serves
  module _ (n : ℕ) (most : n ≤ 16) (absent : (w : ℕ) → n ≤ w → get_or ws w Idle ≡ Idle) where
    below : (u l : ℕ) → get_or ws u Idle ≡ Waiting v l → u < n
    below u l e = by_cases (dec_lt u n) (λ h. h) (λ f. absurd (omega (arith, ap waits (sym (absent u (omega arith)) ∙ e))))

    picked : (oldest v n ws).who ≡ front_of queue.line
    picked = go queue.line queue.ranked queue.whole (oldest v n ws).who (oldest v n ws).laid (oldest_best v n ws most)
      where
        go : (q : List ℕ) → Ranked v ws 0 hi q → ((u l : ℕ) → get_or ws u Idle ≡ Waiting v l → u ∈ q)
            → (who laid : ℕ) → Best v n ws who laid → who ≡ front_of q
        go [] r f zero m best = refl
        go [] r f (suc x) m best = absurd (f x m best.1)
        go (w ∷ q) (l, b, i, h, r) f zero m best = absurd (best w l (below w l i) i)
        go (w ∷ q) (l, b, i, h, r) f (suc x) m best =
            ⊎_elim (λ j. ap suc j)
            (λ s. let (a, c, k, o) = ranked_waits v ws (suc (rank l w)) hi q r x s in
            let same : m ≡ a = cc best.1 in
            absurd (omega (arith, best.2 w l (below w l i) (λ j. ranked_once v ws hi w l q i r (rw (sym j) at s)) i)))
            (f x m best.1)

    pub queue_first : 0 < length queue.line → (oldest v n ws).who ≡ suc (get_or queue.line 0 0)
    queue_first some = picked ∙ go queue.line some
      where
        go : (q : List ℕ) → 0 < length q → front_of q ≡ suc (get_or q 0 0)
        go [] h = absurd (omega arith)
        go (w ∷ q) h = refl

    pub queue_none : waiting_at lines v ≡ 0 → (oldest v n ws).who ≡ 0
    queue_none e = picked ∙ go queue.line (queue.lined.lined.count ∙ e)
      where
        go : (q : List ℕ) → length q ≡ 0 → front_of q ≡ 0
        go [] h = refl
        go (w ∷ q) h = absurd (omega arith)

-- the lines of all victims
module _ {hi : ℕ} {ws : List Worker} {lines : Lines} (queued : Queued hi ws lines) where
  pub queued_later : (hi' : ℕ) → hi ≤ hi' → Queued hi' ws lines
  queued_later hi' h v k = queue_later (queued v k) hi' h

  module _ (sixteen : length ws ≡ 16) {w : ℕ} (b : w < 16) where
    -- a worker that does not wait changes to another that does not
    queued_calm : (x : Worker) → waits (get_or ws w Idle) ≡ 0 → waits x ≡ 0 → Queued hi (set ws w x) lines
    queued_calm x c d v k =
        stays (queued v k) sixteen w b x (calm_out (queued v k) w c) (λ l e. omega (arith, ap waits e)) (queued v k).lined

    module _ {v : ℕ} (k : v < 16) {lines' : Lines} (beside : Beside v lines lines') where
      kept : (u : ℕ) (m : u < 16) → u ≢ v → LineAt u lines' (queued u m).line
      kept u m d = line_beside (queued u m).lined beside d

      pub queued_push : (l : ℕ) → waits (get_or ws w Idle) ≡ 0 → hi ≤ rank l w → LinedUp v w lines' (queued v k).line
          → Queued (suc (rank l w)) (set ws w (Waiting v l)) lines'
      queued_push l c h t u m =
          by_cases (ℕ_discrete u v) (λ i. rw i (queue_push (queued v k) sixteen w b l c h t))
          (λ d. queue_later (queue_beside (queued u m) sixteen w b (λ i. d (sym i)) (kept u m d) l c) _ (omega arith))

      pub queued_pop : (x : Worker) → waits x ≡ 0 → 0 < length (queued v k).line → Gone v 0 w lines' (queued v k).line
          → Queued hi (set ws w x) lines'
      queued_pop x c some gone u m =
          by_cases (ℕ_discrete u v) (λ i. rw i (queue_pop (queued v k) sixteen w b x c some gone))
          (λ d. let (l, e) = first_waits in queue_aside (queued u m) sixteen w b (λ i. d (sym i)) (kept u m d) l x e c)
        where
          first_waits : (l : ℕ) × (get_or ws w Idle ≡ Waiting v l)
          first_waits = go (queued v k).line (queued v k).ranked some gone.who
            where
              go : (q : List ℕ) → Ranked v ws 0 hi q → 0 < length q → w ≡ get_or q 0 0 → (l : ℕ) × (get_or ws w Idle ≡ Waiting v l)
              go [] r h e = absurd (omega arith)
              go (y ∷ q) (l, a, i, h, r) s e = (l, rw e i)

-- nobody that waits has a turn
module _ {S : Setting} (fit : Fit S) {r : ℕ} {b : List Worker} {s : State} (t : Trace S r b (turning 0) s) where
  pub turns_queued : {hi : ℕ} {lines : Lines} → Queued hi s.workers lines → (k : ℕ) → k ≤ S.workers
      → Queued hi (turns S.plan r k b s).workers lines
  unfolding turns count_in
  turns_queued q zero h = q
  turns_queued {hi} {lines} q (suc k) h =
      let here = turns_trace t k (omega arith) in
      let rest = turns_queued q k (omega arith) in
      turned_workers (λ ws. Queued hi ws lines) here rest (λ j y e c.
      queued_calm rest (trace_sound fit here).workers (omega (arith, fit.most)) y
      (ap waits (trace_began here k (le_refl k) ∙ e)) c)
