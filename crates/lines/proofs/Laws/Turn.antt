-- A worker's turn keeps a state good.
--   turn_line P next next' j l == a worker's line after the next action of job j, where its line before is j ∷ l: the job that the
--                                action spawned and j, or j alone if it goes on; then j's parent, if the action woke it; then l
--   Turned P next next' j line line' == the lines line' are line after the turn of the worker whose line begins with job j
--   Stands P next next' j l x == why job x stands in the worker's line after the turn
--   turn_good                 == a turn keeps a state good
use mathlib.Core.Path.{◌≡◌, refl, ap}
use mathlib.Core.Logic.Dec
use mathlib.Core.Logic.{inl, inr, ◌≢◌, by_cases, ⊎_elim}
use mathlib.Core.List.{List, [], ◌∷◌}
use Prim.Native.Nat.{ℕ, zero, suc, ◌<◌}
use native.Mathlib.Omega.{arith}
use native.Mathlib.Decide.{ℕ_discrete}
use Rattle.lines.proofs.Laws.Shape.{Shape, Valid, Living, Ready, Chain, Good}
use Rattle.lines.proofs.Laws.Member.{◌∈◌, put, put_new, put_old, put_from}
use Rattle.lines.proofs.Laws.Chain.{chain_put, falls}
use Rattle.lines.proofs.Laws.Act.{Act, Goes, goes?, Wakes, wakes?, stays, ready_stays, goes_lives, acted_closed, was_ready, lived}
use Rattle.lines.proofs.Laws.Act.{stalled, sender, parent_stays, born_is, not_born, born_good, spawner_goes}

module _ (P : Shape) where
  open P use {parent, child}

  module _ (next next' : ℕ → ℕ) (j : ℕ) where
    -- the line, from what stands above j
    after : ℕ → List ℕ → List ℕ
    after (suc c) l = c ∷ (j ∷ l)
    after zero l = put (goes? P next' j) j l

    unfoldable pub turn_line : List ℕ → List ℕ
    unfolding after put wakes? goes?
    turn_line l = after (child j (next j)) (put (wakes? P next next' j) (parent j) l)

    pub turn_spawn : (l : List ℕ) (c : ℕ) → child j (next j) ≡ suc c → turn_line l ≡ c ∷ (j ∷ put (wakes? P next next' j) (parent j) l)
    unfolding turn_line
    turn_spawn l c e = ap (λ v. after v (put (wakes? P next next' j) (parent j) l)) e

    pub turn_none : (l : List ℕ) → child j (next j) ≡ 0
        → turn_line l ≡ put (goes? P next' j) j (put (wakes? P next next' j) (parent j) l)
    unfolding turn_line
    turn_none l e = ap (λ v. after v (put (wakes? P next next' j) (parent j) l)) e

    pub record Turned (line line' : ℕ → List ℕ) : Type 0 where
      pub worker : ℕ
      pub deque : List ℕ
      pub first : line worker ≡ j ∷ deque
      pub mine : line' worker ≡ turn_line deque
      pub rest : (v : ℕ) → v ≢ worker → line' v ≡ line v

    -- why x stands in the line after the turn
    data Stands (l : List ℕ) (x : ℕ) : Type 0 where
      old : x ∈ l → Stands l x
      goes : x ≡ j → Goes P next' j → Stands l x
      born : child j (next j) ≡ suc x → Stands l x
      woken : x ≡ parent j → Wakes P next next' j → Stands l x

module _ {P : Shape} (ok : Valid P) {next next' : ℕ → ℕ} {j : ℕ} (act : Act P next next' j)
    {line line' : ℕ → List ℕ} (good : Good P next line) (turned : Turned P next next' j line line') where
  open P use {jobs, parent, child, join}
  open turned use {worker, deque, first, mine, rest}

  -- why x stands in the worker's new line
  abbrev Why : ℕ → Type 0
  Why x = Stands P next next' j deque x

  chained : Chain P (j ∷ deque)
  chained = rw first at (good.chain worker)

  -- no other job in a line is the acting one
  lower : (x : ℕ) → x ∈ deque → x ≢ j
  lower x m e =
      let in_bounds : (y : ℕ) → y ∈ j ∷ deque → y < jobs = λ y i. (good.here worker y (rw first i)).0.below in
      let h : x < j = falls P ok j deque in_bounds chained x m in
      omega arith

  elsewhere : (v x : ℕ) → v ≢ worker → x ∈ line v → x ≢ j
  elsewhere v x f m e = f (good.apart v worker x m (rw first (inl e)))

  -- a parent that wakes was stalled, so nothing stood above j
  wakes_top : Wakes P next next' j → deque ≡ []
  wakes_top k = go deque refl
    where
      go : (r : List ℕ) → deque ≡ r → deque ≡ []
      go [] e = e
      go (y ∷ r) e =
          let c : Chain P (j ∷ (y ∷ r)) = rw e at chained in
          absurd (stalled act k (good.here worker (parent j) (rw (first, e) (inr (inl c.1)))).1)

  above : List ℕ
  above = put (wakes? P next next' j) (parent j) deque

  above_chain : Chain P (j ∷ above)
  unfolding above put
  above_chain = go (wakes? P next next' j)
    where
      go : (d : Dec (Wakes P next next' j)) → Chain P (j ∷ put d (parent j) deque)
      go (yes k) = (sender act ok k, refl, rw (wakes_top k) tt)
      go (no f) = chained

  above_from : (x : ℕ) → x ∈ above → Why x
  unfolding above
  above_from x m = ⊎_elim (λ t. woken t.0 t.1) old (put_from (wakes? P next next' j) (parent j) deque m)

  after_chain : (c : ℕ) → child j (next j) ≡ c → Chain P (after P next next' j c above)
  unfolding after
  after_chain (suc c) e = let b = born_is act ok c e in (b.0, b.2, above_chain)
  after_chain zero e = chain_put P (goes? P next' j) j above above_chain

  after_from : (c : ℕ) → child j (next j) ≡ c → (x : ℕ) → x ∈ after P next next' j c above → Why x
  unfolding after
  after_from (suc c) e x (inl q) = born (cc)
  after_from (suc c) e x (inr (inl q)) = goes q (spawner_goes act ok c e)
  after_from (suc c) e x (inr (inr m)) = above_from x m
  after_from zero e x m = ⊎_elim (λ t. goes t.0 t.1) (above_from x) (put_from (goes? P next' j) j above m)

  after_above : (c x : ℕ) → x ∈ above → x ∈ after P next next' j c above
  unfolding after
  after_above (suc c) x m = inr (inr m)
  after_above zero x m = put_old (goes? P next' j) x j above m

  after_to : (c : ℕ) → child j (next j) ≡ c → (x : ℕ) → Why x → x ∈ after P next next' j c above
  unfolding after above
  after_to c e x (old m) = after_above c x (put_old (wakes? P next next' j) x (parent j) deque m)
  after_to c e x (woken q k) = after_above c x (put_new (wakes? P next next' j) deque q k)
  after_to (suc c) e x (goes q g) = inr (inl q)
  after_to zero e x (goes q g) = put_new (goes? P next' j) above q g
  after_to (suc c) e x (born q) = inl (omega arith)
  after_to zero e x (born q) = absurd (omega arith)

  new_chain : Chain P (turn_line P next next' j deque)
  unfolding turn_line above
  new_chain = after_chain (child j (next j)) refl

  new_from : (x : ℕ) → x ∈ turn_line P next next' j deque → Why x
  unfolding turn_line above
  new_from = after_from (child j (next j)) refl

  new_to : (x : ℕ) → Why x → x ∈ turn_line P next next' j deque
  unfolding turn_line above
  new_to = after_to (child j (next j)) refl

  chain' : (v : ℕ) → Chain P (line' v)
  chain' v = by_cases (ℕ_discrete v worker) (λ e. rw (e, mine) (new_chain)) (λ f. rw (rest v f) (good.chain v))

  kept : (v x : ℕ) → x ≢ j → x ∈ line v → Living P next' x × Ready P next' x
  kept v x f m = let (a, r) = good.here v x m in (stays act x f a, ready_stays act x f r)

  here' : (v x : ℕ) → x ∈ line' v → Living P next' x × Ready P next' x
  here' v x m =
      by_cases (ℕ_discrete v worker) (λ e. stand (new_from x (rw (e, mine) at m)))
      (λ f. let i : x ∈ line v = rw (rest v f) at m in kept v x (elsewhere v x f i) i)
    where
      stand : Why x → Living P next' x × Ready P next' x
      stand (old i) = kept worker x (lower x i) (rw first (inr i))
      stand (goes e g) = rw e (goes_lives act g.left, g.ready)
      stand (born e) = born_good act ok x e
      stand (woken e k) = rw e ((parent_stays act ok (sender act ok k)).1, k.ready)

  -- what is in the new line is in no other
  alone : (v x : ℕ) → v ≢ worker → x ∈ line v → Why x → ⊥
  alone v x f m (old i) = f (good.apart v worker x m (rw first (inr i)))
  alone v x f m (goes e g) = elsewhere v x f m e
  alone v x f m (born e) = not_born act ok x e (good.here v x m).0
  alone v x f m (woken e k) = stalled act k (rw e at (good.here v x m).1)

  apart' : (u v x : ℕ) → x ∈ line' u → x ∈ line' v → u ≡ v
  apart' u v x m i = go (ℕ_discrete u worker) (ℕ_discrete v worker)
    where
      go : Dec (u ≡ worker) → Dec (v ≡ worker) → u ≡ v
      go (yes e) (yes q) = cc
      go (yes e) (no f) = absurd (alone v x f (rw (rest v f) at i) (new_from x (rw (e, mine) at m)))
      go (no f) (yes q) = absurd (alone u x f (rw (rest u f) at m) (new_from x (rw (q, mine) at i)))
      go (no f) (no g) = good.apart u v x (rw (rest u f) at m) (rw (rest v g) at i)

  -- a job that was in a line, and did not act, still is
  still : (v x : ℕ) → x ≢ j → x ∈ line v → (u : ℕ) × (x ∈ line' u)
  still v x f m =
      by_cases (ℕ_discrete v worker)
      (λ e. let i : x ∈ j ∷ deque = rw (e, first) at m in (worker, rw mine (new_to x (old (⊎_elim (λ q. absurd (f q)) (λ t. t) i)))))
      (λ g. (v, rw (rest v g) m))

  found' : (x : ℕ) → Living P next' x → Ready P next' x → (v : ℕ) × (x ∈ line' v)
  found' x a r =
      go (ℕ_discrete x j) (ℕ_discrete (child j (next j)) (suc x))
      (Dec.and (ℕ_discrete x (parent j)) (ℕ_discrete (join j (next j)) (suc (next x))))
    where
      there : Why x → (v : ℕ) × (x ∈ line' v)
      there s = (worker, rw mine (new_to x s))

      go : Dec (x ≡ j) → Dec (child j (next j) ≡ suc x) → Dec ((x ≡ parent j) × (join j (next j) ≡ suc (next x))) → (v : ℕ) × (x ∈ line' v)
      go (yes e) d i = there (goes e (record { left = rw e at a.left; ready = rw e at r }))
      go (no f) (yes e) i = there (born e)
      go (no f) (no g) (yes (e, i)) = there (woken e (record { sends = rw (← e) i; ready = rw e at r }))
      go (no f) (no g) (no i) = let (v, m) = good.found x (lived act ok x f g a) (was_ready act x f i r) in still v x f m

  pub turn_good : Good P next' line'
  turn_good = record { closed = acted_closed act; chain = chain'; here = here'; apart = apart'; found = found' }
