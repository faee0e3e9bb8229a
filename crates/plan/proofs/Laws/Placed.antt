-- Where an action stands in plan order: action i of job j at place `start p j + i`, and no two at one place.
use Prim.Native.Nat.{ℕ, zero, suc, ◌+◌, ◌-◌, ◌≤◌, ◌<◌}
use mathlib.Core.Path.{◌≡◌, refl, ap, sym, ◌∙◌}
use mathlib.Core.List.{List, [], ◌∷◌, ◌++◌, append_assoc}
use native.Mathlib.Omega.{arith}
use native.Mathlib.Nat.{le_of_suc-le-suc, not-suc-le-zero, add_assoc, zero-add, add-zero}
use native.Mathlib.Decide.{dec_lt}
use lib.ListN.{length, get_or, take, length-append, get_or-append}
use lib.Seq.{get_or-append-add}
use Rattle.plan.specs.Plan.{Action, Job, Plan, Placed, size, action, total, placed, placed_in, placed_from, no_action, no_placed}

-- action i of job j with its job and position
abbrev pub act : Plan → ℕ → ℕ → Placed
act p j i = record { job = j; position = i; spawn = (action p j i).spawn; join = (action p j i).join; cost = (action p j i).cost }

-- the place of job j's first action
abbrev pub start : Plan → ℕ → ℕ
start p j = total (take j p)

placed_in_length : (j i : ℕ) (l : List Action) → length (placed_in j i l) ≡ length l
placed_in_length j i [] = refl
placed_in_length j i (a ∷ l) = ap suc (placed_in_length j (suc i) l)

pub placed_from_length : (j : ℕ) (p : List Job) → length (placed_from j p) ≡ total p
placed_from_length j [] = refl
placed_from_length j (b ∷ bs) =
    rw (length-append, placed_in_length, placed_from_length (suc j) bs)

pub placed_length : (p : Plan) → length (placed p) ≡ total p
placed_length p = placed_from_length 0 p

pub placed_from_append : (j : ℕ) (p q : Plan) → placed_from j (p ++ q) ≡ placed_from j p ++ placed_from (j + length p) q
placed_from_append j [] q = rw add-zero
placed_from_append j (b ∷ p) q =
    let e : suc j + length p ≡ j + length (b ∷ p) = omega arith in
    rw (placed_from_append (suc j) p q, e, append_assoc)

pub total_append : (p q : Plan) → total (p ++ q) ≡ total p + total q
total_append [] q = omega arith
total_append (b ∷ p) q = omega (arith, total_append p q)

pub placed_in_at : (j o : ℕ) (l : List Action) (i n : ℕ) → i < length l → o + i ≡ n
    → get_or (placed_in j o l) i no_placed ≡ record { job = j; position = n; spawn = (get_or l i no_action).spawn; join = (get_or l i no_action).join; cost = (get_or l i no_action).cost }
placed_in_at j o [] i n h e = absurd (not-suc-le-zero h)
placed_in_at j o (a ∷ l) zero n h e =
    let e' : o ≡ n = omega arith in rw e'
placed_in_at j o (a ∷ l) (suc i) n h e = placed_in_at j (suc o) l i n (le_of_suc-le-suc h) (omega arith)

pub placed_from_at : (o : ℕ) (p : List Job) (j i n : ℕ) → j < length p → i < size p j → o + j ≡ n
    → get_or (placed_from o p) (start p j + i) no_placed ≡ record { job = n; position = i; spawn = (action p j i).spawn; join = (action p j i).join; cost = (action p j i).cost }
placed_from_at o [] j i n h b e = absurd (not-suc-le-zero h)
placed_from_at o (b ∷ bs) zero i n h l e =
    let f : i < length (placed_in o 0 b.actions) = rw placed_in_length l in
    let e' : o ≡ n = omega arith in
    rw (zero-add, get_or-append (placed_in o 0 b.actions) (placed_from (suc o) bs) no_placed i f, e')
    (placed_in_at n 0 b.actions i i l (zero-add i))
placed_from_at o (b ∷ bs) (suc j) i n h l e =
    let s : length b.actions ≡ length (placed_in o 0 b.actions) = sym (placed_in_length o 0 b.actions) in
    rw (add_assoc, s, get_or-append-add (placed_in o 0 b.actions) (placed_from (suc o) bs) (start bs j + i) no_placed)
    (placed_from_at (suc o) bs j i n (le_of_suc-le-suc h) l (omega arith))

-- what stands at the place of action i of job j
pub placed_at : (p : Plan) (j i : ℕ) → j < length p → i < size p j
    → get_or (placed p) (start p j + i) no_placed ≡ act p j i
placed_at p j i h b = placed_from_at 0 p j i j h b (zero-add j)

pub start_suc : (p : Plan) (j : ℕ) → j < length p → start p (suc j) ≡ start p j + size p j
start_suc [] j h = absurd (not-suc-le-zero h)
start_suc (b ∷ bs) zero h = omega arith
start_suc (b ∷ bs) (suc j) h = omega (arith, start_suc bs j (le_of_suc-le-suc h))

pub start_all : (p : Plan) → start p (length p) ≡ total p
start_all [] = refl
start_all (b ∷ bs) = ap (λ n. length b.actions + n) (start_all bs)

pub start_below : (p : Plan) (j : ℕ) → start p j ≤ total p
start_below [] zero = omega arith
start_below [] (suc j) = omega arith
start_below (b ∷ bs) zero = omega arith
start_below (b ∷ bs) (suc j) = omega (arith, start_below bs j)

pub place_below : (p : Plan) (j i : ℕ) → j < length p → i < size p j → start p j + i < total p
place_below p j i h b = omega (arith, start_suc p j h, start_below p (suc j))

-- starts of later jobs are later
pub start_rises : (p : Plan) (j k : ℕ) → j ≤ k → k ≤ length p → start p j ≤ start p k
start_rises p zero k h b = omega arith
start_rises [] (suc j) k h b = omega arith
start_rises (c ∷ cs) (suc j) zero h b = absurd (not-suc-le-zero h)
start_rises (c ∷ cs) (suc j) (suc k) h b = omega (arith, start_rises cs j k (le_of_suc-le-suc h) (le_of_suc-le-suc b))

-- whose action stands at place k
pub record Located (p : Plan) (k : ℕ) : Type 0 where
  pub job : ℕ
  pub position : ℕ
  pub known : job < length p
  pub within : position < size p job
  pub place : k ≡ start p job + position

pub locate : (p : Plan) (k : ℕ) → k < total p → Located p k
locate [] k h = absurd (not-suc-le-zero h)
locate (b ∷ bs) k h = go (dec_lt k (length b.actions)) (λ l. locate bs (k - length b.actions) l)
  where
    go : Dec (k < length b.actions) → (k - length b.actions < total bs → Located bs (k - length b.actions)) → Located (b ∷ bs) k
    go (yes l) f = record { job = 0; position = k; known = omega arith; within = l; place = sym (zero-add k) }
    go (no n) f =
        let r = f (omega arith) in
        record {
          job = suc r.job;
          position = r.position;
          known = omega (arith, r.known);
          within = r.within;
          place = omega (arith, r.place);
        }

-- the action at place k, by its job and position
pub record Stands (p : Plan) (k : ℕ) (a : Placed) : Type 0 where
  pub known : a.job < length p
  pub within : a.position < size p a.job
  pub place : k ≡ start p a.job + a.position
  pub spawn : a.spawn ≡ (action p a.job a.position).spawn
  pub join : a.join ≡ (action p a.job a.position).join
  pub cost : a.cost ≡ (action p a.job a.position).cost

pub placed_of : (p : Plan) (k : ℕ) → k < total p → Stands p k (get_or (placed p) k no_placed)
placed_of p k h = found (locate p k h)
  where
    found : Located p k → Stands p k (get_or (placed p) k no_placed)
    found r =
        let e : get_or (placed p) k no_placed ≡ act p r.job r.position
        = ap (λ n. get_or (placed p) n no_placed) r.place ∙ placed_at p r.job r.position r.known r.within in
        rw e (record { known = r.known; within = r.within; place = r.place; spawn = refl; join = refl; cost = refl })

-- no two actions stand at one place
pub place_once : (p : Plan) (q t r u : ℕ) → q < length p → t < size p q → r < length p → u < size p r → start p q + t ≡ start p r + u
    → (q ≡ r) × (t ≡ u)
place_once p q t r u a b c d e =
    let s = sym (placed_at p q t a b) ∙ ap (λ n. get_or (placed p) n no_placed) e ∙ placed_at p r u c d in
    (ap (λ x. x.job) s, ap (λ x. x.position) s)
