-- The turns of a pool: which kind a turn is, and what the worker has after it.
--   cost_of p j s == how many rounds the next action of job j takes
--   turn_worked, turn_finished, turn_cases == which of the two kinds a turn is; what holds of both holds of the turn
--   hand_cases   == what holds of all that a worker may be left as holds of what it is left as
--   hand_passes  == what the theory of courses asks of what a worker has after a turn that finished an action
use Prim.Native.Nat.{ℕ, zero, suc, ◌≤◌, ◌<◌}
use mathlib.Core.Path.{◌≡◌, refl, ap, sym, ◌∙◌}
use mathlib.Core.Logic.{◌≢◌, ⊎_elim, by_cases}
use mathlib.Core.List.{List}
use native.Mathlib.Omega.{arith}
use native.Mathlib.Decide.{dec_lt}
use borrow.Author.Tests.{lt-ltb, le-ltb}
use lib.Dec.{T, leb, leb→le, le→leb}
use lib.ListN.{length, get_or, set}
use lib.Seq.{get_or-set_same, get_or-set_other}
use Rattle.plan.specs.Plan.{Plan, size, action, parent}
use Rattle.plan.specs.Rules.{Accepted}
use Rattle.plan.proofs.Laws.Lists.{both_intro, both_left, both_right, true_of, false_of}
use Rattle.plan.proofs.Laws.Counts.{dec_t}
use Rattle.plan.proofs.Laws.Valid.{older, spawned_once_lem}
use Rattle.courses.specs.Ready.{ready}
use Rattle.courses.proofs.Laws.PlanShape.{shape, shape_valid, ready_is, ready_by}
use Rattle.courses.proofs.Laws.Pool.{Has, child, same, raised, Passes}
use Rattle.lines.proofs.Laws.Shape.{Lone}
use Rattle.lines.proofs.Laws.Progress.{ends}
use Rattle.runs.specs.declared.worker.Worker.{Worker}
use Rattle.runs.specs.declared.worker.Worker.TheVariants.{Idle, Holding}
use Rattle.runs.proofs.Laws.Coursed.{hands_in, hands_of}
use Rattle.pools.specs.State.{State, next_of, spent_of, unheld, lone}
use Rattle.pools.specs.Turn.{heirless, hand_after, worked, finished, turn}
use Rattle.pools.proofs.Laws.Tests.{unheld_is, unheld_by, unheld_or, lone_is, lone_by}
use Rattle.pools.proofs.Laws.Taking.{core}

abbrev pub cost_of : Plan → ℕ → State → ℕ
cost_of p j s = (action p j (next_of s j)).cost

module _ (p : Plan) (r w j : ℕ) (s : State) where
  pub turn_worked : suc (spent_of s j) < cost_of p j s → turn p r w j s ≡ worked p r j s
  unfolding turn
  turn_worked h = rw (turn, lt-ltb (suc (spent_of s j)) (cost_of p j s) h)

  pub turn_finished : cost_of p j s ≤ suc (spent_of s j) → turn p r w j s ≡ finished p r w j s
  unfolding turn
  turn_finished h = rw (turn, le-ltb (suc (spent_of s j)) (cost_of p j s) h)

  pub turn_cases : (P : State → Type 0) → (suc (spent_of s j) < cost_of p j s → P (worked p r j s))
      → (cost_of p j s ≤ suc (spent_of s j) → P (finished p r w j s)) → P (turn p r w j s)
  turn_cases P f g =
      by_cases (dec_lt (suc (spent_of s j)) (cost_of p j s)) (λ h. rw (turn_worked h) (f h)) (λ h. rw (turn_finished (omega arith)) (g (omega arith)))

-- what a worker is left as that finished action i of job j
module _ (p : Plan) (after : List ℕ) (ws : List Worker) (j i : ℕ) where
  pub hand_spawn : (c : ℕ) → (action p j i).spawn ≡ suc c → hand_after p after ws j i ≡ Holding c
  unfolding hand_after
  hand_spawn c e = rw (hand_after, e)

  module _ (none : (action p j i).spawn ≡ 0) where
    pub hand_goes : suc i < size p j → T (ready p after j) → hand_after p after ws j i ≡ Holding j
    unfolding hand_after
    hand_goes h t = rw (hand_after, none, lt-ltb (suc i) (size p j) h, true_of (ready p after j) t)

    pub hand_stalls : suc i < size p j → (T (ready p after j) → ⊥) → hand_after p after ws j i ≡ Idle
    unfolding hand_after
    hand_stalls h f = rw (hand_after, none, lt-ltb (suc i) (size p j) h, false_of (ready p after j) f)

    pub hand_raised : size p j ≤ suc i → T (heirless p after ws j) → hand_after p after ws j i ≡ Holding (parent p j)
    unfolding hand_after
    hand_raised h t = rw (hand_after, none, le-ltb (suc i) (size p j) h, true_of (heirless p after ws j) t)

    pub hand_dead : size p j ≤ suc i → (T (heirless p after ws j) → ⊥) → hand_after p after ws j i ≡ Idle
    unfolding hand_after
    hand_dead h f = rw (hand_after, none, le-ltb (suc i) (size p j) h, false_of (heirless p after ws j) f)

  pub hand_cases : (P : Worker → Type 0) → ((c : ℕ) → (action p j i).spawn ≡ suc c → P (Holding c))
      → ((action p j i).spawn ≡ 0 → suc i < size p j → T (ready p after j) → P (Holding j))
      → ((action p j i).spawn ≡ 0 → suc i < size p j → (T (ready p after j) → ⊥) → P Idle)
      → ((action p j i).spawn ≡ 0 → size p j ≤ suc i → T (heirless p after ws j) → P (Holding (parent p j)))
      → ((action p j i).spawn ≡ 0 → size p j ≤ suc i → (T (heirless p after ws j) → ⊥) → P Idle)
      → P (hand_after p after ws j i)
  hand_cases P born goes stalls rises dead = by (action p j i).spawn refl
    where
      by : (x : ℕ) → (action p j i).spawn ≡ x → P (hand_after p after ws j i)
      by (suc c) e = rw (hand_spawn c e) (born c e)
      by zero e = by_cases (dec_lt (suc i) (size p j))
          (λ h. by_cases (dec_t (ready p after j)) (λ t. rw (hand_goes e h t) (goes e h t)) (λ f. rw (hand_stalls e h f) (stalls e h f)))
          (λ h. by_cases (dec_t (heirless p after ws j))
          (λ t. rw (hand_raised e (omega arith) t) (rises e (omega arith) t))
          (λ f. rw (hand_dead e (omega arith) f) (dead e (omega arith) f)))

  pub heirless_is : T (heirless p after ws j)
      → (1 ≤ j) × Lone (shape p) (λ k. get_or after k 0) (parent p j) × ((w : ℕ) → hands_of ws w ≢ suc (parent p j))
  unfolding heirless
  heirless_is t =
      let o = both_left (leb 1 j) _ t in
      let rest = both_right (leb 1 j) _ t in
      let l = both_left (lone p after (parent p j)) _ rest in
      let u = both_right (lone p after (parent p j)) (unheld ws (parent p j)) rest in
      (leb→le 1 j o, lone_is p after (parent p j) l, unheld_is ws (parent p j) u)

  pub heirless_by : 1 ≤ j → Lone (shape p) (λ k. get_or after k 0) (parent p j) → ((w : ℕ) → hands_of ws w ≢ suc (parent p j))
      → T (heirless p after ws j)
  unfolding heirless
  heirless_by o l u =
      both_intro (leb 1 j) _ (le→leb 1 j o)
      (both_intro (lone p after (parent p j)) _ (lone_by p after (parent p j) l) (unheld_by ws (parent p j) u))

module _ (p : Plan) (ok : Accepted p) (r w j : ℕ) (s : State) (known : j < length p) (left : next_of s j < size p j)
    (held : hands_of s.workers w ≡ suc j)
    (seat : w < length s.workers) (nexts : length s.next ≡ length p) where
  abbrev i : ℕ
  i = next_of s j

  abbrev after : List ℕ
  after = set s.next j (suc i)

  acts : get_or after j 0 ≡ suc i
  acts = get_or-set_same s.next j (suc i) 0 (omega arith)

  hand : Worker
  hand = hand_after p after s.workers j i

  here : hands_of (finished p r w j s).workers w ≡ hands_in hand
  unfolding finished hand
  here = ap hands_in (get_or-set_same s.workers w _ Idle seat)

  other : (v : ℕ) → v ≢ w → hands_of (finished p r w j s).workers v ≡ hands_of s.workers v
  unfolding finished
  other v f = ap hands_in (get_or-set_other s.workers w v _ Idle f)

  why : (x : ℕ) → hands_in hand ≡ suc x → Has p j (core s) (core (finished p r w j s)) (hands_of s.workers) x
  unfolding finished hand
  why x =
      hand_cases p after s.workers j i (λ y. hands_in y ≡ suc x → Has p j (core s) (core (finished p r w j s)) (hands_of s.workers) x)
      (λ c e q. child (let z : c ≡ x = omega arith in rw (← z) e))
      (λ e h t q. same (omega arith) (record { left = omega (arith, acts); ready = ready_is p after ok j t }))
      (λ e h f q. absurd (omega arith))
      (λ e h t q.
      let z : x ≡ parent p j = omega arith in
      let (o, l, u) = heirless_is p after s.workers j i t in
      raised z o (rw z l) (rw z u))
      (λ e h f q. absurd (omega arith))

  dies : 1 ≤ j → size p j ≤ get_or after j 0 → Lone (shape p) (λ k. get_or after k 0) (parent p j)
      → (v : ℕ) × (hands_of (finished p r w j s).workers v ≡ suc (parent p j))
  unfolding hand
  dies o l none = ⊎_elim free taken (unheld_or s.workers (parent p j))
    where
      free : ((v : ℕ) → hands_of s.workers v ≢ suc (parent p j))
          → (v : ℕ) × (hands_of (finished p r w j s).workers v ≡ suc (parent p j))
      free f = (
        w,
        here ∙ hand_cases p after s.workers j i (λ y. hands_in y ≡ suc (parent p j))
            (λ c e. absurd (omega (arith, acts, spawn_left c e)))
            (λ e h t. absurd (omega (arith, acts)))
            (λ e h g. absurd (omega (arith, acts)))
            (λ e h t. refl)
            (λ e h g. absurd (g (heirless_by p after s.workers j i o none f))),
      )
        where
          -- a child joins a later action of its parent than its spawn
          spawn_left : (c : ℕ) → (action p j i).spawn ≡ suc c → suc i < size p j
          spawn_left c e =
              let (a, b, q, z) = spawned_once_lem p ok j i c known left e in
              omega (arith, ends (shape p) (shape_valid p ok) c a b, ap (size p) q)

      taken : (v : ℕ) × (hands_of s.workers v ≡ suc (parent p j))
          → (v : ℕ) × (hands_of (finished p r w j s).workers v ≡ suc (parent p j))
      taken (v, e) =
          let f : v ≢ w = λ q. omega (arith, ap (hands_of s.workers) q, older p ok j o known) in
          (v, other v f ∙ e)

  pub hand_passes : Passes p w j (core s) (core (finished p r w j s)) (hands_of s.workers) (hands_of (finished p r w j s).workers)
  unfolding finished hand
  hand_passes = record {
    rest = other;
    has = λ x q. why x (sym here ∙ q);
    spawns = λ x e. here ∙ ap hands_in (hand_spawn p after s.workers j i x e);
    goes = λ e g. here ∙ ap hands_in (hand_goes p after s.workers j i e (omega (arith, acts, g.left))
        (ready_by p after ok j g.ready (λ z. absurd (omega (arith, acts)))));
    dies = dies;
  }
