-- A request and a service keep a state sound: a request and a miss change no line, and a steal is a theft.
--   lay_sound   == of the request of a worker that is idle
--   serve_sound == of the service of any worker that waits on the victim
use Prim.Native.Nat.{ℕ, zero, suc, ◌≤◌, ◌<◌}
use mathlib.Core.Path.{◌≡◌, refl, ap, ap₂, sym, subst, fun_ext, ◌∙◌}
use mathlib.Core.Logic.{◌≢◌, by_cases, ⊎_elim}
use mathlib.Core.Bool.{Bool, true, false}
use mathlib.Core.List.{List, [], ◌∷◌, ◌++◌}
use native.Mathlib.Omega.{arith}
use native.Mathlib.Decide.{ℕ_discrete}
use lib.ListN.{set, length-set}
use lib.Seq.{get_or-set_same, get_or-set_other}
use Rattle.std.specs.Prelude.{Ok}
use Rattle.runs.specs.declared.tally.Tally.{Tally}
use Rattle.runs.specs.declared.worker.Worker.{Worker}
use Rattle.runs.specs.declared.worker.Worker.TheVariants.{Idle, Holding, Waiting}
use Rattle.plan.specs.Plan.{Plan}
use Rattle.runs.specs.Setting.{Setting}
use Rattle.runs.specs.State.{State, next_of, worker_of, holds, deque_of}
use Rattle.runs.specs.Steal.{laid, lay, drop_top, top_of, take_top, thief, given, serve}
use Rattle.runs.specs.Parts.{Picks}
use Rattle.lines.proofs.Laws.Shape.{Good}
use Rattle.lines.proofs.Laws.Steal.{steal_good}
use Rattle.plan.specs.Rules.{Accepted}
use Rattle.courses.proofs.Laws.PlanShape.{shape, shape_valid}
use Rattle.runs.proofs.Laws.Lined.{line_in, line_of, Sound, line_of_lem, held_or_empty}
use Rattle.runs.proofs.Laws.Stores.{victim_of, empty_kept}

-- the state with other workers
abbrev with_workers : State → List Worker → Tally → State
with_workers s ws t = record { next = s.next; spent = s.spent; workers = ws; deques = s.deques; rows = s.rows; tally = t }

-- a worker that holds nothing may change to another that holds nothing
free_sound : {p : Plan} {n : ℕ} → n ≤ 16 → {s : State} → Sound p n s → {w : ℕ} → w < n → line_of s w ≡ [] → (k : Worker)
    → ((d : List ℕ) → line_in k d ≡ []) → (t : Tally) → Sound p n (with_workers s (set s.workers w k) t)
free_sound {p} {n} most {s} sound {w} b free k is t =
    record {
      nexts = sound.nexts;
      spents = sound.spents;
      workers = length-set s.workers w k ∙ sound.workers;
      deques = sound.deques;
      rows = sound.rows;
      good = subst (λ l. Good (shape p) (next_of s) l) (sym (fun_ext same)) sound.good;
      empty = λ v e. sound.empty v (sym (same v) ∙ e);
      absent = λ v h. get_or-set_other s.workers w v k Idle (λ q. omega arith) ∙ sound.absent v h;
    }
  where
    same : (v : ℕ) → line_of (with_workers s (set s.workers w k) t) v ≡ line_of s v
    same v =
        by_cases (ℕ_discrete v w)
        (λ q. rw q (
        ap (λ x. line_in x (deque_of s w)) (get_or-set_same s.workers w k Idle (omega (arith, sound.workers)))
        ∙ is (deque_of s w) ∙ sym free
        ))
        (λ f. ap (λ x. line_in x (deque_of s v)) (get_or-set_other s.workers w v k Idle f))

pub lay_sound : {p : Plan} {n : ℕ} → n ≤ 16 → {s : State} → Sound p n s → (S : Setting) (r : ℕ) {w : ℕ} → w < n → (k : Worker)
    → (k ≡ Idle → worker_of s w ≡ Idle) → Sound p n (lay S r w k s)
unfolding lay
lay_sound most {s} sound S r {w} b Idle i =
    free_sound most sound b (line_of_lem s w (i refl)) (Waiting (victim_of S s) r) (λ d. refl) (laid S r w s).tally
lay_sound most sound S r b (Holding j) i = sound
lay_sound most sound S r b (Waiting v l) i = sound

top_split : (x : ℕ) (d : List ℕ) → x ∷ d ≡ drop_top (x ∷ d) ++ (top_of x d ∷ [])
top_split x [] = refl
top_split x (y ∷ d) = ap (λ l. x ∷ l) (top_split y d)

module _ {p : Plan} (ok : Accepted p) {n : ℕ} (most : n ≤ 16) {s : State} (sound : Sound p n s) {v : ℕ} (b : v < n) where
  -- a worker with something on its deque holds a job
  victim_holds : {x : ℕ} {d : List ℕ} → deque_of s v ≡ x ∷ d → (j : ℕ) × (worker_of s v ≡ Holding j)
  victim_holds q = ⊎_elim (λ h. h) (λ e. let z : ◌≡◌ {A = ℕ} 0 1 = cc in absurd (omega arith)) (held_or_empty sound v)

  module _ {w : ℕ} (c : w < n) {l : ℕ} (waits : worker_of s w ≡ Waiting v l) where
    idle : line_of s w ≡ []
    idle = line_of_lem s w waits

    module _ {x : ℕ} {d : List ℕ} (q : deque_of s v ≡ x ∷ d) {j : ℕ} (is_held_lem : worker_of s v ≡ Holding j) where
      apart : v ≢ w
      apart e = let h = ap (worker_of s) e in let z : ◌≡◌ {A = ℕ} 0 1 = cc in omega arith

      abbrev after : State
      after = given v w (Ok (top_of x d)) s

      steal_sound : Sound p n after
      unfolding given
      steal_sound =
          record {
            nexts = sound.nexts;
            spents = sound.spents;
            workers = length-set s.workers w (Holding (top_of x d)) ∙ sound.workers;
            deques = length-set s.deques v (drop_top (deque_of s v)) ∙ sound.deques;
            rows = sound.rows;
            good = steal_good (shape_valid p ok) sound.good (record {
              victim = v;
              thief = w;
              rest = j ∷ drop_top (x ∷ d);
              job = top_of x d;
              idle = idle;
              whole = is;
              left = left;
              got = got;
              others = rest;
            });
            empty = none;
            absent = λ u h. get_or-set_other s.workers w u (Holding (top_of x d)) Idle (λ e. omega arith) ∙ sound.absent u h;
          }
        where
          is : line_of s v ≡ (j ∷ drop_top (x ∷ d)) ++ (top_of x d ∷ [])
          is = line_of_lem s v is_held_lem ∙ ap (λ r. j ∷ r) (q ∙ top_split x d)

          stolen : deque_of after v ≡ drop_top (x ∷ d)
          stolen = get_or-set_same s.deques v (drop_top (deque_of s v)) [] (omega (arith, sound.deques)) ∙ ap drop_top q

          kept : (u : ℕ) → u ≢ v → deque_of after u ≡ deque_of s u
          kept u f = get_or-set_other s.deques v u (drop_top (deque_of s v)) [] f

          left : line_of after v ≡ j ∷ drop_top (x ∷ d)
          left = ap₂ line_in (get_or-set_other s.workers w v (Holding (top_of x d)) Idle apart ∙ is_held_lem) stolen

          got : line_of after w ≡ top_of x d ∷ []
          got =
              ap₂ line_in (get_or-set_same s.workers w (Holding (top_of x d)) Idle (omega (arith, sound.workers)))
              (kept w (λ e. apart (sym e)) ∙ sound.empty w idle)

          rest : (u : ℕ) → u ≢ v → u ≢ w → line_of after u ≡ line_of s u
          rest u f g = ap₂ line_in (get_or-set_other s.workers w u (Holding (top_of x d)) Idle g) (kept u f)

          none : (u : ℕ) → line_of after u ≡ [] → deque_of after u ≡ []
          none u e = go (ℕ_discrete u v) (ℕ_discrete u w)
            where
              go : Dec (u ≡ v) → Dec (u ≡ w) → deque_of after u ≡ []
              go (yes f) g = let h = rw f at e in let z : ◌≡◌ {A = ℕ} 0 1 = cc left in absurd (omega arith)
              go (no f) (yes g) = let h = rw g at e in let z : ◌≡◌ {A = ℕ} 0 1 = cc got in absurd (omega arith)
              go (no f) (no g) = kept u f ∙ sound.empty u (sym (rest u f g) ∙ e)

    -- an empty deque stays as it was, whichever miss it is
    missed_sound : deque_of s v ≡ [] → (held : Bool) → Sound p n (given v w (take_top [] held) s)
    unfolding given
    missed_sound q held =
        let same : set s.deques v (drop_top (deque_of s v)) ≡ s.deques =
        ap (λ d. set s.deques v (drop_top d)) q ∙ empty_kept s.deques v q in
        rw (same, nothing held) (free_sound most sound c idle Idle (λ d. refl) (given v w (take_top [] held) s).tally)
      where
        nothing : (held : Bool) → thief (take_top [] held) ≡ Idle
        nothing true = refl
        nothing false = refl

    given_sound : (d : List ℕ) → deque_of s v ≡ d → Sound p n (given v w (take_top d (holds (worker_of s v))) s)
    given_sound [] q = missed_sound q (holds (worker_of s v))
    given_sound (x ∷ d) q = let (j, h) = victim_holds q in steal_sound q h

  pub serve_sound : (who : ℕ) → Picks v n s.workers who → Sound p n (serve v who s)
  unfolding serve
  serve_sound zero picks = sound
  serve_sound (suc w) picks = let (c, l, h) = picks w refl in given_sound c h (deque_of s v) refl
