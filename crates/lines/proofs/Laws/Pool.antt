-- The lines of a pool: a turn keeps every living job that has no living child the first of a line, if the worker then leads with the
-- job that was spawned, with the same job if it goes on, or with the parent if the job has ended and nothing else keeps the parent.
--   Passed P next next' j line line' == line' are the lines line after such a turn, in which job j acts
use mathlib.Core.Path.{◌≡◌, refl, sym, ap, ◌∙◌}
use mathlib.Core.Logic.{◌≢◌, by_cases}
use mathlib.Core.List.{List, ◌∷◌}
use Prim.Native.Nat.{ℕ, zero, suc, ◌≤◌, ◌<◌}
use native.Mathlib.Omega.{arith}
use native.Mathlib.Decide.{ℕ_discrete, dec_lt}
use Rattle.lines.proofs.Laws.Shape.{Shape, Valid, Living, Lone, Leads, Leaves}
use Rattle.lines.proofs.Laws.Leaves.{ready_of}
use Rattle.lines.proofs.Laws.Act.{Goes, Act, stays, goes_lives, born_is, born_good, lived}

pub record Passed (P : Shape) (next next' : ℕ → ℕ) (j : ℕ) (line line' : ℕ → List ℕ) : Type 0 where
  pub worker : ℕ
  pub above : List ℕ
  pub first : line worker ≡ j ∷ above
  pub rest : (v : ℕ) → v ≢ worker → line' v ≡ line v
  pub known : (x : ℕ) (l : List ℕ) → line' worker ≡ x ∷ l → x < P.jobs
  pub spawns : (c : ℕ) → P.child j (next j) ≡ suc c → Leads line' c
  pub goes : P.child j (next j) ≡ 0 → Goes P next' j → Leads line' j
  pub dies : 1 ≤ j → P.len j ≤ next' j → Lone P next' (P.parent j) → Leads line' (P.parent j)

module _ {P : Shape} (ok : Valid P) {next next' : ℕ → ℕ} {j : ℕ} (act : Act P next next' j)
    {line line' : ℕ → List ℕ} (leaves : Leaves P next line) (passed : Passed P next next' j line line') where
  open P use {len, parent, child}
  open passed use {worker, first, rest, known, spawns, goes, dies}

  -- a job that has no living child after the action had none before it, unless it is the parent of job j and j has ended
  was_lone : (x : ℕ) → (x ≡ parent j → 1 ≤ j → next' j < len j) → Lone P next' x → Lone P next x
  was_lone x f none k b (o, (e, a)) = go (ℕ_discrete k j)
    where
      go : Dec (k ≡ j) → ⊥
      go (yes q) =
          let left : next' j < len j = f (sym e ∙ ap parent q) (omega arith) in
          none k b (o, (e, rw q (goes_lives act left)))
      go (no q) = none k b (o, (e, stays act k q a))

  -- a job that neither acted nor was born leads as before
  old : (x : ℕ) → x ≢ j → child j (next j) ≢ suc x → (x ≡ parent j → 1 ≤ j → next' j < len j) → Living P next' x → Lone P next' x
      → Leads line' x
  old x f g h a none =
      let (v, r, e) = leaves.leaf x (lived act ok x f g a) (was_lone x h none) in
      (v, r, rest v (λ q. f (head v r q e)) ∙ e)
    where
      head : (v : ℕ) (r : List ℕ) → v ≡ worker → line v ≡ x ∷ r → x ≡ j
      head v r q e = cc (ap line q, first)

  -- job j itself, if it lives on and no child of it does
  again : Living P next' j → Lone P next' j → (c : ℕ) → child j (next j) ≡ c → Leads line' j
  again a none zero e = goes e (record { left = a.left; ready = ready_of P ok next' j none })
  again a none (suc c) e =
      let (o, b, p, s) = born_is act ok c e in
      absurd (none c b (o, (p, (born_good act ok c e).0)))

  leaf' : (x : ℕ) → Living P next' x → Lone P next' x → Leads line' x
  leaf' x a none = go (ℕ_discrete x j) (ℕ_discrete (child j (next j)) (suc x)) (dec_lt (next' j) (len j))
    where
      go : Dec (x ≡ j) → Dec (child j (next j) ≡ suc x) → Dec (next' j < len j) → Leads line' x
      go (yes e) d h = rw e (again (rw e at a) (rw e at none) (child j (next j)) refl)
      go (no f) (yes e) h = spawns x e
      go (no f) (no g) (yes h) = old x f g (λ q o. h) a none
      go (no f) (no g) (no h) =
          by_cases (ℕ_discrete x (parent j))
          (λ q. by_cases (dec_lt 0 j) (λ o. rw q (dies o (omega arith) (rw q at none))) (λ o. old x f g (λ q i. absurd (o i)) a none))
          (λ q. old x f g (λ z. absurd (q z)) a none)

  pub pool_leaves : Leaves P next' line'
  pool_leaves = record {
    known = λ v x r e. by_cases (ℕ_discrete v worker) (λ q. known x r (rw q at e)) (λ f. leaves.known v x r (sym (rest v f) ∙ e));
    leaf = leaf';
  }
