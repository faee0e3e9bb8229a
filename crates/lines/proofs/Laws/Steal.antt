-- A theft keeps a state good: the last job of the victim's line becomes the line of the thief, which had none.
--   Stolen line line' == the lines line' are line after a theft
--   Was u y           == why job y stands in line u after it
--   steal_good        == the state after it is good
use mathlib.Core.Path.{◌≡◌, refl, sym, ◌∙◌}
use mathlib.Core.Logic.{inl, ◌≢◌, by_cases, ⊎_elim}
use mathlib.Core.List.{List, [], ◌∷◌, ◌++◌}
use Prim.Native.Nat.{ℕ, ◌<◌}
use native.Mathlib.Omega.{arith}
use native.Mathlib.Decide.{ℕ_discrete}
use Rattle.lines.proofs.Laws.Shape.{Shape, Valid, Living, Ready, Chain, Good}
use Rattle.lines.proofs.Laws.Member.{◌∈◌, in_single, in_front, in_back, in_append}
use Rattle.lines.proofs.Laws.Chain.{chain_front, last_low}

pub record Stolen (line line' : ℕ → List ℕ) : Type 0 where
  pub victim : ℕ
  pub thief : ℕ
  pub rest : List ℕ
  pub job : ℕ
  pub idle : line thief ≡ []
  pub whole : line victim ≡ rest ++ (job ∷ [])
  pub left : line' victim ≡ rest
  pub got : line' thief ≡ job ∷ []
  pub others : (u : ℕ) → u ≢ victim → u ≢ thief → line' u ≡ line u

module _ {P : Shape} (ok : Valid P) {next : ℕ → ℕ} {line line' : ℕ → List ℕ} (good : Good P next line) (stolen : Stolen line line') where
  open P use {jobs}
  open stolen use {victim, thief, rest, job, idle, whole, left, got, others}

  taken : job ∈ line victim
  taken = rw whole (in_back rest (job ∷ []) job (inl refl))

  kept : job ∈ rest → ⊥
  kept m =
      let b : (y : ℕ) → y ∈ rest ++ (job ∷ []) → y < jobs = λ y i. (good.here victim y (rw whole i)).0.below in
      let h : job < job = last_low P ok rest job b (rw whole at (good.chain victim)) job m in
      omega arith

  -- where each job was, and is
  data Was (u y : ℕ) : Type 0 where
    moved : u ≡ thief → y ≡ job → Was u y
    stayed : u ≢ thief → (y ≡ job → u ≢ victim) → y ∈ line u → Was u y

  was : (u y : ℕ) → y ∈ line' u → Was u y
  was u y m = go (ℕ_discrete u thief) (ℕ_discrete u victim)
    where
      go : Dec (u ≡ thief) → Dec (u ≡ victim) → Was u y
      go (yes e) d = moved e (in_single (rw (e, got) at m))
      go (no f) (yes e) = let i : y ∈ rest = rw (e, left) at m in stayed f (λ q c. kept (rw q at i)) (rw (e, whole) (in_front rest (job ∷ []) y i))
      go (no f) (no g) = stayed f (λ e. g) (rw (others u g f) at m)

  here' : (u y : ℕ) → Was u y → Living P next y × Ready P next y
  here' u y (moved e q) = rw q (good.here victim job taken)
  here' u y (stayed f g m) = good.here u y m

  apart' : (u t y : ℕ) → Was u y → Was t y → u ≡ t
  apart' u t y (moved e q) (moved e' q') = e ∙ sym e'
  apart' u t y (moved e q) (stayed f g m) = absurd (g q (sym (good.apart victim t y (rw q taken) m)))
  apart' u t y (stayed f g m) (moved e q) = absurd (g q (good.apart u victim y m (rw q taken)))
  apart' u t y (stayed f g m) (stayed f' g' m') = good.apart u t y m m'

  chain' : (u : ℕ) → Chain P (line' u)
  chain' u = go (ℕ_discrete u thief) (ℕ_discrete u victim)
    where
      go : Dec (u ≡ thief) → Dec (u ≡ victim) → Chain P (line' u)
      go (yes e) d = rw (e, got) tt
      go (no f) (yes e) = rw (e, left) (chain_front P rest (job ∷ []) (rw whole at (good.chain victim)))
      go (no f) (no g) = rw (others u g f) (good.chain u)

  found' : (y : ℕ) → Living P next y → Ready P next y → (u : ℕ) × (y ∈ line' u)
  found' y a r =
      let (u, m) = good.found y a r in
      by_cases (ℕ_discrete u thief) (λ e. absurd (rw (e, idle) at m))
      (λ f. by_cases (ℕ_discrete u victim)
      (λ e. ⊎_elim (λ i. (victim, rw left i)) (λ i. (thief, rw got i)) (in_append rest (job ∷ []) y (rw (e, whole) at m)))
      (λ g. (u, rw (others u g f) m)))

  pub steal_good : Good P next line'
  steal_good = record {
    closed = good.closed;
    chain = chain';
    here = λ u y m. here' u y (was u y m);
    apart = λ u t y m i. apart' u t y (was u y m) (was t y i);
    found = found';
  }
