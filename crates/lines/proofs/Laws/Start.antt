-- The first state is good: nothing is done, line 0 is the root alone, and the others are empty.
--   none_closed == what is done is closed where nothing is done
--   start_good  == the first state is good
use mathlib.Core.Path.{◌≡◌}
use mathlib.Core.Logic.{◌⊎◌, inl, inr, ◌≢◌, by_cases}
use mathlib.Core.List.{List, [], ◌∷◌}
use Prim.Native.Nat.{ℕ, ◌<◌}
use native.Mathlib.Nat.{eq-zero-or-pos}
use native.Mathlib.Omega.{arith}
use native.Mathlib.Decide.{ℕ_discrete}
use Rattle.lines.proofs.Laws.Shape.{Shape, Valid, Living, Ready, Chain, Closed, Good}
use Rattle.lines.proofs.Laws.Member.{◌∈◌, in_single}

pub none_closed : (P : Shape) (next : ℕ → ℕ) → ((j : ℕ) → next j ≡ 0) → Closed P next
none_closed P next none = record {
  bound = λ j b. omega (arith, none j);
  started = λ j o b h. absurd (omega (arith, none j));
  joined = λ j a t b h i m. absurd (omega (arith, none (P.parent j)));
}

module _ (P : Shape) (ok : Valid P) (next : ℕ → ℕ) (line : ℕ → List ℕ) (none : (j : ℕ) → next j ≡ 0)
    (root : line 0 ≡ 0 ∷ []) (idle : (w : ℕ) → w ≢ 0 → line w ≡ []) where
  first : (w x : ℕ) → x ∈ line w → (w ≡ 0) × (x ≡ 0)
  first w x m = by_cases (ℕ_discrete w 0) (λ e. (e, in_single (rw (e, root) at m))) (λ f. absurd (rw (idle w f) at m))

  chain' : (w : ℕ) → Chain P (line w)
  chain' w = by_cases (ℕ_discrete w 0) (λ e. rw (e, root) tt) (λ f. rw (idle w f) tt)

  root_living : Living P next 0
  root_living = record { below = ok.some; begun = λ o. absurd (omega arith); left = omega (arith, none 0, ok.long 0 ok.some) }

  first_born : (x : ℕ) → Living P next x → (x ≡ 0) ⊎ (0 < x) → x ≡ 0
  first_born x a (inl e) = e
  first_born x a (inr o) = absurd (omega (arith, a.begun o, none (P.parent x)))

  root_ready : Ready P next 0
  root_ready k b a h e i = absurd (omega (arith, none 0, ok.joins k a (next 0) b h i))

  pub start_good : Good P next line
  start_good = record {
    closed = none_closed P next none;
    chain = chain';
    here = λ w x m. rw (first w x m).1 (root_living, root_ready);
    apart = λ v w x m i. omega (arith, first v x m, first w x i);
    found = λ x a r. (0, rw root (inl (first_born x a (eq-zero-or-pos x))));
  }
