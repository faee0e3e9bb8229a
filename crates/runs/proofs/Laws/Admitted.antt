-- An accepted plan is run, or turned down for its worker count or its choices.
--   Stopped x n cs == it is turned down, for a cause
--   Went x n cs    == it is run, and there are 1 to 16 workers
--   outcome        == one of the two
use Prim.Native.Nat.{ℕ, ◌≤◌}
use mathlib.Core.Path.{◌≡◌, refl}
use mathlib.Core.Logic.{◌⊎◌, inl, inr}
use mathlib.Core.Bool.{Bool, true, false}
use mathlib.Core.List.{List}
use lib.Dec.{T, leb, leb→le}
use Rattle.plan.specs.Refusal.{refused, accepted}
use Rattle.plan.proofs.Laws.Lists.{both_left, both_right, of_true}
use Rattle.runs.specs.Setting.{setting}
use Rattle.runs.specs.Run.{run, workers_fit, choices_fit, admitted}
use Rattle.plan.specs.Reader.{Read}

pub workers_range : (n : ℕ) → T (workers_fit n) → (1 ≤ n) × (n ≤ 16)
unfolding workers_fit
workers_range n t = (leb→le 1 n (both_left (leb 1 n) (leb n 16) t), leb→le n 16 (both_right (leb 1 n) (leb n 16) t))

module _ (x : Read) (n : ℕ) (choices : List ℕ) where
  pub record Stopped : Type 0 where
    pub cause : ℕ
    pub not_run : admitted (accepted x) n choices ≡ refused cause

  pub record Went : Type 0 where
    pub ran : admitted (accepted x) n choices ≡ accepted (run (setting x.plan n choices))
    pub some : 1 ≤ n
    pub most : n ≤ 16

  pub outcome : Stopped ⊎ Went
  unfolding admitted
  outcome = worker (workers_fit n) refl
    where
      choice : (b : Bool) → workers_fit n ≡ true → choices_fit n choices ≡ b → Stopped ⊎ Went
      choice false w q = inl (record { cause = 8; not_run = rw (admitted, w, q) })
      choice true w q =
          let (some, most) = workers_range n (of_true (workers_fit n) w) in
          inr (record { ran = rw (admitted, w, q); some = some; most = most })

      worker : (b : Bool) → workers_fit n ≡ b → Stopped ⊎ Went
      worker false q = inl (record { cause = 7; not_run = rw (admitted, q) })
      worker true q = choice (choices_fit n choices) q refl
