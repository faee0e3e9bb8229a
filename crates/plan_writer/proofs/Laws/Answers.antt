-- What is written of an output, and of a plan, by the room that is lent.
--   written_short, written_whole == 9, or the output
--   encoded_short, encoded_whole == the same of a plan's bytes
--   written_told, encoded_told   == what was written, where the answer is no refusal; encoded_front, encoded_room == and that
--                                   it stands in front, within what was lent
use Prim.Native.Nat.{ℕ, ◌≤◌, ◌<◌}
use mathlib.Core.Path.{◌≡◌, refl, sym, ap, ◌∙◌}
use mathlib.Core.Bool.{Bool, true, false}
use mathlib.Core.List.{List, ◌++◌}
use native.Mathlib.Omega.{arith}
use lib.ListN.{length, take, drop, length-append}
use lib.Seq.{take_at}
use lib.Dec.{leb}
use borrow.Author.Tests.{le-leb, lt-leb}
use Rattle.plan.specs.Refusal.{Outcome, refused, accepted}
use Rattle.plan.specs.Plan.{Plan}
use Rattle.plan.proofs.Laws.Outcomes.{refused_accepted}
use Rattle.plan_writer.specs.Writer.{plan_bytes}
use Rattle.plan_writer.specs.Written.{Written, written, encoded}

module _ (output : List ℕ) (n : ℕ) (buffer : List ℕ) where
  pub written_short : length buffer < length output → written output n buffer ≡ record { answer = refused 9; buffer = buffer }
  unfolding written
  written_short h = rw (written, lt-leb _ _ h)

  pub written_whole : length output ≤ length buffer
      → written output n buffer ≡ record { answer = accepted n; buffer = output ++ drop (length output) buffer }
  unfolding written
  written_whole h = rw (written, le-leb _ _ h)

  pub written_told : {P : Type 0} (m : ℕ) → (written output n buffer).answer ≡ accepted m
      → (m ≡ n → (written output n buffer).buffer ≡ output ++ drop (length output) buffer → P) → P
  unfolding written
  written_told {P} m e use-it = go (leb (length output) (length buffer)) e use-it
    where
      chosen : Bool → Written
      chosen c = elim c [
        | false ↦ record { answer = refused 9; buffer = buffer }
        | true ↦ record { answer = accepted n; buffer = output ++ drop (length output) buffer }
      ]

      go : (c : Bool) → (chosen c).answer ≡ accepted m → (m ≡ n → (chosen c).buffer ≡ output ++ drop (length output) buffer → P) → P
      go true e use-it = use-it (cc) refl
      go false e use-it = refused_accepted e

module _ (form : ℕ) where
  module _ (p : Plan) (buffer : List ℕ) where
    pub encoded_short : length buffer < length (plan_bytes form p)
        → record { answer = refused 9; buffer = buffer } ≡ encoded form (accepted p) buffer
    unfolding encoded
    encoded_short h = sym (written_short (plan_bytes form p) (length (plan_bytes form p)) buffer h)

    pub encoded_whole : length (plan_bytes form p) ≤ length buffer → (n : ℕ) (l : List ℕ)
        → n ≡ length (plan_bytes form p) → l ≡ plan_bytes form p ++ drop (length (plan_bytes form p)) buffer
        → record { answer = accepted n; buffer = l } ≡ encoded form (accepted p) buffer
    unfolding encoded
    encoded_whole h n l e w = rw (e, w) (sym (written_whole (plan_bytes form p) (length (plan_bytes form p)) buffer h))

  pub encoded_told : {P : Type 0} (o : Outcome Plan) (buffer : List ℕ) (n : ℕ) → (encoded form o buffer).answer ≡ accepted n
      → ((p : Plan) → o ≡ accepted p → n ≡ length (plan_bytes form p)
      → (encoded form o buffer).buffer ≡ plan_bytes form p ++ drop (length (plan_bytes form p)) buffer → P) → P
  unfolding encoded
  encoded_told (refused k) buffer n e use-it = refused_accepted e
  encoded_told (accepted p) buffer n e use-it = written_told (plan_bytes form p) (length (plan_bytes form p)) buffer n e (use-it p refl)

  -- the plan's bytes are the first that the buffer then holds
  pub encoded_front : {P : Type 0} (o : Outcome Plan) (buffer : List ℕ) (n : ℕ) → (encoded form o buffer).answer ≡ accepted n
      → ((p : Plan) → o ≡ accepted p → take n (encoded form o buffer).buffer ≡ plan_bytes form p → P) → P
  encoded_front o buffer n e use-it =
      encoded_told o buffer n e λ p q k b.
      use-it p q (ap (take n) b ∙ take_at (plan_bytes form p) (drop (length (plan_bytes form p)) buffer) n (sym k))

  -- they lie within what was lent
  pub encoded_room : (o : Outcome Plan) (buffer : List ℕ) (n : ℕ) → (encoded form o buffer).answer ≡ accepted n
      → n ≤ length (encoded form o buffer).buffer
  encoded_room o buffer n e = encoded_told o buffer n e λ p q k b. rw (b, length-append) (omega arith)
