-- The header of a schedule, field by field: what is read where a field is missing, where a test fails, and where all hold.
use Prim.Native.Nat.{ℕ, ◌≤◌}
use mathlib.Core.Path.{◌≡◌}
use mathlib.Core.Bool.{Bool, true, false}
use mathlib.Core.List.{List}
use native.Mathlib.Omega.{arith}
use Rattle.std.specs.Prelude.{Some, None}
use lib.Dec.{eqb, leb, eqb→eq, leb→le}
use borrow.Author.Tests.{eq-eqb, le-leb}
use Rattle.plan.specs.Test.{both}
use Rattle.fields.specs.Field.{stop, step, then, field_at}
use Rattle.courses.specs.Schedule.{written_at}
use Rattle.plan.proofs.Laws.Lists.{both_left, both_right, false_of}
use Rattle.fields.proofs.Laws.Bits.{field_read}
use Rattle.checker.specs.Formed.{Headed}

module _ (form : ℕ) (s : List ℕ) (n : ℕ) where
  pub no_form : (k : ℕ) → field_at s 8 0 ≡ stop k → Headed form s n None
  unfolding written_at
  no_form k e = (k, rw e)

  module _ (written a : ℕ) (e : field_at s 8 0 ≡ step written a) where
    pub no_workers : (k : ℕ) → field_at s 5 a ≡ stop k → Headed form s n None
    unfolding written_at
    no_workers k f = (k, rw (e, f))

    module _ (workers b : ℕ) (f : field_at s 5 a ≡ step workers b) where
      pub no_actions : (k : ℕ) → field_at s 12 b ≡ stop k → Headed form s n None
      unfolding written_at
      no_actions k g = (k, rw (e, f, g))

      module _ (actions c : ℕ) (g : field_at s 12 b ≡ step actions c) where
        pub no_zeros : (k : ℕ) → field_at s 7 c ≡ stop k → Headed form s n None
        unfolding written_at
        no_zeros k h = (k, rw (e, f, g, h))

-- a header that is all there
pub record HeaderRead (s : List ℕ) (written workers actions zeros : ℕ) : Type 0 where
  pub form_end : ℕ
  pub workers_end : ℕ
  pub actions_end : ℕ
  pub end : ℕ
  pub form_is : field_at s 8 0 ≡ step written form_end
  pub workers_are : field_at s 5 form_end ≡ step workers workers_end
  pub actions_are : field_at s 12 workers_end ≡ step actions actions_end
  pub zeros_are : field_at s 7 actions_end ≡ step zeros end

module _ (form : ℕ) (s : List ℕ) (n written workers actions zeros : ℕ) (r : HeaderRead s written workers actions zeros) where
  abbrev range : Bool
  range = both (leb 1 workers) (leb workers 16)

  abbrev counts : Bool
  counts = both (eqb actions n) (eqb zeros 0)

  abbrev sound : Bool
  sound = both (both (eqb written form) range) counts

  -- a test fails
  pub headed_not : (written ≡ form → 1 ≤ workers → workers ≤ 16 → actions ≡ n → zeros ≡ 0 → ⊥) → Headed form s n None
  unfolding written_at
  headed_not broken =
      let tests : sound ≡ false = false_of sound (λ t.
      let x = both_left (both (eqb written form) range) counts t in
      let y = both_right (both (eqb written form) range) counts t in
      let z = both_right (eqb written form) range x in
      broken (eqb→eq written form (both_left (eqb written form) range x)) (leb→le 1 workers (both_left (leb 1 workers) (leb workers 16) z))
      (leb→le workers 16 (both_right (leb 1 workers) (leb workers 16) z)) (eqb→eq actions n (both_left (eqb actions n) (eqb zeros 0) y))
      (eqb→eq zeros 0 (both_right (eqb actions n) (eqb zeros 0) y))) in
      (11, rw (r.form_is, r.workers_are, r.actions_are, r.zeros_are, tests, then))

  -- the rows lie behind it
  place : r.end ≡ 32
  place =
      omega (
        arith,
        field_read _ 8 _ _ _ r.form_is,
        field_read _ 5 _ _ _ r.workers_are,
        field_read _ 12 _ _ _ r.actions_are,
        field_read _ 7 _ _ _ r.zeros_are,
      )

  -- the tests hold
  pub headed_by : written ≡ form → 1 ≤ workers → workers ≤ 16 → actions ≡ n → zeros ≡ 0 → Headed form s n (Some workers)
  unfolding written_at
  headed_by same some most all none =
      let tests : sound ≡ true = rw (eq-eqb written form same, le-leb 1 workers some, le-leb workers 16 most, eq-eqb actions n all, eq-eqb zeros 0 none) in
      (some, rw (r.form_is, r.workers_are, r.actions_are, r.zeros_are, tests, place, then))
