-- The sets of rounds that rows take: a row of whose rounds none is there meets no row before it.
--   put_in      == rounds come into the set of one bucket
--   span_digits == ones that are shifted to the rounds of a span, counted from the first round of a block
--   taken_none, taken == the rounds of a span, where no sets are kept, and where they come into the sets of two blocks
--   taken_read  == so it is of the span of row k, by what was read of it
--   span_short  == a span has a round, and not more than a block
--   noted_none, noted_more == before any row, and behind one more
--   noted_apart == a row of whose rounds none is in the sets meets no row before it
use Prim.Native.Nat.{ℕ, ◌+◌, ◌-◌, ◌*◌, ◌/◌, ◌%◌, ◌^◌, ◌≤◌, ◌<◌}
use mathlib.Core.Path.{◌≡◌, refl, sym, ap, ap₂, subst, ◌∙◌}
use mathlib.Core.Logic.{by_cases}
use mathlib.Core.Bool.{Bool, true, false, true≢false, ◌&&◌}
use mathlib.Core.List.{List}
use native.Mathlib.Nat.{zero-div}
use native.Mathlib.Omega.{arith}
use native.Mathlib.Decide.{ℕ_discrete, dec_lt}
use borrow.Author.Tests.{eqb-true}
use lib.Dec.{eqb}
use lib.ListN.{length, set, replicate, length-set}
use lib.Pow.{shl_exact, shr_le}
use lib.Seq.{get_or-set_same, get_or-set_other}
use lib.Bits.{bit_and, bit_or}
use Rattle.plan.specs.declared.sheet.Sheet.{Sheet}
use Rattle.courses.specs.Schedule.{Span}
use Rattle.plan.specs.Plan.{total}
use Rattle.plan.proofs.Laws.Placed.{placed_of}
use Rattle.plan.proofs.Laws.Spawning.{cost_in_range_lem}
use Rattle.checker.specs.Chains.{entry}
use Rattle.checker.specs.Rows.{span_from, span_at}
use Rattle.checker.specs.Given.{Task, RulesGiven}
use Rattle.checker.specs.Buckets.{bucket_of, Meet}
use Rattle.checker.specs.Busy.{In, Busy, During, Put, Taken, Noted}
use Rattle.checker.proofs.Laws.Digits.{and_in, or_left, or_right, ones_in, shifted_in, low_in, high_in}

pub put_in : (busy : List ℕ) (bucket rounds there : ℕ) → length busy ≡ 4096 → bucket < 4096 → there ≡ entry busy bucket
    → Put bucket rounds busy (set busy bucket (bit_or there rounds)) (eqb (bit_and there rounds) 0)
put_in busy bucket rounds there long h e = record {
  long = simp length-set long;
  stays = λ b u p. by_cases (ℕ_discrete b bucket)
      (λ q. rw (q, same) (or_left there rounds u (rw (q, ← e) at p)))
      (λ q. rw (get_or-set_other busy bucket b (bit_or there rounds) 0 q) p);
  comes = λ u p. rw same (or_right there rounds u p);
  free = λ r u p q. none u (eqb-true _ 0 r) (and_in there rounds u (rw (← e) at q) p);
}
  where
    same : entry (set busy bucket (bit_or there rounds)) bucket ≡ bit_or there rounds
    same = get_or-set_same busy bucket (bit_or there rounds) 0 (omega arith)

    none : (u : ℕ) → bit_and there rounds ≡ 0 → In (bit_and there rounds) u → ⊥
    none u z p =
        let y : ◌≡◌ {A = ℕ} 0 1 = ap (λ (x : ℕ). x % 2) (sym (zero-div (2 ^ u))) ∙ ap (λ (x : ℕ). x / 2 ^ u % 2) (sym z) ∙ p in omega arith

pub span_digits : (m o d : ℕ) → m + d < 16 → o < 16 → In ((65535 / 2 ^ m * 2 ^ o) % 2 ^ 32) (o + d)
span_digits m o d h l =
    rw (shl_exact {a = 65535 / 2 ^ m} 16 o 32 (omega (arith, shr_le 65535 m)) (omega arith))
    (shifted_in (65535 / 2 ^ m) o d (high_in 65535 m d (ones_in 16 (m + d) h)))

pub taken_none : (more stride : ℕ) (a : Span) (busy : List ℕ) → more ≡ 0 → length busy ≡ 4096 → Taken more stride a busy busy false
taken_none more stride a busy z long = record {
  long = long;
  stays = λ w round p. p;
  comes = λ some. absurd (omega arith);
  free = λ r. absurd (true≢false (sym r));
}

both_true : (r s : Bool) → (r && s) ≡ true → (r ≡ true) × (s ≡ true)
both_true true s e = (refl, e)
both_true false s e = absurd (true≢false (sym e))

-- a span of at most sixteen rounds, as digits from the first round of the block that it begins in
module _ (more stride : ℕ) (a : Span) (begun : a.first ≤ a.last) (short : a.last < a.first + 16) (digits : ℕ)
    (are : (d : ℕ) → d ≤ a.last - a.first → In digits (a.first % 16 + d)) (busy between busy' : List ℕ) (r s : Bool)
    (low : Put (bucket_of stride (a.first / 16) a.worker) (digits % 65536) busy between r)
    (high : Put (bucket_of stride (a.first / 16 + 1) a.worker) (digits / 65536) between busy' s) where
  -- a round of the span is of that block, or of the one behind it
  of_two : {C : Type 0} (round : ℕ) → During a round → (round / 16 ≡ a.first / 16 → In (digits % 65536) (round % 16) → C)
      → (round / 16 ≡ a.first / 16 + 1 → In (digits / 65536) (round % 16) → C) → C
  of_two round (h, l) f g =
      by_cases (ℕ_discrete (round / 16) (a.first / 16))
      (λ q. f q (low_in digits (round % 16) (omega arith) (digit (round % 16) (omega arith))))
      (λ q. g (omega arith) (high_in digits 16 (round % 16) (digit (16 + round % 16) (omega arith))))
    where
      digit : (u : ℕ) → a.first % 16 + (round - a.first) ≡ u → In digits u
      digit u e = rw (← e) (are (round - a.first) (omega arith))

  pub taken : 1 ≤ more → Taken more stride a busy busy' (r && s)
  taken some = record {
    long = high.long;
    stays = λ w round p. high.stays _ _ (low.stays _ _ p);
    comes = λ _ round d.
        of_two round d (λ q p. rw q (high.stays _ _ (low.comes _ p))) (λ q p. rw q (high.comes _ p));
    free = λ e. (
      some,
      λ round d p.
          of_two round d (λ q n. low.free (both_true r s e).0 _ n (rw q at p)) (λ q n. high.free (both_true r s e).1 _ n (low.stays _ _ (rw q at p))),
    );
  }

-- the rows of a schedule
module _ {workers : ℕ} (words : List ℕ) (plan : Sheet) (t : Task) (g : RulesGiven workers words plan t) where
  abbrev span : ℕ → Span
  span = span_at words plan

  pub span_short : (k : ℕ) → k < plan.actions → ((span k).first ≤ (span k).last) × ((span k).last < (span k).first + 16)
  span_short k h =
      let l : k < total t.plan = omega (arith, g.count) in
      let st = placed_of t.plan k l in
      let c = cost_in_range_lem t.plan g.tasked.planned.laid.range _ st.known _ st.within in
      let d = g.tasked.planned.laid.costs k l in
      (omega (arith, st.cost), omega (arith, st.cost))

  -- a round that two spans have
  pub noted_apart : (more stride k : ℕ) (busy busy' : List ℕ) (r : Bool) → k < plan.actions → Noted more stride k span busy
      → Taken more stride (span k) busy busy' r → r ≡ true → (i : ℕ) → i < k → Meet (span i) (span k) → ⊥
  noted_apart more stride k busy busy' r h n took e i l m =
      by_cases (dec_lt (span i).first (span k).first)
      (λ q. both (span k).first (omega (arith, m.2), omega (arith, m.2)) (omega arith, (span_short k h).0))
      (λ q. both (span i).first (omega arith, (span_short i (omega arith)).0) (omega arith, m.1))
    where
      both : (round : ℕ) → During (span i) round → During (span k) round → ⊥
      both round d f =
          (took.free e).1 round f (subst (λ (w : ℕ). Busy busy stride w round) m.0 (n.all (took.free e).0 i round l d))

pub taken_read : (words : List ℕ) (plan : Sheet) (k row first : ℕ) → row ≡ entry words k → first ≡ (span_at words plan k).first
    → {more stride : ℕ} {busy busy' : List ℕ} {r : Bool} → Taken more stride (span_from first row) busy busy' r
    → Taken more stride (span_at words plan k) busy busy' r
taken_read words plan k row first is begins {more} {stride} {busy} {busy'} {r} =
    subst (λ (a : Span). Taken more stride a busy busy' r) (ap₂ span_from begins is)

pub noted_none : (more stride : ℕ) (span : ℕ → Span) → Noted more stride 0 span (replicate 4096 0)
noted_none more stride span = record { long = refl; all = λ some i round h. absurd (omega arith) }

pub noted_more : (more stride k : ℕ) (span : ℕ → Span) (busy busy' : List ℕ) (r : Bool) → Noted more stride k span busy
    → Taken more stride (span k) busy busy' r → Noted more stride (k + 1) span busy'
noted_more more stride k span busy busy' r n took = record {
  long = took.long;
  all = λ some i round h d.
      by_cases (ℕ_discrete i k)
      (λ q. rw q (took.comes some round (rw q at d)))
      (λ q. took.stays _ round (n.all some i round (omega arith) d));
}
