-- What the entry answers, by what was read.
--   form_first, form_second, form_one == the form of the result
--   first_down, second_down, limits_down, pair_written == a refusal of either plan, 17, or the result's bytes
--   pair_result   == what was written is accepted, and T1, S1 and T∞ are as document 02 has them
--   result_range  == and in range
use Prim.Native.Nat.{ℕ, ◌+◌, ◌<◌}
use mathlib.Core.Path.{◌≡◌, refl, sym, ◌∙◌}
use mathlib.Core.Logic.{◌⊎◌, inl, inr}
use mathlib.Core.Bool.{Bool, true, false}
use mathlib.Core.List.{List, []}
use native.Mathlib.Omega.{arith}
use native.Mathlib.Decide.{ℕ_discrete}
use lib.Dec.{T}
use lib.ListN.{length, get_or}
use borrow.Author.Tests.{ne_eqb}
use Rattle.plan.specs.Refusal.{Outcome, refused, accepted}
use Rattle.plan.specs.Plan.{Plan, size, action, placed, no_placed}
use Rattle.plan.specs.Reader.{Read, is_form, read_plan}
use Rattle.plan.specs.Rules.{in_range, costs_fit, Accepted}
use Rattle.std.specs.Prelude.{Result}
use Rattle.plan.specs.declared.refusal.Refusal.{Refusal}
use Rattle.plan_writer.specs.Written.{encoded, answer_of}
use Rattle.plan.proofs.Laws.Accepted.{accepted_kept}
use Rattle.plan.proofs.Laws.Costs.{accepted_costs}
use Rattle.plan.proofs.Laws.Lists.{of_true}
use Rattle.plan.proofs.Laws.Outcomes.{refused_accepted, accepted_same}
use Rattle.plan.proofs.Laws.Placed.{Stands, placed_of}
use Rattle.plan_writer.proofs.Laws.Costs.{costs_at, costs_by}
use Rattle.plan_writer.proofs.Laws.ReadBack.{read_back}
use Rattle.plan_pair.specs.Pair.{paired, pair_form, pair_fits, pair_of, written_out, pair_into, Paired}
use Rattle.plan_pair.proofs.Laws.Pairing.{part_size, part_cost, Whose, top, mine, theirs, paired_pairing}
use Rattle.plan_pair.proofs.Laws.Accepting.{fits_told, pair_accepted}
use Rattle.plan_pair.proofs.Laws.Together.{together}

pub form_first : (a b : ℕ) → (a ≡ 1 → ⊥) → 2 ≡ pair_form a b
unfolding pair_form
form_first a b f = rw (pair_form, ne_eqb a 1 f)

pub form_second : (a b : ℕ) → a ≡ 1 → (b ≡ 1 → ⊥) → 2 ≡ pair_form a b
unfolding pair_form
form_second a b e f = rw (e, pair_form, ne_eqb b 1 f)

pub form_one : (a b : ℕ) → a ≡ 1 → b ≡ 1 → 1 ≡ pair_form a b
unfolding pair_form
form_one a b e f = rw (e, f)

form_cases : (a b : ℕ) → ((a ≡ 1) × (b ≡ 1) × (1 ≡ pair_form a b)) ⊎ (2 ≡ pair_form a b)
form_cases a b = go (ℕ_discrete a 1) (ℕ_discrete b 1)
  where
    go : Dec (a ≡ 1) → Dec (b ≡ 1) → ((a ≡ 1) × (b ≡ 1) × (1 ≡ pair_form a b)) ⊎ (2 ≡ pair_form a b)
    go (yes x) (yes y) = inl (x, y, form_one a b x y)
    go (yes x) (no y) = inr (form_second a b x y)
    go (no x) e = inr (form_first a b x)

form_known : (a b : ℕ) → T (is_form (pair_form a b))
form_known a b = go (form_cases a b)
  where
    go : ((a ≡ 1) × (b ≡ 1) × (1 ≡ pair_form a b)) ⊎ (2 ≡ pair_form a b) → T (is_form (pair_form a b))
    go (inl (x, y, e)) = rw (← e) tt
    go (inr e) = rw (← e) tt

-- where the result is of form 1, both plans are, so that all costs are 1
module _ (frame : ℕ) (p q : Plan) (a b : ℕ) (c : T (costs_fit a p)) (d : T (costs_fit b q)) where
  cost_one : (j i : ℕ) → i < size (paired frame p q) j → a ≡ 1 → b ≡ 1 → Whose 1 (1 + length p) p q j → (action (paired frame p q) j i).cost ≡ 1
  cost_one j i l x y (top z) =
      let t = paired_pairing frame p q in
      rw z (t.costs_one i (omega (arith, rw z at l, t.five)))
  cost_one j i l x y (mine k h z) =
      let t = (paired_pairing frame p q).one in
      rw z (part_cost t k h i ∙ costs_at a p c k i h (rw (z, part_size t k h) at l) x)
  cost_one j i l x y (theirs k h z) =
      let t = (paired_pairing frame p q).two in
      rw z (part_cost t k h i ∙ costs_at b q d k i h (rw (z, part_size t k h) at l) y)

  pair_costs : T (costs_fit (pair_form a b) (paired frame p q))
  pair_costs =
      costs_by (pair_form a b) (paired frame p q) (λ k h e. by k (placed_of (paired frame p q) k h) (form_cases a b) e)
    where
      by : (k : ℕ) → Stands (paired frame p q) k (get_or (placed (paired frame p q)) k no_placed)
          → ((a ≡ 1) × (b ≡ 1) × (1 ≡ pair_form a b)) ⊎ (2 ≡ pair_form a b) → pair_form a b ≡ 1 → (get_or (placed (paired frame p q)) k no_placed).cost ≡ 1
      by k s (inl (x, y, f)) e =
          let o = get_or (placed (paired frame p q)) k no_placed in
          s.cost ∙ cost_one o.job o.position s.within x y ((paired_pairing frame p q).whose o.job s.known)
      by k s (inr f) e = absurd (omega arith)

module _ (frame : ℕ) (s t buffer : List ℕ) where
  pub first_down : (k : ℕ) → read_plan s ≡ refused k → record { answer = refused k; buffer = buffer } ≡ pair_into frame s t buffer
  unfolding pair_into pair_of written_out
  first_down k e = rw e

  module _ (a : Read) (e : read_plan s ≡ accepted a) where
    pub second_down : (k : ℕ) → read_plan t ≡ refused k → record { answer = refused k; buffer = buffer } ≡ pair_into frame s t buffer
    unfolding pair_into pair_of written_out
    second_down k f = rw (e, f)

    module _ (b : Read) (f : read_plan t ≡ accepted b) where
      abbrev result : Plan
      result = paired frame a.plan b.plan

      pub limits_down : pair_fits frame result ≡ false → record { answer = refused 17; buffer = buffer } ≡ pair_into frame s t buffer
      unfolding pair_into pair_of written_out
      limits_down x = rw (e, f, pair_of, x)

      pub pair_written : pair_fits frame result ≡ true → encoded (pair_form a.form b.form) (accepted result) buffer ≡ pair_into frame s t buffer
      unfolding pair_into pair_of written_out
      pair_written x = rw (e, f, pair_of, x)

      kept : T (pair_fits frame result) → Accepted result
      kept x = pair_accepted frame a.plan b.plan (accepted_kept s a e) (accepted_kept t b f) (fits_told frame result x)

      pub pair_result : T (pair_fits frame result) → (r : Result ℕ Refusal) (bytes : List ℕ)
          → record { answer = answer_of r; buffer = bytes } ≡ encoded (pair_form a.form b.form) (accepted result) buffer
          → Paired frame s t r bytes
      pair_result x r bytes w n g =
          record {
            first = a;
            second = b;
            first_read = e;
            second_read = f;
            accepted_too = read_back (pair_form a.form b.form) result (form_known a.form b.form)
                (pair_costs frame a.plan b.plan a.form b.form (accepted_costs s a e) (accepted_costs t b f)) (kept x) buffer r bytes w n g;
            together = together frame a.plan b.plan (accepted_kept s a e) (accepted_kept t b f) (fits_told frame result x);
          }

-- a result is in range
pub result_range : (frame : ℕ) (s t : List ℕ) (x : Read) → pair_of frame (read_plan s) (read_plan t) ≡ accepted x → T (in_range x.plan)
unfolding pair_of
result_range frame s t x e = go (read_plan s) refl (read_plan t) refl e
  where
    by : (a b : Read) → read_plan s ≡ accepted a → read_plan t ≡ accepted b → (c : Bool) → pair_fits frame (paired frame a.plan b.plan) ≡ c
        → pair_of frame (accepted a) (accepted b) ≡ accepted x → T (in_range x.plan)
    by a b f g false h e = refused_accepted {k = 17} (let z : pair_of frame (accepted a) (accepted b) ≡ refused 17 = rw (pair_of, h) in sym z ∙ e)
    by a b f g true h e =
        let r : Read = record { form = pair_form a.form b.form; plan = paired frame a.plan b.plan } in
        let z : pair_of frame (accepted a) (accepted b) ≡ accepted r = rw (pair_of, h) in
        rw (← accepted_same r x (sym z ∙ e)) (kept frame s t [] a f b g (of_true _ h)).range

    go : (a : Outcome Read) → read_plan s ≡ a → (b : Outcome Read) → read_plan t ≡ b → pair_of frame a b ≡ accepted x → T (in_range x.plan)
    go (refused k) f b g e = refused_accepted e
    go (accepted a) f (refused k) g e = refused_accepted e
    go (accepted a) f (accepted b) g e = by a b f g (pair_fits frame (paired frame a.plan b.plan)) refl e
