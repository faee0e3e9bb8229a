-- The bits of a plan by the array that holds it, action by action in plan order.
--   up_to f k       == f 0 ++ f 1 ++ .., the first k of them
--   action_first, action_later == what is added at a place, by the numbers that were read there
--   plan_count     == how many bits there are, by the numbers of the array
--   plan_up_to      == a plan's bits are its form, its job count and then those of each action
--   fields_more, fields_many == how many bits one action more adds, and all take at most 22 each
--   plan_room      == n bytes that have room for the plan's have room for these bits
--   place_writable == the numbers at a place fit their fields
use Prim.Native.Nat.{ℕ, zero, suc, ◌+◌, ◌*◌, ◌-◌, ◌/◌, ◌≤◌, ◌<◌}
use mathlib.Core.Path.{◌≡◌, sym, ap, ap₂, ◌∙◌}
use mathlib.Core.List.{List, [], ◌∷◌, ◌++◌, append_assoc, append-nil}
use native.Mathlib.Omega.{arith}
use native.Mathlib.Nat.{add_assoc, add-suc, suc-add, add-zero, zero-add, not-suc-le-zero}
use native.Mathlib.Numerals.{add-one}
use native.Mathlib.Decide.{dec_le}
use borrow.Author.Tests.{eq-eqb, ne_eqb}
use lib.ListN.{length, get_or, length-append}
use Rattle.plan.specs.declared.sheet.Sheet.{Sheet}
use Rattle.plan.specs.Plan.{Action, Job, Plan, job, size, action, total, no_action, no_placed, placed}
use Rattle.fields.specs.Field.{bits_of}
use Rattle.plan_writer.specs.Writer.{number_bits, cost_bits, actions_bits, jobs_bits, plan_bits}
use Rattle.plan.specs.Sheet.{child_at, target_at, frame_of, first_of, job_at, cost_at, Laid, RuledIn}
use Rattle.plan_writer.specs.ActionBits.{opening_bits, fields_of, fields_at, action_bits, Writable}
use Rattle.plan.proofs.Laws.Found.{ruled_few}
use Rattle.plan.proofs.Laws.Laid.{laid_owner, laid_end, laid_child, laid_target, laid_cost}
use Rattle.plan.proofs.Laws.Placed.{start, placed_of}
use Rattle.plan.proofs.Laws.Spawning.{cost_in_range_lem}
use Rattle.plan.proofs.Laws.Valid.{size_range, small_numbers}
use Rattle.plan_writer.proofs.Laws.Numbers.{fields_few}

abbrev pub up_to : (ℕ → List ℕ) → ℕ → List ℕ
up_to f zero = []
up_to f (suc k) = up_to f k ++ f k

pub up_to_rises : (f : ℕ → List ℕ) (k n : ℕ) → k ≤ n → length (up_to f k) ≤ length (up_to f n)
up_to_rises f k zero h = let e : k ≡ 0 = omega arith in rw e (omega arith)
up_to_rises f k (suc n) h = go (dec_le k n) (up_to_rises f k n)
  where
    go : Dec (k ≤ n) → (k ≤ n → length (up_to f k) ≤ length (up_to f n)) → length (up_to f k) ≤ length (up_to f (suc n))
    go (yes l) r = omega (arith, r l, length-append (up_to f n) (f n))
    go (no m) r = let e : k ≡ suc n = omega arith in rw e (omega arith)

abbrev fields : ℕ → Action → List ℕ
fields form a = fields_of form a.spawn a.join a.cost

-- what the action at position i of job b adds
abbrev opening : Job → ℕ → List ℕ
opening b zero = bits_of 16 b.frame ++ bits_of 8 (length b.actions)
opening b (suc i) = []

abbrev added : ℕ → Plan → ℕ → ℕ → List ℕ
added form p j i = opening (job p j) i ++ fields form (action p j i)

regroup : (u a b c d : List ℕ) → (u ++ ((a ++ b) ++ c)) ++ d ≡ u ++ (a ++ (b ++ (c ++ d)))
regroup u a b c d = simp append_assoc

regroup_opened : (u x a b c d : List ℕ) → (u ++ (x ++ ((a ++ b) ++ c))) ++ d ≡ u ++ (x ++ (a ++ (b ++ (c ++ d))))
regroup_opened u x a b c d = simp append_assoc

module _ (form : ℕ) (f : ℕ → List ℕ) where
  actions_up_to : (s : ℕ) (l : List Action) → ((i : ℕ) → i < length l → f (s + i) ≡ fields form (get_or l i no_action))
      → up_to f (s + length l) ≡ up_to f s ++ actions_bits form l
  unfolding actions_bits
  actions_up_to s [] h = rw (add-zero, append-nil)
  actions_up_to s (a ∷ l) h =
      let e : s + suc (length l) ≡ suc s + length l = omega arith in
      let r : up_to f (suc s + length l) ≡ up_to f (suc s) ++ actions_bits form l
      = actions_up_to (suc s) l (λ i b. ap f (suc-add s i ∙ sym (add-suc s i)) ∙ h (suc i) (omega arith)) in
      let g : f s ≡ fields form a = ap f (sym (add-zero s)) ∙ h 0 (omega arith) in
      rw (e, r, g) (regroup (up_to f s) (number_bits a.spawn) (number_bits a.join) (cost_bits form a.cost) (actions_bits form l))

  opened_up_to : (s : ℕ) (l : List Action) (x : List ℕ) → 1 ≤ length l → f s ≡ x ++ fields form (get_or l 0 no_action)
      → ((i : ℕ) → suc i < length l → f (suc s + i) ≡ fields form (get_or l (suc i) no_action))
      → up_to f (s + length l) ≡ up_to f s ++ (x ++ actions_bits form l)
  unfolding actions_bits
  opened_up_to s [] x n g h = absurd (not-suc-le-zero n)
  opened_up_to s (a ∷ l) x n g h =
      let e : s + suc (length l) ≡ suc s + length l = omega arith in
      let r = actions_up_to (suc s) l (λ i b. h i (omega arith)) in
      rw (e, r, g) (regroup_opened (up_to f s) x (number_bits a.spawn) (number_bits a.join) (cost_bits form a.cost) (actions_bits form l))

  jobs_up_to : (s : ℕ) (p : Plan) → ((j : ℕ) → j < length p → 1 ≤ size p j)
      → ((j i : ℕ) → j < length p → i < size p j → f (s + (start p j + i)) ≡ added form p j i)
      → up_to f (s + total p) ≡ up_to f s ++ jobs_bits form p
  unfolding jobs_bits
  jobs_up_to s [] n h = rw (add-zero, append-nil)
  jobs_up_to s (b ∷ p) n h =
      ap (λ (k : ℕ). up_to f k) (sym (add_assoc s (length b.actions) (total p)))
      ∙ jobs_up_to (s + length b.actions) p (λ j l. n (suc j) (omega arith)) (λ j i l m. ap f (omega arith) ∙ h (suc j) i (omega arith) m)
      ∙ ap (λ (l : List ℕ). l ++ jobs_bits form p)
      (opened_up_to s b.actions (opening b 0) (n 0 (omega arith)) (ap f (sym (add-zero s)) ∙ h 0 0 (omega arith) (n 0 (omega arith)))
      (λ i l. ap f (omega arith) ∙ h 0 (suc i) (omega arith) l))
      ∙ regroup (up_to f s) (bits_of 16 b.frame) (bits_of 8 (length b.actions)) (actions_bits form b.actions) (jobs_bits form p)

  -- with no headers
  jobs_count : (s : ℕ) (p : Plan) → ((j i : ℕ) → j < length p → i < size p j → f (s + (start p j + i)) ≡ fields form (action p j i))
      → length (up_to f (s + total p)) + 24 * length p ≡ length (up_to f s) + length (jobs_bits form p)
  unfolding jobs_bits
  jobs_count s [] h = rw (add-zero s)
  jobs_count s (b ∷ p) h =
      let r = jobs_count (s + length b.actions) p (λ j i l m. ap f (omega arith) ∙ h (suc j) i (omega arith) m) in
      let o = actions_up_to s b.actions (λ i l. ap f (omega arith) ∙ h 0 i (omega arith) l) in
      let e = add_assoc s (length b.actions) (total p) in
      let m : length (up_to f (s + length b.actions)) ≡ length (up_to f s) + length (actions_bits form b.actions) = rw o (length-append (up_to f s) (actions_bits form b.actions)) in
      let n = length-append (actions_bits form b.actions) (jobs_bits form p) in
      rw (← e) (omega arith)

opening_first : (plan : Sheet) (j k : ℕ) → first_of plan j ≡ k
    → opening_bits plan j k ≡ bits_of 16 (frame_of plan j) ++ bits_of 8 (first_of plan (j + 1) - first_of plan j)
unfolding opening_bits
opening_first plan j k e = rw (opening_bits, eq-eqb (first_of plan j) k e)

opening_later : (plan : Sheet) (j k : ℕ) → (first_of plan j ≡ k → ⊥) → opening_bits plan j k ≡ []
unfolding opening_bits
opening_later plan j k n = rw (opening_bits, ne_eqb (first_of plan j) k n)

-- what is added at place k, by the numbers that were read there: its job j, which begins at place s and ends at e, and the frame f
module _ (form : ℕ) (plan : Sheet) (k j s : ℕ) (owner : j ≡ job_at plan k) (begins : s ≡ first_of plan j) where
  pub action_later : (s ≡ k → ⊥) → action_bits form plan k ≡ fields_at form plan k
  action_later n = rw (← owner, opening_later plan j k (λ e. n (begins ∙ e)))

  module _ (e f : ℕ) (ends : e ≡ first_of plan (j + 1)) (frame : f ≡ frame_of plan j) where
    pub action_first : s ≡ k → action_bits form plan k ≡ (bits_of 16 f ++ bits_of 8 (e - s)) ++ fields_at form plan k
    action_first h = rw (← owner, opening_first plan j k (sym begins ∙ h), ← begins, ← ends, ← frame)

    pub header_size : Writable plan k → (s ≤ e) × (e - s < 256)
    header_size w =
        let r = rw (← owner, ← begins, ← ends) at w.rises in
        let x = rw (← owner, ← begins, ← ends) at w.few in
        omega arith

module _ (form : ℕ) (plan : Sheet) where
  pub fields_more : (k : ℕ) → length (up_to (fields_at form plan) (k + 1)) ≡ length (up_to (fields_at form plan) k) + length (fields_at form plan k)
  fields_more k = rw (add-one, length-append (up_to (fields_at form plan) k) (fields_at form plan k))

  pub fields_many : (k : ℕ) → length (up_to (fields_at form plan) k) ≤ 22 * k
  fields_many zero = omega arith
  fields_many (suc k) =
      let m = rw add-one at (fields_more k) in
      omega (arith, fields_many k, fields_few form (child_at plan k) (target_at plan k) (cost_at plan k))

module _ {p : Plan} {plan : Sheet} (g : RuledIn plan p) where
  laid : Laid plan p
  laid = g.laid

  opening_at : (j i : ℕ) → j < length p → opening_bits plan j (start p j + i) ≡ opening (job p j) i
  opening_at j zero h =
      let a = laid.firsts j (omega arith) in
      let d : start p j + size p j - start p j ≡ size p j = omega arith in
      rw (opening_first plan j (start p j + 0) (omega arith), laid_end plan p laid j h, a, d, laid.frames j h)
  opening_at j (suc i) h = opening_later plan j (start p j + suc i) (omega (arith, laid.firsts j (omega arith)))

  pub place_writable : (k : ℕ) → k < plan.actions → Writable plan k
  place_writable k h =
      let l : k < total p = rw g.all at h in
      let s = placed_of p k l in
      let o = laid.owners k l in
      let j = (get_or (placed p) k no_placed).job in
      let a = laid.firsts j (omega (arith, s.known)) in
      let b = laid_end plan p laid j s.known in
      let z = size_range p g.rules j s.known in
      let c = ruled_few plan p g in
      let n = small_numbers p g.rules j (get_or (placed p) k no_placed).position s.known s.within in
      record {
        place = omega arith;
        owner = omega (arith, o, s.known, g.count);
        rises = rw (o, a, b) (omega arith);
        few = rw (o, a, b) (omega arith);
        child = omega (arith, laid.children k l, s.spawn, n);
        target = omega (arith, laid.targets k l, s.join, n);
        cost = omega (arith, laid.costs k l, s.cost, cost_in_range_lem p laid.range j s.known (get_or (placed p) k no_placed).position s.within);
      }

  module _ (form : ℕ) where
    -- what the array holds at the place of action i of job j
    fields_at_lem : (j i : ℕ) → j < length p → i < size p j → fields_at form plan (start p j + i) ≡ fields form (action p j i)
    fields_at_lem j i h b = rw (laid_child plan p laid j h i b, laid_target plan p laid j h i b, laid_cost plan p laid j h i b)

    action_at_lem : (j i : ℕ) → j < length p → i < size p j → action_bits form plan (start p j + i) ≡ added form p j i
    action_at_lem j i h b =
        rw (laid_owner plan p laid j h i b) (ap₂ (λ (x y : List ℕ). x ++ y) (opening_at j i h) (fields_at_lem j i h b))

    pub plan_count : length (plan_bits form p) ≡ 17 + 24 * plan.jobs + length (up_to (fields_at form plan) plan.actions)
    unfolding plan_bits
    plan_count =
        let c = jobs_count form (fields_at form plan) 0 p (λ j i h b. rw zero-add (fields_at_lem j i h b)) in
        rw (g.all, g.count) (omega (arith, rw (zero-add (total p)) at c))

    -- all bits of the plan
    pub plan_up_to : plan_bits form p ≡ bits_of 8 form ++ (bits_of 9 plan.jobs ++ up_to (action_bits form plan) plan.actions)
    unfolding plan_bits
    plan_up_to =
        let u = jobs_up_to form (action_bits form plan) 0 p (λ j h. (size_range p g.rules j h).0) (λ j i h b. rw zero-add (action_at_lem j i h b)) in
        let e : up_to (action_bits form plan) plan.actions ≡ jobs_bits form p = ap (up_to (action_bits form plan)) g.all ∙ (rw zero-add at u) in
        rw (e, g.count)

    pub plan_room : (n : ℕ) → (length (plan_bits form p) + 7) / 8 ≤ n → 17 + length (up_to (action_bits form plan) plan.actions) ≤ 8 * n
    plan_room n h = let e = ap (λ (l : List ℕ). length l) plan_up_to in omega arith
