-- A plan's bytes: a plan that is read and written again in its form has the same bytes, and a plan that is written in a form and read
-- again is the same.
--   plan_bytes_length, plan_bytes_bytes == how many they are, and that they are bytes
--   read_write                        == bytes that a plan is read from are the plan's bytes in its form
--   read_form                         == the first of those bytes is the form
--   write_read                        == from the bytes of an accepted plan in a form that its costs fit that plan is read
use Prim.Native.Nat.{ℕ, zero, suc, ◌+◌, ◌*◌, ◌-◌, ◌/◌, ◌≤◌, ◌<◌}
use native.Mathlib.Omega.{arith}
use mathlib.Core.Path.{◌≡◌, refl, sym, ap, ap₂, ◌∙◌}
use mathlib.Core.Bool.{true, false}
use mathlib.Core.List.{List, [], ◌∷◌, ◌++◌, append_assoc}
use lib.ListN.{length, drop, replicate, length-drop, length-append, length-replicate, get_or}
use lib.Dec.{T, eqb, ltb, ltb→lt, eqb→eq}
use borrow.Author.Tests.{ne_eqb, le-ltb}
use Rattle.plan.specs.Refusal.{accepted}
use Rattle.plan.specs.Test.{either}
use Rattle.plan.specs.Plan.{Action, Job, Plan, total, placed_in, placed_from}
use Rattle.plan.specs.Rules.{in_range, costs_fit, spawn_rules, join_rules}
use Rattle.fields.specs.Field.{Bytes, bits_of, bits, number, Step, step, then, field_at}
use Rattle.plan.specs.Reader.{number_at, cost_in, action_at, actions_at, jobs_at, Read, plan_at, fills, judged, is_form, read_plan}
use Rattle.plan_writer.specs.Writer.{number_bits, cost_bits, actions_bits, jobs_bits, plan_bits, plan_bytes}
use Rattle.plan.proofs.Laws.Lists.{both_left, both_right, true_of}
use Rattle.fields.proofs.Laws.Readings.{then_went_on, unless_went_on, when_went_on, then_goes_on, unless_goes_on, when_goes_on}
use Rattle.plan.proofs.Laws.Outcomes.{passes as three-pass}
use Rattle.plan.proofs.Laws.Steps.{bool_cases}
use Rattle.plan.proofs.Laws.Fits.{Small, Fits, plan_fits}
use Rattle.plan.proofs.Laws.Spawning.{jobs_in_range, total_in_range}
use Rattle.fields.proofs.Laws.Bits.{Binary, append_binary, drop_binary, bits_binary, bits_of_binary, bits_length, bits_of_number}
use Rattle.fields.proofs.Laws.Bits.{number_bits_of, field_read, bits_pack, pack_length, pack_bytes}
use Rattle.fields.proofs.Laws.Seams.{bits_same, bits_of_zero, field_taken, Rest, field_found}
use Rattle.plan.proofs.Laws.Accepted.{accepted_place, accepted_first, form_small}
use Rattle.plan_writer.proofs.Laws.Numbers.{number_binary, cost_binary}
use Rattle.plan_writer.proofs.Laws.Costs.{Ones, ones_front, ones_back, ones_first, ones_rest, costs_ones}
use Rattle.plan.proofs.Laws.Fill.{fills_rest}

-- what is read takes the bits that writing it gives

number_taken : (s : List ℕ) (at v n : ℕ) → number_at s at ≡ step v n → drop at (bits s) ≡ number_bits v ++ drop n (bits s)
unfolding number_at
number_taken s at v n e = then_went_on (field_at s 1 at) more e go
  where
    more : ℕ → ℕ → Step ℕ
    more there at = elim there [ zero ↦ step 0 at | suc one ↦ then (field_at s 8 at) (λ v at. step (suc v) at) ]

    go : (a m : ℕ) → field_at s 1 at ≡ step a m → more a m ≡ step v n → drop at (bits s) ≡ number_bits v ++ drop n (bits s)
    go zero m e f = field_taken s 1 at 0 m e ∙ cc
    go (suc a) m e f = then_went_on (field_at s 8 m) (λ v at. step (suc v) at) f λ u k g h.
        let z : a ≡ 0 = omega (arith, (field_read s 1 at (suc a) m e).0) in
        field_taken s 1 at 1 m (rw z at e) ∙ ap {B = List ℕ} (λ l. 1 ∷ l) (field_taken s 8 m u k g) ∙ cc

-- a cost: by the form no bits for 1, or four bits
cost_taken : (form : ℕ) (s : List ℕ) (at v n : ℕ) → cost_in form s at ≡ step v n → drop at (bits s) ≡ cost_bits form v ++ drop n (bits s)
unfolding cost_in
cost_taken form s at v n e = bool_cases (eqb form 1) none some
  where
    none : eqb form 1 ≡ true → drop at (bits s) ≡ cost_bits form v ++ drop n (bits s)
    none g =
        let f : ◌≡◌ {A = Step ℕ} (step 1 at) (step v n) = rw (g, cost_in) at e in
        let x : at ≡ n = cc in
        rw (g, cost_bits, x)

    some : eqb form 1 ≡ false → drop at (bits s) ≡ cost_bits form v ++ drop n (bits s)
    some g =
        then_went_on (field_at s 4 at) _ (rw (g, cost_in) at e) λ cost m r f. unless_went_on (eqb cost 0) 3 _ f λ _ f₀.
        let x : m ≡ n = cc in
        let y : cost ≡ v = cc in
        rw (g, cost_bits, ← x, ← y) (field_taken s 4 at cost m r)

action_taken : (form : ℕ) (s : List ℕ) (at : ℕ) (a : Action) (n : ℕ) → action_at form s at ≡ step a n
    → drop at (bits s) ≡ number_bits a.spawn ++ (number_bits a.join ++ (cost_bits form a.cost ++ drop n (bits s)))
unfolding action_at
action_taken form s at a n e =
    then_went_on (number_at s at) _ e λ spawn m r f. then_went_on (number_at s m) _ f λ join k r' g.
    then_went_on (cost_in form s k) _ g λ cost o r'' h.
    let q : a ≡ record { spawn = spawn; join = join; cost = cost } = cc in
    let w : o ≡ n = cc in
    let x : a.spawn ≡ spawn = ap (λ a. a.spawn) q in
    let y : a.join ≡ join = ap (λ a. a.join) q in
    let z : a.cost ≡ cost = ap (λ a. a.cost) q in
    rw (x, y, z, ← w) (number_taken s at spawn m r ∙ rw (number_taken s m join k r', cost_taken form s k cost o r''))

actions_taken : (form : ℕ) (s : List ℕ) (k at : ℕ) (l : List Action) (n : ℕ) → actions_at form s k at ≡ step l n
    → (length l ≡ k) × (drop at (bits s) ≡ actions_bits form l ++ drop n (bits s))
unfolding actions_at actions_bits
actions_taken form s zero at l n e =
    let f : l ≡ [] = cc in
    let g : at ≡ n = cc in
    (rw f, rw (f, g))
actions_taken form s (suc k) at l n e =
    then_went_on (action_at form s at) _ e λ a m r f. then_went_on (actions_at form s k m) _ f λ rest m' r' g.
    let i = actions_taken form s k m rest m' r' in
    let q : l ≡ a ∷ rest = cc in
    let x : m' ≡ n = cc in
    rw q (ap suc i.0, action_taken form s at a m r ∙ simp append_assoc (rw (i.1, x)))

jobs_taken : (form : ℕ) (s : List ℕ) (c k at : ℕ) (p : List Job) (n : ℕ) → jobs_at form s c k at ≡ step p n
    → (length p ≡ c) × (drop at (bits s) ≡ jobs_bits form p ++ drop n (bits s))
unfolding jobs_at jobs_bits
jobs_taken form s zero k at p n e =
    let f : p ≡ [] = cc in
    let g : at ≡ n = cc in
    (rw f, rw (f, g))
jobs_taken form s (suc c) k at p n e =
    then_went_on (field_at s 16 at) _ e λ frame m r f.
    unless_went_on (eqb frame 0) 3 _ f λ _ f₀.
    then_went_on (field_at s 8 m) _ f₀ λ size m₁ r₁ f₁.
    unless_went_on (either (eqb size 0) (ltb 2048 (k + size))) 3 _ f₁ λ _ g₁.
    then_went_on (actions_at form s size m₁) _ g₁ λ l m₂ r₂ f₂.
    then_went_on (jobs_at form s c (k + size) m₂) _ f₂ λ bs m₃ r₃ f₃.
    let i = actions_taken form s size m₁ l m₂ r₂ in
    let j = jobs_taken form s c (k + size) m₂ bs m₃ r₃ in
    let q : p ≡ record { frame = frame; actions = l } ∷ bs = cc in
    let x : m₃ ≡ n = cc in
    rw q (ap suc j.0, field_taken s 16 at frame m r ∙ simp append_assoc (rw (field_taken s 8 m size m₁ r₁, i.0, i.1, j.1, x)))

plan_taken : (s : List ℕ) (x : Read) (n : ℕ) → plan_at s ≡ step x n
    → bits s ≡ plan_bits x.form x.plan ++ drop n (bits s)
unfolding plan_at plan_bits
plan_taken s x n e =
    then_went_on (field_at s 8 0) _ e λ form m r f. when_went_on (is_form form) 2 _ f λ g f₀.
    then_went_on (field_at s 9 m) _ f₀ λ jobs m₁ r₁ f₁.
    unless_went_on (either (eqb jobs 0) (ltb 256 jobs)) 3 _ f₁ λ _ f₂.
    then_went_on (jobs_at form s jobs 0 m₁) _ f₂ λ p m₂ r₂ f₃.
    let i = jobs_taken form s jobs 0 m₁ p m₂ r₂ in
    let q : x ≡ record { form = form; plan = p } = cc in
    let y : m₂ ≡ n = cc in
    let z : x.form ≡ form = ap (λ x. x.form) q in
    let w : x.plan ≡ p = ap (λ x. x.plan) q in
    let b : bits s ≡ plan_bits form p ++ drop m₂ (bits s) =
    field_taken s 8 0 form m r
    ∙ ap (λ l. bits_of 8 form ++ l) (field_taken s 9 m jobs m₁ r₁ ∙ ap₂ (λ (c : ℕ) (l : List ℕ). bits_of 9 c ++ l) (sym i.0) i.1) in
    b
    ∙ ap₂ (λ (f : ℕ) (o : Plan). plan_bits f o ++ drop m₂ (bits s)) (sym z) (sym w)
    ∙ ap (λ (k : ℕ). plan_bits x.form x.plan ++ drop k (bits s)) y

-- the fill

fills_zeros : (s : List ℕ) (n : ℕ) → T (fills s n) → (8 * length s < n + 8) × (drop n (bits s) ≡ replicate (8 * length s - n) 0)
unfolding fills
fills_zeros s n f =
    let b = ltb (8 * length s) (n + 8) in
    let z : number (drop n (bits s)) ≡ 0 = eqb→eq (number (drop n (bits s))) 0 (both_right b (eqb (number (drop n (bits s))) 0) f) in (
      ltb→lt (8 * length s) (n + 8) (both_left b (eqb (number (drop n (bits s))) 0) f),
      sym (bits_of_number (drop n (bits s)) (drop_binary n (bits s) (bits_binary s)))
          ∙ rw (z, length-drop, bits_length) (bits_of_zero (8 * length s - n)),
    )

-- the bits of a plan are bits, and its bytes are bytes

actions_bits_binary : (form : ℕ) (l : List Action) → Binary (actions_bits form l)
unfolding actions_bits
actions_bits_binary form [] = λ i. omega arith
actions_bits_binary form (a ∷ l) =
    append_binary (number_bits a.spawn) (number_bits a.join ++ (cost_bits form a.cost ++ actions_bits form l)) (number_binary a.spawn)
    (append_binary (number_bits a.join) (cost_bits form a.cost ++ actions_bits form l) (number_binary a.join)
    (append_binary (cost_bits form a.cost) (actions_bits form l) (cost_binary form a.cost) (actions_bits_binary form l)))

jobs_bits_binary : (form : ℕ) (p : List Job) → Binary (jobs_bits form p)
unfolding jobs_bits
jobs_bits_binary form [] = λ i. omega arith
jobs_bits_binary form (b ∷ bs) =
    let rest = actions_bits form b.actions ++ jobs_bits form bs in
    append_binary (bits_of 16 b.frame) (bits_of 8 (length b.actions) ++ rest) (bits_of_binary 16 b.frame)
    (append_binary (bits_of 8 (length b.actions)) rest (bits_of_binary 8 (length b.actions))
    (append_binary (actions_bits form b.actions) (jobs_bits form bs) (actions_bits_binary form b.actions) (jobs_bits_binary form bs)))

module _ (form : ℕ) (p : Plan) where
  plan_bits_binary : Binary (plan_bits form p)
  unfolding plan_bits
  plan_bits_binary =
      append_binary (bits_of 8 form) (bits_of 9 (length p) ++ jobs_bits form p) (bits_of_binary 8 form)
      (append_binary (bits_of 9 (length p)) (jobs_bits form p) (bits_of_binary 9 (length p)) (jobs_bits_binary form p))

  pub plan_bytes_length : length (plan_bytes form p) ≡ (length (plan_bits form p) + 7) / 8
  unfolding plan_bytes
  plan_bytes_length = pack_length ((length (plan_bits form p) + 7) / 8) (plan_bits form p)

  pub plan_bytes_bytes : Bytes (plan_bytes form p)
  unfolding plan_bytes
  plan_bytes_bytes = pack_bytes ((length (plan_bits form p) + 7) / 8) (plan_bits form p) plan_bits_binary

  plan_bytes_bits : bits (plan_bytes form p) ≡ plan_bits form p ++ replicate (8 * ((length (plan_bits form p) + 7) / 8) - length (plan_bits form p)) 0
  unfolding plan_bytes
  plan_bytes_bits = bits_pack ((length (plan_bits form p) + 7) / 8) (plan_bits form p) plan_bits_binary (omega arith) (omega arith)

first_byte : (s : List ℕ) (v n : ℕ) → Bytes s → field_at s 8 0 ≡ step v n → (1 ≤ length s) × (get_or s 0 0 ≡ v)
unfolding bits
first_byte [] v n h e = absurd (let r = field_read [] 8 0 v n e in omega (arith, r.1, r.2))
first_byte (b ∷ s) v n h e =
    let r = field_read (b ∷ s) 8 0 v n e in
    (omega arith, sym (number_bits_of 8 b (h 0)) ∙ ap number r.3 ∙ number_bits_of 8 v r.0)

module _ (s : List ℕ) (x : Read) where
  pub read_form : Bytes s → read_plan s ≡ accepted x → (1 ≤ length s) × (get_or s 0 0 ≡ x.form)
  read_form h e = let (m, r) = accepted_first s x e in first_byte s x.form m h r

  pub read_write : Bytes s → read_plan s ≡ accepted x → plan_bytes x.form x.plan ≡ s
  read_write h e = bits_same (plan_bytes x.form x.plan) s (plan_bytes_bytes x.form x.plan) h (plan_bytes_bits x.form x.plan ∙ same)
    where
      a : (n : ℕ) × (plan_at s ≡ step x n) × T (fills s n)
      a = accepted_place s x e

      b : List ℕ
      b = plan_bits x.form x.plan

      z : (8 * length s < a.0 + 8) × (drop a.0 (bits s) ≡ replicate (8 * length s - a.0) 0)
      z = fills_zeros s a.0 a.2

      t : bits s ≡ b ++ replicate (8 * length s - a.0) 0
      t = plan_taken s x a.0 a.1 ∙ ap (λ l. b ++ l) z.1

      few : 8 * length s ≡ length b + (8 * length s - a.0)
      few = sym (bits_length s) ∙ ap length t ∙ simp (length-append, length-replicate)

      fill : 8 * ((length b + 7) / 8) - length b ≡ 8 * length s - a.0
      fill = omega (arith, few, z.0)

      same : b ++ replicate (8 * ((length b + 7) / 8) - length b) 0 ≡ bits s
      same = ap (λ (k : ℕ). b ++ replicate k 0) fill ∙ sym t

-- bits that writing gives are read again

number_found : {P : Type 0} (s : List ℕ) (v n : ℕ) (c : List ℕ) → v ≤ 256 → Rest s n (number_bits v ++ c)
    → ((m : ℕ) → number_at s n ≡ step v m → Rest s m c → P) → P
unfolding number_at
number_found s zero n c h r use-it =
    let f = field_found s 1 0 n c (omega arith) r in
    use-it (n + 1) (rw f.0) f.1
number_found s (suc v) n c h r use-it =
    let f = field_found s 1 1 n (bits_of 8 v ++ c) (omega arith) r in
    let g = field_found s 8 v (n + 1) c (omega arith) f.1 in
    use-it (n + 1 + 8) (rw (f.0, g.0)) g.1

cost_found : {P : Type 0} (form : ℕ) (s : List ℕ) (v n : ℕ) (c : List ℕ) → 1 ≤ v → v ≤ 15 → (eqb form 1 ≡ true → v ≡ 1)
    → Rest s n (cost_bits form v ++ c) → ((m : ℕ) → cost_in form s n ≡ step v m → Rest s m c → P) → P
unfolding cost_in
cost_found {P} form s v n c some few plain r use-it = bool_cases (eqb form 1) none four
  where
    none : eqb form 1 ≡ true → P
    none g = use-it n (rw (g, cost_in, plain g)) (rw (g, cost_bits) at r)

    four : eqb form 1 ≡ false → P
    four g =
        let f = field_found s 4 v n c (omega arith) (rw (g, cost_bits) at r) in
        use-it (n + 4) (rw (g, cost_in, f.0, ne_eqb v 0 (λ e. omega arith), then)) f.1

actions_found : {P : Type 0} (form : ℕ) (s : List ℕ) (l : List Action) (n : ℕ) (c : List ℕ) → Small l → (j i : ℕ) → Ones form (placed_in j i l)
    → Rest s n (actions_bits form l ++ c) → ((m : ℕ) → actions_at form s (length l) n ≡ step l m → Rest s m c → P) → P
unfolding actions_at actions_bits action_at
actions_found form s [] n c h j i o r use-it = use-it n refl r
actions_found form s (a ∷ l) n c h j i o r use-it =
    let rest = actions_bits form l ++ c in
    number_found s a.spawn n (number_bits a.join ++ (cost_bits form a.cost ++ rest)) h.0 (simp append_assoc at r) λ m e r₁.
    number_found s a.join m (cost_bits form a.cost ++ rest) h.1 r₁ λ m₁ e₁ r₂.
    cost_found form s a.cost m₁ rest h.2 h.3 (ones_first form j i a l o) r₂ λ m₂ e₂ r₃.
    actions_found form s l m₂ c h.4 j (suc i) (ones_rest form j i a l o) r₃ λ m₃ e₃ r₄. use-it m₃ (rw (e, e₁, e₂, e₃)) r₄

jobs_found : {P : Type 0} (form : ℕ) (s : List ℕ) (p : List Job) (k n : ℕ) (c : List ℕ) → Fits p → (j : ℕ) → Ones form (placed_from j p) → k + total p ≤ 2048
    → Rest s n (jobs_bits form p ++ c) → ((m : ℕ) → jobs_at form s (length p) k n ≡ step p m → Rest s m c → P) → P
unfolding jobs_at jobs_bits
jobs_found form s [] k n c h j o few r use-it = use-it n refl r
jobs_found form s (b ∷ bs) k n c h j o few r use-it =
    let l = b.actions in
    let rest = actions_bits form l ++ (jobs_bits form bs ++ c) in
    let f = field_found s 16 b.frame n (bits_of 8 (length l) ++ rest) h.0.frame (simp append_assoc at r) in
    let g = field_found s 8 (length l) (n + 16) rest h.0.actions f.1 in
    let x : eqb b.frame 0 ≡ false = ne_eqb b.frame 0 (λ e. omega (arith, h.0.some_frame)) in
    let y : eqb (length l) 0 ≡ false = ne_eqb (length l) 0 (λ e. omega (arith, h.0.some_action)) in
    let z : ltb 2048 (k + length l) ≡ false = le-ltb 2048 (k + length l) (omega arith) in
    actions_found form s l (n + 16 + 8) (jobs_bits form bs ++ c) h.0.small j 0 (ones_front form (placed_in j 0 l) (placed_from (suc j) bs) o) g.1 λ m e r₁.
    jobs_found form s bs (k + length l) m c h.1 (suc j) (ones_back form (placed_in j 0 l) (placed_from (suc j) bs) o) (omega arith) r₁ λ m₁ e₁ r₂.
    use-it m₁ (
    then_goes_on (field_at s 16 n) _ f.0 (unless_goes_on (eqb b.frame 0) 3 _ x (
    then_goes_on (field_at s 8 (n + 16)) _ g.0 (unless_goes_on (either (eqb (length l) 0) (ltb 2048 (k + length l))) 3 _ (ap₂ either y z) (
    then_goes_on (actions_at form s (length l) (n + 16 + 8)) _ e (then_goes_on (jobs_at form s (length bs) (k + length l) m) _ e₁ refl)))))) r₂

plan_found : {P : Type 0} (form : ℕ) (s : List ℕ) (p : Plan) (c : List ℕ) → T (is_form form) → T (in_range p) → Fits p
    → T (costs_fit form p) → bits s ≡ plan_bits form p ++ c → ((m : ℕ) → plan_at s ≡ step (record { form = form; plan = p }) m → Rest s m c → P) → P
unfolding plan_at plan_bits
plan_found form s p c t i h o b use-it =
    let f = field_found s 8 form 0 (bits_of 9 (length p) ++ (jobs_bits form p ++ c)) (form_small form t) (record { within = omega arith; bits = simp append_assoc at b }) in
    let g = field_found s 9 (length p) 8 (jobs_bits form p ++ c) (omega (arith, jobs_in_range p i)) f.1 in
    let x : eqb (length p) 0 ≡ false = ne_eqb (length p) 0 (λ e. omega (arith, jobs_in_range p i)) in
    let y : ltb 256 (length p) ≡ false = le-ltb 256 (length p) (jobs_in_range p i).1 in
    jobs_found form s p 0 17 c h 0 (costs_ones form p o) (omega (arith, total_in_range p i)) g.1 λ m e r.
    use-it m (
    then_goes_on (field_at s 8 0) _ f.0 (when_goes_on (is_form form) 2 _ (true_of (is_form form) t) (
    then_goes_on (field_at s 9 8) _ g.0 (unless_goes_on (either (eqb (length p) 0) (ltb 256 (length p))) 3 _ (ap₂ either x y) (
    then_goes_on (jobs_at form s (length p) 0 17) _ e refl))))) r

pub write_read : (form : ℕ) (p : Plan) → T (is_form form) → T (costs_fit form p) → T (in_range p) → T (spawn_rules p) → T (join_rules p)
    → read_plan (plan_bytes form p) ≡ accepted (record { form = form; plan = p })
unfolding read_plan judged
write_read form p t c i s j =
    let k = 8 * ((length (plan_bits form p) + 7) / 8) - length (plan_bits form p) in
    plan_found form (plan_bytes form p) p (replicate k 0) t i (plan_fits p i s j) c (plan_bytes_bits form p) λ m e r.
    ap (judged (plan_bytes form p)) e
    ∙ three-pass 6 (fills (plan_bytes form p) m) (spawn_rules p) (join_rules p) (record { form = form; plan = p })
    (fills_rest (plan_bytes form p) m k (omega arith) r) s j
