-- The bits behind the last field: where they are fewer than eight zeros, they are the fill.
use Prim.Native.Nat.{ℕ, ◌+◌, ◌*◌, ◌-◌, ◌<◌}
use native.Mathlib.Omega.{arith}
use mathlib.Core.Path.{◌≡◌, ap, sym, ◌∙◌}
use mathlib.Core.List.{List}
use lib.ListN.{length, drop, replicate, length-drop, length-replicate}
use lib.Dec.{T, eqb, ltb, eqb_refl, lt→ltb}
use Rattle.fields.specs.Field.{bits, number}
use Rattle.plan.specs.Reader.{fills}
use Rattle.plan.proofs.Laws.Lists.{both_intro}
use Rattle.fields.proofs.Laws.Bits.{bits_length, number_zeros}
use Rattle.fields.proofs.Laws.Seams.{Rest}

pub fills_rest : (s : List ℕ) (n k : ℕ) → k < 8 → Rest s n (replicate k 0) → T (fills s n)
unfolding fills
fills_rest s n k h r =
    let l : 8 * length s - n ≡ k = rw (bits_length, length-replicate) at (sym (length-drop n (bits s)) ∙ ap length r.bits) in
    let z : number (drop n (bits s)) ≡ 0 = ap number r.bits ∙ number_zeros k in
    both_intro (ltb (8 * length s) (n + 8)) (eqb (number (drop n (bits s))) 0) (lt→ltb (8 * length s) (n + 8) (omega (arith, r.within))) (rw z (eqb_refl 0))
