-- The binary digits of a number that is made of others.
--   and_in            == what two numbers share has a digit that both have
--   or_left, or_right == what two numbers have together has each digit of either
--   ones_in           == the lowest c digits of 2 ^ c - 1 are 1
--   shifted_in        == a number that is shifted has its digits further up
--   high_in           == a number has above digit m what it has without the lowest m
--   low_in            == the lowest sixteen digits of a number
use Prim.Native.Nat.{ℕ, zero, suc, ◌+◌, ◌-◌, ◌*◌, ◌/◌, ◌%◌, ◌^◌, ◌<◌}
use mathlib.Core.Path.{◌≡◌, refl, sym, ap, ap₂, ◌∙◌}
use native.Mathlib.Nat.{pow-suc}
use native.Mathlib.Omega.{arith}
use lib.Pow.{pow_pos, ones_lt, ones_split, high, field, mod-mod-pow, shl-shr, shr-shr}
use lib.Bits.{bit_and, bit_or, and_shr, and_mod, or_shr, or_mod, or_comm}
use Rattle.checker.specs.Busy.{In}

pub and_in : (a b u : ℕ) → In a u → In b u → In (bit_and a b) u
and_in a b u p q = ap (λ (x : ℕ). x % 2) (and_shr a b u) ∙ and_mod (a / 2 ^ u) (b / 2 ^ u) 1 ∙ ap₂ bit_and p q

or_one : (y : ℕ) → y < 2 → bit_or 1 y ≡ 1
or_one zero h = refl
or_one (suc zero) h = refl
or_one (suc (suc y)) h = absurd (omega arith)

pub or_left : (a b u : ℕ) → In a u → In (bit_or a b) u
or_left a b u p =
    ap (λ (x : ℕ). x % 2) (or_shr a b u) ∙ or_mod (a / 2 ^ u) (b / 2 ^ u) 1
    ∙ ap (λ (x : ℕ). bit_or x (b / 2 ^ u % 2)) p ∙ or_one (b / 2 ^ u % 2) (omega arith)

pub or_right : (a b u : ℕ) → In b u → In (bit_or a b) u
or_right a b u p = ap (λ (x : ℕ). x / 2 ^ u % 2) (or_comm a b) ∙ or_left b a u p

pub ones_in : (c d : ℕ) → d < c → In (2 ^ c - 1) d
ones_in c d h =
    ap (λ (x : ℕ). (2 ^ x - 1) / 2 ^ d % 2) apart ∙ ap (λ (x : ℕ). x / 2 ^ d % 2) (ones_split (suc (c - d - 1)) d)
    ∙ ap (λ (x : ℕ). x % 2) (high (2 ^ suc (c - d - 1) - 1) d (ones_lt d)) ∙ odd (c - d - 1)
  where
    apart : c ≡ suc (c - d - 1) + d
    apart = omega arith

    odd : (j : ℕ) → (2 ^ suc j - 1) % 2 ≡ 1
    odd j = omega (arith, pow-suc 2 j, pow_pos j)

pub shifted_in : (s o d : ℕ) → In s d → In (s * 2 ^ o) (o + d)
shifted_in s o d p =
    ap (λ (x : ℕ). x % 2) (sym (shr-shr (s * 2 ^ o) o d) ∙ ap (λ (x : ℕ). x / 2 ^ d) (shl-shr s o)) ∙ p

pub high_in : (s m u : ℕ) → In s (m + u) → In (s / 2 ^ m) u
high_in s m u p = ap (λ (x : ℕ). x % 2) (shr-shr s m u) ∙ p

pub low_in : (s u : ℕ) → u < 16 → In s u → In (s % 65536) u
low_in s u h p =
    ap (λ (x : ℕ). s % 2 ^ x / 2 ^ u % 2) sixteen ∙ ap (λ (x : ℕ). x % 2) (field s (15 - u + 1) u) ∙ mod-mod-pow (s / 2 ^ u) (15 - u) 1 ∙ p
  where
    sixteen : 16 ≡ (15 - u + 1) + u
    sixteen = omega arith
