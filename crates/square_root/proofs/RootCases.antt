-- The square root's cases, as the tests of `sqrt` find them. Assumes nothing.
use mathlib.Core.Path.{◌≡◌, refl, sym, ap, ◌∙◌, subst}
use mathlib.Core.Bool.{Bool, true, false, ◌&&◌, ◌||◌, true≢false}
use Prim.Native.Nat.{ℕ, zero, suc, ◌+◌, ◌*◌, ◌≤◌, ◌<◌}
use native.Mathlib.Nat.{zero-lt-suc, mul-pos}
use native.Mathlib.Omega.{arith}
use borrow.Author.Tests.{ltb-true, ltb-false, eqb-true}
use lib.Dec.{T, eqb, lt→ltb}
use lib.Ieee.{Float, nan, inf, fin, binary64, fits, lt, eq, ne, div, of_bits, to_bits, up, down}
use lib.Ieee.Fits.{up_pos}
use lib.Ieee.Compare.{differs_from_itself}
use lib.Ieee.Positive.{positive}
use lib.Ieee.Bits.{of_bits-to_bits}
use Rattle.float64.specs.Constants.{nought}
use Rattle.square_root.specs.Root.{root_of}

pub of_nan : (x : Float) → ne x x ≡ true → x ≡ root_of x
unfolding root_of
of_nan x h = subst (λ (z : Float). z ≡ root_of z) (sym (differs_from_itself x (subst T (sym h) tt))) refl

pub of_negative : (x : Float) → lt x nought ≡ true → div binary64 nought nought ≡ root_of x
unfolding root_of lt of_bits div
of_negative nan h = absurd (true≢false (sym h))
of_negative (inf true) h = refl
of_negative (inf false) h = absurd (true≢false (sym h))
of_negative (fin true zero e) h = absurd (absent (ltb-true _ _ h))
  where
    absent : 0 < 0 * up e * 1 + 0 * down e → ⊥
    absent k = omega arith
of_negative (fin true (suc m) e) h = refl
of_negative (fin false m e) h = absurd (absent (ltb-true _ _ h))
  where
    absent : m * up e * 1 < 0 * down e → ⊥
    absent k = omega arith

and_true : (a b : Bool) → a && b ≡ true → a ≡ true
and_true true b h = refl
and_true false b h = h

pub of_zero : (x : Float) → eq x nought ≡ true → x ≡ root_of x
unfolding root_of eq of_bits
of_zero nan h = refl
of_zero (inf true) h = absurd (true≢false (sym h))
of_zero (inf false) h = refl
of_zero (fin s zero e) h = refl
of_zero (fin s (suc m) e) h = absurd (absent (mul-pos (zero-lt-suc m) (up_pos e)) (eqb-true _ _ (and_true _ _ h)))
  where
    absent : 0 < suc m * up e → suc m * up e * 1 ≡ 0 * down e → ⊥
    absent p k = omega arith

pub of_infinity : (x : Float) → T (fits binary64 x) → to_bits binary64 x ≡ 0x7ff0_0000_0000_0000 → x ≡ root_of x
unfolding root_of of_bits
of_infinity x f h = subst (λ (z : Float). z ≡ root_of z) (sym (sym (of_bits-to_bits binary64 x f) ∙ ap (of_bits binary64) h)) refl

same_zero : (a b : ℕ) (t : Bool) → a ≡ 0 → b ≡ 0 → eqb a b && (t || eqb a 0) ≡ true
same_zero a b true p q = rw (p, q)
same_zero a b false p q = rw (p, q)

-- what is left is above zero
pub rest : (x : Float) → ne x x ≡ false → lt x nought ≡ false → eq x nought ≡ false → (to_bits binary64 x ≡ 0x7ff0_0000_0000_0000 → ⊥) → T (positive x)
unfolding ne lt eq of_bits to_bits
rest nan a b c d = true≢false a
rest (inf true) a b c d = true≢false b
rest (inf false) a b c d = d refl
rest (fin true zero e) a b c d = true≢false (sym (same_zero (0 * up e * 1) (0 * down e) false (omega arith) (omega arith)) ∙ c)
rest (fin false zero e) a b c d = true≢false (sym (same_zero (0 * up e * 1) (0 * down e) true (omega arith) (omega arith)) ∙ c)
rest (fin true (suc m) e) a b c d = absent (mul-pos (zero-lt-suc m) (up_pos e)) (ltb-false _ _ b)
  where
    absent : 0 < suc m * up e → suc m * up e * 1 + 0 * down e ≤ 0 → ⊥
    absent p k = omega arith
rest (fin false (suc m) e) a b c d = lt→ltb 0 (suc m) (zero-lt-suc m)
