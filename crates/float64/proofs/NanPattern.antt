-- Which patterns are a NaN's: those above infinity's, the sign aside. Assumes nothing.
use mathlib.Core.Path.{◌≡◌, refl, sym, ◌∙◌, subst}
use mathlib.Core.Bool.{Bool, true, not}
use Prim.Native.Nat.{ℕ, ◌%◌, ◌^◌, ◌≤◌, ◌<◌}
use borrow.Author.Tests.{lt-ltb, le-ltb}
use lib.Dec.{T}
use lib.Ieee.{Float, nan, inf, fin, binary64, is_nan, nan_bits, of_bits, div}
use lib.Ieee.Bits.{nan_bits_is, nan_bits_above}
use Rattle.float64.specs.Constants.{nought}

is_nan_lem : (x : Float) → is_nan x ≡ true → nan ≡ x
unfolding is_nan
is_nan_lem nan h = refl
is_nan_lem (inf s) h = absurd (subst T (sym h) tt)
is_nan_lem (fin s m e) h = absurd (subst T (sym h) tt)

no_quotient : div binary64 nought nought ≡ nan
unfolding of_bits div
no_quotient = refl

pub nan_above : (bits : ℕ) → 0x7ff0_0000_0000_0000 < bits % 2 ^ 63 → div binary64 nought nought ≡ of_bits binary64 bits
nan_above bits h = no_quotient ∙ is_nan_lem (of_bits binary64 bits) (sym (nan_bits_is binary64 bits) ∙ nan_bits_above binary64 bits ∙ lt-ltb 0x7ff0_0000_0000_0000 (bits % 2 ^ 63) h)

pub no_nan_below : (bits : ℕ) → bits % 2 ^ 63 ≤ 0x7ff0_0000_0000_0000 → T (not (nan_bits binary64 bits))
no_nan_below bits h = subst (λ (b : Bool). T (not b)) (sym (nan_bits_above binary64 bits ∙ le-ltb 0x7ff0_0000_0000_0000 (bits % 2 ^ 63) h)) tt
