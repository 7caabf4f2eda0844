-- The claims of specs/Claims.antt, proved. Assumes nothing.
use mathlib.Core.Path.{◌≡◌, refl, ap, ◌∙◌}
use mathlib.Core.Bool.{Bool, not}
use Prim.Native.Nat.{ℕ, ◌*◌, ◌/◌, ◌^◌, ◌<◌}
use lib.IntN.{ℤ}
use lib.Dec.{T}
use lib.Ieee.{Float, nan, inf, fin, binary64, up, down, fits, is_nan, to_bits}
use lib.Ieee.Bits.{of_bits-to_bits, to_bits-of_bits}
use lib.Ieee.Exact.{HasValue}
use Rattle.float64.specs.Whole.{whole_part}
use Rattle.float64.specs.Pattern.{bits_of, double_of}
use Rattle.float64.specs.Claims.{WholeClaims, PatternClaims}
use Rattle.float64.proofs.Whole.{whole_exact}

whole_is : (s : Bool) (m : ℕ) (e : ℤ) → T (fits binary64 (fin s m e)) → HasValue (whole_part (fin s m e)) s (m * up e / down e) 1
unfolding whole_part
whole_is = whole_exact

pub whole_claims : WholeClaims
whole_claims = record { whole = whole_is }

bits_are : (x : Float) → bits_of x ≡ to_bits binary64 x
unfolding bits_of is_nan to_bits
bits_are nan = refl
bits_are (inf s) = refl
bits_are (fin s m e) = refl

pub pattern_claims : PatternClaims
pattern_claims = record {
  back = λ (x : Float) (F : T (fits binary64 x)). ap double_of (bits_are x) ∙ of_bits-to_bits binary64 x F;
  forth = λ (bits : ℕ) (h : bits < 2 ^ 64) (p : T (not (is_nan (double_of bits)))). bits_are (double_of bits) ∙ to_bits-of_bits binary64 bits h p;
}
