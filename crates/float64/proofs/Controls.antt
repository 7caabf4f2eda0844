-- Worked examples of the definitions: they are believed, so a wrong clause need break no other proof.
-- The answers for the whole part and radians were computed in Python's doubles, by document 01's steps.
-- Those for max, min, abs, clamp and the bit patterns were written by hand from document 01 and IEEE 754.
use mathlib.Core.Path.{◌≡◌, refl}
use mathlib.Core.Bool.{true, false}
use Prim.Native.Nat.{ℕ}
use lib.Ieee.{Float, nan, inf, binary64, neg, of_bits, to_bits, round, mul, div, lt, is_nan, size}
use Rattle.float64.specs.Constants.{nought, one, minus_one, two}
use Rattle.float64.specs.Choice.{max_of, min_of, abs_of, clamp_of}
use Rattle.float64.specs.Angle.{radians_of}
use Rattle.float64.specs.Whole.{whole_part}
use Rattle.float64.specs.Pattern.{bits_of, double_of}

abbrev double : ℕ → Float
double n = of_bits binary64 n

abbrev minus_nought : Float
minus_nought = neg nought

-- on a tie the first operand; if one is NaN, the other
max_are : (max_of nought minus_nought ≡ nought) × (max_of minus_nought nought ≡ minus_nought) × (max_of nan one ≡ one) × (max_of one nan ≡ one) × (max_of nan nan ≡ nan) × (max_of one two ≡ two) × (max_of two one ≡ two)
unfolding max_of is_nan lt of_bits neg
max_are = (refl, refl, refl, refl, refl, refl, refl)

min_are : (min_of nought minus_nought ≡ nought) × (min_of minus_nought nought ≡ minus_nought) × (min_of nan one ≡ one) × (min_of one nan ≡ one) × (min_of nan nan ≡ nan) × (min_of one two ≡ one) × (min_of two one ≡ one)
unfolding min_of is_nan lt of_bits neg
min_are = (refl, refl, refl, refl, refl, refl, refl)

abs_are : (abs_of minus_nought ≡ nought) × (abs_of minus_one ≡ one) × (abs_of two ≡ two) × (abs_of (inf true) ≡ inf false) × (abs_of nan ≡ nan)
unfolding abs_of of_bits neg
abs_are = (refl, refl, refl, refl, refl)

clamp_are : (clamp_of nan minus_one one ≡ nan) × (clamp_of two minus_one one ≡ one) × (clamp_of (inf true) minus_one one ≡ minus_one) × (clamp_of minus_nought nought one ≡ minus_nought) × (clamp_of one minus_one one ≡ one)
unfolding clamp_of is_nan lt of_bits neg
clamp_are = (refl, refl, refl, refl, refl)

-- 180, 90 and 15 degrees
radians_are : (radians_of (double 0x4066800000000000) ≡ double 0x400921fb54442d18) × (radians_of (double 0x4056800000000000) ≡ double 0x3ff921fb54442d18) × (radians_of (double 0x402e000000000000) ≡ double 0x3fd0c152382d7365)
unfolding of_bits mul div
radians_are = (refl, refl, refl)

-- 2.5, -2.5, -0.5, -0, 2 ^ 53 + 2, infinity
whole_part_are : (whole_part (double 0x4004000000000000) ≡ double 0x4000000000000000) × (whole_part (neg (double 0x4004000000000000)) ≡ (neg (double 0x4000000000000000))) × (whole_part (neg (double 0x3fe0000000000000)) ≡ (neg (double 0x0000000000000000))) × (whole_part (neg (double 0x0000000000000000)) ≡ (neg (double 0x0000000000000000))) × (whole_part (double 0x4340000000000001) ≡ double 0x4340000000000001) × (whole_part (inf true) ≡ inf true)
unfolding whole_part of_bits neg round
whole_part_are = (refl, refl, refl, refl, refl, refl)

pattern_are : (bits_of nan ≡ 9221120237041090560) × (bits_of (inf true) ≡ 18442240474082181120) × (bits_of minus_nought ≡ 9223372036854775808) × (bits_of one ≡ 4607182418800017408)
unfolding bits_of is_nan of_bits to_bits neg size
pattern_are = (refl, refl, refl, refl)

double_are : (double_of 0x7ff0000000000001 ≡ nan) × (double_of 0xffff000000000000 ≡ nan) × (double_of 0x7ff0000000000000 ≡ inf false) × (double_of 0x3ff0000000000000 ≡ one)
unfolding of_bits
double_are = (refl, refl, refl, refl)
