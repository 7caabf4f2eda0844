-- Worked examples of the definitions: they are believed, so a wrong clause need break no other proof. The answers were computed in
-- Python's doubles, by document 01's steps.
use mathlib.Core.Path.{◌≡◌, refl}
use Prim.Native.Nat.{ℕ}
use lib.Ieee.{Float, binary64, neg, of_bits, round, add, sub, mul, div, lt, is_nan, of_int}
use Rattle.float64.specs.Choice.{clamp_of}
use Rattle.float64.specs.Whole.{whole_part}
use Rattle.elementary.specs.Exponential.{terms, squared, E}
use Rattle.elementary.specs.Wave.{reduced_angle, series, S, C}

abbrev double : ℕ → Float
double n = of_bits binary64 n

-- 0, -1, -1/2, -700, the next double below -700, and 1
exponential_are : (E (double 0x0000000000000000) ≡ double 0x3ff0000000000000) × (E (neg (double 0x3ff0000000000000)) ≡ double 0x3fd78b56362cf004) × (E (neg (double 0x3fe0000000000000)) ≡ double 0x3fe368b2fc6f9789) × (E (neg (double 0x4085e00000000000)) ≡ double 0x00d14f2b0fb92e43) × (E (neg (double 0x4085e00000000001)) ≡ double 0x0000000000000000) × (E (double 0x3ff0000000000000) ≡ double 0x4005bf0a8b145459)
unfolding E terms squared of_bits neg lt of_int add mul div
exponential_are = (refl, refl, refl, refl, refl, refl)

-- 0, 1, PI, the next double above PI, 7 and 100
sine_are : (S (double 0x0000000000000000) ≡ double 0x0000000000000000) × (S (double 0x3ff0000000000000) ≡ double 0x3feaed548f090cee) × (S (double 0x400921fb54442d18) ≡ double 0x0000000000000000) × (S (double 0x400921fb54442d19) ≡ (neg (double 0x3cb921fb54442d17))) × (S (double 0x401c000000000000) ≡ double 0x3fe50608c26d0a0a) × (S (double 0x4059000000000000) ≡ (neg (double 0x3fe03425b78c4d63)))
unfolding S reduced_angle whole_part series clamp_of is_nan of_bits neg lt of_int round sub mul div
sine_are = (refl, refl, refl, refl, refl, refl)

-- 0, 1, PI and 2
cosine_are : (C (double 0x0000000000000000) ≡ double 0x3ff0000000000000) × (C (double 0x3ff0000000000000) ≡ double 0x3fe14a280fb5068c) × (C (double 0x400921fb54442d18) ≡ (neg (double 0x3ff0000000000000))) × (C (double 0x4000000000000000) ≡ (neg (double 0x3fdaa22657537208)))
unfolding C series clamp_of is_nan of_bits neg lt of_int sub mul div
cosine_are = (refl, refl, refl, refl)

-- E at -693.8131171797552, S at 3.1086768213123666, C at 3.004452144873332: a term less or more, or another order of a term's operations, would be another double
terms_are : (E (neg (double 0x4085ae81439476ea)) ≡ double 0x016070fc1394e580) × (S (double 0x4008de91f40af574) ≡ double 0x3fa0d990a053182e) × (C (double 0x4008091e34c5062d) ≡ (neg (double 0x3fefb315c6b623ce)))
unfolding E terms squared S C reduced_angle whole_part series clamp_of is_nan of_bits neg lt of_int round add sub mul div
terms_are = (refl, refl, refl)
