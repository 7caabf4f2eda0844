-- The constants of document 01's float rules. Each is written by its bits, as a literal of the code is, and the law beside it says of which decimal it is the nearest double.
use Rattle.std.specs.Prelude.{◌≡◌, refl, false, ℕ, ◌^◌, Float}
use Rattle.std.specs.Float.{binary64}
use Rattle.std.specs.Float.Ieee.{neg, of_bits, round, mul, div}

-- the double nearest to the fraction n / d, ties to even
abbrev pub decimal : ℕ → ℕ → Float
decimal n d = round binary64 false n d

abbrev pub nought : Float
nought = of_bits binary64 0

abbrev pub one : Float
one = of_bits binary64 0x3ff0_0000_0000_0000

abbrev pub minus_one : Float
minus_one = neg one

abbrev pub two : Float
two = of_bits binary64 0x4000_0000_0000_0000

abbrev pub k180 : Float
k180 = of_bits binary64 0x4066_8000_0000_0000

abbrev pub k700 : Float
k700 = of_bits binary64 0x4085_e000_0000_0000

abbrev pub k1024 : Float
k1024 = of_bits binary64 0x4090_0000_0000_0000

abbrev pub half : Float
half = of_bits binary64 0x3fe0_0000_0000_0000

-- of a unit
abbrev pub kilo : Float
kilo = of_bits binary64 0x408f_4000_0000_0000

abbrev pub milli : Float
milli = of_bits binary64 0x3f50_624d_d2f1_a9fc

abbrev pub micro : Float
micro = of_bits binary64 0x3eb0_c6f7_a0b5_ed8d

abbrev pub nano : Float
nano = of_bits binary64 0x3e11_2e0b_e826_d695

abbrev pub pico : Float
pico = of_bits binary64 0x3d71_9799_812d_ea11

pub parts_are : (half ≡ decimal 1 2) × (kilo ≡ decimal 1000 1) × (milli ≡ decimal 1 1000) × (micro ≡ decimal 1 (10 ^ 6)) × (nano ≡ decimal 1 (10 ^ 9)) × (pico ≡ decimal 1 (10 ^ 12))
unfolding of_bits round
parts_are = (refl, refl, refl, refl, refl, refl)

-- the whole numbers
pub whole_are : (nought ≡ decimal 0 1) × (one ≡ decimal 1 1) × (two ≡ decimal 2 1) × (k180 ≡ decimal 180 1) × (k700 ≡ decimal 700 1) × (k1024 ≡ decimal 1024 1)
unfolding of_bits round
whole_are = (refl, refl, refl, refl, refl, refl)

-- PI
abbrev pub pi : Float
pi = of_bits binary64 0x4009_21fb_5444_2d18

-- 36 digits of PI, of which 17 would settle the double
pub pi_is : pi ≡ decimal 314159265358979323846264338327950288 (10 ^ 35)
unfolding of_bits round
pi_is = refl

-- PI / 180, the rounded quotient
abbrev pub degree : Float
degree = div binary64 pi k180

pub degree_is : degree ≡ of_bits binary64 0x3f91_df46_a252_9d39
unfolding of_bits div
degree_is = refl

-- w = 2 * PI
abbrev pub turn : Float
turn = of_bits binary64 0x4019_21fb_5444_2d18

pub turn_is : turn ≡ mul binary64 two pi
unfolding of_bits mul
turn_is = refl
