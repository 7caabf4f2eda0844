-- Worked examples of the definition: it is believed, so a wrong clause need break no other proof.
-- The answers were computed in Python's doubles, by its library.
use mathlib.Core.Path.{◌≡◌, refl}
use mathlib.Core.Bool.{true, false}
use Prim.Native.Nat.{ℕ}
use lib.Ieee.{Float, nan, inf, binary64, neg, of_bits, size, mul}
use Rattle.float64.specs.Constants.{nought, minus_one}
use Rattle.square_root.specs.Root.{floor_root, nearest_root, root_of}

abbrev double : ℕ → Float
double n = of_bits binary64 n

abbrev minus_nought : Float
minus_nought = neg nought

-- 2, 3, 1/4, the smallest and the largest double, 1 - 2 ^ -53 and a subnormal
root_are : (root_of (double 0x4000000000000000) ≡ double 0x3ff6a09e667f3bcd) × (root_of (double 0x4008000000000000) ≡ double 0x3ffbb67ae8584caa) × (root_of (double 0x3fd0000000000000) ≡ double 0x3fe0000000000000) × (root_of (double 0x0000000000000001) ≡ double 0x1e60000000000000) × (root_of (double 0x7fefffffffffffff) ≡ double 0x5fefffffffffffff) × (root_of (double 0x3fefffffffffffff) ≡ double 0x3fefffffffffffff) × (root_of (double 0x00001b9cd1295941) ≡ double 0x1fc504e1663053e5)
unfolding root_of floor_root nearest_root of_bits size
root_are = (refl, refl, refl, refl, refl, refl, refl)

root_of_others : (root_of nan ≡ nan) × (root_of minus_nought ≡ minus_nought) × (root_of minus_one ≡ nan) × (root_of (inf true) ≡ nan) × (root_of (inf false) ≡ inf false)
unfolding root_of of_bits neg
root_of_others = (refl, refl, refl, refl, refl)

-- `of_square` has its limit: just below 2 ^ -511 the root of a square can be the next double
square_below : root_of (mul binary64 (double 0x1ffffffffa57d866) (double 0x1ffffffffa57d866)) ≡ double 0x1ffffffffa57d867
unfolding root_of floor_root nearest_root of_bits size mul
square_below = refl
