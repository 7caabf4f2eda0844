-- SQRT_2 of document 01's float rules, written by its bits, as a literal of the code is. The law beside it says of which decimal it is the nearest double.
use Rattle.std.specs.Prelude.{◌≡◌, refl, ◌^◌, Float}
use Rattle.std.specs.Float.{binary64}
use Rattle.std.specs.Float.Ieee.{of_bits, round}
use Rattle.float64.specs.Constants.{decimal}

-- SQRT_2. That it is the nearest double to the root of 2 is `of_two` of Claims.
abbrev pub sqrt2 : Float
sqrt2 = of_bits binary64 0x3ff6_a09e_667f_3bcd

pub sqrt2_is : sqrt2 ≡ decimal 141421356237309504880168872420969807 (10 ^ 35)
unfolding of_bits round
sqrt2_is = refl
