-- The constants of a pass of 000's flow. Each is written by its bits, as a literal of the code is, and the law at the end says of which decimal it is the nearest double.
use Rattle.std.specs.Prelude.{◌≡◌, refl, ◌^◌, Float}
use Rattle.std.specs.Float.{binary64}
use Rattle.std.specs.Float.Ieee.{of_bits, round}
use Rattle.float64.specs.Constants.{decimal}

-- the divisor up to which nothing moves
abbrev pub idle_divisor : Float
idle_divisor = of_bits binary64 0x3d71_9799_812d_ea11

-- clamped to 0.5 to 1.5 of rated
abbrev pub low_part : Float
low_part = of_bits binary64 0x3fe0_0000_0000_0000

abbrev pub high_part : Float
high_part = of_bits binary64 0x3ff8_0000_0000_0000

pub constants_are
    : (idle_divisor ≡ decimal 1 (10 ^ 12))
    × (low_part ≡ decimal 5 10)
    × (high_part ≡ decimal 15 10)
unfolding of_bits round
constants_are = (refl, refl, refl)
