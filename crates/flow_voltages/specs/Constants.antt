-- The constants of 000's flow. Each is written by its bits, as a literal of the code is, and the law at the end says of which decimal it is the nearest double.
use Rattle.std.specs.Prelude.{◌≡◌, refl, ℕ, ◌^◌, Float}
use Rattle.std.specs.Float.{binary64}
use Rattle.std.specs.Float.Ieee.{of_bits, round}
use Rattle.float64.specs.Constants.{decimal}

-- the part of its rated power that a station takes
abbrev pub loading : Float
loading = of_bits binary64 0x3fe9_9999_9999_999a

-- the mismatch below which the passes stop
abbrev pub tolerance : Float
tolerance = of_bits binary64 0x3eb0_c6f7_a0b5_ed8d

-- at most 50 passes
abbrev pub most_passes : ℕ
most_passes = 50

pub constants_are
    : (loading ≡ decimal 8 10)
    × (tolerance ≡ decimal 1 (10 ^ 6))
unfolding of_bits round
constants_are = (refl, refl)
