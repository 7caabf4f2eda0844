-- The constants of 000's detection. Each is written by its bits, as a literal of the code is, and the law at the end says of which decimal it is the nearest double.
use Rattle.std.specs.Prelude.{◌≡◌, refl, ◌^◌, Float}
use Rattle.std.specs.Float.{binary64}
use Rattle.std.specs.Float.Ieee.{of_bits, round}
use Rattle.float64.specs.Constants.{decimal}

-- the least time between two states, in milliseconds
abbrev pub least_time : Float
least_time = of_bits binary64 0x3e11_2e0b_e826_d695

-- in kiloamperes to a millisecond
abbrev pub fastest : Float
fastest = of_bits binary64 0x4024_0000_0000_0000

-- of the rated voltage
abbrev pub lowest : Float
lowest = of_bits binary64 0x3fe9_9999_9999_999a

pub constants_are : (least_time ≡ decimal 1 (10 ^ 9)) × (fastest ≡ decimal 10 1) × (lowest ≡ decimal 8 10)
unfolding of_bits round
constants_are = (refl, refl, refl)
