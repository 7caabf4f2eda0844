-- The constant of the loop in 000's `simulate_switching`, written by its bits, as a literal of the code is; the law says of which decimal it is the nearest double.
use Rattle.std.specs.Prelude.{◌≡◌, refl, Float}
use Rattle.std.specs.Float.{binary64}
use Rattle.std.specs.Float.Ieee.{of_bits, round}
use Rattle.float64.specs.Constants.{decimal}

-- of the duration: when a breaker is operated
abbrev pub switching_part : Float
switching_part = of_bits binary64 0x3fb9_9999_9999_999a

pub switching_part_is : switching_part ≡ decimal 1 10
unfolding of_bits round
switching_part_is = refl
