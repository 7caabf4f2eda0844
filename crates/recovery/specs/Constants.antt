-- The constant of the loop in 000's `simulate_fault`, written by its bits, as a literal of the code is; the law says of which decimal it is the nearest double.
use Rattle.std.specs.Prelude.{◌≡◌, refl, Float}
use Rattle.std.specs.Float.{binary64}
use Rattle.std.specs.Float.Ieee.{of_bits, round}
use Rattle.float64.specs.Constants.{decimal}

-- of the rated voltage: from here on a voltage has recovered
abbrev pub recovered_part : Float
recovered_part = of_bits binary64 0x3fec_cccc_cccc_cccd

pub recovered_part_is : recovered_part ≡ decimal 9 10
unfolding of_bits round
recovered_part_is = refl
