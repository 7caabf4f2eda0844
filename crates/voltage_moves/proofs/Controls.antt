-- Worked examples of the definitions: they are believed, so a wrong clause need break no other proof. The answers are the published Rust's.
use mathlib.Core.Path.{◌≡◌, refl}
use lib.Ieee.{of_bits, of_int, round, neg, add, sub, mul, div, lt, eq, is_nan}
use Rattle.float64.specs.Constants.{nought, decimal}
use Rattle.float64.specs.Choice.{abs_of, clamp_of}
use Rattle.voltage_moves.specs.Constants.{idle_divisor}
use Rattle.voltage_moves.specs.Moves.{moved, clamped}

-- a divisor of zero moves nothing, nor does one of 1e-12; a voltage is held to 0.5 and 1.5 of the rated 100 kV
moves-are
    : (moved (decimal 3 1) (decimal 4 1) (neg (decimal 2 1)) ≡ decimal 1 1)
    × (moved (decimal 3 1) (decimal 4 1) nought ≡ decimal 3 1)
    × (moved (decimal 3 1) (decimal 4 1) idle_divisor ≡ decimal 3 1)
    × (clamped (decimal 100 1) (decimal 49 1) ≡ decimal 50 1)
    × (clamped (decimal 100 1) (decimal 151 1) ≡ decimal 150 1)
    × (clamped (decimal 100 1) (decimal 51 1) ≡ decimal 51 1)
unfolding moved abs_of clamp_of is_nan lt eq of_bits of_int round neg add sub mul div
moves-are = (refl, refl, refl, refl, refl, refl)
