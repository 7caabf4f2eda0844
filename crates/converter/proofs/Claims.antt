-- The claims of specs/Claims. Assumes nothing.
use Rattle.std.proofs.Common.{◌≡◌, true}
use lib.Ieee.Bits.{is_true}
use lib.Ieee.{Float, is_nan, le, of_bits}
use Rattle.float64.specs.Choice.{max_of}
use Rattle.float64.proofs.Interval.{max_at_least}
use Rattle.converter.specs.Constants.{least}
use Rattle.converter.specs.Vsc.{vsc_point}
use Rattle.converter.specs.Claims.{VoltageClaims}

at_least : (v : Float) → le least (max_of v least) ≡ true
unfolding is_nan of_bits
at_least v = is_true (le least (max_of v least)) (max_at_least v least tt)

pub voltage_claims : VoltageClaims
unfolding vsc_point
voltage_claims = record { vsc_voltage_lem = λ s p v. at_least v }
