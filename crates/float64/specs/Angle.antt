-- `to_radians` multiplies by the rounded quotient PI/180. Definitions only.
use Rattle.std.specs.Prelude.{Float}
use Rattle.std.specs.Float.{binary64}
use Rattle.std.specs.Float.Ieee.{mul}
use Rattle.float64.specs.Constants.{degree}

abbrev pub radians_of : Float → Float
radians_of degrees = mul binary64 degrees degree
