-- The whole part of a double, which S takes and steps are counted by. Definitions only.
use Rattle.std.specs.Prelude.{◌*◌, ◌/◌, Float}
use Rattle.std.specs.Float.{nan, inf, fin, binary64}
use Rattle.std.specs.Float.Ieee.{up, down, round}

-- the whole part: the fraction dropped, the sign kept. m * up e / down e is the size m * 2 ^ e cut to a whole number.
unfoldable pub whole_part : Float → Float
whole_part nan = nan
whole_part (inf s) = inf s
whole_part (fin s m e) = round binary64 s (m * up e / down e) 1
