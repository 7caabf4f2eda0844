-- `max`, `min`, `abs` and `clamp` of document 01's float rules. Definitions only.
use Rattle.std.specs.Prelude.{false, cond, Float}
use Rattle.std.specs.Float.{nan, inf, fin}
use Rattle.std.specs.Float.Ieee.{is_nan, lt}

-- `max`: if one is NaN, the other; on a tie the first operand
unfoldable pub max_of : Float → Float → Float
max_of a b = cond (is_nan a) b (cond (is_nan b) a (cond (lt a b) b a))

-- `min`: if one is NaN, the other; on a tie the first operand
unfoldable pub min_of : Float → Float → Float
min_of a b = cond (is_nan a) b (cond (is_nan b) a (cond (lt b a) b a))

-- `abs`: the sign cleared, of a zero and of an infinity too
unfoldable pub abs_of : Float → Float
abs_of nan = nan
abs_of (inf s) = inf false
abs_of (fin s m e) = fin false m e

-- `clamp` leaves a NaN. What is below low is raised to it, and what is then above high is cut to that.
unfoldable pub clamp_of : Float → Float → Float → Float
clamp_of x low high =
    cond (is_nan x) nan
    (let y = cond (lt x low) low x in
    cond (lt high y) high y)
