-- What the functions that work out the size of a double promise to the one that prints it. No caller needs it.
use Rattle.std.specs.Prelude.{ℕ, zero, suc, ◌+◌, ◌*◌, ◌^◌, cond, leb}
use Rattle.std.specs.Float.Ieee.Nearest.{closest}

-- the units of 2 ^ -1074 of a pattern with the exponent's field E and the digits t
abbrev pub units_of : ℕ → ℕ → ℕ
units_of zero t = t
units_of (suc E) t = (2 ^ 52 + t) * 2 ^ E

-- in millionths; from 2 ^ 44 on a number that no column holds
unfoldable pub size_at : ℕ → ℕ → ℕ
size_at E t = cond (leb 1067 E) (10 ^ 19) (closest (units_of E t * 10 ^ 6) (2 ^ 1074))
