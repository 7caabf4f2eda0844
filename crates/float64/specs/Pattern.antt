-- The bits of a double, with one pattern for NaN, and a double from bits. Definitions only.
use Rattle.std.specs.Prelude.{cond, ℕ, Float}
use Rattle.std.specs.Float.{binary64}
use Rattle.std.specs.Float.Ieee.{is_nan, of_bits, to_bits}

-- of every NaN 9221120237041090560, of any other double IEEE 754's pattern
unfoldable pub bits_of : Float → ℕ
bits_of x = cond (is_nan x) 9221120237041090560 (to_bits binary64 x)

-- any NaN pattern gives NaN
abbrev pub double_of : ℕ → Float
double_of bits = of_bits binary64 bits
