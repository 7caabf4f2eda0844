-- S and C of document 01, which stand for `sin` and `cos`. Definitions only.
use Rattle.std.specs.Prelude.{cond, ℕ, zero, suc, ◌+◌, ◌-◌, ◌*◌, pos, Float}
use Rattle.std.specs.Float.{binary64}
use Rattle.std.specs.Float.Ieee.{lt, of_int, sub, mul, div}
use Rattle.float64.specs.Constants.{one, minus_one, pi, turn}
use Rattle.float64.specs.Choice.{clamp_of}
use Rattle.float64.specs.Whole.{whole_part}

-- w = 2·PI, n the whole part of t/w, r = t - n·w, less w if r > PI
unfoldable pub reduced_angle : Float → Float
reduced_angle t =
    let n = whole_part (div binary64 t turn) in
    let r = sub binary64 t (mul binary64 n turn) in
    cond (lt pi r) (sub binary64 r turn) r

-- 1 - (x·q)/d
abbrev pub term : ℕ → Float → Float → Float
term d x q = sub binary64 one (div binary64 (mul binary64 x q) (of_int binary64 (pos d)))

-- for k = n down to 1 q becomes 1 - (x·q)/d(k)
unfoldable pub series : (ℕ → ℕ) → ℕ → Float → Float → Float
series d zero x q = q
series d (suc k) x q = series d k x (term (d (suc k)) x q)

abbrev pub sine_divisor : ℕ → ℕ
sine_divisor k = 2 * k * (2 * k + 1)

abbrev pub cosine_divisor : ℕ → ℕ
cosine_divisor k = (2 * k - 1) * (2 * k)

-- both in one: (2k + odd)(2k + odd - 1), the sine's at odd = 1 and the cosine's at odd = 0
abbrev pub divisor : ℕ → ℕ → ℕ
divisor odd k = (2 * k + odd) * (2 * k + odd - 1)

abbrev pub to_unit : Float → Float
to_unit x = clamp_of x minus_one one

-- S(t): q = 1, for k = 13 down to 1 q becomes 1 - ((r·r)·q)/(2k(2k+1)); r·q clamped to -1..1
unfoldable pub S : Float → Float
S t = let r = reduced_angle t in to_unit (mul binary64 r (series sine_divisor 13 (mul binary64 r r) one))

-- C(t): as S on t without reduction, divisors (2k-1)(2k), answer q clamped to -1..1
unfoldable pub C : Float → Float
C t = to_unit (series cosine_divisor 13 (mul binary64 t t) one)
