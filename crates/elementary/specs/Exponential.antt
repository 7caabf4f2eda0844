-- E of document 01, which stands for `exp`. Definitions only.
use Rattle.std.specs.Prelude.{cond, ℕ, zero, suc, pos, Float}
use Rattle.std.specs.Float.{binary64}
use Rattle.std.specs.Float.Ieee.{lt, neg, of_int, add, mul, div}
use Rattle.float64.specs.Constants.{nought, one, k700, k1024}

-- 1 + (y·p)/k
abbrev pub term : ℕ → Float → Float → Float
term k y p = add binary64 one (div binary64 (mul binary64 y p) (of_int binary64 (pos k)))

-- for k = n down to 1 p becomes 1 + (y·p)/k
unfoldable pub terms : ℕ → Float → Float → Float
terms zero y p = p
terms (suc k) y p = terms k y (term (suc k) y p)

-- p is squared n times
unfoldable pub squared : ℕ → Float → Float
squared zero p = p
squared (suc n) p = squared n (mul binary64 p p)

-- E(t): 0 if t < -700; else y = t/1,024, p = 1, for k = 18 down to 1 p becomes 1 + (y·p)/k, then p is squared ten times
unfoldable pub E : Float → Float
E t = cond (lt t (neg k700)) nought (let y = div binary64 t k1024 in squared 10 (terms 18 y one))
