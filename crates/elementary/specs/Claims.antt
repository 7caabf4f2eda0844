-- What document 01 says of E in words, and what a reader expects of S and C beside their definitions. The proofs are in proofs/Claims.antt.
use Rattle.std.specs.Prelude.{◌≡◌, ◌⊎◌, T, Float}
use Rattle.std.specs.Float.{nan}
use Rattle.std.specs.Float.Ieee.{le}
use Rattle.float64.specs.Constants.{nought, one, minus_one}
use Rattle.elementary.specs.Exponential.{E}
use Rattle.elementary.specs.Wave.{S, C}

-- "For accepted input t is never positive, and 0 ≤ E ≤ 1"
pub record ExponentialClaims : Type 0 where
  pub between : (t : Float) → T (le t nought) → T (le nought (E t)) × T (le (E t) one)

-- x lies between -1 and 1, or is NaN
abbrev pub InUnit : Float → Type 0
InUnit x = (x ≡ nan) ⊎ (T (le minus_one x) × T (le x one))

pub record WaveClaims : Type 0 where
  pub sine : (t : Float) → InUnit (S t)
  pub cosine : (t : Float) → InUnit (C t)
