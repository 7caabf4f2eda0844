-- What a reader expects of the float functions beside their definitions. The proofs are in proofs/Claims.antt.
use Rattle.std.specs.Prelude.{◌≡◌, Bool, not, ℕ, ◌*◌, ◌/◌, ◌^◌, ◌<◌, T, ℤ, Float}
use Rattle.std.specs.Float.{fin, binary64}
use Rattle.std.specs.Float.Ieee.{up, down, fits, is_nan}
use Rattle.std.specs.Float.Ieee.Exact.{HasValue}
use Rattle.float64.specs.Whole.{whole_part}
use Rattle.float64.specs.Pattern.{bits_of, double_of}

pub record WholeClaims : Type 0 where
  -- the whole part is a double, so that nothing is rounded
  pub whole : (s : Bool) (m : ℕ) (e : ℤ) → T (fits binary64 (fin s m e)) → HasValue (whole_part (fin s m e)) s (m * up e / down e) 1

pub record PatternClaims : Type 0 where
  -- a double is back from its bits, and a pattern that is no NaN's from its double
  pub back : (x : Float) → T (fits binary64 x) → double_of (bits_of x) ≡ x
  pub forth : (bits : ℕ) → bits < 2 ^ 64 → T (not (is_nan (double_of bits))) → bits_of (double_of bits) ≡ bits
