-- What document 01 says of its square root in words, and what a reader expects beside the definition. The proofs are in proofs/Claims.antt.
use Rattle.std.specs.Prelude.{◌≡◌, ◌⊎◌, false, ℕ, ◌+◌, ◌*◌, ◌<◌, T, negsuc, Float}
use Rattle.std.specs.Float.{fin, binary64}
use Rattle.std.specs.Float.Ieee.{fits, eq, le, mul}
use Rattle.std.specs.Float.Ieee.Scale.{finite}
use Rattle.float64.specs.Constants.{nought, two}
use Rattle.float64.specs.Choice.{abs_of}
use Rattle.square_root.specs.Constants.{sqrt2}
use Rattle.square_root.specs.Root.{Units, radicand, IsRoot, root_of}

-- 2 ^ -511: from here up a square does not underflow
abbrev pub least_squarable : Float
least_squarable = fin false 1 (negsuc 510)

-- no double lies between b and c units
abbrev pub NoneBetween : (b c : ℕ) → Type 0
NoneBetween b c = (w : Float) (d : ℕ) → T (fits binary64 w) → Units w d → b < d → d < c → ⊥

pub record RootClaims : Type 0 where
  -- `root_of` is the nearest double
  pub nearest : (x : Float) → T (fits binary64 x) → IsRoot x (root_of x)
  -- and no other double is: "the nearest" leaves no choice
  pub only : (x y : Float) → T (fits binary64 x) → IsRoot x y → y ≡ root_of x
  -- "ties to even" never decides: the root of a double of a units is not half way between two neighbouring doubles, of b and c units
  pub no_tie : (x y z : Float) (a b c : ℕ) → T (fits binary64 x) → Units x a → T (fits binary64 y) → Units y b → T (fits binary64 z) → Units z c → b < c → NoneBetween b c → (b + c) * (b + c) ≡ 4 * radicand a → ⊥
  -- the root of a rounded square is the number again, its sign cleared, where the square neither overflows nor underflows
  pub of_square : (x : Float) → T (fits binary64 x) → T (eq x nought) ⊎ T (le least_squarable (abs_of x)) → T (finite (mul binary64 x x)) → root_of (mul binary64 x x) ≡ abs_of x
  -- SQRT_2 is the nearest double
  pub of_two : root_of two ≡ sqrt2
