-- "The value is the nearest double": distances compared as whole numbers.
use Rattle.std.specs.Prelude.{ℕ, ◌+◌, ◌-◌, ◌*◌, ◌^◌, ◌≤◌, false, T, Float}
use Rattle.std.specs.Float.{binary64}
use Rattle.std.specs.Float.Ieee.{fits}
use Rattle.std.specs.Float.Ieee.Exact.{HasValue}

-- x is b units. A unit is 2 ^ -1074, and each finite double from 0 up is a whole number of them.
abbrev pub Units : Float → ℕ → Type 0
Units x b = HasValue x false b (2 ^ 1074)

-- how far b units lie from a / c, times c and in units
abbrev pub distance : (a c b : ℕ) → ℕ
distance a c b = (b * c - a * 2 ^ 1074) + (a * 2 ^ 1074 - b * c)

-- y is a double, and none is nearer to a / c. Those below 0 need no word: 0 is nearer than they are.
pub record NearestDouble (a c : ℕ) (y : Float) : Type 0 where
  pub b : ℕ
  pub double : T (fits binary64 y)
  pub is : Units y b
  pub nearest : (z : Float) (k : ℕ) → T (fits binary64 z) → Units z k → distance a c b ≤ distance a c k
