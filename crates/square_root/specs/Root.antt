-- The square root of document 01: IEEE 754, the nearest double, ties to even, of a number 0 or more, "nearest" meaning exact squares compared as whole numbers.
-- `IsRoot` says what it is to be the root, and is what to read. `root_of` computes it, for contracts to compose. That they are one is `RootClaims` of Claims.
use Rattle.std.specs.Prelude.{◌≡◌, true, false, cond, ℕ, zero, suc, ◌+◌, ◌-◌, ◌*◌, ◌/◌, ◌%◌, ◌^◌, ◌≤◌, ◌<◌, T, leb, ltb, Float}
use Rattle.std.specs.Float.{nan, inf, fin, binary64}
use Rattle.std.specs.Float.Ieee.{fits, up, down, size, of_bits, to_bits}
use Rattle.std.specs.Float.Ieee.Exact.{HasValue}

-- ---- what the root is

-- x is a units. A unit is 2 ^ -1074, and each finite double from 0 up is a whole number of them.
abbrev pub Units : Float → ℕ → Type 0
Units x a = HasValue x false a (2 ^ 1074)

-- The root of a units is √n units with n = a * 2 ^ 1074.
abbrev pub radicand : ℕ → ℕ
radicand a = a * 2 ^ 1074

-- b is as near to √n as c is, or nearer: √n does not lie beyond the middle, (b + c) / 2, on c's side. Doubled and squared.
abbrev pub AsNear : (n b c : ℕ) → Type 0
AsNear n b c = (b < c → 4 * n ≤ (b + c) * (b + c)) × (c < b → (b + c) * (b + c) ≤ 4 * n)

-- y is the double nearest to the root of x: no double z from 0 up is nearer. Where another is as near, √n is the middle, and y is the even one: its last digit is 0.
pub record NearestRoot (x y : Float) : Type 0 where
  pub a : ℕ
  pub b : ℕ
  pub x_is : Units x a
  pub y_is : Units y b
  pub double : T (fits binary64 y)
  pub nearest : (z : Float) (c : ℕ) → T (fits binary64 z) → Units z c → AsNear (radicand a) b c
  pub even : (z : Float) (c : ℕ) → T (fits binary64 z) → Units z c → (c ≡ b → ⊥) → (b + c) * (b + c) ≡ 4 * radicand a → to_bits binary64 y % 2 ≡ 0

-- y is the square root of x: NaN of a NaN and of what is negative, zeros of both signs and infinity themselves, and of what is above 0 the nearest double
unfoldable pub IsRoot : Float → Float → Type 0
IsRoot nan y = y ≡ nan
IsRoot (inf true) y = y ≡ nan
IsRoot (inf false) y = y ≡ inf false
IsRoot (fin s zero e) y = y ≡ fin s zero e
IsRoot (fin true (suc m) e) y = y ≡ nan
IsRoot (fin false (suc m) e) y = NearestRoot (fin false (suc m) e) y

-- ---- the root, computed

-- √n cut to a whole number, for n below 4 ^ k
unfoldable pub floor_root : ℕ → ℕ → ℕ
floor_root zero n = 0
floor_root (suc k) n = let r = 2 * floor_root k (n / 4) in cond (leb ((r + 1) * (r + 1)) n) (r + 1) r

-- the whole number nearest to √(n / p)
unfoldable pub nearest_root : ℕ → ℕ → ℕ
nearest_root n p = let r = floor_root 53 (n / p) in cond (ltb ((2 * r + 1) * (2 * r + 1) * p) (4 * n)) (r + 1) r

-- the place of the root's last digit: √n has 53 digits before it
abbrev pub last_place : ℕ → ℕ
last_place n = (size n - 105) / 2

-- the double of nearest_root n (4 ^ j) * 2 ^ j units at j = last_place n, by its bits
abbrev pub root_at : ℕ → Float
root_at n = of_bits binary64 (last_place n * 2 ^ 52 + nearest_root n (2 ^ (2 * last_place n)))

unfoldable pub root_of : Float → Float
root_of nan = nan
root_of (inf true) = nan
root_of (inf false) = inf false
root_of (fin s zero e) = fin s zero e
root_of (fin true (suc m) e) = nan
root_of (fin false (suc m) e) = root_at (radicand (suc m * up e * 2 ^ 1074 / down e))
