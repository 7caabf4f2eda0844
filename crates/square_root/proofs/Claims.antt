-- The claims of specs/Claims.antt, proved. Assumes nothing.
use mathlib.Core.Path.{◌≡◌, refl, ap, ◌∙◌, subst}
use mathlib.Core.Logic.{◌⊎◌, inl, inr}
use mathlib.Core.Bool.{Bool, true, false}
use Prim.Native.Nat.{zero, suc, ◌*◌, ◌<◌}
use native.Mathlib.Nat.{mul-pos, zero-lt-suc}
use native.Mathlib.Omega.{arith}
use lib.IntN.{ℤ, pos}
use lib.Dec.{T, eqb, eqb→eq, lit<}
use lib.Ieee.{Float, nan, inf, fin, binary64, up, down, fits, eq, le, mul, of_bits, size}
use lib.Ieee.Fits.{up_pos, and_l}
use lib.Ieee.Positive.{positive, above_of_le}
use lib.Ieee.Scale.{finite}
use Rattle.float64.specs.Constants.{nought, two}
use Rattle.float64.specs.Choice.{abs_of}
use Rattle.square_root.specs.Constants.{sqrt2}
use Rattle.square_root.specs.Root.{root_of, floor_root, nearest_root}
use Rattle.square_root.specs.Claims.{least_squarable, RootClaims}
use Rattle.square_root.proofs.RootNearest.{root_is, no_tie}
use Rattle.square_root.proofs.RootOnly.{root_only}
use Rattle.square_root.proofs.RootOfSquare.{root_same, above_finite}
use Rattle.float64.proofs.SameValue.{same_value}

two_root : root_of two ≡ sqrt2
unfolding root_of floor_root nearest_root of_bits size
two_root = refl

-- ---- the root of a square
zero_square : (s : Bool) → root_of (mul binary64 (fin s 0 (pos 0)) (fin s 0 (pos 0))) ≡ abs_of (fin s 0 (pos 0))
unfolding root_of mul abs_of
zero_square true = refl
zero_square false = refl

-- a zero is written in one way
zero_is : (s : Bool) (e : ℤ) → T (fits binary64 (fin s 0 e)) → fin s 0 (pos 0) ≡ fin s 0 e
unfolding fits
zero_is s e F = same_value binary64 (fin s 0 (pos 0)) (fin s 0 e) s 0 1 (lit< tt) tt F (refl, omega arith) (refl, omega arith)

of_zero_square : (x : Float) → T (fits binary64 x) → T (eq x nought) → root_of (mul binary64 x x) ≡ abs_of x
unfolding eq of_bits
of_zero_square nan F h = absurd h
of_zero_square (inf true) F h = absurd h
of_zero_square (inf false) F h = absurd h
of_zero_square (fin s zero e) F h = subst (λ (z : Float). root_of (mul binary64 z z) ≡ abs_of z) (zero_is s e F) (zero_square s)
of_zero_square (fin s (suc m) e) F h = absurd (absent (mul-pos (zero-lt-suc m) (up_pos e)) (eqb→eq (suc m * up e * 1) (0 * down e) (and_l (eqb (suc m * up e * 1) (0 * down e)) _ h)))
  where
    absent : 0 < suc m * up e → suc m * up e * 1 ≡ 0 * down e → ⊥
    absent p k = omega arith

number : (x : Float) → T (le least_squarable x) → T (finite (mul binary64 x x)) → T (positive x)
unfolding le mul
number nan h F = absurd h
number (inf true) h F = absurd h
number (inf false) h F = absurd F
number (fin s m e) h F = above_finite (fin s m e) (above_of_le least_squarable (fin s m e) tt h) tt

abs_fits : (x : Float) → T (fits binary64 x) → T (fits binary64 (abs_of x))
unfolding fits abs_of
abs_fits nan F = tt
abs_fits (inf s) F = tt
abs_fits (fin s zero e) F = F
abs_fits (fin s (suc m) e) F = F

-- the signs of a square cancel
square_abs : (x : Float) → mul binary64 x x ≡ mul binary64 (abs_of x) (abs_of x)
unfolding mul abs_of
square_abs nan = refl
square_abs (inf true) = refl
square_abs (inf false) = refl
square_abs (fin true m e) = refl
square_abs (fin false m e) = refl

of_square : (x : Float) → T (fits binary64 x) → T (eq x nought) ⊎ T (le least_squarable (abs_of x)) → T (finite (mul binary64 x x)) → root_of (mul binary64 x x) ≡ abs_of x
of_square x f (inl e) F = of_zero_square x f e
of_square x f (inr h) F =
    let G : T (finite (mul binary64 (abs_of x) (abs_of x))) = subst (λ (z : Float). T (finite z)) (square_abs x) F in
    ap root_of (square_abs x) ∙ root_same (abs_of x) (abs_fits x f) (number (abs_of x) h G) h G

pub root_claims : RootClaims
root_claims = record { nearest = root_is; only = root_only; no_tie = no_tie; of_square = of_square; of_two = two_root }
