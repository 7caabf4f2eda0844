-- What a test on doubles says. Assumes nothing.
use mathlib.Core.Path.{◌≡◌, refl, sym, ap, ◌∙◌, subst}
use mathlib.Core.Bool.{Bool, true, false, not, ◌&&◌, ◌||◌, beq}
use Prim.Native.Nat.{◌*◌}
use lib.Dec.{T, eqb, eqb_refl}
use lib.Ieee.{Float, nan, inf, fin, up, down, is_nan, lt, eq, ne}
use lib.Ieee.Fits.{and_i}
use lib.Ieee.Bits.{is_true}

beq_refl : (s : Bool) → beq s s ≡ true
beq_refl true = refl
beq_refl false = refl

-- a NaN alone differs from itself
pub ne_self : (x : Float) → ne x x ≡ is_nan x
unfolding ne eq is_nan
ne_self nan = refl
ne_self (inf s) = ap not (beq_refl s)
ne_self (fin s m e) =
    let n = m * up e * down e in
    ap not (is_true (eqb n n && (beq s s || eqb n 0)) (and_i (eqb n n) (beq s s || eqb n 0) (eqb_refl n) (subst (λ (b : Bool). T (b || eqb n 0)) (sym (beq_refl s)) tt)))

pub no_nan : (x : Float) → ne x x ≡ false → T (not (is_nan x))
no_nan x h = subst (λ (b : Bool). T (not b)) (sym (sym (ne_self x) ∙ h)) tt

-- nothing is below or above a NaN
pub lt-nan : (x y : Float) → T (is_nan y) → lt x y ≡ false
unfolding lt is_nan
lt-nan nan y h = refl
lt-nan (inf s) nan h = refl
lt-nan (inf s) (inf t) h = absurd h
lt-nan (inf s) (fin t n d) h = absurd h
lt-nan (fin s m e) nan h = refl
lt-nan (fin s m e) (inf t) h = absurd h
lt-nan (fin s m e) (fin t n d) h = absurd h

pub nan-lt : (x y : Float) → T (is_nan x) → lt x y ≡ false
unfolding lt is_nan
nan-lt nan y h = refl
nan-lt (inf s) y h = absurd h
nan-lt (fin s m e) y h = absurd h
