-- S and C lie between -1 and 1, or are NaN: what is clamped is. Assumes nothing.
use mathlib.Core.Path.{◌≡◌, refl}
use mathlib.Core.Logic.{◌⊎◌, inl, inr}
use mathlib.Core.Bool.{Bool, true, false, not, cond}
use lib.Dec.{T}
use lib.Ieee.{Float, nan, inf, fin, is_nan, lt, le, neg, of_bits}
use Rattle.float64.specs.Constants.{one, minus_one}
use Rattle.float64.specs.Choice.{clamp_of}
use Rattle.elementary.specs.Wave.{S, C}
use Rattle.elementary.specs.Claims.{InUnit}
use Rattle.float64.proofs.Order.{le-refl_float, le_of_not_lt}

-- what is raised to low or more, and then cut to high
raised : (x low : Float) → T (not (is_nan x)) → T (not (is_nan low)) → T (le low (cond (lt x low) low x)) × T (not (is_nan (cond (lt x low) low x)))
raised x low p q = by (lt x low) (le_of_not_lt x low p q)
  where
    by : (b : Bool) → (b ≡ false → T (le low x)) → T (le low (cond b low x)) × T (not (is_nan (cond b low x)))
    by true f = (le-refl_float low q, q)
    by false f = (f refl, p)

cut : (y low high : Float) → T (le low y) → T (le low high) → T (not (is_nan y)) → T (not (is_nan high)) → T (le low (cond (lt high y) high y)) × T (le (cond (lt high y) high y) high)
cut y low high h k p q = by (lt high y) (le_of_not_lt high y q p)
  where
    by : (b : Bool) → (b ≡ false → T (le y high)) → T (le low (cond b high y)) × T (le (cond b high y) high)
    by true f = (k, le-refl_float high q)
    by false f = (h, f refl)

within : (x low high : Float) → T (not (is_nan x)) → T (not (is_nan low)) → T (not (is_nan high)) → T (le low high)
    → (let y = cond (lt x low) low x in T (le low (cond (lt high y) high y)) × T (le (cond (lt high y) high y) high))
within x low high p q r h = let y = raised x low p q in cut (cond (lt x low) low x) low high y.0 h y.1 r

pub clamp_within : (x low high : Float) → T (not (is_nan low)) → T (not (is_nan high)) → T (le low high) → (clamp_of x low high ≡ nan) ⊎ (T (le low (clamp_of x low high)) × T (le (clamp_of x low high) high))
unfolding clamp_of is_nan
clamp_within nan low high q r h = inl refl
clamp_within (inf s) low high q r h = inr (within (inf s) low high tt q r h)
clamp_within (fin s m e) low high q r h = inr (within (fin s m e) low high tt q r h)

unit_within : (x : Float) → InUnit (clamp_of x minus_one one)
unfolding of_bits neg is_nan le
unit_within x = clamp_within x minus_one one tt tt tt

pub sine_within : (t : Float) → InUnit (S t)
unfolding S
sine_within t = unit_within _

pub cosine_within : (t : Float) → InUnit (C t)
unfolding C
cosine_within t = unit_within _
