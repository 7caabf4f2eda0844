-- Doubles from 0 up, infinity among them, times and over what is above 0. Assumes nothing.
use Prim.Native.Nat.{ℕ, zero, suc, ◌*◌}
use native.Mathlib.Nat.{mul-pos, le-mul_of_pos_right}
use native.Mathlib.Omega.{arith}
use mathlib.Core.Path.{refl}
use mathlib.Core.Logic.{inl}
use mathlib.Core.Bool.{true, false}
use lib.Dec.{T, eqb-suc-zero}
use lib.IntN.{ℤ}
use lib.Ieee.{Float, nan, inf, fin, binary64, up, down, of_bits, of_int, round, neg, mul, div, lt, le, eq}
use lib.Ieee.Fits.{down_pos}
use lib.Ieee.Order.{round_mono}
use lib.Ieee.Positive.{positive}
use Rattle.float64.specs.Constants.{nought}
use Rattle.float64.specs.Arithmetic.{◌⊗◌, ◌⊘◌}
use Rattle.float64.proofs.Order.{of_LE}
use Rattle.float64.proofs.Range.{UpTo, from_range, to_range, times, never_over}

unsigned : (m : ℕ) (e : ℤ) → UpTo (m * up e) (fin false m e)
unsigned m e = record { s = false; m = m; e = e; is = refl; sign = inl refl; most = le-mul_of_pos_right (m * up e) (down_pos e) }

-- with a sign only a zero is from 0 up
signed : (m : ℕ) (e : ℤ) → T (le nought (fin true m e)) → UpTo 0 (fin true m e)
unfolding of_bits of_int round le lt eq
signed m e h = from_range 0 (omega arith) (fin true m e) h (of_LE true (m * up e * 1) false (0 * down e) tt)

pub times_above : (y x : Float) → T (positive y) → T (le nought x) → T (le nought (x ⊗ y))
unfolding of_bits of_int round le lt eq mul
times_above nan x p h = absurd p
times_above (inf t) x p h = absurd p
times_above (fin true n d) x p h = absurd p
times_above (fin false zero d) x p h = absurd p
times_above (fin false (suc n) d) nan p h = absurd h
times_above (fin false (suc n) d) (inf true) p h = absurd h
times_above (fin false (suc n) d) (inf false) p h = rw (eqb-suc-zero n) tt
times_above (fin false (suc n) d) (fin false m e) p h = round_mono binary64 0 1 (m * up e * (suc n * up d)) (down e * down d) (omega arith) (mul-pos (down_pos e) (down_pos d)) (omega arith)
times_above (fin false (suc n) d) (fin true m e) p h =
    (to_range (0 * (suc n * up d)) (omega arith) (fin true m e ⊗ fin false (suc n) d) (times 0 (suc n * up d) (fin true m e) (fin false (suc n) d) (omega arith) (signed m e h) (unsigned (suc n) d))).0

pub minus_over_above : (y x : Float) → T (positive y) → T (le nought x) → T (le (neg x ⊘ y) nought)
unfolding of_bits of_int round le lt eq neg div
minus_over_above nan x p h = absurd p
minus_over_above (inf t) x p h = absurd p
minus_over_above (fin true n d) x p h = absurd p
minus_over_above (fin false n d) nan p h = absurd h
minus_over_above (fin false n d) (inf true) p h = absurd h
minus_over_above (fin false n d) (inf false) p h = tt
minus_over_above (fin false n d) (fin false m e) p h = never_over (m * up e) (fin false m e) (fin false n d) (unsigned m e) p
minus_over_above (fin false n d) (fin true m e) p h = never_over 0 (fin true m e) (fin false n d) (signed m e h) p
