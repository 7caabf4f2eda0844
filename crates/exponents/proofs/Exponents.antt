-- All that is handed to E is never positive, of parameters in their ranges. Assumes nothing.
use Prim.Native.Nat.{◌^◌}
use native.Mathlib.Omega.{arith}
use mathlib.Core.Path.{◌≡◌, refl}
use mathlib.Core.Bool.{true, false, ◌&&◌}
use mathlib.Core.List.{[], ◌∷◌}
use lib.Dec.{T}
use lib.Ieee.{Float, binary64, of_bits, of_int, round, neg, lt, le, eq, is_nan}
use lib.Ieee.Bits.{is_true}
use lib.Ieee.Fits.{div-fits}
use Rattle.lists.specs.Scans.{every}
use Rattle.lists.proofs.Counting.{by-test}
use Rattle.lists.proofs.Scanning.{both}
use Rattle.float64.specs.Constants.{nought, milli, pico}
use Rattle.float64.specs.Arithmetic.{◌⊖◌, ◌⊗◌, ◌⊘◌}
use Rattle.float64.specs.Choice.{max_of, abs_of}
use Rattle.float64.proofs.Fields.{no_nan}
use Rattle.float64.proofs.Order.{le_of_not_lt}
use Rattle.float64.proofs.Range.{UpTo, from_range, neg-neg, times, minus_raised, never_times}
use Rattle.float64.proofs.Interval.{max_at_least}
use Rattle.fault_circuit.specs.declared.parameters.RlcParameters.{RlcParameters}
use Rattle.fault_circuit.specs.Circuit.{alpha, omega0_sq, underdamped, omega_d, s1, s2, underdamped_response, overdamped_response, response_of, decay_tau}
use Rattle.fault_current.specs.Current.{seconds_since, damping, along, during_fault}
use Rattle.exponents.specs.Claims.{never_positive}
use Rattle.exponents.proofs.Ranges.{Ranged}
use Rattle.exponents.proofs.Roots.{alpha_in, omega0_positive, tau_positive, a-up_to, square_positive, s1_below, s2_below}
use Rattle.exponents.proofs.Signs.{times_above, minus_over_above}

pub seconds : (moment t : Float) → UpTo 1000000000 moment → UpTo 1000000000 t → UpTo 1000000000 (seconds_since moment t)
unfolding of_bits of_int round le lt eq
seconds moment t m h = times 1000000000 1 (max_of (t ⊖ moment) nought) milli (omega arith) (minus_raised 1000000000 1000000000 t moment (omega arith) h m) (from_range 1 (omega arith) milli tt tt)

alone : (x : Float) → T (le x nought) → every never_positive (x ∷ []) ≡ true
alone x h = both (never_positive x) true (is_true (le x nought) h) refl

pair : (x y : Float) → T (le x nought) → T (le y nought) → every never_positive (x ∷ y ∷ []) ≡ true
pair x y h k = both (never_positive x) (never_positive y && true) (is_true (le x nought) h) (alone y k)

module _ (p : RlcParameters) (P : Ranged p) (t : Float) (H : UpTo 1000000000 t) where
  a_range : UpTo (2 ^ 33) (alpha p)
  a_range = a-up_to (alpha p) (omega0_sq p) (alpha_in p P)

  damped : T (le (damping (alpha p) t) nought)
  damped = never_times (2 ^ 33) 1000000000 (neg (alpha p)) t (rw (neg-neg (alpha p)) a_range) H

  module _ (o : underdamped p ≡ false) where
    below_square : T (le (omega0_sq p) (alpha p ⊗ alpha p))
    below_square = le_of_not_lt (alpha p ⊗ alpha p) (omega0_sq p) (no_nan _ (square_positive (alpha p) (omega0_sq p) (alpha_in p P))) (no_nan _ (omega0_positive p P)) o

    first : T (le (along (s1 (alpha p) (omega0_sq p)) t) nought)
    first = never_times (2 ^ 33) 1000000000 (s1 (alpha p) (omega0_sq p)) t (s1_below (alpha p) (omega0_sq p) (alpha_in p P) (div-fits binary64 _ _) (omega0_positive p P) below_square) H

    second : T (le (along (s2 (alpha p) (omega0_sq p)) t) nought)
    second = never_times (2 ^ 34) 1000000000 (s2 (alpha p) (omega0_sq p)) t (s2_below (alpha p) (omega0_sq p) (alpha_in p P) (div-fits binary64 _ _) (omega0_positive p P) below_square) H

  pub never_during : every never_positive (during_fault (response_of p) t) ≡ true
  unfolding response_of underdamped_response overdamped_response during_fault
  never_during =
      by-test (underdamped p)
      (λ o. rw o (by-test (lt pico (omega_d (alpha p) (omega0_sq p))) (λ l. rw l (alone (damping (alpha p) t) damped)) (λ l. rw l)))
      (λ o. rw o
      (by-test (lt pico (abs_of (s1 (alpha p) (omega0_sq p) ⊖ s2 (alpha p) (omega0_sq p))))
      (λ l. rw l (pair (along (s1 (alpha p) (omega0_sq p)) t) (along (s2 (alpha p) (omega0_sq p)) t) (first o) (second o)))
      (λ l. rw l (alone (damping (alpha p) t) damped))))

-- of any two doubles, NaN and infinities too
seconds_from_zero : (moment t : Float) → T (le nought (seconds_since moment t))
unfolding of_bits is_nan
seconds_from_zero moment t = times_above milli (max_of (t ⊖ moment) nought) tt (max_at_least (t ⊖ moment) nought tt)

pub never_after : (p : RlcParameters) → Ranged p → (clearing t : Float) → never_positive (neg (seconds_since clearing t) ⊘ decay_tau p) ≡ true
never_after p P clearing t =
    let s = seconds_since clearing t in
    is_true (le (neg s ⊘ decay_tau p) nought) (minus_over_above (decay_tau p) s (tau_positive p P) (seconds_from_zero clearing t))
