-- S's reduction and S's and C's divisors as the code finds them. Assumes nothing.
use mathlib.Core.Path.{◌≡◌}
use mathlib.Core.Bool.{true, false}
use Prim.Native.Nat.{ℕ, ◌+◌, ◌-◌, ◌*◌}
use native.Mathlib.Nat.{mul_comm}
use native.Mathlib.Omega.{arith}
use lib.Ieee.{Float, binary64, lt, sub, mul, div}
use Rattle.float64.specs.Constants.{pi, turn}
use Rattle.float64.specs.Whole.{whole_part}
use Rattle.elementary.specs.Wave.{reduced_angle, divisor, sine_divisor, cosine_divisor}

module _ (t n : Float) (whole : n ≡ whole_part (div binary64 t turn)) where
  pub reduced_less : lt pi (sub binary64 t (mul binary64 n turn)) ≡ true → sub binary64 (sub binary64 t (mul binary64 n turn)) turn ≡ reduced_angle t
  unfolding reduced_angle
  reduced_less h = rw (← whole, h)

  pub reduced_kept : lt pi (sub binary64 t (mul binary64 n turn)) ≡ false → sub binary64 t (mul binary64 n turn) ≡ reduced_angle t
  unfolding reduced_angle
  reduced_kept h = rw (← whole, h)

-- the two divisors are the one that the code computes
sine_at : (k : ℕ) → divisor 1 k ≡ sine_divisor k
sine_at k = let e : 2 * k + 1 - 1 ≡ 2 * k = omega arith in rw e (mul_comm (2 * k + 1) (2 * k))

cosine_at : (k : ℕ) → divisor 0 k ≡ cosine_divisor k
cosine_at k = let e : 2 * k + 0 ≡ 2 * k = omega arith in rw e (mul_comm (2 * k) (2 * k - 1))

pub sine_divisor_lem : divisor 1 ≡ sine_divisor
sine_divisor_lem = λ t. λ k. sine_at k t

pub cosine_divisor_lem : divisor 0 ≡ cosine_divisor
cosine_divisor_lem = λ t. λ k. cosine_at k t
