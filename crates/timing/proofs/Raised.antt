-- The time step and the duration that a study uses are at least the least ones, whatever double the grid holds. Assumes nothing.
use Prim.Native.Nat.{ℕ, zero, suc, ◌*◌}
use native.Mathlib.Nat.{zero-lt-suc}
use native.Mathlib.Omega.{arith}
use mathlib.Core.Path.{◌≡◌, refl, sym, ◌∙◌}
use mathlib.Core.Bool.{true, false, not}
use lib.Dec.{T, lt→ltb}
use lib.IntN.{ℤ, pos}
use lib.Ieee.{Float, nan, inf, fin, binary64, up, down, of_bits, of_int, round, div, is_nan, lt, le, eq}
use lib.Ieee.Bits.{is_true}
use Rattle.lists.proofs.Counting.{by-test}
use Rattle.float64.specs.Constants.{decimal, kilo}
use Rattle.float64.specs.Choice.{max_of}
use Rattle.float64.proofs.Tests.{ne_self}
use Rattle.float64.proofs.Choosing.{max_is}
use Rattle.float64.proofs.Order.{of_LE, le_of_not_lt, le-refl_float, le_trans_float}
use Rattle.float64.proofs.Interval.{div_mono}
use Rattle.grid.specs.Simulator.{least_time_step, least_duration, constants_are}
use Rattle.timing.specs.Steps.{time_step_ms, duration_ms}
use Rattle.timing.specs.Claims.{RaisedClaims}

-- the larger of any double and a number is at least the number
raised : (x least : Float) → T (not (is_nan least)) → T (le least (max_of x least))
raised x least N =
    rw (max_is x least, ne_self x)
    (by-test (is_nan x)
    (λ n. rw n (le-refl_float least N))
    (λ n. rw n (by-test (lt x least) (λ l. rw l (le-refl_float least N)) (λ l. rw l (le_of_not_lt x least (rw n tt) N l)))))

numbers : T (not (is_nan least_time_step)) × T (not (is_nan least_duration)) × T (not (is_nan kilo))
unfolding of_bits is_nan
numbers = (tt, tt, tt)

least_above : T (le least_time_step (of_int binary64 (pos 0))) → ⊥
unfolding of_bits of_int round le lt eq
least_above t = t

not_below : (x : Float) → T (le least_time_step x) → T (le x (of_int binary64 (pos 0))) → ⊥
not_below x h k = least_above (le_trans_float least_time_step x (of_int binary64 (pos 0)) h k)

minus_below : (m : ℕ) (e : ℤ) → T (le (fin true m e) (of_int binary64 (pos 0)))
unfolding le lt eq of_int round
minus_below m e = of_LE true (m * up e * 1) false (0 * down e) tt

zero_below : (e : ℤ) → T (le (fin false 0 e) (of_int binary64 (pos 0)))
unfolding le lt eq of_int round
zero_below e = of_LE false (0 * up e * 1) false (0 * down e) (omega arith)

infinite : T (le (div binary64 least_time_step kilo) (div binary64 (inf false) kilo))
unfolding of_bits div round le lt eq
infinite = tt

not_nan : T (le least_time_step nan) → ⊥
unfolding of_bits le lt eq
not_nan h = h

not_minus : T (le least_time_step (inf true)) → ⊥
unfolding of_bits le lt eq
not_minus h = h

-- divided alike they stay in order
divided : (x : Float) → T (le least_time_step x) → T (le (div binary64 least_time_step kilo) (div binary64 x kilo))
unfolding of_bits
divided nan h = absurd (not_nan h)
divided (inf true) h = absurd (not_minus h)
divided (inf false) h = infinite
divided (fin true m e) h = absurd (not_below (fin true m e) h (minus_below m e))
divided (fin false zero e) h = absurd (not_below (fin false 0 e) h (zero_below e))
divided (fin false (suc m) e) h = div_mono binary64 least_time_step (fin false (suc m) e) kilo kilo tt (lt→ltb 0 (suc m) (zero-lt-suc m)) tt tt h (le-refl_float kilo numbers.2)

-- 0.1 µs in milliseconds
ten_thousandth : Float
ten_thousandth = of_bits binary64 0x3f1a_36e2_eb1c_432d

step_is : (ten_thousandth ≡ decimal 1 10000) × (ten_thousandth ≡ div binary64 least_time_step kilo)
unfolding ten_thousandth of_bits div round
step_is = (refl, refl)

pub raised_claims : RaisedClaims
raised_claims =
    record {
      time_step_lem = λ g. rw (sym step_is.0 ∙ step_is.1) (is_true (le (div binary64 least_time_step kilo) (time_step_ms g)) (divided (max_of g.dt_us least_time_step) (raised g.dt_us least_time_step numbers.0)));
      duration = λ g. rw (← constants_are.1) (is_true (le least_duration (duration_ms g)) (raised g.duration_ms least_duration numbers.1));
    }
