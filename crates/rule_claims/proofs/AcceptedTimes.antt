-- The times of accepted breakers are numbers below the largest double. Assumes nothing.
use Prim.Native.Nat.{ℕ, ◌+◌, ◌*◌, ◌^◌, ◌≤◌, ◌<◌}
use native.Mathlib.Nat.{mul-one, mul-le-mul_right, mul-pos, le_trans, le_of_eq, mul-lt-mul_of_pos_right, lt_of_le_of_lt}
use native.Mathlib.Omega.{arith}
use mathlib.Core.Path.{◌≡◌}
use mathlib.Core.Logic.{◌⊎◌}
use mathlib.Core.Bool.{Bool, true, false}
use borrow.Author.Tests.{lt-ltb}
use lib.Dec.{ltb→lt, lit≤}
use lib.IntN.{ℤ}
use lib.Ieee.{Float, fin, binary64, up, down, of_bits, of_int, round, add, mul, div, lt, le, eq}
use lib.Ieee.Fits.{down_pos}
use Rattle.lists.proofs.Scanning.{left, right}
use Rattle.float64.specs.Constants.{kilo}
use Rattle.float64.proofs.Range.{UpTo, from_range, times, plus, over}
use Rattle.ranges.proofs.InRange.{in_range}
use Rattle.ranges.specs.Ranges as range
use Rattle.ranges.specs.Ranges.{real_in}
use Rattle.grid.specs.declared.parts.DcBreakerType.{DcBreakerType}
use Rattle.grid.specs.declared.parts.DcBreakerType.TheVariants.{Mechanical, SolidState, HybridBreaker}
use Rattle.grid.specs.declared.parts.DcBreaker.{DcBreaker}
use Rattle.breaker_times.specs.Breakers.{k03, largest, clearing_time_of}
use Rattle.breaker_times.specs.Claims.{timed}
use Rattle.part_checks.specs.PartChecks.{breaker_type_ok, breaker_ok}

-- ---- the two operations with a constant that a clearing time takes

over_1000 : (x : Float) → UpTo 100000 x → UpTo 100 (div binary64 x kilo)
unfolding of_bits
over_1000 x u = over 100 1000 x kilo (omega arith) tt (lit≤ tt) u

times_0_3 : (x : Float) → UpTo 100000 x → UpTo 100000 (mul binary64 x k03)
unfolding of_bits le lt eq of_int round
times_0_3 x u = times 100000 1 x k03 (omega arith) u (from_range 1 (omega arith) k03 tt tt)

-- ---- and so every clearing time is far below the largest double

-- the largest double, a whole number
L : ℕ
L = 9007199254740991 * 2 ^ 971

L_above : 2 ^ 53 < L
unfolding L
L_above = ltb→lt (2 ^ 53) (9007199254740991 * 2 ^ 971) tt

positive : (a b : ℕ) → 0 < b → 0 < a + b
positive a b h = omega arith

below_largest : (k : ℕ) → k ≤ 2 ^ 53 → (s : Bool) (m : ℕ) (e : ℤ) → (s ≡ false) ⊎ (m ≡ 0) → m * up e ≤ k * down e → lt (fin s m e) largest ≡ true
unfolding lt of_bits L
below_largest k K false m e o h =
    lt-ltb (m * up e * 1) (L * down e)
    (lt_of_le_of_lt (le_trans (le_of_eq (mul-one (m * up e))) (le_trans h (mul-le-mul_right (down e) K))) (mul-lt-mul_of_pos_right L_above (down_pos e)))
below_largest k K true m e o h = lt-ltb 0 (m * up e * 1 + L * down e) (positive (m * up e * 1) (L * down e) (mul-pos (lt_of_le_of_lt (let z : 0 ≤ 2 ^ 53 = omega arith in z) L_above) (down_pos e)))

timed-up_to : (k : ℕ) (x : Float) → k ≤ 2 ^ 53 → UpTo k x → lt x largest ≡ true
timed-up_to k x K u = rw u.is (below_largest k K u.s u.m u.e u.sign u.most)

accepted_type : (b : DcBreakerType) → breaker_type_ok b ≡ true → lt (clearing_time_of b) largest ≡ true
unfolding breaker_type_ok clearing_time_of
accepted_type (Mechanical opening) h = timed-up_to 100000 opening (omega arith) (in_range 100000 (omega arith) opening h)
accepted_type (SolidState turn_off loss) h =
    timed-up_to 100 (div binary64 turn_off kilo) (omega arith)
    (over_1000 turn_off (in_range 100000 (omega arith) turn_off (left (real_in range.turn_off_time turn_off) (real_in range.on_state_loss loss) h)))
accepted_type (HybridBreaker opening commutation) h =
    timed-up_to 100100 (add binary64 (div binary64 commutation kilo) (mul binary64 opening k03)) (omega arith)
    (plus 100 100000 (div binary64 commutation kilo) (mul binary64 opening k03) (omega arith)
    (over_1000 commutation (in_range 100000 (omega arith) commutation (right (real_in range.opening_time opening) (real_in range.commutation_time commutation) h)))
    (times_0_3 opening (in_range 100000 (omega arith) opening (left (real_in range.opening_time opening) (real_in range.commutation_time commutation) h))))

pub accepted-timed : (b : DcBreaker) → breaker_ok b ≡ true → timed b ≡ true
unfolding breaker_ok
accepted-timed b h = accepted_type b.breaker_type (left _ _ (left _ _ (left _ _ (left _ _ h))))
