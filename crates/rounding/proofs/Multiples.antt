-- A double from 2 ^ 52 * 2 ^ j units up is a multiple of 2 ^ j. Assumes nothing.
use mathlib.Core.Path.{◌≡◌, sym, ap, ◌∙◌, subst}
use Prim.Native.Nat.{ℕ, zero, suc, ◌+◌, ◌-◌, ◌*◌, ◌/◌, ◌%◌, ◌^◌, ◌≤◌, ◌<◌}
use native.Mathlib.Nat.{le_trans, le_of_eq, lt_of_lt_of_le, lt_of_not-le, not-le_of_lt, le_of_suc-le-suc, eq_of_mul-eq-mul_right, mul-lt-mul_of_pos_right, mul_assoc, mul-pos}
use native.Mathlib.Omega.{arith}
use lib.Dec.{T}
use lib.Pow.{pow-add, pow_pos, pow_mono}
use lib.Ieee.{Float, nan, inf, fin, binary64, fits, down, to_bits}
use lib.Ieee.Digits.{back}
use lib.Ieee.Fits.{down_pos}
use lib.Ieee.Positive.{positive, positive_of_value}
use Rattle.float64.proofs.Fields.{read, units_at}
use Rattle.rounding.specs.Nearest.{Units}

-- a double is one number of units
pub units_unique : (x : Float) (a b : ℕ) → Units x a → Units x b → a ≡ b
units_unique nan a b v w = absurd v
units_unique (inf s) a b v w = absurd v
units_unique (fin s m e) a b v w = eq_of_mul-eq-mul_right (down e) (down_pos e) a b (sym v.1 ∙ w.1)

-- ---- doubles from 2 ^ 52 * 2 ^ j units up are multiples of 2 ^ j
multiple_at : (E t j : ℕ) → t < 2 ^ 52 → 2 ^ 52 * 2 ^ j ≤ units_at E t → (u : ℕ) × (units_at E t ≡ u * 2 ^ j)
multiple_at zero t j h k = absurd (not-le_of_lt h (le_trans (at_least (2 ^ j) (pow_pos j)) k))
  where
    at_least : (p : ℕ) → 0 < p → 2 ^ 52 ≤ 2 ^ 52 * p
    at_least p P = omega arith
multiple_at (suc E) t j h k =
    let m = 2 ^ 52 + t in
    let s : m < 2 ^ 53 = omega arith in
    let l : j ≤ E = le_of_suc-le-suc (lt_of_not-le (λ (g : suc E ≤ j). not-le_of_lt (mul-lt-mul_of_pos_right s (pow_pos E)) (le_trans (le_of_eq (sym (pow-add 2 53 E))) (le_trans (pow_mono (room E j g)) (le_trans (le_of_eq (pow-add 2 52 j)) k))))) in
    (m * 2 ^ (E - j), ap (λ (z : ℕ). m * z) (ap (λ (z : ℕ). 2 ^ z) (sym (back E j l)) ∙ pow-add 2 (E - j) j) ∙ sym (mul_assoc m (2 ^ (E - j)) (2 ^ j)))
  where
    room : (E j : ℕ) → suc E ≤ j → 53 + E ≤ 52 + j
    room E j g = omega arith

pub multiple_of : (z : Float) (c j : ℕ) → T (fits binary64 z) → Units z c → 2 ^ 52 * 2 ^ j ≤ c → (u : ℕ) × (c ≡ u * 2 ^ j)
multiple_of z c j f v h =
    let p : T (positive z) = positive_of_value z c (2 ^ 1074) v (lt_of_lt_of_le (mul-pos (pow_pos 52) (pow_pos j)) h) in
    let b = to_bits binary64 z in
    let r = read z f p in
    let e : units_at (b / 2 ^ 52) (b % 2 ^ 52) ≡ c = units_unique z (units_at (b / 2 ^ 52) (b % 2 ^ 52)) c r.value v in
    subst (λ (n : ℕ). (u : ℕ) × (n ≡ u * 2 ^ j)) e (multiple_at (b / 2 ^ 52) (b % 2 ^ 52) j (omega arith) (le_trans h (le_of_eq (sym e))))
