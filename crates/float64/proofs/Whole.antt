-- The whole part as the code finds it: above 0 by the bit pattern, and below 0 with the sign turned twice. Assumes nothing.
use mathlib.Core.Path.{◌≡◌, refl, sym, ap, ◌∙◌, subst}
use mathlib.Core.Logic.{◌⊎◌, inl, inr}
use mathlib.Core.Bool.{Bool, true, false, not, true≢false}
use Prim.Native.Nat.{ℕ, zero, suc, ◌+◌, ◌-◌, ◌*◌, ◌/◌, ◌%◌, ◌^◌, ◌≤◌, ◌<◌}
use native.Mathlib.Nat.{le_of_eq, lt_of_le_of_lt, not-le_of_lt, mul_assoc, mul_right_comm, mul-one, one-mul, mul-pos, zero-lt-suc, div-one, zero-mul, zero-div, div-eq_of_lt, mul-div_cancel, mul-div-mul_right, mod-eq_of_lt, mul-add-mod_self_right, eq_of_mul-eq-mul_right, div-add-mod'}
use native.Mathlib.Omega.{arith}
use borrow.Author.Tests.{ltb-true, ltb-false}
use lib.IntN.{ℤ, pos, negsuc}
use lib.Dec.{T, lit≤, lit<, ltb→lt, lt→ltb}
use lib.Pow.{pow-add, pow_pos, pow-lt, shr_le}
use lib.Ieee.{Float, nan, inf, fin, binary64, up, down, round, neg, lt, of_bits, to_bits, nan_bits, fits, is_nan}
use lib.Ieee.Back.{round_whole}
use lib.Ieee.Bits.{of_bits-fits}
use lib.Ieee.Digits.{back}
use lib.Ieee.Exact.{HasValue}
use lib.Ieee.Fits.{up_pos, down_pos, round-fits}
use lib.Ieee.Nearest.{div_same}
use lib.Ieee.Positive.{positive}
use lib.Ieee.Scale.{round_same}
use Rattle.float64.specs.Constants.{nought}
use Rattle.float64.specs.Whole.{whole_part}
use Rattle.float64.proofs.Fields.{read, units_at, made_fields, units_below}
use Rattle.float64.proofs.NanPattern.{no_nan_below}
use Rattle.float64.proofs.SameValue.{fit, exact_fit, round_own, round-neg, same_value}

-- ---- nothing is rounded
pub whole_exact : (s : Bool) (m : ℕ) (e : ℤ) → T (fits binary64 (fin s m e)) → HasValue (round binary64 s (m * up e / down e) 1) s (m * up e / down e) 1
whole_exact s m (pos k) F = subst (λ (n : ℕ). HasValue (round binary64 s n 1) s n 1) (sym (div-one (m * 2 ^ k))) (exact_fit binary64 s m (pos k) (fit binary64 s m (pos k) F))
whole_exact s m (negsuc k) F = round_whole binary64 s (m * 1 / 2 ^ suc k) (cut (fit binary64 s m (negsuc k) F).short (shr_le (m * 1) (suc k)))
  where
    cut : {n : ℕ} → m < 2 ^ 53 → n ≤ m * 1 → n ≤ 2 ^ 53
    cut h g = omega arith

-- ---- in units: u / 2 ^ 1074 is the whole part of u units
whole_units : (y : Float) (n : ℕ) → HasValue y false (n * 2 ^ 1074) (2 ^ 1074) → HasValue y false n 1
whole_units nan n v = absurd v
whole_units (inf s) n v = absurd v
whole_units (fin s m e) n v = (v.0, mul-one (m * up e) ∙ eq_of_mul-eq-mul_right (2 ^ 1074) (pow_pos 1074) (m * up e) (n * down e) (v.1 ∙ mul_right_comm n (2 ^ 1074) (down e)))

is_whole : (x y : Float) (u : ℕ) → T (fits binary64 x) → T (fits binary64 y) → T (positive x) → HasValue x false u (2 ^ 1074) → HasValue y false (u / 2 ^ 1074 * 2 ^ 1074) (2 ^ 1074) → y ≡ whole_part x
unfolding whole_part
is_whole nan y u F G p v w = absurd p
is_whole (inf s) y u F G p v w = absurd p
is_whole (fin true m e) y u F G p v w = absurd p
is_whole (fin false m e) y u F G p v w =
    let n : u / 2 ^ 1074 ≡ m * up e / down e = sym (div_same (m * up e) (down e) u (2 ^ 1074) (down_pos e) (pow_pos 1074) v.1) in
    let k : HasValue y false (m * up e / down e) 1 = subst (λ (z : ℕ). HasValue y false z 1) n (whole_units y (u / 2 ^ 1074) w) in
    same_value binary64 y (round binary64 false (m * up e / down e) 1) false (m * up e / down e) 1 (lit< tt) G (round-fits binary64 false (m * up e / down e) 1) k (whole_exact false m e F)

-- ---- above 0: an infinity, or a number by its pattern
above_is : (x : Float) → T (lt nought x) → (x ≡ inf false) ⊎ T (positive x)
unfolding lt of_bits
above_is nan p = absurd p
above_is (inf true) p = absurd p
above_is (inf false) p = inl refl
above_is (fin true m e) p = absurd p
above_is (fin false zero e) p = absurd (none (ltb→lt (0 * down e) (0 * up e * 1) p))
  where
    none : 0 * down e < 0 * up e * 1 → ⊥
    none k = omega arith
above_is (fin false (suc m) e) p = inr (lt→ltb 0 (suc m) (zero-lt-suc m))

pub above_no_nan : (x : Float) → T (lt nought x) → T (not (is_nan x))
unfolding lt is_nan of_bits
above_no_nan nan p = p
above_no_nan (inf s) p = tt
above_no_nan (fin s m e) p = tt

infinite : to_bits binary64 (inf false) / 2 ^ 52 ≡ 2047
unfolding to_bits
infinite = refl

abbrev field : Float → ℕ
field x = to_bits binary64 x / 2 ^ 52

-- below 1 there is none
zero_units : HasValue nought false 0 (2 ^ 1074)
unfolding of_bits
zero_units = (refl, refl)

zero_fits : T (fits binary64 nought)
unfolding of_bits fits
zero_fits = tt

pub below_one : (x : Float) → T (fits binary64 x) → T (lt nought x) → field x < 1023 → nought ≡ whole_part x
below_one x F p h = elim (above_is x p) [
  | inl e ↦ absurd (not-le_of_lt (subst (λ (n : ℕ). n < 1023) (ap field e ∙ infinite) h) (lit≤ tt))
  | inr q ↦
      let r = read x F q in
      let u = units_at (field x) (to_bits binary64 x % 2 ^ 52) in
      let z : 0 ≡ u / 2 ^ 1074 * 2 ^ 1074 = sym (ap (λ (n : ℕ). n * 2 ^ 1074) (div-eq_of_lt (units_below (field x) (to_bits binary64 x % 2 ^ 52) 1074 (omega arith) (room (field x) h))) ∙ zero-mul (2 ^ 1074)) in
      is_whole x nought u F zero_fits q r.value (subst (λ (n : ℕ). HasValue nought false n (2 ^ 1074)) z zero_units)
]
  where
    room : (E : ℕ) → E < 1023 → E + 52 ≤ 1074
    room E g = omega arith

-- from 2 ^ 52 up there is no fraction
large_units : (E t : ℕ) → 1075 ≤ E → units_at E t / 2 ^ 1074 * 2 ^ 1074 ≡ units_at E t
large_units zero t h = absurd (not-le_of_lt (lit< tt) h)
large_units (suc E) t h =
    let m = 2 ^ 52 + t in
    let e : m * 2 ^ E ≡ m * 2 ^ (E - 1074) * 2 ^ 1074 = ap (λ (z : ℕ). m * z) (ap (λ (z : ℕ). 2 ^ z) (sym (back E 1074 (room h))) ∙ pow-add 2 (E - 1074) 1074) ∙ sym (mul_assoc m (2 ^ (E - 1074)) (2 ^ 1074)) in
    ap (λ (z : ℕ). z / 2 ^ 1074 * 2 ^ 1074) e ∙ ap (λ (z : ℕ). z * 2 ^ 1074) (mul-div_cancel (m * 2 ^ (E - 1074)) (pow_pos 1074)) ∙ sym e
  where
    room : 1075 ≤ suc E → 1074 ≤ E
    room g = omega arith

infinity_whole : inf false ≡ whole_part (inf false)
unfolding whole_part
infinity_whole = refl

pub no_fraction : (x : Float) → T (fits binary64 x) → T (lt nought x) → 1075 ≤ field x → x ≡ whole_part x
no_fraction x F p h = elim (above_is x p) [
  | inl e ↦ subst (λ (z : Float). z ≡ whole_part z) (sym e) infinity_whole
  | inr q ↦
      let r = read x F q in
      let t = to_bits binary64 x % 2 ^ 52 in
      is_whole x x (units_at (field x) t) F F q r.value (subst (λ (n : ℕ). HasValue x false n (2 ^ 1074)) (sym (large_units (field x) t h)) r.value)
]

-- in between the last 1075 - E digits are the fraction's
-- the digits t of E * 2 ^ 52 + t, cut
cut_digits : (b n : ℕ) → n ≤ 52 → b % 2 ^ n ≡ b % 2 ^ 52 % 2 ^ n
cut_digits b n h =
    let e : b ≡ b / 2 ^ 52 * 2 ^ (52 - n) * 2 ^ n + b % 2 ^ 52 =
    sym (div-add-mod' b (2 ^ 52)) ∙ ap (λ (z : ℕ). z + b % 2 ^ 52) (ap (λ (z : ℕ). b / 2 ^ 52 * z) (ap (λ (z : ℕ). 2 ^ z) (sym (back 52 n h)) ∙ pow-add 2 (52 - n) n) ∙ sym (mul_assoc (b / 2 ^ 52) (2 ^ (52 - n)) (2 ^ n))) in
    ap (λ (z : ℕ). z % 2 ^ n) e ∙ mul-add-mod_self_right (b / 2 ^ 52 * 2 ^ (52 - n)) (2 ^ n) (b % 2 ^ 52)

-- M * P cut to a multiple of Q * P is M cut to one of Q
cut_scaled : (M Q P : ℕ) → 0 < P → M * P / (Q * P) * (Q * P) ≡ (M - M % Q) * P
cut_scaled M Q P p = ap (λ (z : ℕ). z * (Q * P)) (mul-div-mul_right M Q p) ∙ sym (mul_assoc (M / Q) Q P) ∙ ap (λ (z : ℕ). z * P) (less (M / Q * Q) (M % Q) (div-add-mod' M Q))
  where
    less : (a b : ℕ) → a + b ≡ M → a ≡ M - b
    less a b e = omega arith

leading : (t n : ℕ) → n ≤ 52 → (2 ^ 52 + t) % 2 ^ n ≡ t % 2 ^ n
leading t n h =
    let e : 2 ^ 52 ≡ 2 ^ (52 - n) * 2 ^ n = ap (λ (z : ℕ). 2 ^ z) (sym (back 52 n h)) ∙ pow-add 2 (52 - n) n in
    ap (λ (z : ℕ). (z + t) % 2 ^ n) e ∙ mul-add-mod_self_right (2 ^ (52 - n)) (2 ^ n) t

middle_units : (E t : ℕ) → 1023 ≤ E → E < 1075 → units_at E t / 2 ^ 1074 * 2 ^ 1074 ≡ units_at E (t - t % 2 ^ (1075 - E))
middle_units zero t h k = absurd (not-le_of_lt (lit< tt) h)
middle_units (suc E) t h k =
    let n = 1075 - suc E in
    let e : 2 ^ 1074 ≡ 2 ^ n * 2 ^ E = ap (λ (z : ℕ). 2 ^ z) (sum k) ∙ pow-add 2 n E in
    ap (λ (z : ℕ). (2 ^ 52 + t) * 2 ^ E / z * z) e
    ∙ cut_scaled (2 ^ 52 + t) (2 ^ n) (2 ^ E) (pow_pos E)
    ∙ ap (λ (z : ℕ). (2 ^ 52 + t - z) * 2 ^ E) (leading t n (few h))
    ∙ ap (λ (z : ℕ). z * 2 ^ E) (moved (t % 2 ^ n) (le_self t n))
  where
    sum : suc E < 1075 → 1074 ≡ 1075 - suc E + E
    sum g = omega arith

    few : 1023 ≤ suc E → 1075 - suc E ≤ 52
    few g = omega arith

    le_self : (t n : ℕ) → t % 2 ^ n ≤ t
    le_self t n = omega (arith, div-add-mod' t (2 ^ n))

    moved : (c : ℕ) → c ≤ t → 2 ^ 52 + t - c ≡ 2 ^ 52 + (t - c)
    moved c g = omega arith

-- the fields of a pattern whose last digits are cleared
pub record Cleared (b n c : ℕ) : Type 0 where
  pub exponent : c / 2 ^ 52 ≡ b / 2 ^ 52
  pub digits : c % 2 ^ 52 ≡ b % 2 ^ 52 - b % 2 ^ 52 % 2 ^ n
  pub most : c ≤ b

cleared : (b n : ℕ) → n ≤ 52 → Cleared b n (b - b % 2 ^ n)
cleared b n h =
    let e = cut_digits b n h in
    let m : b % 2 ^ 52 % 2 ^ n ≤ b % 2 ^ 52 = omega (arith, div-add-mod' (b % 2 ^ 52) (2 ^ n)) in
    record { exponent = omega arith; digits = omega arith; most = omega arith }

middle_value : (b E t n c : ℕ) → b < 2 ^ 63 → b / 2 ^ 52 ≡ E → 1023 ≤ E → E < 1075 → b % 2 ^ 52 ≡ t → Cleared b n c → HasValue (of_bits binary64 c) false (units_at E (t - t % 2 ^ n)) (2 ^ 1074)
middle_value b zero t n c l e h k d r = absurd (not-le_of_lt (lit< tt) h)
middle_value b (suc E) t n c l e h k d r =
    made_fields c E (t - t % 2 ^ n) (lt_of_le_of_lt r.most l) (r.exponent ∙ e) (r.digits ∙ ap (λ (z : ℕ). z - z % 2 ^ n) d) (room k)
  where
    room : suc E < 1075 → E < 2046
    room g = omega arith

module _ (x : Float) (F : T (fits binary64 x)) (p : T (lt nought x)) (h : 1023 ≤ field x) (k : field x < 1075) where
  number : T (positive x)
  number = elim (above_is x p) [ inl e ↦ absurd (not-le_of_lt (subst (λ (n : ℕ). n < 1075) (ap field e ∙ infinite) k) (lit≤ tt)) | inr q ↦ q ]

  pub fraction_cleared : (c : ℕ) → c ≡ to_bits binary64 x - to_bits binary64 x % 2 ^ (1075 - field x) → of_bits binary64 c ≡ whole_part x
  fraction_cleared c e =
      let b = to_bits binary64 x in
      let t = b % 2 ^ 52 in
      let r = read x F number in
      let w : Cleared b (1075 - field x) c = subst (Cleared b (1075 - field x)) (sym e) (cleared b (1075 - field x) (omega arith)) in
      is_whole x (of_bits binary64 c) (units_at (field x) t) F (of_bits-fits binary64 c) number r.value
      (subst (λ (n : ℕ). HasValue (of_bits binary64 c) false n (2 ^ 1074)) (sym (middle_units (field x) t h k)) (middle_value b (field x) t (1075 - field x) c (omega arith) refl h k refl w))

  pub cleared_no_nan : (c : ℕ) → c ≡ to_bits binary64 x - to_bits binary64 x % 2 ^ (1075 - field x) → T (not (nan_bits binary64 c))
  cleared_no_nan c e =
      let b = to_bits binary64 x in
      let w : Cleared b (1075 - field x) c = subst (Cleared b (1075 - field x)) (sym e) (cleared b (1075 - field x) (omega arith)) in
      let m = w.most in
      let l : c % 2 ^ 63 ≡ c = mod-eq_of_lt (omega arith) in
      no_nan_below c (omega arith)

-- ---- one digit, shifted
pub one_shifted : (n : ℕ) → n < 64 → 1 * 2 ^ n % 2 ^ 64 ≡ 2 ^ n
one_shifted n h = mod-eq_of_lt (lt_of_le_of_lt (le_of_eq (one-mul (2 ^ n))) (pow-lt h)) ∙ one-mul (2 ^ n)

-- ---- below 0
-- the sign turned twice
pub below_whole : (x : Float) → neg (whole_part (neg x)) ≡ whole_part x
unfolding whole_part neg
below_whole nan = refl
below_whole (inf true) = refl
below_whole (inf false) = refl
below_whole (fin true m e) = round-neg binary64 false (m * up e / down e) 1
below_whole (fin false m e) = round-neg binary64 true (m * up e / down e) 1

pub below_above : (x : Float) → lt x nought ≡ true → T (lt nought (neg x))
unfolding lt of_bits neg
below_above nan h = absurd (true≢false (sym h))
below_above (inf true) h = tt
below_above (inf false) h = absurd (true≢false (sym h))
below_above (fin true m e) h = lt→ltb (0 * down e) (m * up e * 1) (turned (ltb-true _ _ h))
  where
    turned : 0 < m * up e * 1 + 0 * down e → 0 * down e < m * up e * 1
    turned k = omega arith
below_above (fin false m e) h = absurd (none (ltb-true _ _ h))
  where
    none : m * up e * 1 < 0 * down e → ⊥
    none k = omega arith

-- neither above nor below 0
pub zero-whole : (x : Float) → T (fits binary64 x) → lt nought x ≡ false → lt x nought ≡ false → x ≡ whole_part x
unfolding lt of_bits whole_part
zero-whole nan F p q = refl
zero-whole (inf s) F p q = refl
zero-whole (fin s zero e) F p q =
    let z : 0 * up e / down e * down e ≡ 0 * up e * 1 = ap (λ (a : ℕ). a / down e * down e) (zero-mul (up e)) ∙ ap (λ (a : ℕ). a * down e) (zero-div (down e)) ∙ zero-mul (down e) ∙ sym (zero-mul (up e)) ∙ sym (mul-one (0 * up e)) in
    sym (round_same binary64 s (0 * up e / down e) 1 (0 * up e) (down e) (lit< tt) (down_pos e) z ∙ round_own binary64 s 0 e F)
zero-whole (fin true (suc m) e) F p q = absurd (none (mul-pos (zero-lt-suc m) (up_pos e)) (ltb-false _ _ q))
  where
    none : 0 < suc m * up e → suc m * up e * 1 + 0 * down e ≤ 0 → ⊥
    none a k = omega arith
zero-whole (fin false (suc m) e) F p q = absurd (none (mul-pos (zero-lt-suc m) (up_pos e)) (ltb-false _ _ p))
  where
    none : 0 < suc m * up e → suc m * up e * 1 ≤ 0 * down e → ⊥
    none a k = omega arith
