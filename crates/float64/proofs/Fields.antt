-- A double above zero by its bit pattern, and back. Assumes nothing.
use mathlib.Core.Path.{◌≡◌, refl, sym, ap, ◌∙◌, subst}
use mathlib.Core.Logic.{inl, inr}
use mathlib.Core.Bool.{Bool, true, false, not, cond}
use Prim.Native.Nat.{ℕ, zero, suc, ◌+◌, ◌-◌, ◌*◌, ◌/◌, ◌%◌, ◌^◌, ◌≤◌, ◌<◌}
use native.Mathlib.Nat.{pow-suc, mod-eq_of_lt, eq-or-lt_of_le, mul-one, lt_of_lt_of_le, mul-lt-mul_of_pos_right, le_trans, le_of_eq}
use native.Mathlib.Omega.{arith}
use borrow.Author.Tests.{leb-false, eqb-false, ne_eqb, le-ltb, lt-leb}
use lib.Dec.{T, leb, ltb, eqb}
use lib.Pow.{pow_pos, pow-add, pow_mono}
use lib.Ieee.{Float, nan, inf, fin, binary64, fits, is_nan, odd, of_fields, of_bits, to_bits, nan_bits}
use lib.Ieee.Exact.{HasValue, odd_sign}
use lib.Ieee.Positive.{positive, value_pos}
use lib.Ieee.Bits.{of_bits-to_bits, nan_bits_above}

pub no_nan : (x : Float) → T (positive x) → T (not (is_nan x))
unfolding is_nan
no_nan nan p = p
no_nan (inf s) p = tt
no_nan (fin s m e) p = tt

pos_sign : (x : Float) (s : Bool) (a c : ℕ) → T (positive x) → HasValue x s a c → s ≡ false
pos_sign nan s a c p v = absurd p
pos_sign (inf t) s a c p v = absurd p
pos_sign (fin true m e) s a c p v = absurd p
pos_sign (fin false m e) s a c p v = sym v.0

-- the magnitude of the fields E and t, in units
abbrev pub units_at : ℕ → ℕ → ℕ
units_at zero t = t
units_at (suc E) t = (2 ^ 52 + t) * 2 ^ E

-- 2 ^ 52 + t has 53 digits
pub units_below : (E t k : ℕ) → t < 2 ^ 52 → E + 52 ≤ k → units_at E t < 2 ^ k
units_below zero t k h g = lt_of_lt_of_le h (pow_mono g)
units_below (suc E) t k h g =
    let s : 2 ^ 52 + t < 2 ^ 53 = omega arith in
    lt_of_lt_of_le (mul-lt-mul_of_pos_right s (pow_pos E)) (le_trans (le_of_eq (sym (pow-add 2 53 E))) (pow_mono (room g)))
  where
    room : suc E + 52 ≤ k → 53 + E ≤ k
    room g = omega arith

-- what a pattern's fields say of a positive value
record Fields (s : Bool) (E t : ℕ) : Type 0 where
  sign : s ≡ false
  low : E ≡ 2047 → ⊥
  value : HasValue (of_fields binary64 s E t) false (units_at E t) (2 ^ 1074)

none : (b s : Bool) → T (positive (cond b (inf s) nan)) → ⊥
none true s p = p
none false s p = p

normal : (s : Bool) (E t : ℕ) → eqb (suc E) 2047 ≡ false → of_fields binary64 s (suc E) t ≡ odd 53 s (2 ^ 52 + t) E 1074
unfolding of_fields
normal s E t h = ap (λ (b : Bool). cond b (cond (eqb t 0) (inf s) nan) (odd 53 s (2 ^ 52 + t) E 1074)) h

normal_val : (s : Bool) (E t : ℕ) → eqb (suc E) 2047 ≡ false → HasValue (of_fields binary64 s (suc E) t) s ((2 ^ 52 + t) * 2 ^ E) (2 ^ 1074)
normal_val s E t h = subst (λ (z : Float). HasValue z s ((2 ^ 52 + t) * 2 ^ E) (2 ^ 1074)) (sym (normal s E t h)) (odd_sign 53 s (2 ^ 52 + t) E 1074)

at_fields : (s : Bool) (E t : ℕ) → T (positive (of_fields binary64 s E t)) → Fields s E t
unfolding of_fields
at_fields s zero t p =
    let v : HasValue (odd 53 s t 0 1074) s t (2 ^ 1074) = subst (λ (z : ℕ). HasValue (odd 53 s t 0 1074) s z (2 ^ 1074)) (mul-one t) (odd_sign 53 s t 0 1074) in
    let e = pos_sign (odd 53 s t 0 1074) s t (2 ^ 1074) p v in
    record { sign = e; low = λ h. omega arith; value = subst (λ (z : Bool). HasValue (odd 53 s t 0 1074) z t (2 ^ 1074)) e v }
at_fields s (suc E) t p = go (eqb (suc E) 2047) refl p
  where
    go : (b : Bool) → eqb (suc E) 2047 ≡ b → T (positive (cond b (cond (eqb t 0) (inf s) nan) (odd 53 s (2 ^ 52 + t) E 1074))) → Fields s (suc E) t
    go true h p' = absurd (none (eqb t 0) s p')
    go false h p' =
        let v = normal_val s E t h in
        let e = pos_sign (of_fields binary64 s (suc E) t) s ((2 ^ 52 + t) * 2 ^ E) (2 ^ 1074) p v in
        record { sign = e; low = eqb-false (suc E) 2047 h; value = subst (λ (z : Bool). HasValue (of_fields binary64 s (suc E) t) z ((2 ^ 52 + t) * 2 ^ E) (2 ^ 1074)) e v }

-- ---- a positive value, by its pattern
pub record Read (x : Float) (b : ℕ) : Type 0 where
  pub exponent : b / 2 ^ 52 ≤ 2046
  pub value : HasValue x false (units_at (b / 2 ^ 52) (b % 2 ^ 52)) (2 ^ 1074)

fields_of : (b : ℕ) → of_bits binary64 b ≡ of_fields binary64 (leb (2 ^ 63) b) (b % 2 ^ 63 / 2 ^ 52) (b % 2 ^ 52)
unfolding of_bits
fields_of b = refl

pub read : (x : Float) → T (fits binary64 x) → T (positive x) → Read x (to_bits binary64 x)
read x f p =
    let b = to_bits binary64 x in
    let e : of_fields binary64 (leb (2 ^ 63) b) (b % 2 ^ 63 / 2 ^ 52) (b % 2 ^ 52) ≡ x = sym (fields_of b) ∙ of_bits-to_bits binary64 x f in
    let w : Fields (leb (2 ^ 63) b) (b % 2 ^ 63 / 2 ^ 52) (b % 2 ^ 52) = at_fields _ _ _ (subst (λ (z : Float). T (positive z)) (sym e) p) in
    let l : b < 2 ^ 63 = leb-false (2 ^ 63) b w.sign in
    let m : b % 2 ^ 63 ≡ b = mod-eq_of_lt l in
    let n = w.low in
    record {
      exponent = omega (arith, m, l, lower (b % 2 ^ 63 / 2 ^ 52) w.low (omega arith));
      value = subst (λ (z : ℕ). HasValue x false (units_at (z / 2 ^ 52) (b % 2 ^ 52)) (2 ^ 1074)) m (subst (λ (z : Float). HasValue z false (units_at (b % 2 ^ 63 / 2 ^ 52) (b % 2 ^ 52)) (2 ^ 1074)) e w.value);
    }
  where
    lower : (E : ℕ) → (E ≡ 2047 → ⊥) → E ≤ 2047 → E ≤ 2046
    lower E n h = omega arith

-- a subnormal one is not zero
pub read_pos : (x : Float) (b : ℕ) → T (positive x) → Read x b → b / 2 ^ 52 ≡ 0 → 0 < b % 2 ^ 52
read_pos x b p r e = value_pos x (b % 2 ^ 52) (2 ^ 1074) p (pow_pos 1074) (subst (λ (z : ℕ). HasValue x false (units_at z (b % 2 ^ 52)) (2 ^ 1074)) e r.value)

-- ---- the pattern j * 2 ^ 52 + q is q * 2 ^ j units
pub record Made (n q j : ℕ) : Type 0 where
  pub no_nan : T (not (nan_bits binary64 n))
  pub value : HasValue (of_bits binary64 n) false (q * 2 ^ j) (2 ^ 1074)

pub made_fields : (n E t : ℕ) → n < 2 ^ 63 → n / 2 ^ 52 ≡ suc E → n % 2 ^ 52 ≡ t → E < 2046 → HasValue (of_bits binary64 n) false ((2 ^ 52 + t) * 2 ^ E) (2 ^ 1074)
made_fields n E t l a b h =
    let s : leb (2 ^ 63) n ≡ false = lt-leb (2 ^ 63) n l in
    let m : n % 2 ^ 63 ≡ n = mod-eq_of_lt l in
    let e : of_bits binary64 n ≡ of_fields binary64 false (suc E) t =
    fields_of n ∙ ap (λ (z : Bool). of_fields binary64 z (n % 2 ^ 63 / 2 ^ 52) (n % 2 ^ 52)) s ∙ ap (λ (z : ℕ). of_fields binary64 false (z / 2 ^ 52) (n % 2 ^ 52)) m ∙ ap (λ (z : ℕ). of_fields binary64 false z (n % 2 ^ 52)) a ∙ ap (λ (z : ℕ). of_fields binary64 false (suc E) z) b in
    subst (λ (z : Float). HasValue z false ((2 ^ 52 + t) * 2 ^ E) (2 ^ 1074)) (sym e) (normal_val false E t (ne_eqb (suc E) 2047 (λ h'. omega arith)))

pub made : (n q j : ℕ) → n ≡ j * 2 ^ 52 + q → 2 ^ 52 ≤ q → q ≤ 2 ^ 53 → j ≤ 1533 → Made n q j
made n q j e lo hi h = record {
  no_nan = subst (λ (b : Bool). T (not b)) (sym (nan_bits_above binary64 n ∙ ap (λ (z : ℕ). ltb (2047 * 2 ^ 52) z) (mod-eq_of_lt l) ∙ le-ltb (2047 * 2 ^ 52) n (omega arith))) tt;
  value = elim (eq-or-lt_of_le hi) [
    | inl d ↦ subst (λ (z : ℕ). HasValue (of_bits binary64 n) false z (2 ^ 1074)) (scaled d) (made_fields n (suc j) 0 l (omega arith) (omega arith) (omega arith))
    | inr d ↦ subst (λ (z : ℕ). HasValue (of_bits binary64 n) false (z * 2 ^ j) (2 ^ 1074)) (back lo) (made_fields n j (q - 2 ^ 52) l (omega arith) (omega arith) (omega arith))
  ];
}
  where
    l : n < 2 ^ 63
    l = omega arith

    back : 2 ^ 52 ≤ q → 2 ^ 52 + (q - 2 ^ 52) ≡ q
    back g = omega arith

    scaled : q ≡ 2 ^ 53 → (2 ^ 52 + 0) * 2 ^ suc j ≡ q * 2 ^ j
    scaled d = let p : 2 ^ suc j ≡ 2 ^ j * 2 = pow-suc 2 j in omega (arith, ap (λ (z : ℕ). z * 2 ^ j) d)
