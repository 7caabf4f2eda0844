-- The column of a double by the fields of its pattern. Assumes nothing.
use mathlib.Core.Path.{◌≡◌, refl, sym, ap, ◌∙◌, subst}
use mathlib.Core.Bool.{Bool, true, false, cond}
use Prim.Native.Nat.{ℕ, zero, suc, ◌+◌, ◌*◌, ◌/◌, ◌%◌, ◌^◌, ◌≤◌}
use native.Mathlib.Nat.{mul-one, mul_right_comm, mul-le-mul_left, mul-le-mul_right, le_refl, le_trans, le_of_eq}
use mathlib.Core.Logic.{inl, inr}
use native.Mathlib.Omega.{arith}
use lib.Dec.{T, leb, eqb, lit<}
use lib.ListN.{length}
use lib.Pow.{pow_pos, pow_mono}
use lib.Ieee.{Float, nan, inf, fin, binary64, up, down, fits, odd, of_fields, of_bits, to_bits, is_nan}
use lib.Ieee.Bits.{of_bits-to_bits}
use lib.Ieee.Exact.{HasValue, odd_sign}
use lib.Ieee.Fits.{down_pos}
use lib.Ieee.Nearest.{closest, closest_same, closest_mono}
use borrow.Author.Tests.{ne_eqb, eq-eqb}
use Rattle.lists.proofs.Counting.{lt_or_le, eq_or_ne}
use Rattle.float64.specs.Pattern.{bits_of}
use Rattle.decimals.specs.Decimals.{in_millionths, six_places, stars, fitted, decimal_column}
use Rattle.decimals.specs.Sizes.{units_of, size_at}
use Rattle.decimals.proofs.Sizes.{in_reach, size_large}
use Rattle.decimals.proofs.Texts.{too_many, length-fitted}

-- a finite value: its size in millionths is that of its units
of_value : (x : Float) (s : Bool) (u : ℕ) → HasValue x s u (2 ^ 1074) → decimal_column x ≡ fitted (six_places s (closest (u * 10 ^ 6) (2 ^ 1074)))
unfolding decimal_column in_millionths
of_value nan s u v = absurd v
of_value (inf t) s u v = absurd v
of_value (fin t m e) s u v =
    let n = closest (m * up e * 10 ^ 6) (down e) in
    let c : m * up e * 10 ^ 6 * 2 ^ 1074 ≡ u * 10 ^ 6 * down e =
    mul_right_comm (m * up e) (10 ^ 6) (2 ^ 1074) ∙ ap (λ (z : ℕ). z * 10 ^ 6) v.1 ∙ mul_right_comm u (down e) (10 ^ 6) in
    ap (λ (b : Bool). fitted (six_places b n)) v.0
    ∙ ap (λ (z : ℕ). fitted (six_places s z)) (closest_same (m * up e * 10 ^ 6) (down e) (u * 10 ^ 6) (2 ^ 1074) (down_pos e) (pow_pos 1074) c)

-- the value of fields that are neither an infinity's nor a NaN's
field_value : (s : Bool) (E t : ℕ) → (E ≡ 2047 → ⊥) → HasValue (of_fields binary64 s E t) s (units_of E t) (2 ^ 1074)
unfolding of_fields
field_value s zero t h = subst (λ (z : ℕ). HasValue (odd 53 s t 0 1074) s z (2 ^ 1074)) (mul-one t) (odd_sign 53 s t 0 1074)
field_value s (suc E) t h =
    subst (λ (b : Bool). HasValue (cond b (cond (eqb t 0) (inf s) nan) (odd 53 s (2 ^ 52 + t) E 1074)) s ((2 ^ 52 + t) * 2 ^ E) (2 ^ 1074)) (sym (ne_eqb (suc E) 2047 h)) (odd_sign 53 s (2 ^ 52 + t) E 1074)

-- an infinity or a NaN
no_value : (s : Bool) (E t : ℕ) → E ≡ 2047 → decimal_column (of_fields binary64 s E t) ≡ stars
unfolding of_fields decimal_column
no_value s zero t h = absurd (omega arith)
no_value s (suc E) t h = ap (λ (b : Bool). decimal_column (cond b (cond (eqb t 0) (inf s) nan) (odd 53 s (2 ^ 52 + t) E 1074))) (eq-eqb (suc E) 2047 h) ∙ both (eqb t 0)
  where
    both : (b : Bool) → decimal_column (cond b (inf s) nan) ≡ stars
    both true = refl
    both false = refl

-- from 2 ^ 44 on there are too many millionths
large : (E t : ℕ) → 1067 ≤ E → 10 ^ 19 ≤ closest (units_of E t * 10 ^ 6) (2 ^ 1074)
large zero t h = absurd (omega arith)
large (suc E) t h =
    let a : 2 ^ 44 * 2 ^ 1074 ≤ (2 ^ 52 + t) * 2 ^ E =
    le_trans (le_of_eq eleven) (le_trans (mul-le-mul_left (2 ^ 52) (pow_mono {i = 1066} {j = E} (omega arith))) (mul-le-mul_right (2 ^ E) (more t))) in
    closest_mono (10 ^ 19) 1 ((2 ^ 52 + t) * 2 ^ E * 10 ^ 6) (2 ^ 1074) (lit< tt) (pow_pos 1074) (enough ((2 ^ 52 + t) * 2 ^ E) (2 ^ 1074) a)
  where
    eleven : 2 ^ 44 * 2 ^ 1074 ≡ 2 ^ 52 * 2 ^ 1066
    eleven = refl

    more : (t : ℕ) → 2 ^ 52 ≤ 2 ^ 52 + t
    more t = omega arith

    enough : (u p : ℕ) → 2 ^ 44 * p ≤ u → 10 ^ 19 * p ≤ u * 10 ^ 6 * 1
    enough u p a = omega arith

pub column_at : (s : Bool) (E t : ℕ) → decimal_column (of_fields binary64 s E t) ≡ fitted (six_places s (size_at E t))
column_at s E t = elim (eq_or_ne E 2047) [
  | inl e ↦ no_value s E t e ∙ many s E t (omega arith)
  | inr n ↦
      elim (lt_or_le E 1067) [
        | inl l ↦ of_value (of_fields binary64 s E t) s (units_of E t) (field_value s E t n) ∙ ap (λ (z : ℕ). fitted (six_places s z)) (sym (in_reach E t l))
        | inr l ↦
            of_value (of_fields binary64 s E t) s (units_of E t) (field_value s E t n)
            ∙ sym (too_many s (closest (units_of E t * 10 ^ 6) (2 ^ 1074)) (large E t l))
            ∙ many s E t l
      ]
]
  where
    many : (s : Bool) (E t : ℕ) → 1067 ≤ E → stars ≡ fitted (six_places s (size_at E t))
    many s E t l = too_many s (10 ^ 19) (le_refl (10 ^ 19)) ∙ ap (λ (z : ℕ). fitted (six_places s z)) (size_large E t l)

-- ---- the pattern of a double
pub pattern : (x : Float) → bits_of x ≡ to_bits binary64 x
unfolding bits_of is_nan to_bits
pattern nan = refl
pattern (inf s) = refl
pattern (fin s m e) = refl

pub column_of_bits : (x : Float) (b : ℕ) → T (fits binary64 x) → b ≡ bits_of x → decimal_column x ≡ fitted (six_places (leb (2 ^ 63) b) (size_at (b % 2 ^ 63 / 2 ^ 52) (b % 2 ^ 63 % 2 ^ 52)))
unfolding of_bits
column_of_bits x b f e =
    let p : b ≡ to_bits binary64 x = e ∙ pattern x in
    ap decimal_column (sym (of_bits-to_bits binary64 x f) ∙ ap (of_bits binary64) (sym p))
    ∙ column_at (leb (2 ^ 63) b) (b % 2 ^ 63 / 2 ^ 52) (b % 2 ^ 52)
    ∙ ap (λ (z : ℕ). fitted (six_places (leb (2 ^ 63) b) (size_at (b % 2 ^ 63 / 2 ^ 52) z))) (cut b)
  where
    cut : (n : ℕ) → n % 2 ^ 52 ≡ n % 2 ^ 63 % 2 ^ 52
    cut n = omega arith

-- ---- as many bytes as there are columns
pub length_column : (x : Float) → length (decimal_column x) ≡ 21
unfolding decimal_column
length_column nan = refl
length_column (inf s) = refl
length_column (fin s m e) = length-fitted (six_places s (in_millionths m e))
