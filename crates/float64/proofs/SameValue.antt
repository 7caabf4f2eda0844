-- Two doubles of one value are one double, and a double is what its own value rounds to. Assumes nothing.
use mathlib.Core.Path.{◌≡◌, refl, sym, ap, ◌∙◌}
use mathlib.Core.Bool.{Bool, true, false, not, ◌&&◌, cond}
use Prim.Native.Nat.{ℕ, zero, suc, ◌+◌, ◌-◌, ◌*◌, ◌/◌, ◌%◌, ◌^◌, ◌≤◌, ◌<◌}
use native.Mathlib.Nat.{le_of_suc-le-suc, lt_of_not-le, not-le_of_lt, lt_of_lt_of_le, lt_of_le_of_lt, le_of_eq, mul-one, mul_comm, mul_assoc, mul_right_comm, mul-lt-mul_of_pos_right, lt_of_mul-lt-mul_right, zero-mul}
use native.Mathlib.Omega.{arith}
use lib.IntN.{ℤ, pos, negsuc}
use lib.Dec.{T, ltb, leb, eqb, ltb→lt, leb→le, eqb→eq, lit<}
use lib.Pow.{pow-add, pow_pos, pow-lt}
use lib.Ieee.{Float, nan, inf, fin, Format, prec, emax, low, hid, top, up, down, size, odd, units, round, neg, fits, to_bits, of_bits}
use lib.Ieee.Bits.{of_bits-to_bits}
use lib.Ieee.Digits.{back}
use lib.Ieee.Fits.{up_pos, down_pos, and_l, and_r, round_is, round-fits}
use lib.Ieee.Exact.{HasValue, round_exact}
use lib.Ieee.Nearest.{div_same}

-- the pattern of n units with the sign s
pattern_at : Format → Bool → ℕ → ℕ
pattern_at f s n = let k = size n - prec f in cond s (top f) 0 + k * hid f + n / 2 ^ k

bits_at : (f : Format) (x : Float) (s : Bool) (a c : ℕ) → 0 < c → HasValue x s a c → to_bits f x ≡ pattern_at f s (a * 2 ^ low f / c)
unfolding to_bits pattern_at
bits_at f nan s a c C v = absurd v
bits_at f (inf t) s a c C v = absurd v
bits_at f (fin t m e) s a c C v =
    let l = 2 ^ low f in
    let n : m * up e * l / down e ≡ a * l / c = div_same (m * up e * l) (down e) (a * l) c (down_pos e) C (mul_right_comm (m * up e) l c ∙ ap (λ (z : ℕ). z * l) v.1 ∙ mul_right_comm a (down e) l) in
    ap (λ (z : ℕ). pattern_at f t z) n ∙ ap (λ (z : Bool). pattern_at f z (a * l / c)) v.0

pub same_value : (f : Format) (x y : Float) (s : Bool) (a c : ℕ) → 0 < c → T (fits f x) → T (fits f y) → HasValue x s a c → HasValue y s a c → x ≡ y
same_value f x y s a c C F G v w =
    sym (of_bits-to_bits f x F) ∙ ap (of_bits f) (bits_at f x s a c C v ∙ sym (bits_at f y s a c C w)) ∙ of_bits-to_bits f y G

-- ---- a value that fits, by its digits and its exponent
pub record Fit (f : Format) (m : ℕ) (e : ℤ) : Type 0 where
  pub short : m < 2 ^ prec f
  pub deep : down e ≤ 2 ^ low f
  pub under : m * up e < 2 ^ suc (emax f) * down e

pub fit : (f : Format) (s : Bool) (m : ℕ) (e : ℤ) → T (fits f (fin s m e)) → Fit f m e
unfolding fits
fit f s zero e t =
    let u : up e * down e ≡ 1 = eqb→eq (up e * down e) 1 t in
    record { short = pow_pos (prec f); deep = deep u; under = under }
  where
    below_one : (a b : ℕ) → 0 < a → a * b ≡ 1 → b ≤ 1
    below_one (suc a) b p h = omega arith
    below_one zero b p h = omega arith

    deep : up e * down e ≡ 1 → down e ≤ 2 ^ low f
    deep u = le_of_eq' (below_one (up e) (down e) (up_pos e) u) (pow_pos (low f))
      where
        le_of_eq' : down e ≤ 1 → 0 < 2 ^ low f → down e ≤ 2 ^ low f
        le_of_eq' a b = omega arith

    under : 0 * up e < 2 ^ suc (emax f) * down e
    under = lt_of_le_of_lt (le_of_eq (zero-mul (up e))) (positive (pow_pos (suc (emax f))) (down_pos e))
      where
        positive : {a b : ℕ} → 0 < a → 0 < b → 0 < a * b
        positive {a} {b} p q = lt_of_le_of_lt (le_of_eq (sym (zero-mul b))) (mul-lt-mul_of_pos_right p q)
fit f s (suc m) e t =
    let a : Bool = eqb (suc m % 2) 1 in
    let b : Bool = ltb (suc m) (2 ^ prec f) in
    let c : Bool = leb (down e) (2 ^ low f) in
    let d : Bool = ltb (suc m * up e) (2 ^ suc (emax f) * down e) in
    record {
      short = ltb→lt (suc m) (2 ^ prec f) (and_r a b (and_l (a && b) c (and_l (a && b && c) d t)));
      deep = leb→le (down e) (2 ^ low f) (and_r (a && b) c (and_l (a && b && c) d t));
      under = ltb→lt (suc m * up e) (2 ^ suc (emax f) * down e) (and_r (a && b && c) d t);
    }

-- the value of a double is rounded to itself
pub exact_fit : (f : Format) (s : Bool) (m : ℕ) (e : ℤ) → Fit f m e → HasValue (round f s (m * up e) (down e)) s (m * up e) (down e)
exact_fit f s m (pos k) h =
    let l = low f in
    round_exact f s (m * 2 ^ k) 1 m (k + l) (lit< tt) h.short
    (lt_of_le_of_lt (le_of_eq (ap (λ (z : ℕ). m * z) (pow-add 2 k l) ∙ sym (mul_assoc m (2 ^ k) (2 ^ l))))
    (lt_of_lt_of_le (mul-lt-mul_of_pos_right h.under (pow_pos l)) (le_of_eq (ap (λ (z : ℕ). z * 2 ^ l) (mul-one (2 ^ suc (emax f))) ∙ mul_comm (2 ^ suc (emax f)) (2 ^ l) ∙ sym (pow-add 2 l (suc (emax f)))))))
    (mul_assoc m (2 ^ k) (2 ^ l) ∙ ap (λ (z : ℕ). m * z) (sym (pow-add 2 k l)) ∙ sym (mul-one (m * 2 ^ (k + l))))
exact_fit f s m (negsuc k) h =
    let l = low f in
    let d : suc k ≤ l = le_of_suc-le-suc (lt_of_not-le (λ (g : suc l ≤ suc k). not-le_of_lt (pow-lt g) h.deep)) in
    let p : 2 ^ (l - suc k) * 2 ^ suc k ≡ 2 ^ l = sym (pow-add 2 (l - suc k) (suc k)) ∙ ap (λ (z : ℕ). 2 ^ z) (back l (suc k) d) in
    round_exact f s (m * 1) (2 ^ suc k) m (l - suc k) (pow_pos (suc k)) h.short
    (lt_of_mul-lt-mul_right (2 ^ suc k)
    (lt_of_le_of_lt (le_of_eq (mul_assoc m (2 ^ (l - suc k)) (2 ^ suc k) ∙ ap (λ (z : ℕ). m * z) p ∙ ap (λ (z : ℕ). z * 2 ^ l) (sym (mul-one m))))
    (lt_of_lt_of_le (mul-lt-mul_of_pos_right h.under (pow_pos l)) (le_of_eq (mul_right_comm (2 ^ suc (emax f)) (2 ^ suc k) (2 ^ l) ∙ ap (λ (z : ℕ). z * 2 ^ suc k) (mul_comm (2 ^ suc (emax f)) (2 ^ l) ∙ sym (pow-add 2 l (suc (emax f)))))))))
    (ap (λ (z : ℕ). z * 2 ^ l) (mul-one m) ∙ ap (λ (z : ℕ). m * z) (sym p) ∙ sym (mul_assoc m (2 ^ (l - suc k)) (2 ^ suc k)))

-- a double is what its own value rounds to
pub round_own : (f : Format) (s : Bool) (m : ℕ) (e : ℤ) → T (fits f (fin s m e)) → round f s (m * up e) (down e) ≡ fin s m e
round_own f s m e F =
    same_value f (round f s (m * up e) (down e)) (fin s m e) s (m * up e) (down e) (down_pos e) (round-fits f s (m * up e) (down e)) F (exact_fit f s m e (fit f s m e F)) (refl, refl)

-- ---- the sign goes through
odd-neg : (d : ℕ) (s : Bool) (q k l : ℕ) → neg (odd d s q k l) ≡ odd d (not s) q k l
unfolding odd neg
odd-neg d s zero k l = refl
odd-neg d s (suc q) k l = refl

units_neg : (f : Format) (s : Bool) (q k : ℕ) → neg (units f s q k) ≡ units f (not s) q k
unfolding units neg
units_neg f s q k = go (ltb (q * 2 ^ k) (2 ^ (low f + suc (emax f))))
  where
    go : (b : Bool) → neg (cond b (odd (suc (prec f)) s q k (low f)) (inf s)) ≡ cond b (odd (suc (prec f)) (not s) q k (low f)) (inf (not s))
    go true = odd-neg (suc (prec f)) s q k (low f)
    go false = refl

pub round-neg : (f : Format) (s : Bool) (a b : ℕ) → neg (round f s a b) ≡ round f (not s) a b
round-neg f s a b = ap neg (round_is f s a b) ∙ units_neg f s _ _ ∙ sym (round_is f (not s) a b)
