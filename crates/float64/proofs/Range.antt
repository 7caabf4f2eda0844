-- Doubles from 0 to a whole number k, zeros of both signs among them: what the operations make of them, and when a product or a quotient is never positive. Assumes nothing.
use Prim.Native.Nat.{ℕ, zero, suc, ◌+◌, ◌-◌, ◌*◌, ◌^◌, ◌≤◌, ◌<◌}
use native.Mathlib.Nat.{add-mul, mul_assoc, mul_comm, zero-mul, mul-mul-mul_comm, mul-le-mul, mul-le-mul_right, mul-pos, le_trans, le_of_eq, zero-lt-suc, suc-mul}
use native.Mathlib.Omega.{arith}
use mathlib.Core.Path.{◌≡◌, refl, sym, ap, ◌∙◌, subst}
use mathlib.Core.Logic.{◌⊎◌, inl, inr, ⊎_elim}
use mathlib.Core.Bool.{Bool, true, false, not, ◌&&◌, true≢false}
use borrow.Author.Tests.{leb-true, ltb-true, ltb-false, le-ltb}
use lib.Dec.{T, eqb, ltb, eqb→eq, eqb-suc-zero}
use lib.IntN.{ℤ, pos}
use lib.Ieee.{Float, nan, inf, fin, binary64, unlike, up, down, of_bits, of_int, round, neg, sum, add, sub, mul, div, lt, le, eq, ne, is_nan}
use lib.Ieee.Back.{round_whole}
use lib.Ieee.Bits.{is_true}
use lib.Ieee.Exact.{HasValue}
use lib.Ieee.Fits.{up_pos, down_pos, and_l}
use lib.Ieee.Order.{round_mono, le_of_values}
use lib.Ieee.Positive.{positive, num, den}
use Rattle.lists.proofs.Counting.{by-test}
use Rattle.float64.specs.Constants.{nought}
use Rattle.float64.specs.Arithmetic.{sum_of}
use Rattle.float64.specs.Choice.{max_of}
use Rattle.float64.proofs.Choosing.{max_is, max_holds}
use Rattle.float64.proofs.Order.{of_LE, le_of_not_lt, le_trans_float}
use Rattle.float64.proofs.SameValue.{round-neg}
use Rattle.float64.proofs.Tests.{no_nan}
use Rattle.float64.proofs.Unit.{unlike_false}
use Rattle.float64.proofs.Values.{le_values}

-- x is a double from 0 to k
pub record UpTo (k : ℕ) (x : Float) : Type 0 where
  pub s : Bool
  pub m : ℕ
  pub e : ℤ
  pub is : x ≡ fin s m e
  pub sign : (s ≡ false) ⊎ (m ≡ 0)
  pub most : m * up e ≤ k * down e

pub wider : (j k : ℕ) (x : Float) → j ≤ k → UpTo j x → UpTo k x
wider j k x h u = record { s = u.s; m = u.m; e = u.e; is = u.is; sign = u.sign; most = le_trans u.most (mul-le-mul_right (down u.e) h) }

pub most_of : (k : ℕ) (x : Float) → UpTo k x → num x ≤ k * den x
most_of k x u = subst (λ (z : Float). num z ≤ k * den z) (sym u.is) u.most

-- ---- by its tests

-- a zero, since the sign is not clear
only : {n : ℕ} → (true ≡ false) ⊎ (n ≡ 0) → n ≡ 0
only o = ⊎_elim (λ z. absurd (true≢false z)) (λ z. z) o

no_sign : (m : ℕ) (e : ℤ) → T (le (of_int binary64 (pos 0)) (fin true m e)) → m ≡ 0
unfolding le lt eq of_int round
no_sign zero e h = refl
no_sign (suc m) e h =
    let q : 0 * down e ≡ suc m * up e * 1 = eqb→eq (0 * down e) (suc m * up e * 1) (and_l (eqb (0 * down e) (suc m * up e * 1)) (eqb (0 * down e) 0) h) in
    let p : 0 < suc m * up e = mul-pos (zero-lt-suc m) (up_pos e) in
    absurd (clash q p)
  where
    clash : 0 * down e ≡ suc m * up e * 1 → 0 < suc m * up e → ⊥
    clash q p = omega arith

zero_is : (m : ℕ) (e : ℤ) → m * up e ≤ 0 * down e → m ≡ 0
zero_is zero e h = refl
zero_is (suc m) e h = absurd (clash h (mul-pos (zero-lt-suc m) (up_pos e)))
  where
    clash : suc m * up e ≤ 0 * down e → 0 < suc m * up e → ⊥
    clash q p = omega arith

none_of : (m : ℕ) (e : ℤ) (k : ℕ) → m ≡ 0 → m * up e ≤ k * down e
none_of m e k z = rw z (let y : 0 * up e ≤ k * down e = omega arith in y)

below_zero : T (le (of_int binary64 (pos 0)) (inf true)) → ⊥
unfolding le lt eq of_int round
below_zero h = h

above_all : (y : Float) (k : ℕ) → HasValue y false k 1 → T (le (inf false) y) → ⊥
unfolding le lt eq
above_all nan k v h = v
above_all (inf s) k v h = v
above_all (fin s m e) k v h = h

not_nan : (y : Float) → T (le nan y) → ⊥
unfolding le lt eq
not_nan y h = h

module _ (k : ℕ) (K : k ≤ 2 ^ 53) where
  at_most : (m : ℕ) (e : ℤ) → T (le (fin false m e) (of_int binary64 (pos k))) → m * up e ≤ k * down e
  unfolding of_int
  at_most m e l =
      let h = leb-true (m * up e * 1) (k * down e) (sym (le_values (m * up e) (down e) k 1 (down_pos e) (omega arith) (fin false m e) (round binary64 false k 1) (refl, refl) (round_whole binary64 false k K)) ∙ is_true (le (fin false m e) (round binary64 false k 1)) l) in
      omega arith

  pub from_range : (x : Float) → T (le (of_int binary64 (pos 0)) x) → T (le x (of_int binary64 (pos k))) → UpTo k x
  unfolding of_int
  from_range nan h l = absurd (not_nan (of_int binary64 (pos k)) l)
  from_range (inf true) h l = absurd (below_zero h)
  from_range (inf false) h l = absurd (above_all (round binary64 false k 1) k (round_whole binary64 false k K) l)
  from_range (fin false m e) h l = record { s = false; m = m; e = e; is = refl; sign = inl refl; most = at_most m e l }
  from_range (fin true m e) h l = let z = no_sign m e h in record { s = true; m = m; e = e; is = refl; sign = inr z; most = none_of m e k z }

  -- a fraction from 0 to k, rounded
  pub rounded : (a b : ℕ) → 0 < b → a ≤ k * b → UpTo k (round binary64 false a b)
  unfolding of_int
  rounded a b p h = from_range (round binary64 false a b) (round_mono binary64 0 1 a b (omega arith) p (omega arith)) (round_mono binary64 a b k 1 p (omega arith) (omega arith))

-- a zero of either sign, rounded
rounded_zero : (s : Bool) (b k : ℕ) → 0 < b → UpTo k (round binary64 s 0 b)
unfolding neg
rounded_zero false b k p = wider 0 k (round binary64 false 0 b) (omega arith) (rounded 0 (omega arith) 0 b p (omega arith))
rounded_zero true b k p =
    let z = rounded 0 (omega arith) 0 b p (omega arith) in
    let n = zero_is z.m z.e z.most in
    record { s = not z.s; m = z.m; e = z.e; is = sym (round-neg binary64 false 0 b) ∙ ap neg z.is; sign = inr n; most = none_of z.m z.e k n }

signed : (k : ℕ) → k ≤ 2 ^ 53 → (s : Bool) (a b : ℕ) → 0 < b → a ≤ k * b → (s ≡ false) ⊎ (a ≡ 0) → UpTo k (round binary64 s a b)
signed k K s a b p h o = ⊎_elim (λ e. rw e (rounded k K a b p h)) (λ e. rw e (rounded_zero s b k p)) o

-- back to its tests
zero-least : (s : Bool) (m : ℕ) (e : ℤ) → (s ≡ false) ⊎ (m ≡ 0) → T (le (of_int binary64 (pos 0)) (fin s m e))
unfolding le lt eq of_int round
zero-least false m e o = of_LE false (0 * down e) false (m * up e * 1) (omega arith)
zero-least true m e o = of_LE false (0 * down e) true (m * up e * 1) (let z : m * up e * 1 ≡ 0 = ap (λ (n : ℕ). n * up e * 1) (only o) ∙ ap (λ (n : ℕ). n * 1) (zero-mul (up e)) in (omega arith, omega arith))

pub above_zero : (x : Float) → T (positive x) → T (le (of_int binary64 (pos 0)) x)
above_zero nan p = absurd p
above_zero (inf s) p = absurd p
above_zero (fin true m e) p = absurd p
above_zero (fin false m e) p = zero-least false m e (inl refl)

minus_below : (m : ℕ) (e : ℤ) → T (le (fin true m e) (of_int binary64 (pos 0)))
unfolding le lt eq of_int round
minus_below m e = of_LE true (m * up e * 1) false (0 * down e) tt

module _ (k : ℕ) (K : k ≤ 2 ^ 53) where
  most_tested : (s : Bool) (m : ℕ) (e : ℤ) → m * up e ≤ k * down e → T (le (fin s m e) (of_int binary64 (pos k)))
  unfolding of_int
  most_tested false m e h = le_of_values (fin false m e) (round binary64 false k 1) (m * up e) (down e) k 1 (down_pos e) (omega arith) (refl, refl) (round_whole binary64 false k K) (omega arith)
  most_tested true m e h = le_trans_float (fin true m e) (round binary64 false 0 1) (round binary64 false k 1) (minus_below m e) (round_mono binary64 0 1 k 1 (omega arith) (omega arith) (omega arith))

  pub to_range : (x : Float) → UpTo k x → T (le (of_int binary64 (pos 0)) x) × T (le x (of_int binary64 (pos k)))
  to_range x u = rw u.is (zero-least u.s u.m u.e u.sign, most_tested u.s u.m u.e u.most)

-- ---- the operations

zero_times : (m e d : ℕ) (s : Bool) → (s ≡ false) ⊎ (m ≡ 0) → (s ≡ false) ⊎ (m * e * d ≡ 0)
zero_times m e d s o = ⊎_elim inl (λ z. inr (ap (λ (x : ℕ). x * e * d) z ∙ ap (λ (x : ℕ). x * d) (zero-mul e) ∙ zero-mul d)) o

both_signs : (s t : Bool) (a b : ℕ) → (s ≡ false) ⊎ (a ≡ 0) → (t ≡ false) ⊎ (b ≡ 0) → (unlike s t ≡ false) ⊎ (a * b ≡ 0)
both_signs s t a b (inl p) (inl q) = inl (ap (λ (z : Bool). unlike z t) p ∙ ap (λ (z : Bool). unlike false z) q)
both_signs s t a b (inr p) q = inr (ap (λ (z : ℕ). z * b) p ∙ zero-mul b)
both_signs s t a b (inl p) (inr q) = inr (ap (λ (z : ℕ). a * z) q ∙ mul_comm a 0 ∙ zero-mul a)

whole_sign : (s : Bool) (m u : ℕ) → (s ≡ false) ⊎ (m ≡ 0) → (s ≡ false) ⊎ (m * u ≡ 0)
whole_sign s m u o = ⊎_elim inl (λ z. inr (ap (λ (x : ℕ). x * u) z ∙ zero-mul u)) o

pub times : (j k : ℕ) (x y : Float) → j * k ≤ 2 ^ 53 → UpTo j x → UpTo k y → UpTo (j * k) (mul binary64 x y)
unfolding mul
times j k x y K u v =
    rw (u.is, v.is)
    (signed (j * k) K (unlike u.s v.s) (u.m * up u.e * (v.m * up v.e)) (down u.e * down v.e) (mul-pos (down_pos u.e) (down_pos v.e))
    (le_trans (mul-le-mul u.most v.most) (le_of_eq (mul-mul-mul_comm j (down u.e) k (down v.e))))
    (both_signs u.s v.s (u.m * up u.e) (v.m * up v.e) (whole_sign u.s u.m (up u.e) u.sign) (whole_sign v.s v.m (up v.e) v.sign)))

module _ (j k a b c : ℕ) (C : 0 < c) (A : a ≤ j * c) (B : b ≤ k * c) (K : j + k ≤ 2 ^ 53) where
  scaled : (j + k) * c ≡ j * c + k * c
  scaled = add-mul j k c

  sum_small : (s t : Bool) → (s ≡ false) ⊎ (a ≡ 0) → (t ≡ false) ⊎ (b ≡ 0) → UpTo (j + k) (sum binary64 s a t b c)
  unfolding sum
  sum_small false false p q = rounded (j + k) K (a + b) c C (let e = scaled in omega arith)
  sum_small true true p q = signed (j + k) K true (a + b) c C (let e = scaled in omega arith) (inr (zeros (only p) (only q)))
    where
      zeros : a ≡ 0 → b ≡ 0 → a + b ≡ 0
      zeros x y = omega arith
  sum_small false true p q =
      by-test (ltb a b)
      (λ h. absurd (none (only q) (ltb-true a b h)))
      (λ h. rw h (rounded (j + k) K (a - b) c C (let e = scaled in omega arith)))
    where
      none : b ≡ 0 → a < b → ⊥
      none x y = omega arith
  sum_small true false p q =
      by-test (ltb a b)
      (λ h. rw h (rounded (j + k) K (b - a) c C (let e = scaled in omega arith)))
      (λ h. rw h (signed (j + k) K (true && ltb b a) (a - b) c C (let e = scaled in omega arith) (inr (none (only p)))))
    where
      none : a ≡ 0 → a - b ≡ 0
      none x = omega arith

crossed : (m e d k c : ℕ) → m * e ≤ k * c → m * e * d ≤ k * (c * d)
crossed m e d k c h = le_trans (mul-le-mul_right d h) (le_of_eq (mul_assoc k c d))

crossed' : (m e d k c : ℕ) → m * e ≤ k * c → m * e * d ≤ k * (d * c)
crossed' m e d k c h = le_trans (crossed m e d k c h) (le_of_eq (ap (λ (z : ℕ). k * z) (mul_comm c d)))

pub plus : (j k : ℕ) (x y : Float) → j + k ≤ 2 ^ 53 → UpTo j x → UpTo k y → UpTo (j + k) (add binary64 x y)
unfolding add
plus j k x y K u v =
    rw (u.is, v.is)
    (sum_small j k (u.m * up u.e * down v.e) (v.m * up v.e * down u.e) (down u.e * down v.e) (mul-pos (down_pos u.e) (down_pos v.e))
    (crossed u.m (up u.e) (down v.e) j (down u.e) u.most)
    (crossed' v.m (up v.e) (down u.e) k (down v.e) v.most)
    K u.s v.s
    (zero_times u.m (up u.e) (down v.e) u.s u.sign)
    (zero_times v.m (up v.e) (down u.e) v.s v.sign))

-- a quotient by what is d or more
pub over : (k d : ℕ) (x y : Float) → k ≤ 2 ^ 53 → T (positive y) → d * den y ≤ num y → UpTo (k * d) x → UpTo k (div binary64 x y)
unfolding div
over k d x nan K p h u = absurd p
over k d x (inf t) K p h u = absurd p
over k d x (fin true n z) K p h u = absurd p
over k d x (fin false zero z) K p h u = absurd p
over k d x (fin false (suc n) z) K p h u =
    rw (u.is, eqb-suc-zero n)
    (signed k K (unlike u.s false) (u.m * up u.e * down z) (suc n * up z * down u.e) (mul-pos (mul-pos (zero-lt-suc n) (up_pos z)) (down_pos u.e))
    (small (u.m * up u.e) (down u.e) (suc n * up z) (down z) u.most h)
    (⊎_elim (λ q. inl (unlike_false u.s ∙ q)) inr (zero_times u.m (up u.e) (down z) u.s u.sign)))
  where
    small : (a b c e : ℕ) → a ≤ k * d * b → d * e ≤ c → a * e ≤ k * (c * b)
    small a b c e g l =
        let q : a * e ≤ k * d * b * e = mul-le-mul_right e g in
        let r : d * e * (k * b) ≤ c * (k * b) = mul-le-mul_right (k * b) l in
        omega arith

-- ---- what is never positive

pub zero_same : of_int binary64 (pos 0) ≡ nought
unfolding of_int round of_bits
zero_same = refl

-- a zero of either sign too
minus_of : (x : Float) → T (le (of_int binary64 (pos 0)) x) → T (le (neg x) (of_int binary64 (pos 0)))
unfolding neg le lt eq of_int round
minus_of nan h = absurd h
minus_of (inf true) h = absurd h
minus_of (inf false) h = tt
minus_of (fin false m e) h = minus_below m e
minus_of (fin true m e) h = most_tested 0 (omega arith) false m e (none_of m e 0 (no_sign m e h))

below_nought : (s : Bool) (a b : ℕ) → 0 < b → (s ≡ true) ⊎ (a ≡ 0) → T (le (round binary64 s a b) nought)
unfolding of_int
below_nought s a b B (inl e) =
    subst (λ (z : Float). T (le (round binary64 s a b) z)) zero_same
    (subst (λ (z : Float). T (le z (of_int binary64 (pos 0)))) (round-neg binary64 false a b ∙ ap (λ (z : Bool). round binary64 z a b) (sym e))
    (minus_of (round binary64 false a b) (round_mono binary64 0 1 a b (omega arith) B (omega arith))))
below_nought s a b B (inr e) = subst (λ (z : Float). T (le (round binary64 s a b) z)) zero_same (rw e (to_range 0 (omega arith) (round binary64 s 0 b) (rounded_zero s b 0 B)).1)

pub neg-neg : (x : Float) → neg (neg x) ≡ x
unfolding neg
neg-neg nan = refl
neg-neg (inf true) = refl
neg-neg (inf false) = refl
neg-neg (fin true m e) = refl
neg-neg (fin false m e) = refl

-- x is from -k to 0
pub negated : (k : ℕ) (x : Float) (u : UpTo k (neg x)) → x ≡ fin (not u.s) u.m u.e
unfolding neg
negated k x u = sym (neg-neg x) ∙ ap neg u.is

-- of x from -j to 0 and t from 0 to k
pub never_times : (j k : ℕ) (x t : Float) → UpTo j (neg x) → UpTo k t → T (le (mul binary64 x t) nought)
unfolding mul
never_times j k x t u v =
    rw (negated j x u, v.is)
    (below_nought (unlike (not u.s) v.s) (u.m * up u.e * (v.m * up v.e)) (down u.e * down v.e) (mul-pos (down_pos u.e) (down_pos v.e))
    (⊎_elim (λ q. inl (opposite u.s v.s q)) inr (both_signs u.s v.s (u.m * up u.e) (v.m * up v.e) (whole_sign u.s u.m (up u.e) u.sign) (whole_sign v.s v.m (up v.e) v.sign))))
  where
    opposite : (s t : Bool) → unlike s t ≡ false → unlike (not s) t ≡ true
    opposite true true q = refl
    opposite true false q = absurd (true≢false q)
    opposite false true q = absurd (true≢false q)
    opposite false false q = refl

-- of t from 0 to k and y above 0
pub never_over : (k : ℕ) (t y : Float) → UpTo k t → T (positive y) → T (le (div binary64 (neg t) y) nought)
unfolding div neg
never_over k t nan u p = absurd p
never_over k t (inf r) u p = absurd p
never_over k t (fin true n z) u p = absurd p
never_over k t (fin false zero z) u p = absurd p
never_over k t (fin false (suc n) z) u p =
    rw (u.is, eqb-suc-zero n)
    (below_nought (unlike (not u.s) false) (u.m * up u.e * down z) (suc n * up z * down u.e) (mul-pos (mul-pos (zero-lt-suc n) (up_pos z)) (down_pos u.e))
    (⊎_elim (λ q. inl (unlike_false (not u.s) ∙ ap not q)) inr (zero_times u.m (up u.e) (down z) u.s u.sign)))

-- ---- differences

-- t - y of what lies from 0 up, raised to 0
module _ (j a b c : ℕ) (C : 0 < c) (A : a ≤ j * c) (K : j ≤ 2 ^ 53) where
  minus_sum : (s t : Bool) → (s ≡ false) ⊎ (a ≡ 0) → (t ≡ false) ⊎ (b ≡ 0) → UpTo j (sum binary64 s a (not t) b c) ⊎ T (le (sum binary64 s a (not t) b c) nought)
  unfolding sum
  minus_sum false false p q = by-test (ltb a b) (λ h. rw h (inr (below_nought true (b - a) c C (inl refl)))) (λ h. rw h (inl (rounded j K (a - b) c C (omega arith))))
  minus_sum false true p q = inl (rounded j K (a + b) c C (let z = only q in omega arith))
  minus_sum true false p q = inr (below_nought true (a + b) c C (inl refl))
  minus_sum true true p q =
      let z = only p in
      let y = only q in
      by-test (ltb a b) (λ h. rw h (inl (rounded j K (b - a) c C (omega arith)))) (λ h. rw h (inl (signed j K (true && ltb b a) (a - b) c C (omega arith) (inr (omega arith)))))

nought-up_to : (k : ℕ) → UpTo k nought
unfolding of_bits
nought-up_to k = record { s = false; m = 0; e = pos 0; is = refl; sign = inl refl; most = omega arith }

nought-real : T (not (is_nan nought))
unfolding of_bits is_nan
nought-real = tt

raised : (k : ℕ) (x : Float) → k ≤ 2 ^ 53 → UpTo k x ⊎ T (le x nought) → UpTo k (max_of x nought)
raised k x K (inl u) = max_holds (UpTo k) x nought u (nought-up_to k)
raised k x K (inr h) = rw (max_is x nought)
    (by-test (ne x x)
    (λ n. rw n (nought-up_to k))
    (λ n. by-test (lt x nought)
    (λ l. rw (n, l) (nought-up_to k))
    (λ l. rw (n, l) (level_with_nought n l))))
  where
    level_with_nought : ne x x ≡ false → lt x nought ≡ false → UpTo k x
    level_with_nought n l =
        wider 0 k x (omega arith)
        (from_range 0 (omega arith) x
        (subst (λ (z : Float). T (le z x)) (sym zero_same) (le_of_not_lt x nought (no_nan x n) nought-real l))
        (subst (λ (z : Float). T (le x z)) (sym zero_same) h))

pub minus_raised : (j k : ℕ) (x y : Float) → j ≤ 2 ^ 53 → UpTo j x → UpTo k y → UpTo j (max_of (sub binary64 x y) nought)
unfolding sub add neg
minus_raised j k x y K u v =
    raised j (sub binary64 x y) K
    (rw (u.is, v.is)
    (minus_sum j (u.m * up u.e * down v.e) (v.m * up v.e * down u.e) (down u.e * down v.e) (mul-pos (down_pos u.e) (down_pos v.e))
    (crossed u.m (up u.e) (down v.e) j (down u.e) u.most) K u.s v.s
    (zero_times u.m (up u.e) (down v.e) u.s u.sign)
    (zero_times v.m (up v.e) (down u.e) v.s v.sign)))

-- -x + y and -x - y, of x above 0 and y from 0 up: from below up to 0
module _ (j k a b c : ℕ) (C : 0 < c) (A : a ≤ j * c) (B : b ≤ k * c) where
  less_sum : (t : Bool) → j ≤ 2 ^ 53 → b ≤ a → (t ≡ false) ⊎ (b ≡ 0) → UpTo j (neg (sum binary64 true a t b c))
  unfolding sum
  less_sum true J h q = rw (round-neg binary64 true (a + b) c) (rounded j J (a + b) c C (let z = only q in omega arith))
  less_sum false J h q =
      rw (le-ltb a b h, round-neg binary64 (true && ltb b a) (a - b) c)
      (signed j J (not (ltb b a)) (a - b) c C (omega arith) (by-test (ltb b a) (λ e. inl (ap not e)) (λ e. inr (let z = ltb-false b a e in omega arith))))

  more_sum : (t : Bool) → j + k ≤ 2 ^ 53 → (t ≡ false) ⊎ (b ≡ 0) → UpTo (j + k) (neg (sum binary64 true a (not t) b c))
  unfolding sum
  more_sum false J q = rw (round-neg binary64 true (a + b) c) (rounded (j + k) J (a + b) c C (let e = add-mul j k c in omega arith))
  more_sum true J q =
      wider j (j + k) (neg (sum binary64 true a false b c)) (omega arith) (less_sum false (omega arith) (let z = only q in omega arith) (inl refl))

pub less : (j k : ℕ) (x y : Float) → j ≤ 2 ^ 53 → T (positive x) → UpTo j x → UpTo k y → num y * den x ≤ num x * den y → UpTo j (neg (add binary64 (neg x) y))
unfolding add neg
less j k nan y J p u v h = absurd p
less j k (inf s) y J p u v h = absurd p
less j k (fin true m e) y J p u v h = absurd p
less j k (fin false m e) y J p u v h =
    let l : v.m * up v.e * down e ≤ m * up e * down v.e = subst (λ (z : Float). num z * down e ≤ m * up e * den z) v.is h in
    rw v.is
    (less_sum j k (m * up e * down v.e) (v.m * up v.e * down e) (down e * down v.e) (mul-pos (down_pos e) (down_pos v.e))
    (crossed m (up e) (down v.e) j (down e) (most_of j (fin false m e) u))
    (crossed' v.m (up v.e) (down e) k (down v.e) v.most)
    v.s J l
    (zero_times v.m (up v.e) (down e) v.s v.sign))

pub more : (j k : ℕ) (x y : Float) → j + k ≤ 2 ^ 53 → T (positive x) → UpTo j x → UpTo k y → UpTo (j + k) (neg (sub binary64 (neg x) y))
unfolding sub add neg
more j k nan y J p u v = absurd p
more j k (inf s) y J p u v = absurd p
more j k (fin true m e) y J p u v = absurd p
more j k (fin false m e) y J p u v =
    rw v.is
    (more_sum j k (m * up e * down v.e) (v.m * up v.e * down e) (down e * down v.e) (mul-pos (down_pos e) (down_pos v.e))
    (crossed m (up e) (down v.e) j (down e) (most_of j (fin false m e) u))
    (crossed' v.m (up v.e) (down e) k (down v.e) v.most)
    v.s J
    (zero_times v.m (up v.e) (down e) v.s v.sign))

-- ---- a sum of n numbers, each from 0 to k
pub sum-up_to : (k : ℕ) (f : ℕ → Float) (n : ℕ) → n * k ≤ 2 ^ 53 → ((i : ℕ) → i < n → UpTo k (f i)) → UpTo (n * k) (sum_of f n)
sum-up_to k f zero N h = nought-up_to (0 * k)
sum-up_to k f (suc n) N h =
    subst (λ (z : ℕ). UpTo z (sum_of f (suc n))) (sym (suc-mul n k))
    (plus (n * k) k (sum_of f n) (f n) (let e = suc-mul n k in omega arith) (sum-up_to k f n (let e = suc-mul n k in omega arith) (λ i l. h i (omega arith))) (h n (omega arith)))
