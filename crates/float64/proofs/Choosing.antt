-- The definitions of `max`, `min`, `abs` and `clamp` as the code's tests find them. Assumes nothing.
use mathlib.Core.Path.{◌≡◌, refl, sym, ap, ◌∙◌, subst}
use mathlib.Core.Bool.{Bool, true, false, ◌||◌, cond, true≢false}
use Prim.Native.Nat.{ℕ, zero, suc, ◌+◌, ◌-◌, ◌*◌, ◌≤◌, ◌<◌}
use native.Mathlib.Nat.{mul-pos, zero-lt-suc}
use native.Mathlib.Omega.{arith}
use borrow.Author.Tests.{le-ltb}
use lib.IntN.{ℤ, pos}
use lib.Dec.{T}
use lib.Ieee.{Float, nan, inf, fin, binary64, up, down, is_nan, lt, le, eq, ne, neg, of_bits, round, sum, add, sub, fits}
use lib.Ieee.Fits.{up_pos}
use Rattle.float64.specs.Constants.{nought}
use Rattle.float64.specs.Choice.{max_of, min_of, abs_of, clamp_of}
use Rattle.lists.proofs.Counting.{by-test}
use Rattle.float64.proofs.Order.{lt_or_eq, of_LE, lt_not_le}
use Rattle.float64.proofs.SameValue.{round_own}
use Rattle.float64.proofs.Tests.{ne_self, lt-nan, nan-lt}

-- a test that fails wherever b is NaN makes the test of b needless
needless : (n m t : Bool) (a b : Float) → (T m → t ≡ false) → cond n b (cond m a (cond t b a)) ≡ cond n b (cond t b a)
needless true m t a b h = refl
needless false false t a b h = refl
needless false true t a b h = rw (h tt)

pub max_is : (a b : Float) → max_of a b ≡ cond (ne a a) b (cond (lt a b) b a)
unfolding max_of
max_is a b = needless (is_nan a) (is_nan b) (lt a b) a b (lt-nan a b) ∙ ap (λ (n : Bool). cond n b (cond (lt a b) b a)) (sym (ne_self a))

either : (P : Float → Type 0) (t : Bool) (a b : Float) → P a → P b → P (cond t a b)
either P true a b p q = p
either P false a b p q = q

-- what holds of both numbers holds of the larger, and what holds of all three of the clamped
pub max_holds : (P : Float → Type 0) (a b : Float) → P a → P b → P (max_of a b)
max_holds P a b p q = rw (max_is a b) (either P (ne a a) b (cond (lt a b) b a) q (either P (lt a b) b a q p))

no_le-nan : (x : Float) → T (le x nan) → ⊥
unfolding le lt eq
no_le-nan nan h = h
no_le-nan (inf s) h = h
no_le-nan (fin s m e) h = h

-- the larger is the first where the second is no larger
pub max_first : (a b : Float) → T (le b a) → max_of a b ≡ a
unfolding is_nan
max_first a b h =
    max_is a b ∙ rw (ne_self a)
    (by-test (is_nan a)
    (λ n. absurd (is_nan_lem a h n))
    (λ n. rw n (by-test (lt a b) (λ l. absurd (lt_not_le a b l h)) (λ l. rw l))))
  where
    is_nan_lem : (a : Float) → T (le b a) → is_nan a ≡ true → ⊥
    is_nan_lem nan h n = no_le-nan b h
    is_nan_lem (inf s) h n = true≢false (sym n)
    is_nan_lem (fin s m e) h n = true≢false (sym n)

pub min_is : (a b : Float) → min_of a b ≡ cond (ne a a) b (cond (lt b a) b a)
unfolding min_of
min_is a b = needless (is_nan a) (is_nan b) (lt b a) a b (nan-lt b a) ∙ ap (λ (n : Bool). cond n b (cond (lt b a) b a)) (sym (ne_self a))

pub clamp_is : (x low high : Float) → clamp_of x low high ≡ (let y = cond (lt x low) low x in cond (lt high y) high y)
unfolding clamp_of is_nan
clamp_is nan low high = rw (nan-lt nan low tt, lt-nan high nan tt)
clamp_is (inf s) low high = refl
clamp_is (fin s m e) low high = refl

pub clamp_holds : (P : Float → Type 0) (x low high : Float) → P x → P low → P high → P (clamp_of x low high)
clamp_holds P x low high p q r = rw (clamp_is x low high) (either P (lt high (cond (lt x low) low x)) high (cond (lt x low) low x) r (either P (lt x low) low x q p))

fits_plus : (m : ℕ) (e : ℤ) → T (fits binary64 (fin true m e)) → T (fits binary64 (fin false m e))
unfolding fits
fits_plus zero e F = F
fits_plus (suc m) e F = F

-- 0 - x of an x that is not above 0
pub abs_below : (x : Float) → T (fits binary64 x) → le x nought ≡ true → abs_of x ≡ sub binary64 nought x
unfolding abs_of le of_bits sub add neg sum
abs_below nan F h = absurd (true≢false (sym h))
abs_below (inf true) F h = refl
abs_below (inf false) F h = absurd (true≢false (sym h))
abs_below (fin true m e) F h =
    let a : m * up e ≡ 0 * down e + m * up e * 1 = omega arith in
    let b : down e ≡ 1 * down e = omega arith in
    sym (round_own binary64 false m e (fits_plus m e F)) ∙ (λ t. round binary64 false (a t) (b t))
abs_below (fin false zero e) F h =
    let a : 0 * up e ≡ 0 * down e - 0 * up e * 1 = omega arith in
    let b : down e ≡ 1 * down e = omega arith in
    rw (le-ltb (0 * down e) (0 * up e * 1) (omega arith)) (sym (round_own binary64 false 0 e F) ∙ (λ t. round binary64 false (a t) (b t)))
abs_below (fin false (suc m) e) F h =
    let z : suc m * up e * 1 ≤ 0 * down e = lt_or_eq (suc m * up e * 1) (0 * down e) true (subst T (sym h) tt) in
    let p : 0 < suc m * up e = mul-pos (zero-lt-suc m) (up_pos e) in
    absurd (omega arith)

pub abs_above : (x : Float) → le x nought ≡ false → abs_of x ≡ x
unfolding abs_of le of_bits
abs_above nan h = refl
abs_above (inf true) h = absurd (true≢false h)
abs_above (inf false) h = refl
abs_above (fin true m e) h = absurd (not_below (of_LE true (m * up e * 1) false (0 * down e) tt))
  where
    not_below : T (lt (fin true m e) (fin false 0 (pos 0)) || eq (fin true m e) (fin false 0 (pos 0))) → ⊥
    not_below t = subst T h t
abs_above (fin false m e) h = refl
