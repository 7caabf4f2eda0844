-- How many digits a number has, whatever the limit on them, and those behind a point. Assumes nothing.
use mathlib.Core.Path.{◌≡◌, refl, sym, ap, ◌∙◌}
use mathlib.Core.Logic.{inl, inr}
use mathlib.Core.Bool.{Bool, true, false, cond}
use mathlib.Core.List.{List, [], ◌∷◌, ◌++◌, append_assoc, append-nil}
use Prim.Native.Nat.{ℕ, zero, suc, ◌+◌, ◌*◌, ◌/◌, ◌%◌, ◌^◌, ◌≤◌, ◌<◌}
use native.Mathlib.Nat.{pow-suc, pow-succ', div-one, div-div-eq-div-mul, pow-le-pow_right, lt_of_lt_of_le, le-div_iff_mul-le, mul_assoc, zero-add, suc-add}
use native.Mathlib.Omega.{arith}
use lib.Dec.{ltb}
use lib.ListN.{length, length-append}
use borrow.Author.Tests.{ltb-true, ltb-false, le-ltb, lt-ltb}
use Rattle.lists.proofs.Counting.{lt_or_le}
use Rattle.printed_numbers.specs.Printed.{numeral, digits_of, last_digits}
use Rattle.printed_numbers.proofs.Justified.{shorter}
use Rattle.column_claims.proofs.Spelled.{few_digits}
use Rattle.decimals.specs.Decimals.{all_digits}

-- one digit more where n is 10 or more
more : (k n : ℕ) → 10 ≤ n → numeral (suc k) n ≡ numeral k (n / 10) ++ ((48 + n % 10) ∷ [])
more k n h = ap (λ (b : Bool). cond b ((48 + n) ∷ []) (numeral k (n / 10) ++ ((48 + n % 10) ∷ []))) (le-ltb n 10 h)

single : (k n : ℕ) → n < 10 → numeral (suc k) n ≡ (48 + n) ∷ []
single k n h = ap (λ (b : Bool). cond b ((48 + n) ∷ []) (numeral k (n / 10) ++ ((48 + n % 10) ∷ []))) (lt-ltb n 10 h)

ten_at_least : (w n : ℕ) → 10 ^ suc w ≤ n → 10 ≤ n
ten_at_least w n h = omega (arith, pow-suc 10 w, pow-le-pow_right {n = 10} (omega arith) {i = 0} {j = w} (omega arith))

-- ---- at least as many as the power of ten that is reached
many : (k w n : ℕ) → w < k → 10 ^ w ≤ n → suc w ≤ length (numeral k n)
many zero w n l h = absurd (omega arith)
many (suc k) zero n l h = go (ltb n 10) refl
  where
    go : (b : Bool) → ltb n 10 ≡ b → 1 ≤ length (numeral (suc k) n)
    go true e = rw (single k n (ltb-true n 10 e)) (omega arith)
    go false e = rw (more k n (ltb-false n 10 e), length-append) (omega arith)
many (suc k) (suc w) n l h =
    let t : 10 ≤ n = ten_at_least w n h in
    let d : 10 ^ w ≤ n / 10 = (le-div_iff_mul-le {k = 10} (omega arith)).1 (rw pow-suc at h) in
    let r : suc w ≤ length (numeral k (n / 10)) = many k w (n / 10) (omega arith) d in
    rw (more k n t, length-append) (omega arith)

pub all_many : (w n : ℕ) → w < 316 → 10 ^ w ≤ n → suc w ≤ length (all_digits n)
unfolding all_digits
all_many w n l h = many 316 w n l h

-- ---- the limit changes nothing where it is not reached
same : (k j n : ℕ) → n < 10 ^ suc k → n < 10 ^ suc j → numeral (suc k) n ≡ numeral (suc j) n
same zero j n h g = single zero n h ∙ sym (single j n h)
same (suc k) zero n h g = single (suc k) n g ∙ sym (single zero n g)
same (suc k) (suc j) n h g = go (ltb n 10) refl (same k j (n / 10) (shorter n (suc k) h) (shorter n (suc j) g))
  where
    go : (b : Bool) → ltb n 10 ≡ b → numeral (suc k) (n / 10) ≡ numeral (suc j) (n / 10) → numeral (suc (suc k)) n ≡ numeral (suc (suc j)) n
    go true e r = let l = ltb-true n 10 e in single (suc k) n l ∙ sym (single (suc j) n l)
    go false e r =
        let l = ltb-false n 10 e in
        more (suc k) n l ∙ ap (λ (z : List ℕ). z ++ ((48 + n % 10) ∷ [])) r ∙ sym (more (suc j) n l)

pub all_small : (n : ℕ) → n < 10 ^ 20 → all_digits n ≡ digits_of n
unfolding all_digits digits_of
all_small n h = same 315 19 n (lt_of_lt_of_le h (pow-le-pow_right {n = 10} (omega arith) {i = 20} {j = 316} (omega arith))) h

-- ---- just as many
pub digit_count : (k n : ℕ) → k < 20 → n < 10 ^ suc k → (0 < k → 10 ^ k ≤ n) → length (digits_of n) ≡ suc k
unfolding digits_of
digit_count k n l h g = omega (arith, few_digits (suc k) n (omega arith) h, at_least k l g)
  where
    at_least : (k : ℕ) → k < 20 → (0 < k → 10 ^ k ≤ n) → suc k ≤ length (numeral 20 n)
    at_least zero l g = go (ltb n 10) refl
      where
        go : (b : Bool) → ltb n 10 ≡ b → 1 ≤ length (numeral 20 n)
        go true e = rw (single 19 n (ltb-true n 10 e)) (omega arith)
        go false e = rw (more 19 n (ltb-false n 10 e), length-append) (omega arith)
    at_least (suc k) l g = many 20 (suc k) n l (g (omega arith))

-- ---- the digits of a number, and its last ones
pub peel : (p k n : ℕ) → 10 ^ p ≤ n → numeral (p + k) n ≡ numeral k (n / 10 ^ p) ++ last_digits p n
peel zero k n h = ap (λ (z : ℕ). numeral z n) (zero-add k) ∙ sym (append-nil (numeral k (n / 10 ^ 0)) ∙ ap (numeral k) (div-one n))
peel (suc p) k n h =
    let d : 10 ^ p ≤ n / 10 = (le-div_iff_mul-le {k = 10} (omega arith)).1 (rw pow-suc at h) in
    let e : n / 10 / 10 ^ p ≡ n / 10 ^ suc p = div-div-eq-div-mul n 10 (10 ^ p) ∙ ap (λ (z : ℕ). n / z) (sym (pow-succ' 10 p)) in
    ap (λ (z : ℕ). numeral z n) (suc-add p k)
    ∙ more (p + k) n (ten_at_least p n h)
    ∙ ap (λ (z : List ℕ). z ++ ((48 + n % 10) ∷ [])) (peel p k (n / 10) d ∙ ap (λ (z : ℕ). numeral k z ++ last_digits p (n / 10)) e)
    ∙ append_assoc (numeral k (n / 10 ^ suc p)) (last_digits p (n / 10)) ((48 + n % 10) ∷ [])

pub last_behind : (p a n : ℕ) → last_digits p (a * 10 ^ p + n) ≡ last_digits p n
last_behind zero a n = refl
last_behind (suc p) a n =
    let s : a * 10 ^ suc p ≡ 10 * (a * 10 ^ p) = ap (λ (z : ℕ). a * z) (pow-suc 10 p) ∙ ten a (10 ^ p) in
    let d : (a * 10 ^ suc p + n) / 10 ≡ a * 10 ^ p + n / 10 = omega arith in
    let m : (a * 10 ^ suc p + n) % 10 ≡ n % 10 = omega arith in
    ap (λ (z : ℕ). last_digits p z ++ ((48 + (a * 10 ^ suc p + n) % 10) ∷ [])) d
    ∙ ap (λ (z : ℕ). last_digits p (a * 10 ^ p + n / 10) ++ ((48 + z) ∷ [])) m
    ∙ ap (λ (z : List ℕ). z ++ ((48 + n % 10) ∷ [])) (last_behind p a (n / 10))
  where
    ten : (a b : ℕ) → a * (b * 10) ≡ 10 * (a * b)
    ten a b = omega (arith, mul_assoc a b 10)

-- ---- the power of ten that is not above a number of 12 digits
pub log_below : (n k : ℕ) → n < 10 ^ 12 → 10 ^ k ≤ n → k < 12
log_below n k h l = elim (lt_or_le k 12) [ inl g ↦ g | inr g ↦ absurd (omega (arith, pow-le-pow_right {n = 10} (omega arith) {i = 12} {j = k} g)) ]

pub log_digits : (n k : ℕ) → n < 10 ^ 12 → 10 ^ k ≤ n → n < 10 * 10 ^ k → length (digits_of n) ≡ suc k
log_digits n k h l g = digit_count k n (omega (arith, log_below n k h l)) (omega (arith, pow-suc 10 k)) (λ p. l)
