-- The size of a double in millionths, as the code works it out from the pattern's fields. Assumes nothing.
use mathlib.Core.Path.{◌≡◌, sym, ap, ◌∙◌, subst}
use mathlib.Core.Bool.{Bool, cond}
use Prim.Native.Nat.{ℕ, zero, suc, ◌+◌, ◌-◌, ◌*◌, ◌^◌, ◌≤◌, ◌<◌}
use native.Mathlib.Nat.{mul_assoc, mul_comm, mul_left_comm, mul_right_comm, mul-pos}
use native.Mathlib.Omega.{arith}
use lib.Dec.{lit<}
use lib.Pow.{pow_pos, pow-add}
use lib.Ieee.{nearest}
use lib.Ieee.Digits.{back}
use lib.Ieee.Nearest.{closest, closest_same}
use borrow.Author.Tests.{le-leb, lt-leb}
use Rattle.float64.proofs.Fields.{units_below}
use Rattle.decimals.specs.Sizes.{units_of, size_at}
use Rattle.decimals.proofs.Rounded.{compare_lt, compare_gt, closest_parts}

-- less than half of the divisor
pub none : (n d : ℕ) → n * 2 < d → closest n d ≡ 0
none n d h = closest_parts n d 0 n (omega arith) (omega arith) ∙ ap (nearest 0) (compare_lt (n * 2) d h)

-- more than half of it, and less than the whole
one : (n d : ℕ) → d < n * 2 → n < d → closest n d ≡ 1
one n d h k = closest_parts n d 0 n (omega arith) k ∙ ap (nearest 0) (compare_gt (n * 2) d h)

-- from 2 ^ 44 on
pub size_large : (E t : ℕ) → 1067 ≤ E → 10 ^ 19 ≡ size_at E t
unfolding size_at
size_large E t h = sym (ap (λ (b : Bool). cond b (10 ^ 19) (closest (units_of E t * 10 ^ 6) (2 ^ 1074))) (le-leb 1067 E h))

pub in_reach : (E t : ℕ) → E < 1067 → size_at E t ≡ closest (units_of E t * 10 ^ 6) (2 ^ 1074)
unfolding size_at
in_reach E t h = ap (λ (b : Bool). cond b (10 ^ 19) (closest (units_of E t * 10 ^ 6) (2 ^ 1074))) (lt-leb 1067 E h)

-- below 2 ^ -21
pub size_small : (E t : ℕ) → t < 2 ^ 52 → E < 1002 → 0 ≡ size_at E t
size_small E t l h =
    let u : units_of E t < 2 ^ 1053 = units_below E t 1053 l (omega arith) in
    sym (in_reach E t (omega arith) ∙ none (units_of E t * 10 ^ 6) (2 ^ 1074) (subst (λ (z : ℕ). units_of E t * 10 ^ 6 * 2 < z) (sym (pow-add 2 1053 21)) (few (units_of E t) (2 ^ 1053) u)))
  where
    few : (n p : ℕ) → n < p → n * 10 ^ 6 * 2 < p * 2 ^ 21
    few n p k = omega arith

-- a million is 15,625 times 2 ^ 6
middle : (D m : ℕ) → D ≤ 1065 → closest (m * 2 ^ D * 10 ^ 6) (2 ^ 1074) ≡ closest (15625 * m) (8 * 2 ^ (1065 - D))
middle D m h =
    let Q = 2 ^ (1065 - D) in
    let p : Q * 2 ^ D ≡ 2 ^ 1065 = sym (pow-add 2 (1065 - D) D) ∙ ap (λ (z : ℕ). 2 ^ z) (back 1065 D h) in
    let s : m * 2 ^ D * 10 ^ 6 * (8 * Q) ≡ Q * 2 ^ D * m * (8 * 10 ^ 6) = shuffle m (2 ^ D) Q in
    closest_same (m * 2 ^ D * 10 ^ 6) (2 ^ 1074) (15625 * m) (8 * Q) (pow_pos 1074) (mul-pos (lit< tt) (pow_pos (1065 - D)))
    (s ∙ ap (λ (z : ℕ). z * m * (8 * 10 ^ 6)) p ∙ same m (2 ^ 1065) ∙ ap (λ (z : ℕ). 15625 * m * z) (sym (pow-add 2 1065 9)))
  where
    same : (n p : ℕ) → p * n * (8 * 10 ^ 6) ≡ 15625 * n * (p * 2 ^ 9)
    same n p =
        let t : 15625 * n * (p * 2 ^ 9) ≡ p * (15625 * n * 2 ^ 9) = mul_left_comm (15625 * n) p (2 ^ 9) in
        let u : 15625 * n * 2 ^ 9 ≡ n * 8000000 = omega arith in
        let v : p * (n * 8000000) ≡ p * n * 8000000 = sym (mul_assoc p n 8000000) in
        sym (t ∙ ap (λ (z : ℕ). p * z) u ∙ v)

    shuffle : (a b c : ℕ) → a * b * 10 ^ 6 * (8 * c) ≡ c * b * a * (8 * 10 ^ 6)
    shuffle a b c =
        let t : a * b * 10 ^ 6 * (8 * c) ≡ 8 * (a * b * 10 ^ 6 * c) = mul_left_comm (a * b * 10 ^ 6) 8 c in
        let u : a * b * 10 ^ 6 * c ≡ a * b * c * 10 ^ 6 = mul_right_comm (a * b) (10 ^ 6) c in
        let v : a * b * c ≡ c * b * a = mul_assoc a b c ∙ mul_comm a (b * c) ∙ ap (λ (z : ℕ). z * a) (mul_comm b c) in
        omega arith

size_at_lem : (E t : ℕ) → 1 ≤ E → E < 1067 → size_at E t ≡ closest (15625 * (2 ^ 52 + t)) (8 * 2 ^ (1066 - E))
size_at_lem zero t p h = absurd (omega arith)
size_at_lem (suc D) t p h =
    in_reach (suc D) t h ∙ middle D (2 ^ 52 + t) (omega arith) ∙ ap (λ (k : ℕ). closest (15625 * (2 ^ 52 + t)) (8 * 2 ^ k)) (less D)
  where
    less : (D : ℕ) → 1065 - D ≡ 1066 - suc D
    less D = omega arith

-- from 2 ^ -21 to 2 ^ -20, by the significand m
pub size-one : (E t m : ℕ) → E ≡ 1002 → m ≡ 2 ^ 52 + t → t < 2 ^ 52 → 4722366482869645 < m → 1 ≡ size_at E t
size-one E t m e f l h =
    sym (size_at_lem E t (omega arith) (omega arith) ∙ ap (λ (k : ℕ). closest (15625 * (2 ^ 52 + t)) (8 * 2 ^ (1066 - k))) e ∙ one (15625 * (2 ^ 52 + t)) (8 * 2 ^ 64) (omega arith) (omega arith))

pub size_none : (E t m : ℕ) → E ≡ 1002 → m ≡ 2 ^ 52 + t → m ≤ 4722366482869645 → 0 ≡ size_at E t
size_none E t m e f h =
    sym (size_at_lem E t (omega arith) (omega arith) ∙ ap (λ (k : ℕ). closest (15625 * (2 ^ 52 + t)) (8 * 2 ^ (1066 - k))) e ∙ none (15625 * (2 ^ 52 + t)) (8 * 2 ^ 64) (omega arith))

-- from there to 2 ^ 44, by what the code hands to its rounding
pub size_rounded : (E t a b u r : ℕ) → 1 ≤ E → E < 1067 → 8 * a + b ≡ 15625 * (2 ^ 52 + t) → u ≡ 2 ^ (1066 - E) → r ≡ closest (8 * a + b) (8 * u) → r ≡ size_at E t
size_rounded E t a b u r p h e f g =
    g ∙ ap (λ (z : ℕ). closest z (8 * u)) e ∙ ap (λ (z : ℕ). closest (15625 * (2 ^ 52 + t)) (8 * z)) f ∙ sym (size_at_lem E t p h)
