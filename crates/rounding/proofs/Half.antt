-- Rounding to a whole number errs by a half at most. Assumes nothing.
use mathlib.Core.Path.{◌≡◌, subst}
use mathlib.Core.Bool.{not}
use Prim.Native.Nat.{ℕ, ◌+◌, ◌*◌, ◌/◌, ◌%◌, ◌≤◌, ◌<◌, compare, Ordering}
use native.Mathlib.Nat.{le_of_lt, mod-lt, mul-le-mul_right, div-add-mod'}
use native.Mathlib.Omega.{arith}
use lib.Dec.{T, is_le, compare_is_eq, leb→le, nleb→lt, eqb→eq}
use lib.Ieee.{nearest}
use lib.Ieee.Nearest.{closest}

abbrev Cmp : Ordering → ℕ → ℕ → Type 0
Cmp Ordering.lt a b = a ≤ b
Cmp Ordering.eq a b = a ≡ b
Cmp Ordering.gt a b = b ≤ a

cmp : (a b : ℕ) → Cmp (compare a b) a b
cmp a b = go (compare a b) (leb→le a b) (nleb→lt a b) (eqb→eq a b)
  where
    go : (o : Ordering) → (T (is_le o) → a ≤ b) → (T (not (is_le o)) → b < a) → (T (compare_is_eq o) → a ≡ b) → Cmp o a b
    go Ordering.lt h k e = h tt
    go Ordering.eq h k e = e tt
    go Ordering.gt h k e = le_of_lt (k tt)

-- p / u is within half of n / u
pub record Half (p n u : ℕ) : Type 0 where
  pub over : p * 2 ≤ n * 2 + u
  pub under : n * 2 ≤ p * 2 + u

near_half : (q r u : ℕ) (o : Ordering) → r < u → Cmp o (r * 2) u → Half (nearest q o * u) (q * u + r) u
near_half q r u Ordering.lt l h = record { over = omega arith; under = omega arith }
near_half q r u Ordering.gt l h = record { over = omega arith; under = omega arith }
near_half q r u Ordering.eq l h =
    let b : q % 2 * u ≤ 1 * u = mul-le-mul_right u (small q) in
    record { over = omega arith; under = omega arith }
  where
    small : (q : ℕ) → q % 2 ≤ 1
    small q = omega arith

pub closest_half : (n u : ℕ) → 0 < u → Half (closest n u * u) n u
closest_half n u U =
    subst (λ (z : ℕ). Half (closest n u * u) z u) (div-add-mod' n u) (near_half (n / u) (n % u) u (compare (n % u * 2) u) (mod-lt n U) (cmp (n % u * 2) u))
