-- A fraction to the nearest whole number by its quotient and its remainder, as the code compares them. Assumes nothing.
use mathlib.Core.Path.{◌≡◌, refl, sym, ap, ◌∙◌}
use mathlib.Core.Bool.{not}
use Prim.Native.Nat.{ℕ, suc, ◌+◌, ◌*◌, ◌/◌, ◌%◌, ◌≤◌, ◌<◌, compare, Ordering}
use native.Mathlib.Nat.{add-zero, mul_left_comm, div-eq_of_lt, mod-eq_of_lt, mod-lt, div-add-mod', mul-add-div_right, mul-add-mod_self_right}
use native.Mathlib.Omega.{arith}
use lib.Dec.{T, is_le, compare_is_eq, leb→le, nleb→lt, eqb→eq, eqb_refl}
use lib.Ieee.{nearest}
use lib.Ieee.Nearest.{closest}

-- ---- what `compare` says
pub compare_lt : (a b : ℕ) → a < b → compare a b ≡ Ordering.lt
compare_lt a b l = by (compare a b) (nleb→lt a b) (eqb→eq a b)
  where
    by : (o : Ordering) → (T (not (is_le o)) → b < a) → (T (compare_is_eq o) → a ≡ b) → o ≡ Ordering.lt
    by Ordering.lt h e = refl
    by Ordering.eq h e = let q = e tt in absurd (omega arith)
    by Ordering.gt h e = let q = h tt in absurd (omega arith)

pub compare_gt : (a b : ℕ) → b < a → compare a b ≡ Ordering.gt
compare_gt a b l = by (compare a b) (leb→le a b)
  where
    by : (o : Ordering) → (T (is_le o) → a ≤ b) → o ≡ Ordering.gt
    by Ordering.lt h = let q = h tt in absurd (omega arith)
    by Ordering.eq h = let q = h tt in absurd (omega arith)
    by Ordering.gt h = refl

pub compare_eq : (a : ℕ) → compare a a ≡ Ordering.eq
compare_eq a = by (compare a a) (eqb_refl a)
  where
    by : (o : Ordering) → T (compare_is_eq o) → o ≡ Ordering.eq
    by Ordering.lt h = absurd h
    by Ordering.eq h = refl
    by Ordering.gt h = absurd h

-- ---- q * d + r with r below d
pub closest_parts : (n d q r : ℕ) → n ≡ q * d + r → r < d → closest n d ≡ nearest q (compare (r * 2) d)
closest_parts n d q r e l =
    let D : 0 < d = omega arith in
    let f : n / d ≡ q = ap (λ (z : ℕ). z / d) e ∙ mul-add-div_right D q r ∙ ap (λ (z : ℕ). q + z) (div-eq_of_lt l) ∙ add-zero q in
    let g : n % d ≡ r = ap (λ (z : ℕ). z % d) e ∙ mul-add-mod_self_right q d r ∙ mod-eq_of_lt l in
    ap (λ (z : ℕ). nearest z (compare (n % d * 2) d)) f ∙ ap (λ (z : ℕ). nearest q (compare (z * 2) d)) g

-- ---- 8 a + b in units of 8 u
module _ (a b u : ℕ) (U : 0 < u) (B : b < 8) where
  abbrev w : ℕ
  w = a % u

  parts : closest (8 * a + b) (8 * u) ≡ nearest (a / u) (compare ((8 * w + b) * 2) (8 * u))
  parts =
      let l : w < u = mod-lt a U in
      let e : a / u * u + w ≡ a = div-add-mod' a u in
      let m : a / u * (8 * u) ≡ 8 * (a / u * u) = mul_left_comm (a / u) 8 u in
      closest_parts (8 * a + b) (8 * u) (a / u) (8 * w + b) (omega arith) (omega arith)

  pub less_than_half : 2 * w + b / 4 < u → a / u ≡ closest (8 * a + b) (8 * u)
  less_than_half h = sym (parts ∙ ap (nearest (a / u)) (compare_lt ((8 * w + b) * 2) (8 * u) (omega arith)))

  pub more_than_half : u < 2 * w + b / 4 → suc (a / u) ≡ closest (8 * a + b) (8 * u)
  more_than_half h = sym (parts ∙ ap (nearest (a / u)) (compare_gt ((8 * w + b) * 2) (8 * u) (omega arith)))

  pub just_more : u ≡ 2 * w + b / 4 → 0 < b % 4 → suc (a / u) ≡ closest (8 * a + b) (8 * u)
  just_more h k = sym (parts ∙ ap (nearest (a / u)) (compare_gt ((8 * w + b) * 2) (8 * u) (omega arith)))

  pub half : u ≡ 2 * w + b / 4 → b % 4 ≡ 0 → a / u + a / u % 2 ≡ closest (8 * a + b) (8 * u)
  half h k =
      let e : (8 * w + b) * 2 ≡ 8 * u = omega arith in
      sym (parts ∙ ap (λ (z : ℕ). nearest (a / u) (compare z (8 * u))) e ∙ ap (nearest (a / u)) (compare_eq (8 * u)))
