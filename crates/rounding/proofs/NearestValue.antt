-- A fraction of whole numbers, rounded once, is the nearest double. Where its divisor is a power of ten and it has few digits, no other double is as near. Assumes nothing.
use mathlib.Core.Path.{◌≡◌, refl, sym, ap, ◌∙◌, subst}
use mathlib.Core.Logic.{inl, inr}
use mathlib.Core.Bool.{false}
use Prim.Native.Nat.{ℕ, zero, suc, ◌+◌, ◌-◌, ◌*◌, ◌/◌, ◌%◌, ◌^◌, ◌≤◌, ◌<◌}
use native.Mathlib.Nat.{le_of_lt, le_of_eq, le_trans, lt_of_lt_of_le, lt_of_le_of_lt, lt_of_not-le, not-le_of_lt, le_of_suc-le-suc, mul-le-mul_right, mul-lt-mul_of_pos_right, mul_assoc, mul_comm, mul_left_comm, mul-pos, mul-one, le-div_iff_mul-le, eq_of_mul-eq-mul_right, pow-suc, pow-succ', one-le-pow, pow-le-pow_right, le-mul_of_pos_right, lt_irrefl}
use native.Mathlib.Omega.{arith}
use lib.Dec.{T, lit≤}
use lib.Pow.{pow-add, pow_pos}
use lib.Ieee.{Float, binary64, fits, size, round}
use lib.Ieee.Digits.{size_reaches, back}
use lib.Ieee.Fits.{round-fits}
use lib.Ieee.Order.{drop, kept}
use lib.Ieee.Scale.{round_val}
use Rattle.lists.proofs.Counting.{compared, lt_or_le, eq_or_ne}
use Rattle.float64.proofs.SameValue.{same_value}
use Rattle.rounding.specs.Nearest.{Units, NearestDouble}
use Rattle.rounding.proofs.Half.{Half, closest_half}
use Rattle.rounding.proofs.Multiples.{multiple_of}

-- ---- n / c, rounded to q units of 2 ^ k, and the other doubles

record Rounded (n c q k : ℕ) : Type 0 where
  half : Half (q * (c * 2 ^ k)) n (c * 2 ^ k)
  -- where digits are dropped there are 53 of them left
  reaches : 0 < k → 2 ^ 52 * (c * 2 ^ k) ≤ n

rounded : (n c : ℕ) → 0 < c → Rounded n c (kept 53 n c) (drop 53 n c)
rounded n c C = record {
  half = closest_half n (c * 2 ^ drop 53 n c) (mul-pos C (pow_pos (drop 53 n c)));
  reaches = λ (K : 0 < drop 53 n c).
      le_trans (le_of_eq (mul_left_comm (2 ^ 52) c (2 ^ drop 53 n c) ∙ mul_comm c (2 ^ 52 * 2 ^ drop 53 n c) ∙ ap (λ (z : ℕ). z * c) (sym (pow-add 2 52 (drop 53 n c)))))
      ((le-div_iff_mul-le C).0 (size_reaches (n / c) (52 + drop 53 n c) (in_use (size (n / c)) K)));
}
  where
    in_use : (z : ℕ) → 0 < z - 53 → 52 + (z - 53) < z
    in_use z h = omega arith

abbrev apart : ℕ → ℕ → ℕ
apart x y = (x - y) + (y - x)

-- another multiple of u is as far or farther, and farther where q is off by less than a half
as_far : (q t n u : ℕ) → Half (q * u) n u → apart (q * u) n ≤ apart (t * u) n
as_far q t n u h = elim (compared t q) [
  | inl l ↦ let m : suc t * u ≤ q * u = mul-le-mul_right u l in omega (arith, h.over, h.under)
  | inr (inl e) ↦ rw e (omega arith)
  | inr (inr l) ↦ let m : suc q * u ≤ t * u = mul-le-mul_right u l in omega (arith, h.over, h.under)
]

-- q / u is off by less than a half
record Less (p n u : ℕ) : Type 0 where
  over : p * 2 < n * 2 + u
  under : n * 2 < p * 2 + u

farther : (q t n u : ℕ) → (t ≡ q → ⊥) → Less (q * u) n u → apart (q * u) n < apart (t * u) n
farther q t n u d h = elim (compared t q) [
  | inl l ↦ let m : suc t * u ≤ q * u = mul-le-mul_right u l in omega (arith, h.over, h.under)
  | inr (inl e) ↦ absurd (d e)
  | inr (inr l) ↦ let m : suc q * u ≤ t * u = mul-le-mul_right u l in omega (arith, h.over, h.under)
]

-- below the doubles that have these digits
far_below : (q n u m : ℕ) → Half (q * u) n u → 2 ^ 52 * u ≤ n → m < 2 ^ 52 * u → apart (q * u) n < apart m n
far_below q n u m h r l = below (q * u) (2 ^ 52 * u) (as_far q (2 ^ 52) n u h) r l
  where
    below : (p w : ℕ) → apart p n ≤ apart w n → w ≤ n → m < w → apart p n < apart m n
    below p w a r l = omega arith

module _ (n c q k : ℕ) (C : 0 < c) (r : Rounded n c q k) where
  scaled : (t : ℕ) → t * 2 ^ k * c ≡ t * (c * 2 ^ k)
  scaled t = mul_assoc t (2 ^ k) c ∙ ap (λ (z : ℕ). t * z) (mul_comm (2 ^ k) c)

  -- a number of units that is a multiple of 2 ^ k, or lies far below
  module _ (z : Float) (m : ℕ) (F : T (fits binary64 z)) (v : Units z m) where
    by_place {ℓ} : {P : Type ℓ} → ((t : ℕ) → m ≡ t * 2 ^ k → P) → (0 < k → m < 2 ^ 52 * 2 ^ k → P) → P
    by_place f g = elim (lt_or_le m (2 ^ 52 * 2 ^ k)) [
      | inl l ↦
          elim (eq_or_ne k 0) [
            | inl e ↦ f m (sym (mul-one m) ∙ ap (λ (j : ℕ). m * 2 ^ j) (sym e))
            | inr d ↦ g (above d) l
          ]
      | inr l ↦ let w = multiple_of z m k F v l in f w.0 w.1
    ]
      where
        above : (k ≡ 0 → ⊥) → 0 < k
        above d = omega arith

    lower : m < 2 ^ 52 * 2 ^ k → m * c < 2 ^ 52 * (c * 2 ^ k)
    lower l = lt_of_lt_of_le (mul-lt-mul_of_pos_right l C) (le_of_eq (scaled (2 ^ 52)))

    none_nearer : apart (q * 2 ^ k * c) n ≤ apart (m * c) n
    none_nearer =
        subst (λ (p : ℕ). apart p n ≤ apart (m * c) n) (sym (scaled q))
        (by_place
        (λ t e. subst (λ (p : ℕ). apart (q * (c * 2 ^ k)) n ≤ apart p n) (sym (ap (λ (j : ℕ). j * c) e ∙ scaled t)) (as_far q t n (c * 2 ^ k) r.half))
        (λ K l. le_of_lt (far_below q n (c * 2 ^ k) (m * c) r.half (r.reaches K) (lower l))))

    others_farther : Less (q * (c * 2 ^ k)) n (c * 2 ^ k) → (m ≡ q * 2 ^ k → ⊥) → apart (q * 2 ^ k * c) n < apart (m * c) n
    others_farther h d =
        subst (λ (p : ℕ). apart p n < apart (m * c) n) (sym (scaled q))
        (by_place
        (λ t e. subst (λ (p : ℕ). apart (q * (c * 2 ^ k)) n < apart p n) (sym (ap (λ (j : ℕ). j * c) e ∙ scaled t)) (farther q t n (c * 2 ^ k) (λ s. d (e ∙ ap (λ (j : ℕ). j * 2 ^ k) s)) h))
        (λ K l. far_below q n (c * 2 ^ k) (m * c) r.half (r.reaches K) (lower l)))

-- ---- never half way: an odd number of halves of a unit has more digits than the fraction

odd_times : (s f : ℕ) → s % 2 ≡ 1 → f % 2 ≡ 1 → s * f % 2 ≡ 1
odd_times s f h g =
    let e : s ≡ 2 * (s / 2) + 1 = omega arith in
    rw e (parted (s / 2) f g)
  where
    parted : (t f : ℕ) → f % 2 ≡ 1 → (2 * t + 1) * f % 2 ≡ 1
    parted t f g = let e : (2 * t + 1) * f ≡ 2 * (t * f) + f = omega arith in rw e (omega arith)

five_odd : (p : ℕ) → 5 ^ p % 2 ≡ 1
five_odd zero = refl
five_odd (suc p) = rw pow-suc (odd_times (5 ^ p) 5 (five_odd p) refl)

ten : (p : ℕ) → 10 ^ p ≡ 5 ^ p * 2 ^ p
ten zero = refl
ten (suc p) = rw (pow-suc 10 p, pow-suc 5 p, pow-suc 2 p) (ap (λ (z : ℕ). z * 10) (ten p) ∙ moved (5 ^ p) (2 ^ p))
  where
    moved : (f t : ℕ) → f * t * 10 ≡ f * 5 * (t * 2)
    moved f t = omega arith

-- an odd m with m * 2 ^ i = a * 2 ^ j is a divisor of a
odd_part : (m a i j : ℕ) → m % 2 ≡ 1 → m * 2 ^ i ≡ a * 2 ^ j → (j ≤ i) × (m * 2 ^ (i - j) ≡ a)
odd_part m a i j o e = elim (lt_or_le i j) [
  | inl l ↦
      let x : j - i + i ≡ j = back j i (le_of_lt l) in
      let y : m ≡ a * 2 ^ (j - i) = eq_of_mul-eq-mul_right (2 ^ i) (pow_pos i) m (a * 2 ^ (j - i)) (e ∙ ap (λ (z : ℕ). a * 2 ^ z) (sym x) ∙ ap (λ (z : ℕ). a * z) (pow-add 2 (j - i) i) ∙ sym (mul_assoc a (2 ^ (j - i)) (2 ^ i))) in
      absurd (even (j - i) (some l) y)
  | inr l ↦
      let x : i - j + j ≡ i = back i j l in
      (l, eq_of_mul-eq-mul_right (2 ^ j) (pow_pos j) (m * 2 ^ (i - j)) a (mul_assoc m (2 ^ (i - j)) (2 ^ j) ∙ ap (λ (z : ℕ). m * z) (sym (pow-add 2 (i - j) j)) ∙ ap (λ (z : ℕ). m * 2 ^ z) x ∙ e))
]
  where
    some : {i j : ℕ} → i < j → 0 < j - i
    some l = omega arith

    even : (d : ℕ) → 0 < d → m ≡ a * 2 ^ d → ⊥
    even zero D y = absurd (lt_irrefl 0 D)
    even (suc d) D y = twice (a * 2 ^ d) (y ∙ ap (λ (z : ℕ). a * z) (pow-succ' 2 d) ∙ mul_left_comm a 2 (2 ^ d))
      where
        twice : (h : ℕ) → m ≡ 2 * h → ⊥
        twice h y = omega arith

module _ (a p k : ℕ) (small : a < 10 ^ 12) (few : p ≤ 6) where
  never_half : (s : ℕ) → s % 2 ≡ 1 → (0 < k → 2 ^ 52 ≤ s) → s * (10 ^ p * 2 ^ k) ≡ a * 2 ^ 1074 * 2 → ⊥
  never_half s o big e =
      let m = s * 5 ^ p in
      let f : m * 2 ^ (p + k) ≡ a * 2 ^ 1075 =
      ap (λ (z : ℕ). m * z) (pow-add 2 p k) ∙ regrouped s (5 ^ p) (2 ^ p) (2 ^ k) ∙ ap (λ (z : ℕ). s * (z * 2 ^ k)) (sym (ten p)) ∙ e ∙ mul_assoc a (2 ^ 1074) 2 ∙ ap (λ (z : ℕ). a * z) (sym (pow-suc 2 1074)) in
      let w = odd_part m a (p + k) 1075 (odd_times s (5 ^ p) o (five_odd p)) f in
      too_big (at_least (five_at_least p) (pow_pos (p + k - 1075)) w.1) (big (far w.0))
    where
      regrouped : (s f t u : ℕ) → s * f * (t * u) ≡ s * (f * t * u)
      regrouped s f t u = omega arith

      far : 1075 ≤ p + k → 0 < k
      far h = omega arith

      five_at_least : (p : ℕ) → 0 < 5 ^ p
      five_at_least p = one-le-pow p 5 (omega arith)

      at_least : {f t : ℕ} → 0 < f → 0 < t → s * f * t ≡ a → s ≤ a
      at_least {f} {t} F G e =
          le_trans (grow s f F) (le_trans (grow (s * f) t G) (le_of_eq e))
        where
          grow : (x y : ℕ) → 0 < y → x ≤ x * y
          grow x y Y = le-mul_of_pos_right x Y

      too_big : s ≤ a → 2 ^ 52 ≤ s → ⊥
      too_big h b = omega arith

  -- the number of half units has as many digits as the kept number
  halves : (s n u : ℕ) → 0 < u → 2 ^ 52 * u ≤ n → s * u ≡ n * 2 → 2 ^ 52 ≤ s
  halves s n u U r e = le_of_suc-le-suc (lt_of_not-le (λ (g : suc s ≤ 2 ^ 52). short (mul-le-mul_right u g)))
    where
      short : suc s * u ≤ 2 ^ 52 * u → ⊥
      short h = omega arith

  never_tie : (q : ℕ) → Rounded (a * 2 ^ 1074) (10 ^ p) q k → Less (q * (10 ^ p * 2 ^ k)) (a * 2 ^ 1074) (10 ^ p * 2 ^ k)
  never_tie q r = within (a * 2 ^ 1074) (10 ^ p * 2 ^ k) (mul-pos (one-le-pow p 10 (omega arith)) (pow_pos k)) r.half r.reaches (λ s. never_half s)
    where
      above : (q n u : ℕ) → 0 < u → q * u * 2 ≡ n * 2 + u → (2 * q - 1) * u ≡ n * 2
      above zero n u U e = absurd (none e)
        where
          none : zero * u * 2 ≡ n * 2 + u → ⊥
          none e = omega arith
      above (suc q) n u U e = let m : 2 * suc q - 1 ≡ 2 * q + 1 = omega arith in rw m (omega arith)

      below : (q n u : ℕ) → n * 2 ≡ q * u * 2 + u → (2 * q + 1) * u ≡ n * 2
      below q n u e = omega arith

      within : (n u : ℕ) → 0 < u → Half (q * u) n u → (0 < k → 2 ^ 52 * u ≤ n) → ((s : ℕ) → s % 2 ≡ 1 → (0 < k → 2 ^ 52 ≤ s) → s * u ≡ n * 2 → ⊥) → Less (q * u) n u
      within n u U h r never = record {
        over = strict (q * u * 2) (n * 2 + u) h.over (λ e. let f = above q n u U e in never (2 * q - 1) (odd_below q e) (λ K. halves (2 * q - 1) n u U (r K) f) f);
        under = strict (n * 2) (q * u * 2 + u) h.under (λ e. let f = below q n u e in never (2 * q + 1) (odd_above q) (λ K. halves (2 * q + 1) n u U (r K) f) f);
      }
        where
          strict : (x y : ℕ) → x ≤ y → (x ≡ y → ⊥) → x < y
          strict x y h d = omega arith

          odd_above : (q : ℕ) → (2 * q + 1) % 2 ≡ 1
          odd_above q = omega arith

          odd_below : (q : ℕ) → q * u * 2 ≡ n * 2 + u → (2 * q - 1) % 2 ≡ 1
          odd_below zero e = absurd (none e)
            where
              none : zero * u * 2 ≡ n * 2 + u → ⊥
              none e = omega arith
          odd_below (suc q) e = omega arith

-- ---- the value of a field
module _ (a p : ℕ) (small : a < 10 ^ 12) (few : p ≤ 6) where
  abbrev n : ℕ
  n = a * 2 ^ 1074

  abbrev k : ℕ
  k = drop 53 n (10 ^ p)

  abbrev q : ℕ
  q = kept 53 n (10 ^ p)

  C : 0 < 10 ^ p
  C = one-le-pow p 10 (omega arith)

  r : Rounded n (10 ^ p) q k
  r = rounded n (10 ^ p) C

  -- a unit of the kept number is no larger than the fraction, or smaller than 1
  unit : 10 ^ p * 2 ^ k ≤ n + 2 ^ 1074
  unit = elim (eq_or_ne k 0) [
    | inl e ↦ le_trans (le_of_eq (ap (λ (z : ℕ). 10 ^ p * 2 ^ z) e ∙ mul-one (10 ^ p))) (le_trans (le_trans (pow-le-pow_right {n = 10} (omega arith) few) million) (more n (2 ^ 1074)))
    | inr d ↦ under (10 ^ p * 2 ^ k) n (2 ^ 1074) (r.reaches (above d))
  ]
    where
      million : 10 ^ 6 ≤ 2 ^ 1074
      million = lit≤ tt

      more : (x y : ℕ) → y ≤ x + y
      more x y = omega arith

      above : (k ≡ 0 → ⊥) → 0 < k
      above d = omega arith

      under : (u n N : ℕ) → 2 ^ 52 * u ≤ n → u ≤ n + N
      under u n N h = omega arith

  -- no overflow
  in_range : q * 2 ^ k < 2 ^ (1024 + 1074)
  in_range =
      lt_of_le_of_lt (le-mul_of_pos_right (q * 2 ^ k) C)
      (lt_of_lt_of_le (subst (λ (z : ℕ). z < (2 * a + 2) * 2 ^ 1074) (sym (scaled n (10 ^ p) q k C r q)) (bounded (2 ^ 1074) (10 ^ p * 2 ^ k) (q * (10 ^ p * 2 ^ k)) (pow_pos 1074) unit r.half.over))
      (le_trans (mul-le-mul_right (2 ^ 1074) few_digits) (le_of_eq (sym (pow-add 2 1024 1074)))))
    where
      bounded : (N u Q : ℕ) → 0 < N → u ≤ a * N + N → Q * 2 ≤ a * N * 2 + u → Q < (2 * a + 2) * N
      bounded N u Q P l h = omega arith

      few_digits : 2 * a + 2 ≤ 2 ^ 1024
      few_digits = let h : 2 * a + 2 ≤ 2 ^ 50 = omega arith in le_trans h (lit≤ tt)

  value_is : Units (round binary64 false a (10 ^ p)) (q * 2 ^ k)
  value_is = round_val binary64 a (10 ^ p) in_range

  pub nearest_double : NearestDouble a (10 ^ p) (round binary64 false a (10 ^ p))
  nearest_double = record {
    b = q * 2 ^ k;
    double = round-fits binary64 false a (10 ^ p);
    is = value_is;
    nearest = λ z m F v. none_nearer n (10 ^ p) q k C r z m F v;
  }

  pub only_nearest : (y : Float) → NearestDouble a (10 ^ p) y → y ≡ round binary64 false a (10 ^ p)
  only_nearest y h =
      let same : h.b ≡ q * 2 ^ k = elim (eq_or_ne h.b (q * 2 ^ k)) [
        | inl e ↦ e
        | inr d ↦ absurd (not-le_of_lt (others_farther n (10 ^ p) q k C r y h.b h.double h.is (never_tie a p k small few q r) d) (h.nearest (round binary64 false a (10 ^ p)) (q * 2 ^ k) (round-fits binary64 false a (10 ^ p)) value_is))
      ] in
      same_value binary64 y (round binary64 false a (10 ^ p)) false (q * 2 ^ k) (2 ^ 1074) (pow_pos 1074) h.double (round-fits binary64 false a (10 ^ p)) (subst (λ (z : ℕ). Units y z) same h.is) value_is
