-- The root of a rounded square is the number, where the square neither overflows nor underflows. Assumes nothing.
use mathlib.Core.Path.{◌≡◌, refl, sym, ap, ◌∙◌, subst}
use mathlib.Core.Logic.{inl, inr}
use mathlib.Core.Bool.{true, false}
use Prim.Native.Nat.{ℕ, zero, suc, ◌+◌, ◌-◌, ◌*◌, ◌/◌, ◌%◌, ◌^◌, ◌≤◌, ◌<◌}
use native.Mathlib.Nat.{le_trans, le_antisymm, le_of_eq, le_of_lt, lt_of_lt_of_le, lt_of_not-le, not-le_of_lt, mul-le-mul_right, mul-le-mul_left, mul-lt-mul_of_pos_right, mul_assoc, mul-pos, one-mul, le_of_mul-le-mul_right, le_of_suc-le-suc, pow-suc, zero-lt-suc, add-le-add}
use native.Mathlib.Omega.{arith}
use lib.Dec.{T, lit≤, lit<}
use lib.Pow.{pow-add, pow_pos, pow_mono}
use lib.Ieee.{Float, nan, inf, fin, binary64, fits, to_bits, mul, le, round}
use lib.Ieee.Exact.{HasValue}
use lib.Ieee.Order.{le_of_values, drop}
use lib.Ieee.Scale.{grid, finite, round_val, round_under}
use lib.Ieee.Fits.{mul-fits}
use lib.Ieee.Positive.{positive, positive_of_value, values_of_le, mul_at, above, above_of_le}
use Rattle.square_root.specs.Root.{radicand, root_of}
use Rattle.square_root.specs.RootDigits.{Placed}
use Rattle.square_root.specs.Claims.{least_squarable}
use Rattle.float64.proofs.Fields.{no_nan, read, units_at}
use Rattle.float64.proofs.Order.{le-refl_float}
use Rattle.float64.proofs.SameValue.{same_value}
use Rattle.lists.proofs.Counting.{compared}
use Rattle.square_root.proofs.RootNumbers.{square_le, pow_double}
use Rattle.square_root.proofs.RootPlace.{rooted}
use Rattle.rounding.proofs.Half.{Half}
use Rattle.rounding.proofs.Multiples.{units_unique}
use Rattle.square_root.proofs.RootNearest.{root_fits}
use Rattle.square_root.proofs.RoundError.{grid_half, drop_reaches, grid_reaches}

-- y is Q * 2 ^ k units, with all 53 digits, and 2 ^ -511 at least
pub record Normal (y : Float) : Type 0 where
  pub Q : ℕ
  pub k : ℕ
  pub value : HasValue y false (Q * 2 ^ k) (2 ^ 1074)
  pub lower : 2 ^ 52 ≤ Q
  pub upper : Q < 2 ^ 53
  pub place : 511 ≤ k

wide : (k Q : ℕ) → 2 ^ 564 ≤ Q * 2 ^ k * 2 → Q < 2 ^ 53 → 511 ≤ k
wide k Q h q = le_of_suc-le-suc (lt_of_not-le (λ (g : suc k ≤ 511). not-le_of_lt (lt_of_lt_of_le (mul-lt-mul_of_pos_right q (pow_pos (suc k))) (le_trans (le_of_eq (sym (pow-add 2 53 (suc k)))) (pow_mono (room g)))) (le_trans h (le_of_eq (mul_assoc Q (2 ^ k) 2 ∙ ap (λ (z : ℕ). Q * z) (sym (pow-suc 2 k)))))))
  where
    room : suc k ≤ 511 → 53 + suc k ≤ 564
    room g = omega arith

normal_at : (y : Float) (E t : ℕ) → t < 2 ^ 52 → HasValue y false (units_at E t) (2 ^ 1074) → 2 ^ 563 ≤ units_at E t → Normal y
normal_at y zero t h v l = absurd (not-le_of_lt h (le_trans (lit≤ tt) l))
normal_at y (suc E) t h v l = record {
  Q = 2 ^ 52 + t;
  k = E;
  value = v;
  lower = omega arith;
  upper = omega arith;
  place = wide E (2 ^ 52 + t) (le_trans (le_of_eq (pow-suc 2 563)) (mul-le-mul_right 2 l)) (omega arith);
}

pub normal : (y : Float) → T (fits binary64 y) → T (positive y) → T (le least_squarable y) → Normal y
normal y f p h =
    let b = to_bits binary64 y in
    let r = read y f p in
    let a = units_at (b / 2 ^ 52) (b % 2 ^ 52) in
    let c : 1 * 2 ^ 1074 ≤ a * 2 ^ 511 = values_of_le least_squarable y 1 (2 ^ 511) a (2 ^ 1074) tt p (refl, refl) r.value h in
    normal_at y (b / 2 ^ 52) (b % 2 ^ 52) (omega arith) r.value (le_of_mul-le-mul_right (le_trans (le_of_eq (sym (pow-add 2 563 511))) (le_trans (le_of_eq (sym (one-mul (2 ^ 1074)))) c)) (pow_pos 511))

-- ---- a number above y that is a root's nearest has a radicand of (y + half a place) squared at least
sq_le : (a b p : ℕ) → a ≤ b → a * a * p ≤ b * b * p
sq_le a b p h = mul-le-mul_right p (square_le a b h)

doubled : (q q' j j' : ℕ) → q ≤ 2 ^ 53 → 2 ^ 52 ≤ q' → suc j ≤ j' → q * 2 ^ j ≤ q' * 2 ^ j'
doubled q q' j j' a b h =
    le_trans (mul-le-mul_right (2 ^ j) a) (le_trans (le_of_eq (sym (pow-add 2 53 j))) (le_trans (pow_mono (room h)) (le_trans (le_of_eq (pow-add 2 52 j')) (mul-le-mul_right (2 ^ j') b))))
  where
    room : suc j ≤ j' → 53 + j ≤ 52 + j'
    room g = omega arith

half_up : (n q j Q k : ℕ) → Placed n q j → 2 ^ 52 ≤ Q → Q < 2 ^ 53 → Q * 2 ^ k < q * 2 ^ j → (2 * Q + 1) * (2 * Q + 1) * 2 ^ (2 * k) ≤ 4 * n
half_up n q j Q k r lo hi h = elim (compared j k) [
  | inr (inl e) ↦ le_trans (sq_le (2 * Q + 1) (2 * q - 1) (2 ^ (2 * k)) (less (same e))) (subst (λ (z : ℕ). (2 * q - 1) * (2 * q - 1) * 2 ^ (2 * z) ≤ 4 * n) e (le_of_lt r.above))
  | inl l ↦ absurd (not-le_of_lt h (doubled q Q j k r.digits.1 lo l))
  | inr (inr l) ↦
      le_trans (sq_le (2 * Q + 1) (2 ^ 54) (2 ^ (2 * k)) (omega arith))
      (le_trans (le_of_eq (sym (pow-add 2 108 (2 * k)))) (le_trans (pow_mono (room l)) (le_trans (le_of_eq (pow-add 2 106 (2 * j))) (le_trans (le_of_eq (mul_assoc 4 (2 ^ 104) (2 ^ (2 * j)))) (mul-le-mul_left 4 r.place.0)))))
]
  where
    room : k < j → 108 + 2 * k ≤ 106 + 2 * j
    room l = omega arith

    same : j ≡ k → Q < q
    same e = lt_of_not-le (λ (g : q ≤ Q). not-le_of_lt h (subst (λ (z : ℕ). q * 2 ^ j ≤ Q * 2 ^ z) e (mul-le-mul_right (2 ^ j) g)))

    less : Q < q → 2 * Q + 1 ≤ 2 * q - 1
    less l = omega arith

-- ---- the rounded square is less than that
clash : (Q K a g L : ℕ) → 0 < K → a ≤ g → g * L * 2 ≤ Q * K * (Q * K) * 2 + Q * K * K * 2 → (2 * Q + 1) * (2 * Q + 1) * (K * K) ≤ 4 * (a * L) → ⊥
clash Q K a g L P h x y =
    let m : a * L ≤ g * L = mul-le-mul_right L h in
    let s : 0 < K * K = mul-pos P P in
    omega arith

cancel : (g L n d : ℕ) → 0 < L → g * (L * L) * 2 ≤ n * n * L * 2 + L * L * d → g * L * 2 ≤ n * n * 2 + L * d
cancel g L n d P h = le_of_mul-le-mul_right (le_trans (omega arith) (le_trans h (omega arith))) P

cancel_over : (g L n d : ℕ) → 0 < L → n * n * L * 2 ≤ g * (L * L) * 2 + L * L * d → n * n * 2 ≤ g * L * 2 + L * d
cancel_over g L n d P h = le_of_mul-le-mul_right (le_trans (omega arith) (le_trans h (omega arith))) P

-- a smaller number's half place above is at most y's half place below
odd_under : (q Q : ℕ) → q < Q → (2 * q + 1) * (2 * q + 1) + 4 * Q ≤ 4 * (Q * Q) + 1
odd_under q zero h = absurd (not_lt-zero h)
  where
    not_lt-zero : q < 0 → ⊥
    not_lt-zero g = omega arith
odd_under q (suc e) h = let s : (2 * q + 1) * (2 * q + 1) ≤ (2 * e + 1) * (2 * e + 1) = square_le (2 * q + 1) (2 * e + 1) (omega arith) in omega arith

clash_below : (Q K q g L D : ℕ) → 0 < K → q < Q → Q * K * (Q * K) * 2 ≤ g * L * 2 + D → D + K * K ≤ Q * K * K * 2 → 4 * (g * L) < (2 * q + 1) * (2 * q + 1) * (K * K) → ⊥
clash_below Q K q g L D P h x u y =
    let m : ((2 * q + 1) * (2 * q + 1) + 4 * Q) * (K * K) ≤ (4 * (Q * Q) + 1) * (K * K) = mul-le-mul_right (K * K) (odd_under q Q h) in
    let s : 0 < K * K = mul-pos P P in
    omega arith

-- the place of the square's last digit. The K * K beside it is what tells where the rounding goes down.
unit_at : (Q K L d : ℕ) → 2 ^ 52 ≤ Q → Q < 2 ^ 53 → 2 ^ 52 * d * L ≤ Q * K * (Q * K) → L * d + K * K ≤ Q * K * K * 2
unit_at Q K L d l q h =
    let m : (Q + 1) * (Q * (K * K)) ≤ 2 ^ 53 * (Q * (K * K)) = mul-le-mul_right (Q * (K * K)) (next q) in
    let n : 2 ^ 52 * (K * K) ≤ Q * (K * K) = mul-le-mul_right (K * K) l in
    omega arith
  where
    next : Q < 2 ^ 53 → Q + 1 ≤ 2 ^ 53
    next g = omega arith

-- no digit is dropped
unit_low : (Q K L : ℕ) → 2 ^ 52 ≤ Q → L ≤ 2 ^ 52 * (K * K) → L * 1 + K * K ≤ Q * K * K * 2
unit_low Q K L l h = let n : 2 ^ 52 * (K * K) ≤ Q * (K * K) = mul-le-mul_right (K * K) l in omega arith

module _ (Q k : ℕ) (lo : 2 ^ 52 ≤ Q) (hi : Q < 2 ^ 53) (pl : 511 ≤ k) where
  unit_le : (d : ℕ) → ((L : ℕ) → L ≡ 2 ^ 1074 → 0 < d → 2 ^ (52 + d) * (L * L) ≤ Q * 2 ^ k * (Q * 2 ^ k) * L) → (L : ℕ) → L ≡ 2 ^ 1074 → L * 2 ^ d + 2 ^ k * 2 ^ k ≤ Q * 2 ^ k * 2 ^ k * 2
  unit_le zero h L e =
      unit_low Q (2 ^ k) L lo (le_trans (le_of_eq e) (le_trans (pow_mono (room pl)) (le_of_eq (pow-add 2 52 (2 * k) ∙ ap (λ (z : ℕ). 2 ^ 52 * z) (pow_double k)))))
    where
      room : 511 ≤ k → 1074 ≤ 52 + 2 * k
      room g = omega arith
  unit_le (suc d) h L e =
      let a : 2 ^ (52 + suc d) * (L * L) ≤ Q * 2 ^ k * (Q * 2 ^ k) * L = h L e (zero-lt-suc d) in
      let p : 2 ^ (52 + suc d) ≡ 2 ^ 52 * 2 ^ suc d = pow-add 2 52 (suc d) in
      let P : 0 < L = subst (λ (z : ℕ). 0 < z) (sym e) (pow_pos 1074) in
      unit_at Q (2 ^ k) L (2 ^ suc d) lo hi
      (le_of_mul-le-mul_right (le_trans (le_of_eq (ap (λ (z : ℕ). z * L * L) (sym p) ∙ mul_assoc (2 ^ (52 + suc d)) L L)) a) P)

  module _ (L : ℕ) (e : L ≡ 2 ^ 1074) where
    abbrev n : ℕ
    n = Q * 2 ^ k

    abbrev g : ℕ
    g = grid binary64 (n * n) (L * L)

    abbrev d : ℕ
    d = drop 53 (n * n * 2 ^ 1074) (L * L)

    P : 0 < L
    P = subst (λ (z : ℕ). 0 < z) (sym e) (pow_pos 1074)

    near : Half (g * (L * L)) (n * n * L) (L * L * 2 ^ d)
    near = subst (λ (z : ℕ). Half (g * (L * L)) (n * n * z) (L * L * 2 ^ d)) (sym e) (grid_half binary64 (n * n) (L * L) (mul-pos P P))

    unit : L * 2 ^ d + 2 ^ k * 2 ^ k ≤ n * 2 ^ k * 2
    unit =
        unit_le d
        (λ (M : ℕ) (E : M ≡ 2 ^ 1074) (h : 0 < d). subst (λ (z : ℕ). 2 ^ (52 + d) * (z * z) ≤ n * n * z) (e ∙ sym E) (le_trans (drop_reaches 53 (n * n * 2 ^ 1074) (L * L) (lit< tt) (mul-pos P P) h) (le_of_eq (ap (λ (z : ℕ). n * n * z) (sym e)))))
        L e

    square_under : g * L * 2 ≤ n * n * 2 + n * 2 ^ k * 2
    square_under = le_trans (cancel g L n (2 ^ d) P near.over) (add-le-add (le_of_eq refl) (less (L * 2 ^ d) (2 ^ k * 2 ^ k) unit))
      where
        less : {c : ℕ} (a b : ℕ) → a + b ≤ c → a ≤ c
        less a b h = omega arith

    square_over : n * n * 2 ≤ g * L * 2 + L * 2 ^ d
    square_over = cancel_over g L n (2 ^ d) P near.under

    -- 2 ^ 52 * 2 ^ k squared is a double, so that the rounding does not go below it
    scale : 2 ^ (2 * k - 970) * L ≡ 2 ^ 104 * 2 ^ (2 * k)
    scale =
        ap (λ (z : ℕ). 2 ^ (2 * k - 970) * z) e ∙ sym (pow-add 2 (2 * k - 970) 1074) ∙ ap (λ (z : ℕ). 2 ^ z) (sum pl) ∙ pow-add 2 104 (2 * k)
      where
        sum : 511 ≤ k → 2 * k - 970 + 1074 ≡ 104 + 2 * k
        sum h = omega arith

    least_square_lem : 2 ^ 104 * 2 ^ (2 * k) ≤ n * n
    least_square_lem = subst (λ (z : ℕ). 2 ^ 104 * z ≤ n * n) (sym (pow_double k)) (le_trans (moved (2 ^ k)) (square_le (2 ^ 52 * 2 ^ k) n (mul-le-mul_right (2 ^ k) lo)))
      where
        moved : (K : ℕ) → 2 ^ 104 * (K * K) ≤ 2 ^ 52 * K * (2 ^ 52 * K)
        moved K = omega arith

    square_reaches : 2 ^ (2 * k - 970) ≤ g
    square_reaches =
        grid_reaches binary64 (n * n) (L * L) (2 * k - 970) (lit< tt) (mul-pos P P)
        (le_trans (le_of_eq (sym (mul_assoc (2 ^ (2 * k - 970)) L L) ∙ ap (λ (z : ℕ). z * L) scale)) (le_trans (mul-le-mul_right L least_square_lem) (le_of_eq (ap (λ (z : ℕ). n * n * z) e))))

    -- no number below y is the root
    not_below : (q j : ℕ) → Placed (g * L) q j → q * 2 ^ j < n → ⊥
    not_below q j r h = elim (compared j k) [
      | inl l ↦ not-le_of_lt r.place.1 (le_trans (le_of_eq (sym (pow-add 2 106 (2 * j)))) (le_trans (pow_mono (room l)) (le_trans (le_of_eq (pow-add 2 104 (2 * k))) (le_trans (le_of_eq (sym scale)) (mul-le-mul_right L square_reaches)))))
      | inr (inl i) ↦ clash_below Q (2 ^ k) q g L (L * 2 ^ d) (pow_pos k) (fewer i) square_over unit (subst (λ (z : ℕ). 4 * (g * L) < (2 * q + 1) * (2 * q + 1) * z) (ap (λ (z : ℕ). 2 ^ (2 * z)) i ∙ pow_double k) r.below)
      | inr (inr l) ↦ not-le_of_lt h (doubled Q q k j (le_of_lt hi) r.digits.0 l)
    ]
      where
        room : j < k → 106 + 2 * j ≤ 104 + 2 * k
        room l = omega arith

        fewer : j ≡ k → q < Q
        fewer i = lt_of_not-le (λ (c : Q ≤ q). not-le_of_lt h (subst (λ (z : ℕ). Q * 2 ^ k ≤ q * 2 ^ z) (sym i) (mul-le-mul_right (2 ^ k) c)))

pub above_finite : (x : Float) → T (above x) → T (finite x) → T (positive x)
above_finite nan a f = absurd f
above_finite (inf s) a f = absurd f
above_finite (fin true m e) a f = absurd a
above_finite (fin false m e) a f = a

-- the rounded square of n units
square_value : (y : Float) (n : ℕ) → T (positive y) → HasValue y false n (2 ^ 1074) → T (finite (mul binary64 y y)) → HasValue (mul binary64 y y) false (grid binary64 (n * n) (2 ^ 1074 * 2 ^ 1074)) (2 ^ 1074)
square_value y n p v F =
    let L = 2 ^ 1074 in
    let is : mul binary64 y y ≡ round binary64 false (n * n) (L * L) = mul_at binary64 y y n L n L p p (pow_pos 1074) (pow_pos 1074) v v in
    subst (λ (z : Float). HasValue z false (grid binary64 (n * n) (L * L)) L) (sym is) (round_val binary64 (n * n) (L * L) (round_under binary64 (n * n) (L * L) (subst (λ (z : Float). T (finite z)) is F)))

-- x ≤ round (y * y), so √x ≤ y
pub root_le : (x y : Float) → T (fits binary64 x) → T (fits binary64 y) → T (positive x) → T (positive y) → T (le least_squarable y) → T (finite (mul binary64 y y)) → T (le x (mul binary64 y y)) → T (le (root_of x) y)
root_le x y f g p q s F h =
    let r = rooted x f p in
    let v = normal y g q s in
    let n = v.Q * 2 ^ v.k in
    let L = 2 ^ 1074 in
    let G = grid binary64 (n * n) (L * L) in
    let w : HasValue (mul binary64 y y) false G L = square_value y n q v.value F in
    let P : T (positive (mul binary64 y y)) = above_finite (mul binary64 y y) (above_of_le x (mul binary64 y y) p h) F in
    let l : r.a ≤ G = le_of_mul-le-mul_right (values_of_le x (mul binary64 y y) r.a L G L p P r.x_is w h) (pow_pos 1074) in
    le_of_values (root_of x) y (r.q * 2 ^ r.j) L n L (pow_pos 1074) (pow_pos 1074) r.y_is v.value
    (mul-le-mul_right L (le_of_suc-le-suc (lt_of_not-le (λ (c : suc n ≤ r.q * 2 ^ r.j).
    clash v.Q (2 ^ v.k) r.a G L (pow_pos v.k) l (square_under v.Q v.k v.lower v.upper v.place L refl)
    (subst (λ (z : ℕ). (2 * v.Q + 1) * (2 * v.Q + 1) * z ≤ 4 * (r.a * L)) (pow_double v.k) (half_up (radicand r.a) r.q r.j v.Q v.k r.placed v.lower v.upper c))))))

-- √(round (y * y)) is y
pub root_same : (y : Float) → T (fits binary64 y) → T (positive y) → T (le least_squarable y) → T (finite (mul binary64 y y)) → root_of (mul binary64 y y) ≡ y
root_same y f p s F =
    let v = normal y f p s in
    let n = v.Q * 2 ^ v.k in
    let L = 2 ^ 1074 in
    let x = mul binary64 y y in
    let G = grid binary64 (n * n) (L * L) in
    let w : HasValue x false G L = square_value y n p v.value F in
    let P : T (positive x) = positive_of_value x G L w (lt_of_lt_of_le (pow_pos (2 * v.k - 970)) (square_reaches v.Q v.k v.lower v.upper v.place L refl)) in
    let r = rooted x (mul-fits binary64 y y) P in
    let b = r.q * 2 ^ r.j in
    let a : r.a ≡ G = units_unique x r.a G r.x_is w in
    let pos : T (positive (root_of x)) = positive_of_value (root_of x) b L r.y_is (mul-pos (lt_of_lt_of_le (pow_pos 52) r.placed.digits.0) (pow_pos r.j)) in
    let le : b ≤ n = le_of_mul-le-mul_right (values_of_le (root_of x) y b L n L pos p r.y_is v.value (root_le x y (mul-fits binary64 y y) f P p s F (le-refl_float x (no_nan x P)))) (pow_pos 1074) in
    let ge : n ≤ b = le_of_suc-le-suc (lt_of_not-le (λ (h : suc b ≤ n). not_below v.Q v.k v.lower v.upper v.place L refl r.q r.j (subst (λ (z : ℕ). Placed (z * L) r.q r.j) a r.placed) h)) in
    same_value binary64 (root_of x) y false n L (pow_pos 1074) (root_fits x (mul-fits binary64 y y)) f (subst (λ (z : ℕ). HasValue (root_of x) false z L) (le_antisymm le ge) r.y_is) v.value
