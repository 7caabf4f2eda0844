-- `root_of` of a double above zero: its digits q and its last place j, which `Placed` settles. Assumes nothing.
use mathlib.Core.Path.{◌≡◌, refl, sym, ap, ◌∙◌, subst}
use mathlib.Core.Bool.{Bool, true, false, not, cond}
use Prim.Native.Nat.{ℕ, zero, suc, ◌+◌, ◌-◌, ◌*◌, ◌/◌, ◌%◌, ◌^◌, ◌≤◌, ◌<◌}
use native.Mathlib.Nat.{le_trans, le_of_eq, lt_of_lt_of_le, lt_of_le_of_lt, lt_of_not-le, not-le_of_lt, le_of_suc-le-suc, add_comm, mul-le-mul, mul-le-mul_right, mul-lt-mul_of_pos_right, mul-div_cancel, div-mul-le_self, div-lt_iff_lt-mul, le-div_iff_mul-le, le_of_mul-le-mul_right, mul_comm, mul_assoc, mul_left_comm, mul_right_comm, mul-pos, one-mul, add-mul}
use native.Mathlib.Omega.{arith}
use lib.Dec.{T, leb, ltb, leb→le, nleb→lt, ltb→lt, nltb→le, lit≤}
use lib.Pow.{pow-add, pow_pos, pow_mono}
use lib.Ieee.{Float, nan, inf, fin, binary64, fits, up, down, size, of_bits, to_bits, nan_bits}
use lib.Ieee.Digits.{size-lt, size-le, size_reaches, back}
use lib.Ieee.Fits.{down_pos}
use lib.Ieee.Exact.{HasValue}
use lib.Ieee.Positive.{positive, value_pos}
use Rattle.square_root.specs.Root.{Units, radicand, floor_root, nearest_root, last_place, root_at, root_of}
use Rattle.square_root.specs.RootDigits.{Placed, RootPattern, Shifted}
use Rattle.float64.proofs.Fields.{Read, read, units_at, units_below, made}
use Rattle.square_root.proofs.RootNumbers.{sq_lt, root_ge, less_one}

-- ---- floor_root
record Cut (n r : ℕ) : Type 0 where
  low : r * r ≤ n
  high : n < (r + 1) * (r + 1)

quarter : (k n : ℕ) → n < 2 ^ (2 * suc k) → n / 4 < 2 ^ (2 * k)
quarter k n h = let e : 2 ^ (2 * suc k) ≡ 2 ^ (2 * k) * 4 = ap (λ (z : ℕ). 2 ^ z) (two_more k) ∙ pow-add 2 (2 * k) 2 in omega arith
  where
    two_more : (k : ℕ) → 2 * suc k ≡ 2 * k + 2
    two_more k = omega arith

one_more : (n s : ℕ) (b : Bool) → Cut (n / 4) s → (T b → (2 * s + 1) * (2 * s + 1) ≤ n) → (T (not b) → n < (2 * s + 1) * (2 * s + 1)) → Cut n (cond b (2 * s + 1) (2 * s))
one_more n s true f p q = let l = f.high in record { low = p tt; high = omega arith }
one_more n s false f p q = let l = f.low in record { low = omega arith; high = q tt }

floor_is : (k n : ℕ) → n < 2 ^ (2 * k) → Cut n (floor_root k n)
unfolding floor_root
floor_is zero n h = record { low = omega arith; high = omega arith }
floor_is (suc k) n h =
    let s = floor_root k (n / 4) in
    one_more n s (leb ((2 * s + 1) * (2 * s + 1)) n) (floor_is k (n / 4) (quarter k n h)) (leb→le ((2 * s + 1) * (2 * s + 1)) n) (nleb→lt ((2 * s + 1) * (2 * s + 1)) n)

-- ---- two squares at one scale
pub sq_cancel : (a b p : ℕ) → a * a * p < b * b * p → a < b
sq_cancel a b p h = lt_of_not-le (λ (g : b ≤ a). not-le_of_lt h (mul-le-mul_right p (mul-le-mul g g)))

-- ---- `Placed` settles q and j
-- q is the number nearest to √(n / p), and r that root's whole part
pick : (n p q r : ℕ) (b : Bool) → 0 < p → (2 * q - 1) * (2 * q - 1) * p < 4 * n → 4 * n < (2 * q + 1) * (2 * q + 1) * p → r * r * p ≤ n → n < (r + 1) * (r + 1) * p
    → (T b → (2 * r + 1) * (2 * r + 1) * p < 4 * n) → (T (not b) → 4 * n ≤ (2 * r + 1) * (2 * r + 1) * p) → q ≡ cond b (r + 1) r
pick n p q r true P a c l h x y =
    eq-up q r (sq_cancel (2 * r + 1) (2 * q + 1) p (lt_of_lt_of_le (x tt) (omega arith))) (sq_cancel (2 * q - 1) (2 * r + 2) p (lt_of_lt_of_le a (omega arith)))
  where
    eq-up : (q r : ℕ) → 2 * r + 1 < 2 * q + 1 → 2 * q - 1 < 2 * r + 2 → q ≡ r + 1
    eq-up q r a b = omega arith
pick n p q r false P a c l h x y =
    eq-down q r (sq_cancel (2 * q - 1) (2 * r + 1) p (lt_of_lt_of_le a (y tt))) (sq_cancel (2 * r) (2 * q + 1) p (lt_of_le_of_lt (omega arith) c))
  where
    eq-down : (q r : ℕ) → 2 * q - 1 < 2 * r + 1 → 2 * r < 2 * q + 1 → q ≡ r
    eq-down q r a b = omega arith

digits_are : (n q j : ℕ) → Placed n q j → q ≡ nearest_root n (2 ^ (2 * j))
unfolding nearest_root
digits_are n q j h =
    let p = 2 ^ (2 * j) in
    let P : 0 < p = pow_pos (2 * j) in
    let r = floor_root 53 (n / p) in
    let f = floor_is 53 (n / p) ((div-lt_iff_lt-mul P).1 h.place.1) in
    pick n p q r (ltb ((2 * r + 1) * (2 * r + 1) * p) (4 * n)) P h.above h.below (le_trans (mul-le-mul_right p f.low) (div-mul-le_self n p)) ((div-lt_iff_lt-mul P).0 f.high)
    (ltb→lt ((2 * r + 1) * (2 * r + 1) * p) (4 * n)) (nltb→le ((2 * r + 1) * (2 * r + 1) * p) (4 * n))

place_is : (n q j : ℕ) → Placed n q j → last_place n ≡ j
place_is n q j h =
    halved (size n) j
    (lt_of_not-le (λ (g : size n ≤ 104 + 2 * j). not-le_of_lt (lt_of_lt_of_le (size-lt n) (le_trans (pow_mono g) (le_of_eq (pow-add 2 104 (2 * j))))) h.place.0))
    (size-le n (106 + 2 * j) (lt_of_lt_of_le h.place.1 (le_of_eq (sym (pow-add 2 106 (2 * j))))))
  where
    halved : (z j : ℕ) → 104 + 2 * j < z → z ≤ 106 + 2 * j → (z - 105) / 2 ≡ j
    halved z j a b = omega arith

at_placed : (n q j : ℕ) → Placed n q j → of_bits binary64 (j * 2 ^ 52 + q) ≡ root_at n
at_placed n q j h =
    ap (λ (z : ℕ). of_bits binary64 (j * 2 ^ 52 + z)) (digits_are n q j h)
    ∙ ap (λ (z : ℕ). of_bits binary64 (z * 2 ^ 52 + nearest_root n (2 ^ (2 * z)))) (sym (place_is n q j h))

-- `root_of` at a units
root_units : (x : Float) (a : ℕ) → T (positive x) → Units x a → root_at (radicand a) ≡ root_of x
unfolding root_of
root_units nan a p v = absurd p
root_units (inf s) a p v = absurd p
root_units (fin true m e) a p v = absurd p
root_units (fin false zero e) a p v = absurd p
root_units (fin false (suc m) e) a p v =
    let u : a ≡ suc m * up e * 2 ^ 1074 / down e = sym (ap (λ (z : ℕ). z / down e) v.1 ∙ mul-div_cancel a (down_pos e)) in
    ap (λ (z : ℕ). root_at (radicand z)) u

pub root_of_placed : (x : Float) (a q j : ℕ) → T (positive x) → Units x a → Placed (radicand a) q j → of_bits binary64 (j * 2 ^ 52 + q) ≡ root_of x
root_of_placed x a q j p v h = at_placed (radicand a) q j h ∙ root_units x a p v

-- ---- from the code's digits and scale
low_scale : (m P f u c : ℕ) → m * P ≡ f * u → f * (u * c) ≡ m * c * P
low_scale m P f u c e = sym (mul_assoc f u c) ∙ ap (λ (z : ℕ). z * c) (sym e) ∙ mul_right_comm m P c

high_scale : (m Q u c : ℕ) → m * Q * (u * c) ≡ m * c * (Q * u)
high_scale m Q u c = simp (mul_assoc, mul_comm, mul_left_comm)

of_pattern : (x : Float) (a m w n : ℕ) → T (positive x) → Units x a → radicand a ≡ m * 2 ^ 52 * 2 ^ w → RootPattern m w n → of_bits binary64 n ≡ root_of x
of_pattern x a m w n p v e r = ap (of_bits binary64) r.is ∙ root_of_placed x a r.q (w / 2) p v (subst (λ (z : ℕ). Placed z r.q (w / 2)) (sym e) r.placed)

pub no_nan_pattern : (m w n : ℕ) → w ≤ 3067 → RootPattern m w n → T (not (nan_bits binary64 n))
no_nan_pattern m w n h r = (made n r.q (w / 2) r.is r.placed.digits.0 r.placed.digits.1 (omega arith)).no_nan

-- a normal one
pub normal_root : (x : Float) (b : ℕ) → T (positive x) → Read x b → (b / 2 ^ 52 ≡ 0 → ⊥) → (n : ℕ) → RootPattern (b % 2 ^ 52 + 2 ^ 52) (b / 2 ^ 52 + 1021) n → of_bits binary64 n ≡ root_of x
normal_root x b p r z n k = go (b / 2 ^ 52) z r.value k
  where
    go : (E : ℕ) → (E ≡ 0 → ⊥) → HasValue x false (units_at E (b % 2 ^ 52)) (2 ^ 1074) → RootPattern (b % 2 ^ 52 + 2 ^ 52) (E + 1021) n → of_bits binary64 n ≡ root_of x
    go zero y v l = absurd (y refl)
    go (suc E) y v l =
        let t = b % 2 ^ 52 in
        let e : suc E + 1021 ≡ E + 1022 = omega arith in
        let c : t + 2 ^ 52 ≡ 2 ^ 52 + t = add_comm t (2 ^ 52) in
        of_pattern x ((2 ^ 52 + t) * 2 ^ E) (t + 2 ^ 52) (suc E + 1021) n p v
        (high_scale (2 ^ 52 + t) (2 ^ E) (2 ^ 1022) (2 ^ 52)
        ∙ ap (λ (z : ℕ). z * 2 ^ 52 * (2 ^ E * 2 ^ 1022)) (sym c)
        ∙ ap (λ (z : ℕ). (t + 2 ^ 52) * 2 ^ 52 * z) (sym (ap (λ (z : ℕ). 2 ^ z) e ∙ pow-add 2 E 1022)))
        l

-- a subnormal one
pub low_root : (x : Float) (b : ℕ) → T (positive x) → Read x b → b / 2 ^ 52 ≡ 0 → (m w n : ℕ) → Shifted (b % 2 ^ 52) m w → RootPattern m w n → of_bits binary64 n ≡ root_of x
low_root x b p r z m w n s k =
    of_pattern x (b % 2 ^ 52) m w n p (subst (λ (E : ℕ). HasValue x false (units_at E (b % 2 ^ 52)) (2 ^ 1074)) z r.value) (low_scale m (2 ^ w) (b % 2 ^ 52) (2 ^ 1022) (2 ^ 52) s.same) k

-- ---- there is one: every double above zero has a `Placed` root
odd_square : (r p : ℕ) → 0 < r → (2 * r - 1) * (2 * r - 1) * p + (4 * r - 1) * p ≡ 4 * (r * r * p)
odd_square r p h = sym (add-mul ((2 * r - 1) * (2 * r - 1)) (4 * r - 1) p) ∙ ap (λ (z : ℕ). z * p) (less_one r h) ∙ mul_assoc 4 (r * r) p

-- no tie: 4 N is no odd square
strict : (N q p : ℕ) → 0 < p → 4 * (N * p) ≤ (2 * q + 1) * (2 * q + 1) * p → 4 * (N * p) < (2 * q + 1) * (2 * q + 1) * p
strict N q p P h =
    let a : 4 * N ≤ (2 * q + 1) * (2 * q + 1) = le_of_mul-le-mul_right (le_trans (le_of_eq (mul_assoc 4 N p)) h) P in
    let b : 4 * N < (2 * q + 1) * (2 * q + 1) = omega arith in
    lt_of_le_of_lt (le_of_eq (sym (mul_assoc 4 N p))) (mul-lt-mul_of_pos_right b P)

-- the bounds of a root's digits, with no tie: n is a multiple of p
record Digits (n p q : ℕ) : Type 0 where
  digits : (2 ^ 52 ≤ q) × (q ≤ 2 ^ 53)
  above : (2 * q - 1) * (2 * q - 1) * p < 4 * n
  below : 4 * n < (2 * q + 1) * (2 * q + 1) * p

bounded : (n p r : ℕ) (b : Bool) → 0 < p → ((q : ℕ) → 4 * n ≤ (2 * q + 1) * (2 * q + 1) * p → 4 * n < (2 * q + 1) * (2 * q + 1) * p)
    → 2 ^ 52 ≤ r → r < 2 ^ 53 → r * r * p ≤ n → n < (r + 1) * (r + 1) * p
    → (T b → (2 * r + 1) * (2 * r + 1) * p < 4 * n) → (T (not b) → 4 * n ≤ (2 * r + 1) * (2 * r + 1) * p) → Digits n p (cond b (r + 1) r)
bounded n p r true P s lo hi l h x y =
    let d : 2 * (r + 1) - 1 ≡ 2 * r + 1 = omega arith in
    record { digits = (omega arith, omega arith); above = rw d (x tt); below = omega arith }
bounded n p r false P s lo hi l h x y =
    let z : 0 < (4 * r - 1) * p = mul-pos (omega arith) P in
    record { digits = (omega arith, omega arith); above = omega (arith, odd_square r p (omega arith)); below = s r (y tt) }

digits_at : (n p N : ℕ) → 0 < p → n ≡ N * p → 2 ^ 104 * p ≤ n → n < 2 ^ 106 * p → Digits n p (nearest_root n p)
unfolding nearest_root
digits_at n p N P e L H =
    let r = floor_root 53 (n / p) in
    let f = floor_is 53 (n / p) ((div-lt_iff_lt-mul P).1 H) in
    bounded n p r (ltb ((2 * r + 1) * (2 * r + 1) * p) (4 * n)) P
    (λ (q : ℕ) (h : 4 * n ≤ (2 * q + 1) * (2 * q + 1) * p). subst (λ (z : ℕ). 4 * z < (2 * q + 1) * (2 * q + 1) * p) (sym e) (strict N q p P (subst (λ (z : ℕ). 4 * z ≤ (2 * q + 1) * (2 * q + 1) * p) e h)))
    (root_ge r (n / p) ((le-div_iff_mul-le P).1 L) f.high) (sq_lt r (lt_of_le_of_lt f.low ((div-lt_iff_lt-mul P).1 H)))
    (le_trans (mul-le-mul_right p f.low) (div-mul-le_self n p)) ((div-lt_iff_lt-mul P).0 f.high)
    (ltb→lt ((2 * r + 1) * (2 * r + 1) * p) (4 * n)) (nltb→le ((2 * r + 1) * (2 * r + 1) * p) (4 * n))

-- the last place of n
in_place : (n : ℕ) → 2 ^ 104 ≤ n → (2 ^ 104 * 2 ^ (2 * last_place n) ≤ n) × (n < 2 ^ 106 * 2 ^ (2 * last_place n))
in_place n h =
    let z : 105 ≤ size n = lt_of_not-le (λ (g : size n ≤ 104). not-le_of_lt (lt_of_lt_of_le (size-lt n) (pow_mono g)) h) in (
      le_trans (le_of_eq (sym (pow-add 2 104 (2 * last_place n)))) (size_reaches n (104 + 2 * last_place n) (below_z (size n) z)),
      lt_of_lt_of_le (size-lt n) (le_trans (pow_mono (above_z (size n))) (le_of_eq (pow-add 2 106 (2 * last_place n)))),
    )
  where
    below_z : (z : ℕ) → 105 ≤ z → 104 + 2 * ((z - 105) / 2) < z
    below_z z h = omega arith

    above_z : (z : ℕ) → z ≤ 106 + 2 * ((z - 105) / 2)
    above_z z = omega arith

-- a number of 53 digits times 2 ^ s that is 2 ^ 104 * 4 ^ j at least is a multiple of 4 ^ j
whole : (m s j : ℕ) → m < 2 ^ 53 → 2 ^ 104 * 2 ^ (2 * j) ≤ m * 2 ^ s → m * 2 ^ s ≡ m * 2 ^ (s - 2 * j) * 2 ^ (2 * j)
whole m s j h k =
    let l : 2 * j ≤ s = le_of_suc-le-suc (lt_of_not-le (λ (g : suc s ≤ 2 * j). not-le_of_lt (mul-lt-mul_of_pos_right h (pow_pos s)) (le_trans (le_of_eq (sym (pow-add 2 53 s))) (le_trans (pow_mono (room s j g)) (le_trans (le_of_eq (pow-add 2 104 (2 * j))) k))))) in
    ap (λ (z : ℕ). m * z) (ap (λ (z : ℕ). 2 ^ z) (sym (back s (2 * j) l)) ∙ pow-add 2 (s - 2 * j) (2 * j)) ∙ sym (mul_assoc m (2 ^ (s - 2 * j)) (2 ^ (2 * j)))
  where
    room : (s j : ℕ) → suc s ≤ 2 * j → 53 + s ≤ 104 + 2 * j
    room s j g = omega arith

multiple : (E t j : ℕ) → t < 2 ^ 52 → 2 ^ 104 * 2 ^ (2 * j) ≤ radicand (units_at E t) → (N : ℕ) × (radicand (units_at E t) ≡ N * 2 ^ (2 * j))
multiple zero t j h k = (t * 2 ^ (1074 - 2 * j), whole t 1074 j (lt_of_lt_of_le h (lit≤ tt)) k)
multiple (suc E) t j h k =
    let m = 2 ^ 52 + t in
    let e : m * 2 ^ E * 2 ^ 1074 ≡ m * 2 ^ (E + 1074) = mul_assoc m (2 ^ E) (2 ^ 1074) ∙ ap (λ (z : ℕ). m * z) (sym (pow-add 2 E 1074)) in
    (m * 2 ^ (E + 1074 - 2 * j), e ∙ whole m (E + 1074) j (omega arith) (le_trans k (le_of_eq e)))

-- what is known of the root of a double above zero
pub record Rooted (x : Float) : Type 0 where
  pub a : ℕ
  pub q : ℕ
  pub j : ℕ
  pub x_is : Units x a
  pub y_is : Units (root_of x) (q * 2 ^ j)
  pub placed : Placed (radicand a) q j

rooted_at : (x : Float) (E t : ℕ) → T (positive x) → E ≤ 2046 → t < 2 ^ 52 → Units x (units_at E t) → Rooted x
rooted_at x E t p h k v =
    let a = units_at E t in
    let n = radicand a in
    let j = last_place n in
    let A : 0 < a = value_pos x a (2 ^ 1074) p (pow_pos 1074) v in
    let big : 2 ^ 104 ≤ n = le_trans (lit≤ tt) (le_trans (le_of_eq (sym (one-mul (2 ^ 1074)))) (mul-le-mul_right (2 ^ 1074) A)) in
    let pl = in_place n big in
    let N = multiple E t j k pl.0 in
    let w = digits_at n (2 ^ (2 * j)) N.0 (pow_pos (2 * j)) N.1 pl.0 pl.1 in
    let q = nearest_root n (2 ^ (2 * j)) in
    let sz : size n ≤ 3172 = size-le n 3172 (lt_of_lt_of_le (mul-lt-mul_of_pos_right (units_below E t 2098 k (room h)) (pow_pos 1074)) (le_of_eq (sym (pow-add 2 2098 1074)))) in
    record {
      a = a;
      q = q;
      j = j;
      x_is = v;
      y_is = subst (λ (y : Float). Units y (q * 2 ^ j)) (root_units x a p v) (made (j * 2 ^ 52 + q) q j refl w.digits.0 w.digits.1 (half_le (size n) sz)).value;
      placed = record { digits = w.digits; place = pl; above = w.above; below = w.below };
    }
  where
    room : E ≤ 2046 → E + 52 ≤ 2098
    room g = omega arith

    half_le : (z : ℕ) → z ≤ 3172 → (z - 105) / 2 ≤ 1533
    half_le z h = omega arith

pub rooted : (x : Float) → T (fits binary64 x) → T (positive x) → Rooted x
rooted x f p =
    let b = to_bits binary64 x in
    let r = read x f p in
    rooted_at x (b / 2 ^ 52) (b % 2 ^ 52) p r.exponent (omega arith) r.value
