-- `root_of` of a double above zero is the nearest double, and no two are as near. Assumes nothing.
use mathlib.Core.Path.{◌≡◌, refl, sym, ap, ◌∙◌, subst}
use mathlib.Core.Logic.{inl, inr}
use mathlib.Core.Bool.{Bool, true, false}
use Prim.Native.Nat.{ℕ, zero, suc, ◌+◌, ◌-◌, ◌*◌, ◌^◌, ◌≤◌, ◌<◌}
use native.Mathlib.Nat.{le_trans, le_of_eq, le_of_lt, lt_of_lt_of_le, lt_of_le_of_lt, lt_of_not-le, not-le_of_lt, eq-or-lt_of_le, mul-le-mul, mul-le-mul_right, mul-lt-mul_of_pos_left, mul-pos, zero-lt-suc, add_comm, add-le-add}
use native.Mathlib.Omega.{arith}
use borrow.Author.Tests.{ltb-true, ltb-false}
use lib.Dec.{T, ltb, lt→ltb}
use lib.Ieee.{Float, nan, inf, fin, binary64, fits}
use lib.Ieee.Bits.{of_bits-fits}
use lib.Ieee.Positive.{positive, positive_of_value}
use Rattle.square_root.specs.Root.{Units, radicand, NearestRoot, IsRoot, root_of}
use Rattle.square_root.specs.RootDigits.{Placed}
use Rattle.square_root.specs.Claims.{NoneBetween}
use Rattle.lists.proofs.Counting.{compared, lt_or_le}
use Rattle.square_root.proofs.RootNumbers.{square_le, pow_double}
use Rattle.square_root.proofs.RootPlace.{rooted}
use Rattle.rounding.proofs.Multiples.{units_unique, multiple_of}

-- ---- no other multiple is as near
scaled_square : (k j : ℕ) → k * k * 2 ^ (2 * j) ≡ k * 2 ^ j * (k * 2 ^ j)
scaled_square k j =
    ap (λ (z : ℕ). k * k * z) (pow_double j) ∙ moved k (2 ^ j)
  where
    moved : (k P : ℕ) → k * k * (P * P) ≡ k * P * (k * P)
    moved k P = omega arith

cancel_lt : (q u P : ℕ) → q * P < u * P → q < u
cancel_lt q u P h = lt_of_not-le (λ (g : u ≤ q). not-le_of_lt h (mul-le-mul_right P g))

module _ (n q j : ℕ) (h : Placed n q j) where
  -- from half a place above, 4 n is less; from half a place below, more
  far_above : (s : ℕ) → (2 * q + 1) * 2 ^ j ≤ s → 4 * n < s * s
  far_above s g = lt_of_lt_of_le h.below (le_trans (le_of_eq (scaled_square (2 * q + 1) j)) (square_le ((2 * q + 1) * 2 ^ j) s g))

  far_below : (s : ℕ) → s ≤ (2 * q - 1) * 2 ^ j → s * s < 4 * n
  far_below s g = lt_of_le_of_lt (le_trans (square_le s ((2 * q - 1) * 2 ^ j) g) (le_of_eq (sym (scaled_square (2 * q - 1) j)))) h.above

  module _ (z : Float) (c : ℕ) (F : T (fits binary64 z)) (v : Units z c) where
    pub beyond : q * 2 ^ j < c → 4 * n < (q * 2 ^ j + c) * (q * 2 ^ j + c)
    beyond l =
        let w = multiple_of z c j F v (le_trans (mul-le-mul_right (2 ^ j) h.digits.0) (le_of_lt l)) in
        far_above (q * 2 ^ j + c) (subst (λ (k : ℕ). (2 * q + 1) * 2 ^ j ≤ q * 2 ^ j + k) (sym w.1) (step q w.0 (2 ^ j) (cancel_lt q w.0 (2 ^ j) (lt_of_lt_of_le l (le_of_eq w.1)))))
      where
        step : (q u P : ℕ) → q < u → (2 * q + 1) * P ≤ q * P + u * P
        step q u P g = let a : (q + 1) * P ≤ u * P = mul-le-mul_right P (more g) in omega arith
          where
            more : q < u → q + 1 ≤ u
            more g = omega arith

    pub short_of_lem : c < q * 2 ^ j → (q * 2 ^ j + c) * (q * 2 ^ j + c) < 4 * n
    short_of_lem l = split (ltb c (2 ^ 52 * 2 ^ j)) refl
      where
        step : (q u P : ℕ) → u < q → q * P + u * P ≤ (2 * q - 1) * P
        step q u P g = let a : (q + u) * P ≤ (2 * q - 1) * P = mul-le-mul_right P (less g) in omega arith
          where
            less : u < q → q + u ≤ 2 * q - 1
            less g = omega arith

        small : (q c k P : ℕ) → k < q → c < k * P → q * P + c ≤ (2 * q - 1) * P
        small q c k P g m = le_trans (sum m) (step q k P g)
          where
            sum : c < k * P → q * P + c ≤ q * P + k * P
            sum m = omega arith

        -- at the lowest q the doubles below are closer, and the place itself says enough
        lowest : 2 ^ 52 ≡ q → c < 2 ^ 52 * 2 ^ j → (q * 2 ^ j + c) * (q * 2 ^ j + c) < 4 * n
        lowest e m =
            let P = 2 ^ j in
            let s : q * P + c < 2 ^ 53 * P = subst (λ (k : ℕ). k * P + c < 2 ^ 53 * P) e (twice P c m) in
            lt_of_lt_of_le (strict (q * P + c) (2 ^ 53 * P) s) (le_trans (le_of_eq (sym (scaled_square (2 ^ 53) j))) (four (2 ^ (2 * j)) h.place.0))
          where
            twice : (P c : ℕ) → c < 2 ^ 52 * P → 2 ^ 52 * P + c < 2 ^ 53 * P
            twice P c m = omega arith

            strict : (a b : ℕ) → a < b → a * a < b * b
            strict a b g = lt_of_le_of_lt (mul-le-mul (le_of_lt g) (le_of_eq refl)) (mul-lt-mul_of_pos_right' g)
              where
                mul-lt-mul_of_pos_right' : a < b → b * a < b * b
                mul-lt-mul_of_pos_right' g = mul-lt-mul_of_pos_left g (lt_of_le_of_lt (least a) g)
                  where
                    least : (a : ℕ) → 0 ≤ a
                    least a = omega arith

            four : (R : ℕ) → 2 ^ 104 * R ≤ n → 2 ^ 53 * 2 ^ 53 * R ≤ 4 * n
            four R g = omega arith

        split : (b : Bool) → ltb c (2 ^ 52 * 2 ^ j) ≡ b → (q * 2 ^ j + c) * (q * 2 ^ j + c) < 4 * n
        split true e = elim (eq-or-lt_of_le h.digits.0) [
          | inl d ↦ lowest d (ltb-true c (2 ^ 52 * 2 ^ j) e)
          | inr d ↦ far_below (q * 2 ^ j + c) (small q c (2 ^ 52) (2 ^ j) d (ltb-true c (2 ^ 52 * 2 ^ j) e))
        ]
        split false e =
            let w = multiple_of z c j F v (ltb-false c (2 ^ 52 * 2 ^ j) e) in
            far_below (q * 2 ^ j + c) (subst (λ (k : ℕ). q * 2 ^ j + k ≤ (2 * q - 1) * 2 ^ j) (sym w.1) (step q w.0 (2 ^ j) (cancel_lt w.0 q (2 ^ j) (lt_of_le_of_lt (le_of_eq (sym w.1)) l))))

-- ---- the nearest
pub root_fits : (x : Float) → T (fits binary64 x) → T (fits binary64 (root_of x))
unfolding root_of fits
root_fits nan F = tt
root_fits (inf true) F = tt
root_fits (inf false) F = tt
root_fits (fin s zero e) F = F
root_fits (fin true (suc m) e) F = tt
root_fits (fin false (suc m) e) F = of_bits-fits binary64 _

pub nearest_root_lem : (x : Float) → T (fits binary64 x) → T (positive x) → NearestRoot x (root_of x)
nearest_root_lem x F p =
    let r = rooted x F p in
    let n = radicand r.a in
    let b = r.q * 2 ^ r.j in
    record {
      a = r.a;
      b = b;
      x_is = r.x_is;
      y_is = r.y_is;
      double = root_fits x F;
      nearest = λ (z : Float) (c : ℕ) (G : T (fits binary64 z)) (v : Units z c). (
        (λ (l : b < c). le_of_lt (beyond n r.q r.j r.placed z c G v l)),
        (λ (l : c < b). le_of_lt (short_of_lem n r.q r.j r.placed z c G v l)),
      );
      even = λ (z : Float) (c : ℕ) (G : T (fits binary64 z)) (v : Units z c) (d : c ≡ b → ⊥) (e : (b + c) * (b + c) ≡ 4 * n). elim (compared c b) [
        | inl l ↦ absurd (not-le_of_lt (short_of_lem n r.q r.j r.placed z c G v l) (le_of_eq (sym e)))
        | inr (inl k) ↦ absurd (d k)
        | inr (inr l) ↦ absurd (not-le_of_lt (beyond n r.q r.j r.placed z c G v l) (le_of_eq e))
      ];
    }

-- ---- no tie
pub no_tie : (x y z : Float) (a b c : ℕ) → T (fits binary64 x) → Units x a → T (fits binary64 y) → Units y b → T (fits binary64 z) → Units z c → b < c → NoneBetween b c → (b + c) * (b + c) ≡ 4 * radicand a → ⊥
no_tie x y z a b c F v G u H w l none e =
    let r = rooted x F (positive_of_value x a (2 ^ 1074) v (some a e (mul-pos (sum l) (sum l)))) in
    let t = r.q * 2 ^ r.j in
    let n = radicand r.a in
    let m : 4 * n ≡ (b + c) * (b + c) = ap (λ (k : ℕ). 4 * radicand k) (units_unique x r.a a r.x_is v) ∙ sym e in
    elim (lt_or_le b t) [
      | inr h ↦ not-le_of_lt (beyond n r.q r.j r.placed z c H w (lt_of_le_of_lt h l)) (le_trans (square_le (t + c) (b + c) (add-le-add h (le_of_eq refl))) (le_of_eq (sym m)))
      | inl h ↦
          elim (lt_or_le t c) [
            | inl k ↦ none (root_of x) t (root_fits x F) r.y_is h k
            | inr k ↦ not-le_of_lt (short_of_lem n r.q r.j r.placed y b G u h) (le_trans (le_of_eq m) (square_le (b + c) (t + b) (le_trans (le_of_eq (add_comm b c)) (add-le-add k (le_of_eq refl)))))
          ]
    ]
  where
    sum : b < c → 0 < b + c
    sum h = omega arith

    some : (a : ℕ) → (b + c) * (b + c) ≡ 4 * radicand a → 0 < (b + c) * (b + c) → 0 < a
    some zero i s = absurd (none_left ((b + c) * (b + c)) i s)
      where
        none_left : (k : ℕ) → k ≡ 4 * radicand 0 → 0 < k → ⊥
        none_left k i s = omega arith
    some (suc a) i s = zero-lt-suc a

-- ---- at every double
pub root_is : (x : Float) → T (fits binary64 x) → IsRoot x (root_of x)
unfolding IsRoot root_of
root_is nan F = refl
root_is (inf true) F = refl
root_is (inf false) F = refl
root_is (fin s zero e) F = refl
root_is (fin true (suc m) e) F = refl
root_is (fin false (suc m) e) F = nearest_root_lem (fin false (suc m) e) F (lt→ltb 0 (suc m) (zero-lt-suc m))
