-- Whole numbers under a root: its digits, its rounding, its scale. Assumes nothing.
use mathlib.Core.Path.{◌≡◌, sym, ap, ◌∙◌}
use Prim.Native.Nat.{ℕ, zero, suc, ◌+◌, ◌-◌, ◌*◌, ◌/◌, ◌%◌, ◌^◌, ◌≤◌, ◌<◌}
use native.Mathlib.Nat.{mul-le-mul_right, mul-lt-mul_of_pos_right, lt_of_lt_of_le, lt_of_le_of_lt, le_trans, le_of_eq, lt_of_not-le, not-le_of_lt, lt_irrefl, mul-le-mul, mul-le-mul_left, mul-one, mul_comm, mul_assoc, two-mul, mod-eq_of_lt}
use native.Mathlib.Omega.{arith}
use lib.Dec.{lit≤}
use lib.Count.{count_leading_zeros}
use lib.Pow.{pow-add, pow_pos, pow_mono, shr-shr}
use Rattle.std.proofs.lemmas.Nat.{leading_top}
use Rattle.square_root.specs.RootDigits.{NearestWhole, Placed, Shifted}

pub sq_lt : (r : ℕ) → r * r < 2 ^ 106 → r < 2 ^ 53
sq_lt r h = lt_of_not-le (λ (g : 2 ^ 53 ≤ r). not-le_of_lt h (mul-le-mul g g))

double : (k : ℕ) → 0 < k → 2 * (k - 1) + 2 ≡ 2 * k
double k h = omega arith

pub digit : (m k : ℕ) → 0 < k → 4 * (m / 2 ^ (2 * k)) + m / 2 ^ (2 * (k - 1)) % 4 ≡ m / 2 ^ (2 * (k - 1))
digit m k h =
    let e : m / 2 ^ (2 * (k - 1)) / 4 ≡ m / 2 ^ (2 * k) = shr-shr m (2 * (k - 1)) 2 ∙ ap (λ (z : ℕ). m / 2 ^ z) (double k h) in
    omega arith

pub quadrupled : (m t : ℕ) → m * 2 ^ (2 * (t + 1)) ≡ 4 * (m * 2 ^ (2 * t))
quadrupled m t =
    let e : 2 * (t + 1) ≡ 2 * t + 2 = omega arith in
    let p : 2 ^ (2 * (t + 1)) ≡ 2 ^ (2 * t) * 4 = ap (λ (z : ℕ). 2 ^ z) e ∙ pow-add 2 (2 * t) 2 in
    ap (λ (z : ℕ). m * z) p ∙ omega arith

-- before its 26 zeros are brought down a radicand of 54 digits has a root below 2 ^ 53
pub short_root : (m t r e : ℕ) → m < 2 ^ 54 → t < 26 → r * r + e ≡ m * 2 ^ (2 * t) → r < 2 ^ 53
short_root m t r e h l s =
    let p : 2 ^ (2 * t) ≤ 2 ^ 52 = pow_mono (let q : 2 * t ≤ 52 = omega arith in q) in
    let b : m * 2 ^ (2 * t) ≤ m * 2 ^ 52 = mul-le-mul_left m p in
    sq_lt r (omega arith)

pub square_le : (a b : ℕ) → a ≤ b → a * a ≤ b * b
square_le a b h = mul-le-mul h h

pub pow_double : (j : ℕ) → 2 ^ (2 * j) ≡ 2 ^ j * 2 ^ j
pow_double j = ap (λ (z : ℕ). 2 ^ z) (two-mul j) ∙ pow-add 2 j j

-- a whole root of 2 ^ 104 or more is 2 ^ 52 or more
pub root_ge : (r m : ℕ) → 2 ^ 104 ≤ m → m < (r + 1) * (r + 1) → 2 ^ 52 ≤ r
root_ge r m a b = lt-suc (lt_of_not-le (λ (g : r + 1 ≤ 2 ^ 52). not-le_of_lt b (le_trans (square_le (r + 1) (2 ^ 52) g) a)))
  where
    lt-suc : 2 ^ 52 < r + 1 → 2 ^ 52 ≤ r
    lt-suc h = omega arith

-- (2 r - 1) ^ 2 is 4 r - 1 less than (2 r) ^ 2
pub less_one : (r : ℕ) → 0 < r → (2 * r - 1) * (2 * r - 1) + (4 * r - 1) ≡ 4 * (r * r)
less_one (suc r) h = let e : 2 * suc r - 1 ≡ 2 * r + 1 = omega arith in rw e (omega arith)
less_one zero h = absurd (lt_irrefl 0 h)

-- the remainder says which of the two neighbours is nearer
pub nearest_up : (n r e : ℕ) → r * r + e ≡ n → e ≤ 2 * r → r < e → NearestWhole n (r + 1)
nearest_up n r e s l h = let d : 2 * (r + 1) - 1 ≡ 2 * r + 1 = omega arith in record { above = rw d (omega arith); below = omega arith }

pub nearest_down : (n r e : ℕ) → 0 < r → r * r + e ≡ n → e ≤ r → NearestWhole n r
nearest_down n r e p s h = record { above = omega (arith, less_one r p); below = omega arith }

-- ---- the scale of a root
pub halves : (w : ℕ) → 2 ^ w ≡ 2 ^ (2 * (w / 2)) * 2 ^ (w % 2)
halves w = let e : w ≡ 2 * (w / 2) + w % 2 = omega arith in ap (λ (z : ℕ). 2 ^ z) e ∙ pow-add 2 (2 * (w / 2)) (w % 2)

pub even : (m w : ℕ) → w % 2 ≡ 0 → m * 2 ^ w ≡ m * 2 ^ (2 * (w / 2))
even m w h = ap (λ (z : ℕ). m * z) (halves w ∙ ap (λ (z : ℕ). 2 ^ (2 * (w / 2)) * 2 ^ z) h ∙ mul-one (2 ^ (2 * (w / 2))))

pub odd : (m w : ℕ) → (w % 2 ≡ 0 → ⊥) → m * 2 ^ w ≡ m * 2 * 2 ^ (2 * (w / 2))
odd m w h =
    let o : w % 2 ≡ 1 = omega arith in
    ap (λ (z : ℕ). m * z) (halves w ∙ ap (λ (z : ℕ). 2 ^ (2 * (w / 2)) * 2 ^ z) o ∙ mul_comm (2 ^ (2 * (w / 2))) 2) ∙ sym (mul_assoc m 2 (2 ^ (2 * (w / 2))))

-- a root's two bounds, at a larger scale
pub lift : (m k W q j : ℕ) → m * W ≡ k * 2 ^ (2 * j) → 2 ^ 52 ≤ k → k < 2 ^ 54 → (2 ^ 52 ≤ q) × (q ≤ 2 ^ 53) → NearestWhole (k * 2 ^ 52) q → Placed (m * 2 ^ 52 * W) q j
lift m k W q j e lo hi d n =
    let P : ℕ = 2 ^ (2 * j) in
    let h : 0 < P = pow_pos (2 * j) in
    let s : 4 * (k * 2 ^ 52) * P ≡ 4 * (m * 2 ^ 52 * W) = scaled m k W P e in
    let l : 2 ^ 52 * P ≤ k * P = mul-le-mul_right P lo in
    let u : k * P < 2 ^ 54 * P = mul-lt-mul_of_pos_right hi h in
    record {
      digits = d;
      place = (from m k W P e l, to m k W P e u);
      above = lt_of_lt_of_le (mul-lt-mul_of_pos_right n.above h) (le_of_eq s);
      below = lt_of_le_of_lt (le_of_eq (sym s)) (mul-lt-mul_of_pos_right n.below h);
    }
  where
    scaled : (m k W P : ℕ) → m * W ≡ k * P → 4 * (k * 2 ^ 52) * P ≡ 4 * (m * 2 ^ 52 * W)
    scaled m k W P e = omega arith

    from : (m k W P : ℕ) → m * W ≡ k * P → 2 ^ 52 * P ≤ k * P → 2 ^ 104 * P ≤ m * 2 ^ 52 * W
    from m k W P e l = omega arith

    to : (m k W P : ℕ) → m * W ≡ k * P → k * P < 2 ^ 54 * P → m * 2 ^ 52 * W < 2 ^ 106 * P
    to m k W P e u = omega arith

-- ---- a subnormal significand is shifted until it has 53 digits

-- its highest digit is at the place j, of which a double's 64 bits have z above
highest : (f j z : ℕ) → z + suc j ≡ 64 → 2 ^ j ≤ f → f < 2 ^ suc j → f < 2 ^ 52 → (11 ≤ z) × Shifted f (f * 2 ^ (z - 11) % 2 ^ 64) (1022 - (z - 11))
highest f j z e lo hi h =
    let l : j < 52 = lt_of_not-le (λ (g : 52 ≤ j). not-le_of_lt h (le_trans (pow_mono g) lo)) in
    let s : ℕ = z - 11 in
    let P : ℕ = 2 ^ s in
    let a : j + s ≡ 52 = omega arith in
    let b : suc j + s ≡ 53 = omega arith in
    let lo' : 2 ^ 52 ≤ f * P = le_trans (le_of_eq (sym (ap (λ (z : ℕ). 2 ^ z) a) ∙ pow-add 2 j s)) (mul-le-mul_right P lo) in
    let hi' : f * P < 2 ^ 53 = lt_of_lt_of_le (mul-lt-mul_of_pos_right hi (pow_pos s)) (le_of_eq (sym (pow-add 2 (suc j) s) ∙ ap (λ (z : ℕ). 2 ^ z) b)) in
    let c : s + (1022 - s) ≡ 1022 = omega arith in
    (omega arith, rw (mod-eq_of_lt (lt_of_lt_of_le hi' (lit≤ tt))) (record { long = (lo', hi'); same = mul_assoc f P (2 ^ (1022 - s)) ∙ ap (λ (z : ℕ). f * z) (sym (pow-add 2 s (1022 - s)) ∙ ap (λ (z : ℕ). 2 ^ z) c); most = omega arith }))

pub shifted : (f : ℕ) → 0 < f → f < 2 ^ 52 → (11 ≤ count_leading_zeros 64 f) × Shifted f (f * 2 ^ (count_leading_zeros 64 f - 11) % 2 ^ 64) (1022 - (count_leading_zeros 64 f - 11))
shifted f p h =
    let t = leading_top 64 f p (lt_of_lt_of_le h (lit≤ tt)) in
    highest f t.0 (count_leading_zeros 64 f) t.1 t.2 t.3 h
