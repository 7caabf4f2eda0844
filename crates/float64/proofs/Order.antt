-- Order laws of `le` and `lt` at every float, zeros of both signs and infinities included. Assumes nothing.
use mathlib.Core.Path.{◌≡◌, refl, sym, ap, ◌∙◌, subst}
use mathlib.Core.Logic.{◌⊎◌, inl, inr}
use mathlib.Core.Bool.{Bool, true, false, not, ◌&&◌, ◌||◌, true≢false}
use Prim.Native.Nat.{ℕ, ◌+◌, ◌*◌, ◌≤◌, ◌<◌}
use native.Mathlib.Nat.{le_trans, le_of_eq, zero-mul, eq_of_mul-eq-mul_right, eq-or-lt_of_le, eq-zero-or-pos}
use native.Mathlib.Omega.{arith}
use borrow.Author.Tests.{ltb-true, ltb-false}
use lib.Dec.{T, ltb, eqb, lt→ltb, ltb→lt, eqb→eq}
use lib.Ieee.{Float, nan, inf, fin, up, down, below, level, is_nan, lt, le, eq}
use lib.Ieee.Fits.{down_pos, and_i, and_l, and_r, eq→eqb}
use lib.Ieee.Positive.{through}

or_split : (a b : Bool) → T (a || b) → T a ⊎ T b
or_split true b t = inl tt
or_split false b t = inr t

pub lt_or_eq : (a b : ℕ) (c : Bool) → T (ltb a b || (eqb a b && c)) → a ≤ b
lt_or_eq a b c t = elim (or_split (ltb a b) (eqb a b && c) t) [ inl u ↦ at_most (ltb→lt a b u) | inr u ↦ le_of_eq (eqb→eq a b (and_l (eqb a b) c u)) ]
  where
    at_most : a < b → a ≤ b
    at_most k = omega arith

-- ±a ≤ ±b, as numbers
abbrev pub Le : Bool → ℕ → Bool → ℕ → Type 0
Le false a false b = a ≤ b
Le false a true b = (a ≡ 0) × (b ≡ 0)
Le true a false b = Unit
Le true a true b = b ≤ a

or_l : (a b : Bool) → T a → T (a || b)
or_l true b t = tt
or_l false b t = absurd t

or_r : (a b : Bool) → T b → T (a || b)
or_r true b t = tt
or_r false b t = t

to_LE : (s : Bool) (a : ℕ) (t : Bool) (b : ℕ) → T (below s a t b || level s a t b) → Le s a t b
to_LE false a false b h = lt_or_eq a b true h
to_LE false a true b h =
    let z = eqb→eq a 0 (and_r (eqb a b) (eqb a 0) h) in
    let e = eqb→eq a b (and_l (eqb a b) (eqb a 0) h) in
    (z, sym e ∙ z)
to_LE true a false b h = tt
to_LE true a true b h = elim (or_split (ltb b a) (eqb a b && true) h) [ inl u ↦ at_most (ltb→lt b a u) | inr u ↦ le_of_eq (sym (eqb→eq a b (and_l (eqb a b) true u))) ]
  where
    at_most : b < a → b ≤ a
    at_most k = omega arith

pub of_LE : (s : Bool) (a : ℕ) (t : Bool) (b : ℕ) → Le s a t b → T (below s a t b || level s a t b)
of_LE false a false b h = elim (eq-or-lt_of_le h) [ inl e ↦ or_r (ltb a b) (eqb a b && true) (and_i (eqb a b) true (eq→eqb e) tt) | inr l ↦ or_l (ltb a b) (eqb a b && true) (lt→ltb a b l) ]
of_LE false a true b h = and_i (eqb a b) (eqb a 0) (eq→eqb (h.0 ∙ sym h.1)) (eq→eqb h.0)
of_LE true a false b h = elim (eq-zero-or-pos (a + b)) [ inl z ↦ or_r (ltb 0 (a + b)) (eqb a b && eqb a 0) (and_i (eqb a b) (eqb a 0) (eq→eqb (same z)) (eq→eqb (none z))) | inr p ↦ or_l (ltb 0 (a + b)) (eqb a b && eqb a 0) (lt→ltb 0 (a + b) p) ]
  where
    same : a + b ≡ 0 → a ≡ b
    same z = omega arith

    none : a + b ≡ 0 → a ≡ 0
    none z = omega arith
of_LE true a true b h = elim (eq-or-lt_of_le h) [ inl e ↦ or_r (ltb b a) (eqb a b && true) (and_i (eqb a b) true (eq→eqb (sym e)) tt) | inr l ↦ or_l (ltb b a) (eqb a b && true) (lt→ltb b a l) ]

-- `x < y` failed, and neither is a NaN: y ≤ x
flip : (s : Bool) (a : ℕ) (t : Bool) (b : ℕ) → below s a t b ≡ false → Le t b s a
flip false a false b h = ltb-false a b h
flip false a true b h = tt
flip true a false b h = zeros (ltb-false 0 (a + b) h)
  where
    zeros : a + b ≤ 0 → (b ≡ 0) × (a ≡ 0)
    zeros k = (omega arith, omega arith)
flip true a true b h = ltb-false b a h

pub le_of_not_lt : (x y : Float) → T (not (is_nan x)) → T (not (is_nan y)) → lt x y ≡ false → T (le y x)
unfolding lt le is_nan
le_of_not_lt nan y p q h = absurd p
le_of_not_lt (inf s) nan p q h = absurd q
le_of_not_lt (inf true) (inf true) p q h = tt
le_of_not_lt (inf true) (inf false) p q h = absurd (true≢false h)
le_of_not_lt (inf false) (inf true) p q h = tt
le_of_not_lt (inf false) (inf false) p q h = tt
le_of_not_lt (inf true) (fin t n d) p q h = absurd (true≢false h)
le_of_not_lt (inf false) (fin t n d) p q h = tt
le_of_not_lt (fin s m e) nan p q h = absurd q
le_of_not_lt (fin s m e) (inf true) p q h = tt
le_of_not_lt (fin s m e) (inf false) p q h = absurd (true≢false h)
le_of_not_lt (fin s m e) (fin t n d) p q h = of_LE t (n * up d * down e) s (m * up e * down d) (flip s (m * up e * down d) t (n * up d * down e) h)

pub le_of_lt : (x y : Float) → lt x y ≡ true → T (le x y)
unfolding le
le_of_lt x y h = or_l (lt x y) (eq x y) (subst T (sym h) tt)

-- ---- transitivity
zero_cross : (a u b : ℕ) → 0 < u → a * u ≡ 0 → a * b ≡ 0
zero_cross a u b h e = ap (λ (z : ℕ). z * b) (eq_of_mul-eq-mul_right u h a 0 (e ∙ sym (zero-mul u))) ∙ zero-mul b

-- X / p ≤ Y / q ≤ Z / r with signs
join : (s t u : Bool) (x y z p q r : ℕ) → 0 < p → 0 < q → 0 < r → Le s (x * q) t (y * p) → Le t (y * r) u (z * q) → Le s (x * r) u (z * p)
join false false false x y z p q r P Q R h k = through x y z p q r Q h k
join false false true x y z p q r P Q R h k =
    let e : y * p ≡ 0 = zero_cross y r p R k.0 in
    (zero_cross x q r Q (omega arith), zero_cross z q p Q k.1)
join false true false x y z p q r P Q R h k = le_trans (le_of_eq (zero_cross x q r Q h.0)) (omega arith)
join false true true x y z p q r P Q R h k =
    let e : y * r ≡ 0 = zero_cross y p r P h.1 in
    (zero_cross x q r Q h.0, zero_cross z q p Q (omega arith))
join true t false x y z p q r P Q R h k = tt
join true false true x y z p q r P Q R h k = le_trans (le_of_eq (zero_cross z q p Q k.1)) (omega arith)
join true true true x y z p q r P Q R h k = through z y x r q p Q k h

pub le_trans_float : (x y z : Float) → T (le x y) → T (le y z) → T (le x z)
unfolding le
le_trans_float nan y z h k = absurd h
le_trans_float (inf s) nan z h k = absurd h
le_trans_float (inf true) (inf t) nan h k = k
le_trans_float (inf true) (inf t) (inf true) h k = tt
le_trans_float (inf true) (inf t) (inf false) h k = tt
le_trans_float (inf true) (inf t) (fin u l c) h k = tt
le_trans_float (inf true) (fin t n d) nan h k = k
le_trans_float (inf true) (fin t n d) (inf true) h k = tt
le_trans_float (inf true) (fin t n d) (inf false) h k = tt
le_trans_float (inf true) (fin t n d) (fin u l c) h k = tt
le_trans_float (inf false) (inf true) z h k = absurd h
le_trans_float (inf false) (inf false) z h k = k
le_trans_float (inf false) (fin t n d) z h k = absurd h
le_trans_float (fin s m e) nan z h k = absurd h
le_trans_float (fin s m e) (inf true) z h k = absurd h
le_trans_float (fin s m e) (inf false) nan h k = k
le_trans_float (fin s m e) (inf false) (inf true) h k = k
le_trans_float (fin s m e) (inf false) (inf false) h k = tt
le_trans_float (fin s m e) (inf false) (fin u l c) h k = absurd k
le_trans_float (fin s m e) (fin t n d) nan h k = k
le_trans_float (fin s m e) (fin t n d) (inf true) h k = k
le_trans_float (fin s m e) (fin t n d) (inf false) h k = tt
le_trans_float (fin s m e) (fin t n d) (fin u l c) h k =
    of_LE s (m * up e * down c) u (l * up c * down e)
    (join s t u (m * up e) (n * up d) (l * up c) (down e) (down d) (down c) (down_pos e) (down_pos d) (down_pos c)
    (to_LE s (m * up e * down d) t (n * up d * down e) h) (to_LE t (n * up d * down c) u (l * up c * down d) k))

pub le-refl_float : (x : Float) → T (not (is_nan x)) → T (le x x)
unfolding le is_nan
le-refl_float nan p = absurd p
le-refl_float (inf true) p = tt
le-refl_float (inf false) p = tt
le-refl_float (fin false m e) p = of_LE false (m * up e * down e) false (m * up e * down e) (le_of_eq refl)
le-refl_float (fin true m e) p = of_LE true (m * up e * down e) true (m * up e * down e) (le_of_eq refl)

-- ±a < ±b and ±b ≤ ±a are not both
apart : (s : Bool) (a : ℕ) (t : Bool) (b : ℕ) → below s a t b ≡ true → Le t b s a → ⊥
apart false a false b h k = let l = ltb-true a b h in omega arith
apart false a true b h k = true≢false (sym h)
apart true a false b h k = let l = ltb-true 0 (a + b) h in let z = k.0 in let y = k.1 in omega arith
apart true a true b h k = let l = ltb-true b a h in omega arith

pub lt_not_le : (x y : Float) → lt x y ≡ true → T (le y x) → ⊥
unfolding lt le eq
lt_not_le nan y h k = true≢false (sym h)
lt_not_le (inf s) nan h k = true≢false (sym h)
lt_not_le (inf true) (inf true) h k = true≢false (sym h)
lt_not_le (inf true) (inf false) h k = k
lt_not_le (inf false) (inf t) h k = true≢false (sym h)
lt_not_le (inf true) (fin t n d) h k = k
lt_not_le (inf false) (fin t n d) h k = true≢false (sym h)
lt_not_le (fin s m e) nan h k = true≢false (sym h)
lt_not_le (fin s m e) (inf true) h k = true≢false (sym h)
lt_not_le (fin s m e) (inf false) h k = k
lt_not_le (fin s m e) (fin t n d) h k = apart s (m * up e * down d) t (n * up d * down e) h (to_LE t (n * up d * down e) s (m * up e * down d) k)
