-- Ranges of doubles above 0: lo ≤ x ≤ hi goes through a product and a quotient, with the operation's own results at the ends as the new ends. Assumes nothing.
use mathlib.Core.Path.{◌≡◌, sym, ap, ◌∙◌, subst}
use mathlib.Core.Logic.{◌⊎◌, inl, inr, ⊎_elim}
use mathlib.Core.Bool.{Bool, true, false, not, cond, true≢false}
use Prim.Native.Nat.{ℕ, zero, suc, ◌+◌, ◌-◌, ◌*◌, ◌≤◌, ◌<◌}
use native.Mathlib.Nat.{le_trans, le_of_eq, sub-le, mul-pos, mul_comm, mul_assoc, mul_left_comm, mul-le-mul, mul-le-mul_right, zero-mul}
use native.Mathlib.Omega.{arith}
use borrow.Author.Tests.{lt-ltb, le-ltb}
use lib.Dec.{T, eqb, ltb→lt, eqb-suc-zero}
use lib.Ieee.{Float, nan, inf, fin, Format, binary64, up, down, round, neg, sum, add, sub, mul, div, lt, le, ne, is_nan, fits}
use lib.Ieee.Fits.{up_pos, down_pos}
use lib.Ieee.Order.{round_mono}
use lib.Ieee.Positive.{num, den, den_pos, positive, between, mul_mono, le→cross}
use Rattle.lists.proofs.Counting.{by-test}
use Rattle.float64.specs.Choice.{max_of}
use Rattle.float64.proofs.Choosing.{max_is, max_holds}
use Rattle.float64.proofs.Order.{le_of_not_lt, le-refl_float, le_trans_float}
use Rattle.float64.proofs.Range.{UpTo}
use Rattle.float64.proofs.SameValue.{round_own}
use Rattle.float64.proofs.Tests.{no_nan}

pub record In (lo hi x : Float) : Type 0 where
  pub from : T (le lo x)
  pub to : T (le x hi)

pub in_positive : (lo hi x : Float) → T (positive lo) → T (positive hi) → In lo hi x → T (positive x)
in_positive lo hi x p q h = between lo x hi p q h.from h.to

-- ends further out
pub in_wide : (a b c d x : Float) → T (le c a) → T (le b d) → In a b x → In c d x
in_wide a b c d x h k p = record { from = le_trans_float c a x h p.from; to = le_trans_float x b d p.to k }

pub in_self : (x : Float) → T (le x x) → In x x x
in_self x h = record { from = h; to = h }

-- what is raised to at least b, a NaN too
pub max_at_least : (a b : Float) → T (not (is_nan b)) → T (le b (max_of a b))
max_at_least a b r =
    rw (max_is a b)
    (by-test (ne a a)
    (λ n. rw n (le-refl_float b r))
    (λ n. by-test (lt a b)
    (λ l. rw (n, l) (le-refl_float b r))
    (λ l. rw (n, l) (le_of_not_lt a b (no_nan a n) r l))))

pub max_in : (a b hi : Float) → T (not (is_nan b)) → T (le a hi) → T (le b hi) → In b hi (max_of a b)
max_in a b hi r h k = record { from = max_at_least a b r; to = max_holds (λ x. T (le x hi)) a b h k }

-- ---- a product and a quotient

div_is : (f : Format) (x y : Float) → T (positive x) → T (positive y) → div f x y ≡ round f false (num x * den y) (num y * den x)
unfolding div
div_is f nan y p q = absurd p
div_is f (inf s) y p q = absurd p
div_is f (fin true m e) y p q = absurd p
div_is f (fin false m e) nan p q = absurd q
div_is f (fin false m e) (inf t) p q = absurd q
div_is f (fin false m e) (fin true n d) p q = absurd q
div_is f (fin false m e) (fin false zero d) p q = absurd q
div_is f (fin false m e) (fin false (suc n) d) p q = ap (λ (b : Bool). cond b (cond (eqb m 0) nan (inf false)) (round f false (m * up e * down d) (suc n * up d * down e))) (eqb-suc-zero n)

num_pos : (x : Float) → T (positive x) → 0 < num x
num_pos nan p = absurd p
num_pos (inf s) p = absurd p
num_pos (fin true m e) p = absurd p
num_pos (fin false m e) p = mul-pos (ltb→lt 0 m p) (up_pos e)

-- a quotient grows with its first part, and shrinks as its second grows
pub div_mono : (f : Format) (x x' y y' : Float) → T (positive x) → T (positive x') → T (positive y) → T (positive y') → T (le x x') → T (le y' y) → T (le (div f x y) (div f x' y'))
div_mono f x x' y y' p p' q q' h k =
    rw (div_is f x y p q, div_is f x' y' p' q')
    (round_mono f (num x * den y) (num y * den x) (num x' * den y') (num y' * den x') (mul-pos (num_pos y q) (den_pos x)) (mul-pos (num_pos y' q') (den_pos x'))
    (cross (num x) (den x) (num x') (den x') (num y) (den y) (num y') (den y') (le→cross x x' p p' h) (le→cross y' y q' q k)))
  where
    cross : (a b a' b' c d c' d' : ℕ) → a * b' ≤ a' * b → c' * d ≤ c * d' → a * d * (c' * b') ≤ a' * d' * (c * b)
    cross a b a' b' c d c' d' g l = simp (mul_assoc, mul_comm, mul_left_comm) (simp (mul_assoc, mul_comm) at (mul-le-mul g l))

module _ (f : Format) (a b c d x y : Float) (A : T (positive a)) (B : T (positive b)) (C : T (positive c)) (D : T (positive d)) (p : In a b x) (q : In c d y) where
  pub mul_in : In (mul f a c) (mul f b d) (mul f x y)
  mul_in =
      let X = in_positive a b x A B p in
      let Y = in_positive c d y C D q in
      record { from = mul_mono f a x c y A X C Y p.from q.from; to = mul_mono f x b y d X B Y D p.to q.to }

  pub div_in : In (div f a d) (div f b c) (div f x y)
  div_in =
      let X = in_positive a b x A B p in
      let Y = in_positive c d y C D q in
      record { from = div_mono f a x d y A X D Y p.from q.to; to = div_mono f x b y c X B Y C p.to q.from }

-- ---- a bound of a fraction that is a double bounds the rounded fraction

own : (f : Format) (x : Float) → T (fits f x) → T (positive x) → round f false (num x) (den x) ≡ x
own f nan F p = absurd p
own f (inf s) F p = absurd p
own f (fin true m e) F p = absurd p
own f (fin false m e) F p = round_own f false m e F

pub round-le : (f : Format) (a b : ℕ) (x : Float) → 0 < b → T (fits f x) → T (positive x) → a * den x ≤ num x * b → T (le (round f false a b) x)
round-le f a b x B F p h = subst (λ (z : Float). T (le (round f false a b) z)) (own f x F p) (round_mono f a b (num x) (den x) B (den_pos x) h)

pub le-round : (f : Format) (a b : ℕ) (x : Float) → 0 < b → T (fits f x) → T (positive x) → num x * b ≤ a * den x → T (le x (round f false a b))
le-round f a b x B F p h = subst (λ (z : Float). T (le z (round f false a b))) (own f x F p) (round_mono f (num x) (den x) a b (den_pos x) B h)

-- a sum with what is from 0 up is at least its second part
module _ (y : Float) (F : T (fits binary64 y)) (p : T (positive y)) where
  le-sum : (s : Bool) (a c : ℕ) → 0 < c → (s ≡ false) ⊎ (a ≡ 0) → T (le y (sum binary64 s (a * den y) false (num y * c) (c * den y)))
  unfolding sum
  le-sum false a c C o = le-round binary64 (a * den y + num y * c) (c * den y) y (mul-pos C (den_pos y)) F p (omega arith)
  le-sum true a c C (inl e) = absurd (true≢false e)
  le-sum true a c C (inr z) =
      rw (z, zero-mul (den y), lt-ltb 0 (num y * c) (mul-pos (num_pos y p) C))
      (let e : num y * c - 0 ≡ num y * c = omega arith in
      le-round binary64 (num y * c - 0) (c * den y) y (mul-pos C (den_pos y)) F p (le_of_eq (sym (ap (λ (q : ℕ). q * den y) e ∙ mul_assoc (num y) c (den y)))))

pub le_plus : (k : ℕ) (x y : Float) → UpTo k x → T (fits binary64 y) → T (positive y) → T (le y (add binary64 x y))
unfolding add
le_plus k x nan u F p = absurd p
le_plus k x (inf t) u F p = absurd p
le_plus k x (fin true n d) u F p = absurd p
le_plus k x (fin false n d) u F p =
    rw u.is
    (le-sum (fin false n d) F p u.s (u.m * up u.e) (down u.e) (down_pos u.e) (⊎_elim inl (λ z. inr (ap (λ (q : ℕ). q * up u.e) z ∙ zero-mul (up u.e))) u.sign))

-- ---- the difference x - y for 0 < y ≤ x

kept_sign : (f : Format) (a b c : ℕ) → b ≤ a → sum f false a true b c ≡ round f false (a - b) c
unfolding sum
kept_sign f a b c h = rw (le-ltb a b h)

pub sub_is : (f : Format) (x y : Float) → T (positive x) → T (positive y) → T (le y x) → sub f x y ≡ round f false (num x * den y - num y * den x) (den x * den y)
unfolding sub add neg
sub_is f nan y p q h = absurd p
sub_is f (inf s) y p q h = absurd p
sub_is f (fin true m e) y p q h = absurd p
sub_is f (fin false m e) nan p q h = absurd q
sub_is f (fin false m e) (inf t) p q h = absurd q
sub_is f (fin false m e) (fin true n d) p q h = absurd q
sub_is f (fin false m e) (fin false n d) p q h = kept_sign f (m * up e * down d) (n * up d * down e) (down e * down d) (le→cross (fin false n d) (fin false m e) q p h)

-- it is at most x
pub sub-le_first : (f : Format) (x y : Float) → T (fits f x) → T (positive x) → T (positive y) → T (le y x) → T (le (sub f x y) x)
sub-le_first f x y F p q h =
    rw (sub_is f x y p q h)
    (round-le f (num x * den y - num y * den x) (den x * den y) x (mul-pos (den_pos x) (den_pos y)) F p
    (le_trans (mul-le-mul_right (den x) (sub-le (num x * den y) (num y * den x))) (le_of_eq (mul_assoc (num x) (den y) (den x) ∙ ap (λ (z : ℕ). num x * z) (mul_comm (den y) (den x))))))
