-- Values of size at most 1, with a sign: rounding, a product, a quotient by 1 or more, and 1 + z for z in [-1, 0] stay there. Assumes nothing.
use mathlib.Core.Path.{◌≡◌, refl, sym, ap, ◌∙◌, subst}
use mathlib.Core.Logic.{◌⊎◌, inl, inr}
use mathlib.Core.Bool.{Bool, true, false, cond, true≢false}
use Prim.Native.Nat.{ℕ, zero, suc, ◌+◌, ◌-◌, ◌*◌, ◌^◌, ◌≤◌, ◌<◌}
use native.Mathlib.Nat.{zero-lt-suc, le_refl, le_trans, le_of_eq, lt_of_le_of_lt, not-le_of_lt, sub-le, one-mul, mul-one, zero-mul, mul-zero, mul_comm, mul-le-mul, mul-le-mul_right, le_of_mul-le-mul_right, eq_of_mul-eq-mul_right, mul-pos}
use native.Mathlib.Omega.{arith}
use lib.IntN.{pos}
use lib.Dec.{T, ltb, eqb, ltb→lt, eqb-suc-zero, lit<, lit≤}
use lib.Pow.{pow_pos, pow-lt}
use lib.Ieee.{Float, nan, inf, fin, Format, binary32, binary64, prec, emax, low, unlike, up, down, round, sum, add, mul, div, le}
use lib.Ieee.Fits.{up_pos, down_pos, round_is}
use lib.Ieee.Exact.{HasValue, units_val, round_exact}
use lib.Ieee.Order.{drop, kept, round_mono, le_of_values}
use lib.Ieee.Scale.{grid, overflow, finite, round_val, round_under}
use lib.Ieee.Positive.{above_of_le, le→cross}
use Rattle.float64.proofs.Order.{lt_or_eq}

-- x is finite, has the sign s, and is at most 1 in size
abbrev pub Small : Bool → Float → Type 0
Small s nan = ⊥
Small s (inf t) = ⊥
Small s (fin t m e) = (t ≡ s) × (m * up e ≤ down e)

-- the same, or a zero of the other sign: at s = false x lies in [0, 1], at s = true in [-1, 0]
abbrev pub Within : Bool → Float → Type 0
Within s nan = ⊥
Within s (inf t) = ⊥
Within s (fin t m e) = (m * up e ≤ down e) × ((t ≡ s) ⊎ (m * up e ≡ 0))

abbrev pub one : Float
one = fin false 1 (pos 0)

-- ---- rounding

-- what is at most 1 by `le`, and is g / l with no sign, has g ≤ l
le-one : (x : Float) (g l : ℕ) → 0 < l → HasValue x false g l → T (le x one) → g ≤ l
unfolding le
le-one nan g l L v h = absurd v
le-one (inf s) g l L v h = absurd v
le-one (fin true m e) g l L v h = absurd (true≢false v.0)
le-one (fin false m e) g l L v h =
    let a : m * up e ≤ down e = le_trans (le_of_eq (sym (mul-one (m * up e)))) (le_trans (lt_or_eq (m * up e * 1) (1 * 1 * down e) true h) (le_of_eq (one-mul (down e)))) in
    le_of_mul-le-mul_right (le_trans (le_of_eq (sym v.1)) (le_trans (mul-le-mul_right l a) (le_of_eq (mul_comm (down e) l)))) (down_pos e)

le-one_finite : (x : Float) → T (le x one) → T (finite x) ⊎ (x ≡ inf true)
unfolding le
le-one_finite nan h = absurd h
le-one_finite (inf true) h = inr refl
le-one_finite (inf false) h = absurd h
le-one_finite (fin s m e) h = inl tt

pub round-one : (f : Format) → round f false 1 1 ≡ one
unfolding round
round-one binary32 = refl
round-one binary64 = refl

round-nought : (f : Format) → round f false 0 1 ≡ fin false 0 (pos 0)
unfolding round
round-nought binary32 = refl
round-nought binary64 = refl

not_below : (x : Float) → x ≡ inf true → T (le (fin false 0 (pos 0)) x) → ⊥
unfolding le
not_below x e h = subst (λ (z : Float). T (le (fin false 0 (pos 0)) z)) e h

-- a fraction up to 1 is, once rounded, at most 2 ^ low units, which is 1
pub grid_le : (f : Format) (a b : ℕ) → 0 < b → a ≤ b → grid f a b ≤ 2 ^ low f
grid_le f a b B h =
    let L : T (le (round f false a b) one) =
    subst (λ (z : Float). T (le (round f false a b) z)) (round-one f) (round_mono f a b 1 1 B (lit< tt) (le_trans (le_of_eq (mul-one a)) (le_trans h (le_of_eq (sym (one-mul b)))))) in
    let N : T (le (fin false 0 (pos 0)) (round f false a b)) =
    subst (λ (z : Float). T (le z (round f false a b))) (round-nought f) (round_mono f 0 1 a b (lit< tt) B (le_trans (le_of_eq (zero-mul b)) (search (zero_le')))) in
    let F : T (finite (round f false a b)) = elim (le-one_finite (round f false a b) L) [ inl t ↦ t | inr e ↦ absurd (not_below (round f false a b) e N) ] in
    le-one (round f false a b) (grid f a b) (2 ^ low f) (pow_pos (low f)) (round_val f a b (round_under f a b F)) L
  where
    zero_le' : {n : ℕ} → 0 ≤ n
    zero_le' {n} = omega arith

below_overflow : (f : Format) (g : ℕ) → g ≤ 2 ^ low f → g < overflow f
below_overflow f g h = lt_of_le_of_lt h (pow-lt (omega arith))

value : (f : Format) (s : Bool) (a c : ℕ) → grid f a c < overflow f → HasValue (round f s a c) s (grid f a c) (2 ^ low f)
value f s a c h = subst (λ (z : Float). HasValue z s (grid f a c) (2 ^ low f)) (sym (round_is f s a c)) (units_val f s (kept (prec f) (a * 2 ^ low f) c) (drop (prec f) (a * 2 ^ low f) c) h)

small_of_value : (x : Float) (s : Bool) (g l : ℕ) → 0 < l → g ≤ l → HasValue x s g l → Small s x
small_of_value nan s g l L h v = v
small_of_value (inf t) s g l L h v = v
small_of_value (fin t m e) s g l L h v = (v.0, le_of_mul-le-mul_right (le_trans (le_of_eq v.1) (le_trans (mul-le-mul_right (down e) h) (le_of_eq (mul_comm l (down e))))) L)

pub round_small : (f : Format) (s : Bool) (a b : ℕ) → 0 < b → a ≤ b → Small s (round f s a b)
round_small f s a b B h = small_of_value (round f s a b) s (grid f a b) (2 ^ low f) (pow_pos (low f)) (grid_le f a b B h) (value f s a b (below_overflow f (grid f a b) (grid_le f a b B h)))

zero_of_value : (x : Float) (s t : Bool) (c : ℕ) → 0 < c → HasValue x s 0 c → Within t x
zero_of_value nan s t c C v = v
zero_of_value (inf r) s t c C v = v
zero_of_value (fin r m e) s t c C v =
    let z : m * up e ≡ 0 = eq_of_mul-eq-mul_right c C (m * up e) 0 (v.1 ∙ zero-mul (down e) ∙ sym (zero-mul c)) in
    (omega (arith, z), inr z)

pub within_of_small : (x : Float) (s : Bool) → Small s x → Within s x
within_of_small nan s v = v
within_of_small (inf r) s v = v
within_of_small (fin r m e) s v = (v.1, inl v.0)

pub round_within : (f : Format) (s t : Bool) (a b : ℕ) → 0 < b → a ≤ b → (s ≡ t) ⊎ (a ≡ 0) → Within t (round f s a b)
round_within f s t a b B h (inl e) = subst (λ (z : Bool). Within z (round f s a b)) e (within_of_small (round f s a b) s (round_small f s a b B h))
round_within f s t a b B h (inr e) =
    zero_of_value (round f s a b) s t b B
    (subst (λ (z : ℕ). HasValue (round f s a b) s z b) e
    (round_exact f s a b 0 0 B (pow_pos (prec f)) (pow_pos (low f + suc (emax f))) (ap (λ (z : ℕ). z * 2 ^ low f) e ∙ zero-mul (2 ^ low f) ∙ sym (zero-mul b))))

-- ---- a product
pub mul_small : (f : Format) (s t : Bool) (x y : Float) → Small s x → Small t y → Small (unlike s t) (mul f x y)
unfolding mul
mul_small f s t nan y p q = absurd p
mul_small f s t (inf r) y p q = absurd p
mul_small f s t (fin r m e) nan p q = absurd q
mul_small f s t (fin r m e) (inf u) p q = absurd q
mul_small f s t (fin r m e) (fin u n d) p q =
    subst (λ (z : Bool). Small z (round f (unlike r u) (m * up e * (n * up d)) (down e * down d))) (signs r u s t p.0 q.0)
    (round_small f (unlike r u) (m * up e * (n * up d)) (down e * down d) (mul-pos (down_pos e) (down_pos d)) (mul-le-mul p.1 q.1))
  where
    signs : (r u s t : Bool) → r ≡ s → u ≡ t → unlike r u ≡ unlike s t
    signs r u s t a b = cc

pub mul_within : (f : Format) (s t : Bool) (x y : Float) → Within s x → Within t y → Within (unlike s t) (mul f x y)
unfolding mul
mul_within f s t nan y p q = absurd p
mul_within f s t (inf r) y p q = absurd p
mul_within f s t (fin r m e) nan p q = absurd q
mul_within f s t (fin r m e) (inf u) p q = absurd q
mul_within f s t (fin r m e) (fin u n d) p q =
    round_within f (unlike r u) (unlike s t) (m * up e * (n * up d)) (down e * down d) (mul-pos (down_pos e) (down_pos d)) (mul-le-mul p.0 q.0) (signs p.1 q.1)
  where
    signs : (r ≡ s) ⊎ (m * up e ≡ 0) → (u ≡ t) ⊎ (n * up d ≡ 0) → (unlike r u ≡ unlike s t) ⊎ (m * up e * (n * up d) ≡ 0)
    signs (inl a) (inl b) = inl (cc)
    signs (inr a) b = inr (ap (λ (z : ℕ). z * (n * up d)) a ∙ zero-mul (n * up d))
    signs (inl a) (inr b) = inr (ap (λ (z : ℕ). m * up e * z) b ∙ mul-zero (m * up e))

-- ---- a quotient by 1 or more
pub unlike_false : (r : Bool) → unlike r false ≡ r
unlike_false true = refl
unlike_false false = refl

pub div_within : (f : Format) (s : Bool) (x y : Float) → Within s x → T (le one y) → Within s (div f x y)
unfolding div le
div_within f s nan y p h = absurd p
div_within f s (inf r) y p h = absurd p
div_within f s (fin r m e) nan p h = absurd h
div_within f s (fin r m e) (inf true) p h = absurd h
div_within f s (fin r m e) (inf false) p h = (lit≤ tt, inr refl)
div_within f s (fin r m e) (fin true n d) p h = absurd (above_of_le one (fin true n d) tt h)
div_within f s (fin r m e) (fin false zero d) p h = absurd (above_of_le one (fin false zero d) tt h)
div_within f s (fin r m e) (fin false (suc n) d) p h =
    let k : 1 * down d ≤ suc n * up d * 1 = le→cross one (fin false (suc n) d) tt (above_of_le one (fin false (suc n) d) tt h) h in
    let l : m * up e * down d ≤ suc n * up d * down e =
    le_trans (mul-le-mul p.0 (le_trans (le_of_eq (sym (one-mul (down d)))) (le_trans k (le_of_eq (mul-one (suc n * up d)))))) (le_of_eq (mul_comm (down e) (suc n * up d))) in
    subst (λ (b : Bool). Within s (cond b (cond (eqb m 0) nan (inf (unlike r false))) (round f (unlike r false) (m * up e * down d) (suc n * up d * down e)))) (sym (eqb-suc-zero n))
    (round_within f (unlike r false) s (m * up e * down d) (suc n * up d * down e) (mul-pos (mul-pos (zero-lt-suc n) (up_pos d)) (down_pos e)) l (signs p.1))
  where
    signs : (r ≡ s) ⊎ (m * up e ≡ 0) → (unlike r false ≡ s) ⊎ (m * up e * down d ≡ 0)
    signs (inl a) = inl (unlike_false r ∙ a)
    signs (inr a) = inr (ap (λ (z : ℕ). z * down d) a ∙ zero-mul (down d))

-- ---- 1 + z for z in [-1, 0]
plus : (f : Format) (a : ℕ) (t : Bool) (b c : ℕ) → 0 < c → a ≤ c → b ≤ a → (t ≡ true) ⊎ (b ≡ 0) → Small false (sum f false a t b c)
unfolding sum
plus f a true b c C h k o = go (ltb a b) (ltb→lt a b)
  where
    go : (u : Bool) → (T u → a < b) → Small false (cond u (round f true (b - a) c) (round f false (a - b) c))
    go true l = absurd (not-le_of_lt (l tt) k)
    go false l = round_small f false (a - b) c C (le_trans (sub-le a b) h)
plus f a false b c C h k (inl e) = absurd (true≢false (sym e))
plus f a false b c C h k (inr e) = round_small f false (a + b) c C (omega arith)

pub one_plus : (f : Format) (z : Float) → Within true z → Small false (add f one z)
unfolding add
one_plus f nan p = absurd p
one_plus f (inf r) p = absurd p
one_plus f (fin r m e) p = plus f (1 * down e) r (m * up e * 1) (1 * down e) (mul-pos (lit< tt) (down_pos e)) (le_refl (1 * down e)) (omega (arith, p.0)) (signs p.1)
  where
    signs : (r ≡ true) ⊎ (m * up e ≡ 0) → (r ≡ true) ⊎ (m * up e * 1 ≡ 0)
    signs (inl a) = inl a
    signs (inr a) = inr (mul-one (m * up e) ∙ a)

-- ---- in the words of `le`
abbrev pub nought : Float
nought = fin false 0 (pos 0)

pub small_le : (x : Float) → Small false x → T (le nought x) × T (le x one)
small_le nan p = absurd p
small_le (inf r) p = absurd p
small_le (fin true m e) p = absurd (true≢false p.0)
small_le (fin false m e) p = (
  le_of_values nought (fin false m e) 0 1 (m * up e) (down e) (lit< tt) (down_pos e) (refl, refl) (refl, refl) (omega arith),
  le_of_values (fin false m e) one (m * up e) (down e) 1 1 (down_pos e) (lit< tt) (refl, refl) (refl, refl) (omega (arith, p.1)),
)
