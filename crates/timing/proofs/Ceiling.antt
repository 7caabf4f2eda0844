-- Quotients rounded up, and how many multiples lie below a number. Assumes nothing.
use Prim.Native.Nat.{ℕ, zero, suc, ◌+◌, ◌-◌, ◌*◌, ◌/◌, ◌%◌, ◌≤◌, ◌<◌, min}
use native.Mathlib.Nat.{zero-div, zero-mod, mod-lt, div-eq_of_lt, div-eq_of_eq-mul_left, div-add-mod', add-div_right, mul-add-div_right, mul-add-mod_self_right, mul-mod_left, mod-eq_of_lt, div-le_self, lt-div-mul-add, div-lt_iff_lt-mul}
use native.Mathlib.Omega.{arith}
use mathlib.Core.Path.{◌≡◌, refl, sym, ap, ◌∙◌}
use mathlib.Core.Logic.{⊎_elim}
use mathlib.Core.Bool.{Bool, cond}
use borrow.Author.Tests.{ne_eqb}
use lib.Dec.{eqb}
use Rattle.lists.proofs.Counting.{eq_or_ne}
use Rattle.timing.specs.Steps.{count_below}

-- n / d, and one more where something is left, as `div_ceil` has it
abbrev pub ceiling : ℕ → ℕ → ℕ
ceiling n d = n / d + min 1 (n % d)

ceiling_zero : (d : ℕ) → ceiling 0 d ≡ 0
ceiling_zero d = rw (zero-div d, zero-mod d)

-- past l the ceiling is one above l / d
ceiling_suc : (l d : ℕ) → 0 < d → ceiling (suc l) d ≡ suc (l / d)
ceiling_suc l d p =
    ⊎_elim
    (λ e. let s : suc l ≡ suc (l / d) * d = omega (arith, div-add-mod' l d) in
    let q : suc l / d ≡ suc (l / d) = div-eq_of_eq-mul_left p s in
    let r : suc l % d ≡ 0 = ap (λ (x : ℕ). x % d) s ∙ mul-mod_left (suc (l / d)) d in
    rw (q, r) (let z : suc (l / d) + 0 ≡ suc (l / d) = omega arith in z))
    (λ ne. let h : suc (l % d) < d = omega (arith, mod-lt l p) in
    let s : suc l ≡ l / d * d + suc (l % d) = omega (arith, div-add-mod' l d) in
    let q : suc l / d ≡ l / d + 0 = ap (λ (x : ℕ). x / d) s ∙ mul-add-div_right p (l / d) (suc (l % d)) ∙ ap (λ (x : ℕ). l / d + x) (div-eq_of_lt h) in
    let r : suc l % d ≡ suc (l % d) = ap (λ (x : ℕ). x % d) s ∙ mul-add-mod_self_right (l / d) d (suc (l % d)) ∙ mod-eq_of_lt h in
    rw (q, r) (let z : l / d + 0 + min 1 (suc (l % d)) ≡ suc (l / d) = omega arith in z))
    (eq_or_ne (suc (l % d)) d)

pub ceiling_le : (n d : ℕ) → 0 < d → ceiling n d ≤ n
ceiling_le zero d p = rw (ceiling_zero d) (let z : 0 ≤ 0 = omega arith in z)
ceiling_le (suc l) d p = rw (ceiling_suc l d p) (let h = div-le_self l d in omega arith)

-- it is the least number whose product with d reaches n
pub ceiling_reaches : (n d : ℕ) → 0 < d → n ≤ ceiling n d * d
ceiling_reaches zero d p = rw (ceiling_zero d) (let z : 0 ≤ 0 * d = omega arith in z)
ceiling_reaches (suc l) d p = rw (ceiling_suc l d p) (let h = lt-div-mul-add {a = l} {b = d} p in omega arith)

pub ceiling_least : (n d k : ℕ) → 0 < d → n ≤ k * d → ceiling n d ≤ k
ceiling_least zero d k p h = rw (ceiling_zero d) (let z : 0 ≤ k = omega arith in z)
ceiling_least (suc l) d k p h = rw (ceiling_suc l d p) ((div-lt_iff_lt-mul p).1 h)

-- the usual way to compute it
pub ceiling_is : (n d : ℕ) → 0 < d → (n + (d - 1)) / d ≡ ceiling n d
ceiling_is zero d p = div-eq_of_lt (let z : 0 + (d - 1) < d = omega arith in z) ∙ sym (ceiling_zero d)
ceiling_is (suc l) d p =
    let s : suc l + (d - 1) ≡ l + d = omega arith in
    ap (λ (x : ℕ). x / d) s ∙ add-div_right l p ∙ (let z : l / d + 1 ≡ suc (l / d) = omega arith in z) ∙ sym (ceiling_suc l d p)

split : (r q : ℕ) → cond (eqb r 0) 1 0 + (q + min 1 r) ≡ suc q
split zero q = omega arith
split (suc r) q = rw (ne_eqb (suc r) 0 (λ e. omega arith)) (let z : 0 + (q + min 1 (suc r)) ≡ suc q = omega arith in z)

-- the multiples of d below n
pub multiples : (d n : ℕ) → 0 < d → count_below (λ s. eqb (s % d) 0) n ≡ ceiling n d
unfolding count_below
multiples d zero p = sym (ceiling_zero d)
multiples d (suc n) p = ap (λ (x : ℕ). cond (eqb (n % d) 0) 1 0 + x) (multiples d n p) ∙ split (n % d) (n / d) ∙ sym (ceiling_suc n d p)

-- tests that agree below n count alike
pub count_alike : (f g : ℕ → Bool) (n : ℕ) → ((s : ℕ) → s < n → f s ≡ g s) → count_below f n ≡ count_below g n
unfolding count_below
count_alike f g zero h = refl
count_alike f g (suc n) h = rw (h n (omega arith), count_alike f g n (λ s l. h s (omega arith)))
