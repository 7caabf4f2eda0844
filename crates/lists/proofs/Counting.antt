-- What a loop that counts up by one knows where it is left, and how a number compares with another. Assumes nothing.
use mathlib.Core.Path.{◌≡◌, refl, sym, ap, ◌∙◌}
use mathlib.Core.Bool.{Bool, true, false, true≢false}
use mathlib.Core.Logic.{◌⊎◌, inl, inr}
use Prim.Native.Nat.{ℕ, ◌≤◌, ◌<◌}
use native.Mathlib.Nat.{le_antisymm}
use borrow.Author.Tests.{eq-eqb, ne_eqb, ltb-true, ltb-false, eqb-true, eqb-false}
use lib.Dec.{eqb, ltb}

-- a loop that is left at i = n has what it computes at n
pub at_end_lem {ℓ} : {A : Type ℓ} (f : ℕ → A) {x : A} {i n : ℕ} → i ≤ n → n ≤ i → x ≡ f i → x ≡ f n
at_end_lem f a b e = e ∙ ap f (le_antisymm a b)

-- a test on a number t that a call returned for a
pub yes : (a b : ℕ) {t : ℕ} → t ≡ a → t ≡ b → eqb a b ≡ true
yes a b e h = eq-eqb a b (sym e ∙ h)

pub no : (a b : ℕ) {t : ℕ} → t ≡ a → (t ≡ b → ⊥) → eqb a b ≡ false
no a b e h = ne_eqb a b (λ q. h (e ∙ q))

lt_or_le_by : (k n : ℕ) (b : Bool) → ltb k n ≡ b → (k < n) ⊎ (n ≤ k)
lt_or_le_by k n true e = inl (ltb-true k n e)
lt_or_le_by k n false e = inr (ltb-false k n e)

pub lt_or_le : (k n : ℕ) → (k < n) ⊎ (n ≤ k)
lt_or_le k n = lt_or_le_by k n (ltb k n) refl

eq_or_ne_by : (k n : ℕ) (b : Bool) → eqb k n ≡ b → (k ≡ n) ⊎ (k ≡ n → ⊥)
eq_or_ne_by k n true e = inl (eqb-true k n e)
eq_or_ne_by k n false e = inr (eqb-false k n e)

pub eq_or_ne : (k n : ℕ) → (k ≡ n) ⊎ (k ≡ n → ⊥)
eq_or_ne k n = eq_or_ne_by k n (eqb k n) refl

-- one number is below the other, or they are equal
pub compared : (a b : ℕ) → (a < b) ⊎ ((a ≡ b) ⊎ (b < a))
compared a b = by (ltb a b) (ltb b a) refl refl
  where
    by : (t u : Bool) → ltb a b ≡ t → ltb b a ≡ u → (a < b) ⊎ ((a ≡ b) ⊎ (b < a))
    by true u d e = inl (ltb-true a b d)
    by false true d e = inr (inr (ltb-true b a e))
    by false false d e = inr (inl (le_antisymm (ltb-false b a e) (ltb-false a b d)))

-- by cases on a test, with what it says
pub by-test {ℓ} : {P : Type ℓ} (b : Bool) → (b ≡ true → P) → (b ≡ false → P) → P
by-test true f g = f refl
by-test false f g = g refl

-- a test that passes and fails
pub contrary {ℓ} : {P : Type ℓ} {b : Bool} → b ≡ true → b ≡ false → P
contrary h k = absurd (true≢false (sym h ∙ k))
