-- One turn of E's loops and of the series' loop, and the end of those that count down: from where such a loop is, the turns still to be made give the answer of the whole loop. Assumes nothing.
use mathlib.Core.Path.{◌≡◌, refl}
use Prim.Native.Nat.{ℕ, zero, suc, ◌+◌, ◌-◌, ◌<◌}
use native.Mathlib.Nat.{lt_irrefl}
use native.Mathlib.Numerals.{unary_clauses, add-one}
use native.Mathlib.Omega.{arith}
use lib.Ieee.{Float, binary64, mul}
use Rattle.elementary.specs.Exponential.{term, terms, squared}
use Rattle.elementary.specs.Wave as wave
use Rattle.elementary.specs.Wave.{series}

-- a recursion that counts down to zero, at any function of the count
module _ {A : Type 0} (f : ℕ → A → A) (g : ℕ → A → A) (stop : (a : A) → g 0 a ≡ a) (turn : (k : ℕ) (a : A) → g (suc k) a ≡ g k (f (suc k) a)) where
  pub down_more : (k : ℕ) (a : A) → 0 < k → g (k - 1) (f k a) ≡ g k a
  down_more zero a h = absurd (lt_irrefl 0 h)
  down_more (suc k) a h = rw (turn k a) (simp unary_clauses)

  pub down_end : (k : ℕ) (a : A) → k < 1 → g k a ≡ a
  down_end zero a h = stop a
  down_end (suc k) a h = absurd (omega arith)

module _ (y : Float) where
  pub terms_more : (k : ℕ) (p : Float) → 0 < k → terms (k - 1) y (term k y p) ≡ terms k y p
  unfolding terms
  terms_more = down_more (λ k p. term k y p) (λ k p. terms k y p) (λ p. refl) (λ k p. refl)

  pub terms_end : (k : ℕ) (p : Float) → k < 1 → terms k y p ≡ p
  unfolding terms
  terms_end = down_end (λ k p. term k y p) (λ k p. terms k y p) (λ p. refl) (λ k p. refl)

-- squared once more, after n times
squared_suc : (n : ℕ) (p : Float) → mul binary64 (squared n p) (squared n p) ≡ squared (suc n) p
unfolding squared
squared_suc zero p = refl
squared_suc (suc n) p = squared_suc n (mul binary64 p p)

pub squared_more : (n : ℕ) (p : Float) → mul binary64 (squared n p) (squared n p) ≡ squared (n + 1) p
squared_more n p = rw add-one (squared_suc n p)

module _ (d : ℕ → ℕ) (x : Float) where
  pub series_more : (k : ℕ) (q : Float) → 0 < k → series d (k - 1) x (wave.term (d k) x q) ≡ series d k x q
  unfolding series
  series_more = down_more (λ k q. wave.term (d k) x q) (λ k q. series d k x q) (λ q. refl) (λ k q. refl)

  pub series_end : (k : ℕ) (q : Float) → k < 1 → series d k x q ≡ q
  unfolding series
  series_end = down_end (λ k q. wave.term (d k) x q) (λ k q. series d k x q) (λ q. refl) (λ k q. refl)
