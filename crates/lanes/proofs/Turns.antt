-- The loops over the terms of E and S and over E's squarings, in all lanes: one turn, and the end or the start. Assumes nothing.
use mathlib.Core.Path.{◌≡◌, refl}
use mathlib.Core.List.{List}
use Prim.Native.Nat.{ℕ, ◌+◌, ◌-◌, ◌<◌}
use lib.Ieee.{Float, nan}
use Rattle.lists.specs.Tables.{over}
use Rattle.float64.specs.Arithmetic.{◌⊗◌, of}
use Rattle.elementary.specs.Exponential.{term, terms, squared}
use Rattle.elementary.specs.Wave as wave
use Rattle.elementary.specs.Wave.{series}
use Rattle.elementary.proofs.Series.{terms_more, terms_end, squared_more, series_more, series_end}
use Rattle.lanes.proofs.Lanes.{turns_more, turns_done, turns_none, turn_added}

module _ (n : ℕ) (y : List Float) where
  pub terms-turn : (k : ℕ) (p : List Float) {x : List Float} → 0 < k → x ≡ over n (λ j. term k (of y j) (of p j)) nan p → over n (λ j. terms (k - 1) (of y j) (of x j)) nan x ≡ over n (λ j. terms k (of y j) (of p j)) nan p
  terms-turn = turns_more n (λ j k p. term k (of y j) p) (λ j k p. terms k (of y j) p) (λ j. terms_more (of y j)) (λ j. terms_end (of y j))

  pub terms_done : (k : ℕ) (p : List Float) → k < 1 → p ≡ over n (λ j. terms k (of y j) (of p j)) nan p
  terms_done = turns_done n (λ j k p. term k (of y j) p) (λ j k p. terms k (of y j) p) (λ j. terms_more (of y j)) (λ j. terms_end (of y j))

  -- with any divisors
  module _ (d : ℕ → ℕ) where
    pub series-turn : (k : ℕ) (q : List Float) {x : List Float} → 0 < k → x ≡ over n (λ j. wave.term (d k) (of y j) (of q j)) nan q → over n (λ j. series d (k - 1) (of y j) (of x j)) nan x ≡ over n (λ j. series d k (of y j) (of q j)) nan q
    series-turn = turns_more n (λ j k q. wave.term (d k) (of y j) q) (λ j k q. series d k (of y j) q) (λ j. series_more d (of y j)) (λ j. series_end d (of y j))

    pub series_done : (k : ℕ) (q : List Float) → k < 1 → q ≡ over n (λ j. series d k (of y j) (of q j)) nan q
    series_done = turns_done n (λ j k q. wave.term (d k) (of y j) q) (λ j k q. series d k (of y j) q) (λ j. series_more d (of y j)) (λ j. series_end d (of y j))

module _ (n : ℕ) where
  pub squared_none : (p : List Float) → p ≡ over n (λ j. squared 0 (of p j)) nan p
  unfolding squared
  squared_none = turns_none n (λ j p. p ⊗ p) (λ j. squared) (λ j p. refl)

  pub squared-turn : (k : ℕ) (p : List Float) {y x : List Float} → y ≡ over n (λ j. squared k (of p j)) nan p → x ≡ over n (λ j. of y j ⊗ of y j) nan y → x ≡ over n (λ j. squared (k + 1) (of p j)) nan p
  squared-turn = turn_added n (λ j p. p ⊗ p) (λ j. squared) (λ j. squared_more)
