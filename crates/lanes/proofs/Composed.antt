-- The stages of E and S, each over all lanes, put together. Assumes nothing.
use mathlib.Core.Path.{◌≡◌, ◌∙◌}
use mathlib.Core.Bool.{cond}
use mathlib.Core.List.{List}
use Prim.Native.Nat.{ℕ, ◌<◌}
use lib.Ieee.{Float, nan, lt, neg}
use lib.ListN.{get_or-replicate}
use Rattle.lists.specs.Tables.{tab, blank, over}
use Rattle.lists.proofs.Fills.{tab_same}
use Rattle.float64.specs.Constants.{nought, one, k700, k1024}
use Rattle.float64.specs.Arithmetic.{◌⊗◌, ◌⊘◌, of}
use Rattle.elementary.specs.Exponential.{terms, squared, E}
use Rattle.elementary.specs.Wave.{reduced_angle, series, sine_divisor, to_unit, S}
use Rattle.lanes.proofs.Lanes.{lanes_of_blank, lanes_of_lanes, lane_of}

-- an array of ones
one_there : (n j : ℕ) → j < n → of (blank n one) j ≡ one
unfolding blank
one_there n j l = get_or-replicate n j one nan l

module _ (n : ℕ) (t : List Float) where
  pub exp_composed : {y p q x : List Float}
      → y ≡ over n (λ j. of t j ⊘ k1024) nan (blank n nought)
      → p ≡ over n (λ j. terms 18 (of y j) (of (blank n one) j)) nan (blank n one)
      → q ≡ over n (λ j. squared 10 (of p j)) nan p
      → x ≡ over n (λ j. cond (lt (of t j) (neg k700)) nought (of q j)) nan q
      → x ≡ tab n (λ j. E (of t j))
  unfolding E
  exp_composed y_is p-is q-is x_is =
      let y-lanes = lanes_of_blank n _ nought y_is in
      let p-lanes = lanes_of_blank n _ one p-is in
      let q-lanes = lanes_of_lanes n _ _ p-lanes q-is in
      lanes_of_lanes n _ _ q-lanes x_is
      ∙ tab_same n _ _ (λ j l. rw (lane_of n _ j l q-lanes, lane_of n _ j l p-lanes, lane_of n _ j l y-lanes, one_there n j l))

  pub sin_composed : {r x q v : List Float}
      → r ≡ over n (λ j. reduced_angle (of t j)) nan (blank n nought)
      → x ≡ over n (λ j. of r j ⊗ of r j) nan r
      → q ≡ over n (λ j. series sine_divisor 13 (of x j) (of (blank n one) j)) nan (blank n one)
      → v ≡ over n (λ j. to_unit (of r j ⊗ of q j)) nan q
      → v ≡ tab n (λ j. S (of t j))
  unfolding S
  sin_composed r-is x_is q-is v-is =
      let r-lanes = lanes_of_blank n _ nought r-is in
      let x-lanes = lanes_of_lanes n _ _ r-lanes x_is in
      let q-lanes = lanes_of_blank n _ one q-is in
      lanes_of_lanes n _ _ q-lanes v-is
      ∙ tab_same n _ _ (λ j l. rw (lane_of n _ j l q-lanes, lane_of n _ j l x-lanes, one_there n j l, lane_of n _ j l r-lanes))
